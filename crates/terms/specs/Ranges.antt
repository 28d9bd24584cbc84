-- The ranges of the market, as the code's constants have them.
use Rattle.std.specs.Prelude.{ℕ}

-- months are 1 to 12
abbrev pub months : ℕ
months = 12

-- a calendar or a node table has at most 64 nodes, from 0, and 48 limits, from 1
abbrev pub most_nodes : ℕ
most_nodes = 64

abbrev pub most_limits : ℕ
most_limits = 48

-- a price is within ±1,000,000 thousandths of a dollar for a megawatt-hour
abbrev pub most_price : ℕ
most_price = 1000000

-- a limit's value in a month, in kilowatts
abbrev pub most_value : ℕ
most_value = 10000000

abbrev pub most_hours : ℕ
most_hours = 744

abbrev pub most_pay_day : ℕ
most_pay_day = 1000000

-- the reference rights of one matrix, and the flow from which one counts at a limit of another pair, in kilowatts
abbrev pub most_references : ℕ
most_references = 300

abbrev pub counted_flow : ℕ
counted_flow = 100

-- a factor is within ±2,000,000 millionths of a kilowatt for each kilowatt used, a node table's entry within ±1,000,000
abbrev pub most_factor : ℕ
most_factor = 2000000

abbrev pub most_entry : ℕ
most_entry = 1000000

abbrev pub most_pair_rows : ℕ
most_pair_rows = 1000000

-- the power of a right, in kilowatts
abbrev pub most_power : ℕ
most_power = 1000000

-- a submission has 1 to 16 lines
abbrev pub most_lines : ℕ
most_lines = 16
