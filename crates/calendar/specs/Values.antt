-- The ranges of what a calendar holds.
use Rattle.std.specs.Prelude.{ℕ, ◌^◌, ◌<◌, ◌≤◌, ℤ, pos, neg_ℤ, ◌≤ℤ◌}
use Rattle.terms.specs.Ranges.{months, most_hours, most_pay_day, most_price, most_value}

abbrev pub IsMonth : ℕ → Type 0
IsMonth month = (1 ≤ month) × (month ≤ months)

abbrev pub IsArea : ℕ → Type 0
IsArea area = (1 ≤ area) × (area ≤ 6)

-- thousandths of a dollar for a megawatt-hour
abbrev pub IsPrice : ℤ → Type 0
IsPrice price = (neg_ℤ (pos most_price) ≤ℤ price) × (price ≤ℤ pos most_price)

-- kilowatts
abbrev pub IsValue : ℕ → Type 0
IsValue value = value ≤ most_value

abbrev pub IsHours : ℕ → Type 0
IsHours hours = hours ≤ most_hours

abbrev pub IsPayDay : ℕ → Type 0
IsPayDay day = day ≤ most_pay_day

-- a bit for each of the thirty pairs
abbrev pub IsRow : ℕ → Type 0
IsRow row = row < 2 ^ 30
