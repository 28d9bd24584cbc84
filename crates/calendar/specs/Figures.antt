-- A calendar in plain numbers, and how it is read.
use Rattle.std.specs.Prelude.{ℕ, zero, suc, ◌<◌, ◌≤◌, Bool, List, map, length, ℤ, pos, slice_index_or}
use Rattle.terms.specs.Tables.{held}
use Rattle.calendar.specs.Rows.{row_mark}
use Rattle.calendar.specs.declared.kinds.LimitKind.{LimitKind}
use Rattle.calendar.specs.declared.kinds.LimitKind.TheVariants.{Export}
use Rattle.calendar.specs.declared.kinds.Direction.{Direction}
use Rattle.calendar.specs.declared.kinds.Direction.TheVariants.{Southward}
use Rattle.calendar.specs.declared.calendar.Node.{Node}
use Rattle.calendar.specs.declared.calendar.Limit.{Limit}
use Rattle.calendar.specs.declared.calendar.Month.{Month}
use Rattle.calendar.specs.declared.calendar.Calendar.{Calendar}

-- a node: its area, and its price in each month, in thousandths of a dollar for a megawatt-hour
pub record NodeFigures : Type 0 where
  pub area : ℕ
  pub prices : List ℤ

-- a limit: what it bounds, its value in each month in kilowatts, and its relation row
pub record LimitFigures : Type 0 where
  pub kind : LimitKind
  pub area : ℕ
  pub direction : Direction
  pub values : List ℕ
  pub row : ℕ

-- a month: its hours, and the day on which its instalments are due
pub record MonthFigures : Type 0 where
  pub hours : ℕ
  pub pay_day : ℕ

-- all that a calendar says: nodes from 0, limits from 1, and twelve months
pub record Figures : Type 0 where
  pub nodes : List NodeFigures
  pub limits : List LimitFigures
  pub months : List MonthFigures

abbrev pub node_figures : Node → NodeFigures
node_figures n = record { area = n.area.number; prices = map (λ p. p.thousandths) n.prices }

abbrev pub limit_figures : Limit → LimitFigures
limit_figures l =
    record {
      kind = l.kind;
      area = l.area.number;
      direction = l.direction;
      values = map (λ v. v.number) l.values;
      row = l.row.bits;
    }

abbrev pub month_figures : Month → MonthFigures
month_figures m = record { hours = m.hours.number; pay_day = m.pay_day.number }

-- what a calendar says
abbrev pub figures : Calendar → Figures
figures c =
    record {
      nodes = map node_figures (held c.nodes);
      limits = map limit_figures (held c.limits);
      months = map month_figures c.months;
    }

-- the nodes and limits that there are
abbrev pub node_count : Figures → ℕ
node_count f = length f.nodes

abbrev pub limit_count : Figures → ℕ
limit_count f = length f.limits

abbrev pub HasNode : Figures → ℕ → Type 0
HasNode f node = node < node_count f

abbrev pub HasLimit : Figures → ℕ → Type 0
HasLimit f limit = (1 ≤ limit) × (limit ≤ limit_count f)

-- what stands at a number that counts from 1, or d where nothing does
abbrev pub numbered : {A : Type 0} → List A → ℕ → A → A
numbered xs zero d = d
numbered xs (suc n) d = slice_index_or xs n d

-- absent parts read as 0
abbrev pub node_of : Figures → ℕ → NodeFigures
node_of f node = slice_index_or f.nodes node (record { area = 0; prices = List.[] })

abbrev pub limit_of : Figures → ℕ → LimitFigures
limit_of f limit =
    numbered f.limits limit (record { kind = Export; area = 0; direction = Southward; values = List.[]; row = 0 })

abbrev pub month_of : Figures → ℕ → MonthFigures
month_of f month = numbered f.months month (record { hours = 0; pay_day = 0 })

abbrev pub area_of : Figures → ℕ → ℕ
area_of f node = (node_of f node).area

abbrev pub price : Figures → ℕ → ℕ → ℤ
price f node month = numbered (node_of f node).prices month (pos 0)

abbrev pub hours : Figures → ℕ → ℕ
hours f month = (month_of f month).hours

abbrev pub pay_day : Figures → ℕ → ℕ
pay_day f month = (month_of f month).pay_day

abbrev pub value : Figures → ℕ → ℕ → ℕ
value f limit month = numbered (limit_of f limit).values month 0

-- whether a limit's row marks a pair
abbrev pub marked : Figures → ℕ → ℕ → Bool
marked f limit pair = row_mark (limit_of f limit).row pair
