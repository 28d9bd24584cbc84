-- Flows: what rights carry under a choice of uses, and the load, which is the worst of it.
use Rattle.std.specs.Prelude.{ℕ, ◌*◌, ◌≤◌, Bool, cond, ◌&&◌, List, [], ◌∷◌, ℤ, pos, ◌+ℤ◌, ◌*ℤ◌, ◌≤ℤ◌, ◌<ℤ◌, Some, None, Option, nat_le}
use Rattle.std.specs.List.{AllByRecursion}
use Rattle.submission.specs.declared.line.Line.{Line}
use Rattle.book.specs.declared.right.Right.{Right}
use Rattle.terms.specs.Pairs.{pair_number}
use Rattle.calendar.specs.Figures.{Figures, area_of, marked, value}
use Rattle.book.specs.Market.{Market, limits}
use Rattle.book.specs.Lines.{nodes_stand}

-- a month of a line's term
abbrev pub valid : ℕ → Line → Bool
valid month x = nat_le x.first month && nat_le month x.last

-- the pair of the areas of a line's nodes
abbrev pub pair_of : Figures → Line → ℕ
pair_of f x = pair_number (area_of f x.injection) (area_of f x.withdrawal)

-- whether a limit marks the pair of a line
abbrev pub marks : Figures → ℕ → Line → Bool
marks f limit x = nodes_stand f x && marked f limit (pair_of f x)

-- a limit counts a line in a month of its term where it marks its pair
abbrev pub counts_in : Figures → ℕ → ℕ → Line → Bool
counts_in f month limit x = valid month x && marks f limit x

abbrev pub counts : Market → ℕ → ℕ → Line → Bool
counts m month limit x = counts_in m.calendar month limit x

abbrev pub factor : Market → ℕ → ℕ → Line → Option ℤ
factor m month limit x = m.means month limit x.injection x.withdrawal

-- what a limit bears in a month, in the unit of flows
abbrev pub bound : Market → ℕ → ℕ → ℤ
bound m month limit = pos (value m.calendar limit month * 1000000)

-- the worst flow at a factor, and 0 where there is none
abbrev pub worst_at : Market → ℕ → Option ℤ → ℤ
worst_at m power (Some f) = m.worst power f
worst_at m power None = pos 0

-- the worst flow of a line, 0 where the limit does not count it
abbrev pub worst_of : Market → ℕ → ℕ → Line → ℤ
worst_of m month limit x = cond (counts m month limit x) (worst_at m x.power (factor m month limit x)) (pos 0)

-- the load: the sum of the worst flows of the rights
abbrev pub load : Market → ℕ → ℕ → List Right → ℤ
load m month limit [] = pos 0
load m month limit (r ∷ rs) = worst_of m month limit r.line +ℤ load m month limit rs

-- the flow of a use at a factor
abbrev pub carried : Option ℤ → ℕ → ℤ
carried (Some f) used = f *ℤ pos used
carried None used = pos 0

-- the flow under a choice of uses: of a serial and a month, in kW
abbrev pub flow : Market → ℕ → ℕ → List Right → (ℕ → ℕ → ℕ) → ℤ
flow m month limit [] uses = pos 0
flow m month limit (r ∷ rs) uses = cond (counts m month limit r.line) (carried (factor m month limit r.line) (uses r.serial month)) (pos 0) +ℤ flow m month limit rs uses

-- each right's use is one that the rule allows at its power, in each of the twelve months
abbrev pub Permitted : (ℕ → ℕ → Type 0) → List Right → (ℕ → ℕ → ℕ) → Type 0
Permitted allowed rs uses = AllByRecursion (λ r. (month : ℕ) → 1 ≤ month → month ≤ 12 → allowed r.line.power (uses r.serial month)) rs

-- a month and a limit of the calendar
pub record Listed (m : Market) (month limit : ℕ) : Type 0 where
  pub month_from : 1 ≤ month
  pub month_to : month ≤ 12
  pub limit_from : 1 ≤ limit
  pub limit_to : limit ≤ limits m

-- no permitted choice passes a limit
abbrev pub Within : Market → (ℕ → ℕ → Type 0) → List Right → Type 0
Within m allowed rs = (uses : ℕ → ℕ → ℕ) → Permitted allowed rs uses → (month limit : ℕ) → Listed m month limit → (flow m month limit rs uses) ≤ℤ (bound m month limit)

-- some permitted choice passes this limit in this month
abbrev pub Passes : Market → (ℕ → ℕ → Type 0) → List Right → ℕ → ℕ → Type 0
Passes m allowed rs month limit = (uses : ℕ → ℕ → ℕ) × Permitted allowed rs uses × ((bound m month limit) <ℤ (flow m month limit rs uses))
