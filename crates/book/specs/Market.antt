-- What a book's answers rest on, and what stays fixed in it: the source's factors, the rule's worst flows and the calendar.
use Rattle.std.specs.Prelude.{◌≡◌, ℕ, ℤ}
use Rattle.calendar.specs.declared.calendar.Calendar.{Calendar}
use Rattle.calendar.specs.Figures.{Figures, figures, limit_count}
use Rattle.flows.specs.Factors.{Meaning}
use Rattle.flows.specs.declared.source.FactorSource as source
use Rattle.flows.specs.declared.rule.UseRule as rule
use Rattle.book.specs.declared.basis.Basis.{Basis}

pub record Market : Type 0 where
  pub means : Meaning  -- the factor for a month, a limit, an injection node and a withdrawal node
  pub worst : ℕ → ℤ → ℤ  -- the worst flow of a power at a factor
  pub calendar : Figures  -- what the calendar says

abbrev pub market : Meaning → (ℕ → ℤ → ℤ) → Figures → Market
market means worst calendar = record { means = means; worst = worst; calendar = calendar }

-- how many limits there are, numbered from 1
abbrev pub limits : Market → ℕ
limits m = limit_count m.calendar

-- the market that a basis stands for
abbrev pub market_of : {S R : Type 0} → source.Ghosts S → rule.Ghosts R → Basis S R → Market
market_of s r b = market (s.means b.source) (r.worst b.rule) (figures b.calendar)

-- a basis of this source, this rule and this calendar
abbrev pub RestsOn : {S R : Type 0} → S → R → Calendar → Basis S R → Type 0
RestsOn source rule calendar b = (b.source ≡ source) × (b.rule ≡ rule) × (b.calendar ≡ calendar)
