-- What payments fill, what instalments lack, and when a right is overdue.
use Rattle.std.specs.Prelude.{◌≡◌, ℕ, ◌+◌, ◌-◌, ◌<◌, ◌≤◌, min, Bool, ◌&&◌, nat_lt}
use Rattle.calendar.specs.Figures.{Figures, pay_day}
use Rattle.money.specs.declared.dues.Instalment.{Instalment}
use Rattle.money.specs.Months.{is_span, month_count, IsValid, sum, some_month}
use Rattle.money.specs.Instalments.{instalment, earlier}

-- what of the payments is in a month's instalment: the lower months are filled first
abbrev pub paid_in : ℕ → ℕ → ℕ → ℕ → ℕ → ℕ
paid_in charge paid first last month =
    min (instalment charge first last month) (paid - earlier charge first last month)

-- what a month's instalment still lacks
abbrev pub lack : ℕ → ℕ → ℕ → ℕ → ℕ → ℕ
lack charge paid first last month = instalment charge first last month - paid_in charge paid first last month

-- the sum of what the instalments lack
abbrev pub debt : ℕ → ℕ → ℕ → ℕ → ℕ
debt charge paid first last = sum (lack charge paid first last) first (month_count first last)

-- payments reach a month only when no earlier one lacks anything
abbrev pub LowestFirst : ℕ → ℕ → ℕ → ℕ → ℕ → Type 0
LowestFirst charge paid first last month =
    0 < paid_in charge paid first last month
    → (m : ℕ) → first ≤ m → m < month → lack charge paid first last m ≡ 0

-- a month's instalment, what is paid of it and what it lacks: what is paid and what lacks are the instalment
abbrev pub Splits : ℕ → ℕ → ℕ → ℕ → ℕ → Instalment → Type 0
Splits charge paid first last month i =
    (i.amount ≡ instalment charge first last month) × (i.paid ≡ paid_in charge paid first last month)
    × (i.lacking ≡ lack charge paid first last month) × (i.paid + i.lacking ≡ i.amount)
    × LowestFirst charge paid first last month

-- whether a month's instalment lacks something and the day is past the month's pay day
abbrev pub late : Figures → ℕ → ℕ → ℕ → ℕ → ℕ → ℕ → Bool
late cal charge paid first last day month =
    nat_lt 0 (lack charge paid first last month) && nat_lt (pay_day cal month) day

-- whether a valid month is late; months that are none of the year never are
abbrev pub overdue : Figures → ℕ → ℕ → ℕ → ℕ → ℕ → Bool
overdue cal charge paid first last day =
    is_span first last && some_month (late cal charge paid first last day) first (month_count first last)

-- some valid month's instalment lacks something, and the day is past its pay day
abbrev pub Overdue : Figures → ℕ → ℕ → ℕ → ℕ → ℕ → Type 0
Overdue cal charge paid first last day =
    (month : ℕ)
    × IsValid first last month × (0 < lack charge paid first last month) × (pay_day cal month < day)
