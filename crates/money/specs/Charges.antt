-- What instalments, payments and lateness say of the dues of a right.
use Rattle.std.specs.Prelude.{ℕ, Bool}
use Rattle.calendar.specs.Figures.{Figures}
use Rattle.money.specs.declared.dues.Dues.{Dues}
use Rattle.money.specs.declared.dues.Instalment.{Instalment}
use Rattle.money.specs.Months.{IsValid}
use Rattle.money.specs.Instalments.{instalment, earlier}
use Rattle.money.specs.Payments.{paid_in, debt, Splits, late, overdue, Overdue}

-- a month in which an instalment is due
abbrev pub IsDue : Dues → ℕ → Type 0
IsDue d month = IsValid d.months.first d.months.last month

-- the instalment of a month
abbrev pub instalment_of : Dues → ℕ → ℕ
instalment_of d month = instalment d.charge d.months.first d.months.last month

-- the instalments of the months before it
abbrev pub earlier_of : Dues → ℕ → ℕ
earlier_of d month = earlier d.charge d.months.first d.months.last month

-- what of the payments is in a month's instalment
abbrev pub paid_of : Dues → ℕ → ℕ
paid_of d month = paid_in d.charge d.paid d.months.first d.months.last month

-- an instalment of these dues, with what is paid of it and what it lacks
abbrev pub IsPartOf : Dues → ℕ → Instalment → Type 0
IsPartOf d month i = Splits d.charge d.paid d.months.first d.months.last month i

-- what is still to pay
abbrev pub debt_of : Dues → ℕ
debt_of d = debt d.charge d.paid d.months.first d.months.last

-- whether a month is late
abbrev pub late_of : Figures → Dues → ℕ → ℕ → Bool
late_of cal d day month = late cal d.charge d.paid d.months.first d.months.last day month

-- whether a month is late, of those that are due
abbrev pub overdue_of : Figures → Dues → ℕ → Bool
overdue_of cal d day = overdue cal d.charge d.paid d.months.first d.months.last day

-- some month is late
abbrev pub AreOverdue : Figures → Dues → ℕ → Type 0
AreOverdue cal d day = Overdue cal d.charge d.paid d.months.first d.months.last day
