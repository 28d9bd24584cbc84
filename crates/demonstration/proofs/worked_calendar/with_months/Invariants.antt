use Rattle.std.proofs.Common.{◌≡◌, ◌-◌}
use Rattle.calendar.specs.Figures.{figures}
use Rattle.demonstration.proofs.Months.{dated}
use Rattle.demonstration.proofs.worked_calendar.with_months.Given as goal

abbrev pub invariant-loop-month : goal.invariant-loop-month
invariant-loop-month l = figures l.calendar ≡ dated (l.month - 1)
