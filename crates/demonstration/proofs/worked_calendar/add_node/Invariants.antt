use Rattle.std.proofs.Common.{◌≡◌, ◌-◌}
use Rattle.calendar.specs.Figures.{figures}
use Rattle.demonstration.proofs.Prices.{priced}
use Rattle.demonstration.proofs.worked_calendar.add_node.Given as goal

abbrev pub invariant-loop-month : goal.invariant-loop-month
invariant-loop-month l = figures l.calendar ≡ priced (l.month - 1) l.node l.price (figures l.initial.calendar)
