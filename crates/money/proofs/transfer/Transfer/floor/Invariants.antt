use Rattle.std.proofs.Common.{◌<◌}
use Rattle.calendar.specs.Figures.{figures}
use Rattle.money.specs.Transfers.{HasEnds, month_worth_of}
use Rattle.money.proofs.Sums.{SummedTo}
use Rattle.money.proofs.transfer.Transfer.floor.Given as goal

abbrev pub invariant-loop-month : goal.invariant-loop-month
invariant-loop-month l =
    let cal = figures l.calendar in
    SummedTo (month_worth_of cal l.self) l.self.months.first l.month l.sum × (l.self.months.first < l.month → HasEnds cal l.self)
