use Rattle.calendar.specs.Figures.{figures}
use Rattle.calendar.specs.Matrix.{RowsSet}
use Rattle.calendar.proofs.calendar.Calendar.build_matrix.Given as goal

abbrev pub invariant-loop-at : goal.invariant-loop-at
invariant-loop-at l = RowsSet (figures l.fn.self) l.references l.flows l.at (figures l.self)
