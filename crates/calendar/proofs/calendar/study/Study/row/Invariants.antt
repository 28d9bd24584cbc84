use Rattle.std.proofs.Common.{◌≡◌, ℕ, ◌+◌, ◌<◌, ◌≤◌, false, not, eqb}
use Rattle.calendar.specs.Figures.{figures}
use Rattle.calendar.specs.Matrix.{pair_flow}
use Rattle.calendar.specs.Rows.{row_mark}
use Rattle.calendar.proofs.calendar.study.Study.row.Given as goal

abbrev pub invariant-loop-pair : goal.invariant-loop-pair
invariant-loop-pair l =
    ((k : ℕ) → k < l.pair → row_mark l.row.bits k ≡ not (eqb (pair_flow (figures l.self.calendar.now) l.self.references.now l.self.flows.now (l.at + 1) k) 0))
    × ((k : ℕ) → l.pair ≤ k → row_mark l.row.bits k ≡ false)
