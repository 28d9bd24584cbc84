use Rattle.std.proofs.Common.{◌≡◌, ℕ, ◌+◌, ◌<◌, not, eqb, length, get_or}
use Rattle.terms.specs.Tables.{held}
use Rattle.calendar.specs.Figures.{figures}
use Rattle.calendar.specs.Matrix.{pair_flow}
use Rattle.calendar.specs.Rows.{row_mark}
use Rattle.calendar.specs.declared.parts.RelationRow.{RelationRow}
use Rattle.calendar.proofs.calendar.study.Study.rows.Given as goal

abbrev pub invariant-loop-at : goal.invariant-loop-at
invariant-loop-at l =
    (length (held l.rows) ≡ l.at)
    × ((k pair : ℕ) (none : RelationRow) → k < l.at → pair < 30 → row_mark (get_or (held l.rows) k none).bits pair ≡ not (eqb (pair_flow (figures l.self.calendar.now) l.self.references.now l.self.flows.now (k + 1) pair) 0))
