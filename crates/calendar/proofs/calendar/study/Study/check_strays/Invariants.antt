use Rattle.std.proofs.Common.{◌≡◌, ℕ, ◌+◌, ◌<◌, false}
use Rattle.calendar.specs.Figures.{figures}
use Rattle.calendar.specs.Matrix.{StraysNowhere, strays_at}
use Rattle.calendar.proofs.calendar.study.Study.check_strays.Given as goal

abbrev pub invariant-loop-place : goal.invariant-loop-place
invariant-loop-place l =
    (i : ℕ) → i < l.place → StraysNowhere (figures l.self.calendar.now) l.self.references.now l.self.flows.now i

abbrev pub invariant-loop-at : goal.invariant-loop-at
invariant-loop-at l =
    ((i : ℕ) → i < l.place → StraysNowhere (figures l.self.calendar.now) l.self.references.now l.self.flows.now i)
    × ((k : ℕ) → k < l.at → strays_at (figures l.self.calendar.now) l.self.references.now l.self.flows.now l.place (k + 1) ≡ false)
