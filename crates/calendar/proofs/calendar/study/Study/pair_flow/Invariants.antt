use Rattle.std.proofs.Common.{◌≡◌, ◌+◌, ◌*◌, ◌^◌, ◌≤◌}
use Rattle.calendar.specs.Figures.{figures, limit_count, limit_of}
use Rattle.calendar.specs.Matrix.{share, sum_below}
use Rattle.calendar.proofs.calendar.study.Study.pair_flow.Given as goal

abbrev pub invariant-loop-place : goal.invariant-loop-place
invariant-loop-place l =
    let f = figures l.self.calendar.now in
    (l.sum ≡ sum_below (share (limit_of f (l.at + 1)) (limit_count f) l.self.references.now l.self.flows.now (l.at + 1) l.pair) l.place)
    × (l.sum ≤ 2 ^ 31 * l.place)
