use Rattle.std.proofs.Common.{◌≡◌, ◌<◌, ◌≤◌, length, ap, take, arith}
use Rattle.std.proofs.lemmas.List.{length-take}
use Rattle.report.proofs.Inputs.{front_full, front_ended}
use Rattle.report.proofs.input.read.read_input.Goals as goal
use Rattle.report.proofs.input.read.read_input.Goals.{else-loop-part-test, then-loop-part-test+in_ok-count+then-count-eq0}

pub returns : goal.returns
returns g c = elim c.loop-part-test.branch [
  | else-loop-part-test w ↦
      let full : length c.loop-part.bytes.items ≡ 521 = grind arith in
      front_full 521 _ _ c.loop-part.bytes.items c.loop-part.invariant full
  | then-loop-part-test+in_ok-count+then-count-eq0 w ↦
      let free : 0 < w.remaining_capacity.result = grind arith in
      let long : length c.loop-part.part ≡ 521 = grind arith in
      let room : 0 < length w.read.new.buf = omega (arith, w.read.auto.buf, length-take w.remaining_capacity.result c.loop-part.part, long, free) in
      let few : length c.loop-part.bytes.items ≤ 521 = grind arith in
      let bytes = w.in_ok-count.ensures.bytes in
      front_ended 521 _ _ _ c.loop-part.bytes.items _ c.loop-part.invariant bytes.0 (ap (λ k. take k w.read.new.buf) w.if-count-eq0.true) (bytes.1 w.if-count-eq0.true room) few
]
