use Rattle.std.proofs.Common.{◌<◌, length, arith}
use Rattle.std.proofs.lemmas.List.Edits.{map_over_more}
use Rattle.std.proofs.lemmas.List.{get_or_default}
use Rattle.book.specs.Rights.{confirmed}
use Rattle.book.proofs.rights.ops.confirm_front.Goals as goal

pub loop-right-preserved : goal.loop-right-preserved
loop-right-preserved c =
    let at = c.loop-right.right-index in
    let there : at < length c.loop-right.front = omega (arith, c.loop-right-test.true, c.loop-right.auto.front) in
    rw c.confirmed.ensures
    (map_over_more confirmed _ c.loop-right.front at _ c.loop-right-test.true c.loop-right.invariant (get_or_default c.loop-right.front at _ _ there))
