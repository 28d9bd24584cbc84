use Rattle.std.proofs.Common.{◌≡◌, ◌++◌, take, drop}
use Rattle.book.specs.Rights.{all_confirmed}
use Rattle.book.proofs.rights.ops.confirm_front.Given as goal

abbrev pub invariant-loop-right : goal.invariant-loop-right
invariant-loop-right l = l.front ≡ all_confirmed (take l.right-index l.initial.front) ++ drop l.right-index l.initial.front
