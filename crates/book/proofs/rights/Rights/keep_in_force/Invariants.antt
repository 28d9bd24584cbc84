use Rattle.std.proofs.Common.{◌≡◌, take}
use Rattle.book.specs.Rights.{in_force}
use Rattle.book.specs.Views.{rights}
use Rattle.book.proofs.rights.Rights.keep_in_force.Given as goal

abbrev pub invariant-loop-right : goal.invariant-loop-right
invariant-loop-right l = rights l.staying ≡ in_force (take l.right-index l.rights)
