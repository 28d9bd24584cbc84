use Rattle.std.proofs.Common.{◌≡◌, ◌-◌, drop}
use Rattle.book.specs.Rights.{held_of}
use Rattle.book.proofs.ledger.questions.less_held.Given as goal

-- what is left to take leads to the same
abbrev pub invariant-loop-right : goal.invariant-loop-right
invariant-loop-right l = l.free - held_of l.holder (drop l.right-index l.rights) ≡ l.balance - held_of l.holder l.rights
