use Rattle.std.proofs.Common.{arith, length-set}
use Rattle.book.proofs.Smalls.{small-set}
use Rattle.book.proofs.Tables.{length-rights, behind_push}
use Rattle.book.proofs.rights.Rights.push.Goals as goal

pub invariant_of-self : goal.invariant_of-self
invariant_of-self c =
    let me = c.args.self.now in
    record { full = simp length-set me.full; counted = omega (arith, length-rights me); behind = behind_push me.rows me.count me.full me.behind c.args.right; small = small-set me.rows me.count c.args.right c.requires.small me.small }
