use Rattle.std.proofs.Common.{arith, length-take}
use Rattle.std.proofs.Math.Seq.{take-set-lt}
use Rattle.terms.proofs.table.Table.set.Goals as goal

pub returns : goal.returns
returns g c = (omega (arith, length-take c.args.self.now.count c.args.self.now.rows), take-set-lt _ _ _ _ (omega arith))
