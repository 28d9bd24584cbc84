use Rattle.std.proofs.Common.{eqb, ap, w32, arith}
use Rattle.std.proofs.Math.Pow.{pow-lt}
use Rattle.std.proofs.lemmas.Nat.{or_lt}
use Rattle.std.proofs.lemmas.Nat.Bits.{bit_at_set_other, bit_at_set_same}
use Rattle.calendar.proofs.parts.RelationRow.with_mark.Goals as goal

pub invariant_of-result : goal.invariant_of-result
invariant_of-result c =
    let bit = pow-lt {i = c.args.pair} {j = 30} c.requires in
    record { in_range = or_lt 30 c.args.self.bits _ c.args.self.in_range (omega (arith, bit)) }

pub returns : goal.returns
returns c =
    record {
      marked = ap (λ n. eqb n 1) (bit_at_set_same w32 c.args.self.bits c.args.pair (omega arith));
      others = λ other apart. ap (λ n. eqb n 1) (bit_at_set_other w32 c.args.self.bits c.args.pair (omega arith) other apart);
    }
