use Rattle.std.proofs.Common.{◌+◌, ◌+ℤ◌, subst, arith, w64, SFits, rules}
use Rattle.std.proofs.lemmas.Int.{ints}
use Rattle.book.specs.Market.{market_of}
use Rattle.book.specs.Rows.{empty}
use Rattle.book.proofs.Smalls.{small_at}
use Rattle.book.proofs.Sums.{Summed, summed_more}
use Rattle.book.proofs.basis.Basis.load_of.Given as given
use Rattle.book.proofs.basis.Basis.load_of.Goals as goal

pub worst_of-sum-requires : goal.worst_of-sum-requires
worst_of-sum-requires g c = small_at c.as_slice-rights.result.now c.loop-right.right-index empty c.loop-right-test.true c.as_slice-rights.ensures.small

-- one turn of the loop
turned : (g : given.Over) (c : goal.After-worst_of-sum g) → SFits w64 (c.loop-right.sum +ℤ c.worst_of-sum.result) × Summed (market_of g.S.FactorSource g.R.UseRule c.args.self.now) c.args.month c.args.limit c.as_slice-rights.result.now (c.loop-right.right-index + 1) (c.loop-right.sum +ℤ c.worst_of-sum.result)
turned g c =
    let me = c.args.self.now in
    let m = market_of g.S.FactorSource g.R.UseRule me in
    let so = subst (Summed m c.args.month c.args.limit c.as_slice-rights.result.now c.loop-right.right-index) c.loop-right.sum-is c.loop-right.invariant in
    summed_more m c.args.month c.args.limit c.as_slice-rights.result.now c.loop-right.right-index empty c.loop-right.sum c.worst_of-sum.result c.loop-right-test.true c.as_slice-rights.ensures.few so c.worst_of-sum.ensures.value c.worst_of-sum.ensures.near

pub loop-right-preserved : goal.loop-right-preserved
loop-right-preserved g c =
    let me = c.args.self.now in
    let t = turned g c in
    let fits = t.0 in
    let x : SFits w64 c.worst_of-sum.result = search rules in
    let F = Summed (market_of g.S.FactorSource g.R.UseRule me) c.args.month c.args.limit c.as_slice-rights.result.now (c.loop-right.right-index + 1) in
    subst F (omega (arith, ints, c.loop-right.sum-is)) t.1
