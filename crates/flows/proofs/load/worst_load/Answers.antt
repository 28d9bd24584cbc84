use Rattle.std.proofs.Common.{◌+◌, ◌+ℤ◌, subst, arith, w64, SFits, rules}
use Rattle.std.proofs.lemmas.Grind.{common_steps}
use Rattle.std.proofs.lemmas.Int.{ints}
use Rattle.flows.proofs.Totals.{Summed, turn, stopped, ended, all_small}
use Rattle.flows.proofs.Worst.{Lawful, worst_case}
use Rattle.flows.proofs.load.worst_load.Given as given
use Rattle.flows.proofs.load.worst_load.Goals as goal

-- the laws of the source and the rule
laws : (g : given.Over) (s : _) (r : _) → Lawful (g.S.FactorSource.means s) (g.R.UseRule.allowed r) (g.R.UseRule.worst r)
laws g s r = record { ranged = g.met.S.FactorSource.ranged s; bounded = g.met.R.UseRule.bounded r; usable = g.met.R.UseRule.usable r; attained = g.met.R.UseRule.attained r; dominates = g.met.R.UseRule.dominates r }

pub returns-in_err-sum-clause-value : goal.returns-in_err-sum-clause-value
returns-in_err-sum-clause-value g c =
    let e = stopped (g.S.FactorSource.means c.args.source.now) (g.R.UseRule.worst c.args.rule.now) c.args.month c.args.limit c.args.rights.now c.loop-i.i _ _ _ _ c.loop-i-test.true c.loop-i.invariant c.in_err-sum.ensures.value in
    grind (arith, common_steps)

-- one turn of the loop
turned : (g : given.Over) (c : goal.In_ok-sum g) → SFits w64 (c.loop-i.sum +ℤ c.in_ok-sum.field-0) × Summed (g.S.FactorSource.means c.args.source.now) (g.R.UseRule.worst c.args.rule.now) c.args.month c.args.limit c.args.rights.now (c.loop-i.i + 1) (c.loop-i.sum +ℤ c.in_ok-sum.field-0)
turned g c =
    let s = c.args.source.now in
    let r = c.args.rule.now in
    let so = subst (Summed (g.S.FactorSource.means s) (g.R.UseRule.worst r) c.args.month c.args.limit c.args.rights.now c.loop-i.i) c.loop-i.sum-is c.loop-i.invariant in
    turn (g.S.FactorSource.means s) (g.R.UseRule.allowed r) (g.R.UseRule.worst r) (laws g s r) c.args.month c.args.limit c.args.rights.now c.loop-i.i _ c.loop-i.sum c.in_ok-sum.field-0 c.loop-i-test.true (omega arith) so c.in_ok-sum.ensures.value

pub overflow_add-sum : goal.overflow_add-sum
overflow_add-sum g c =
    let t = (turned g c).0 in
    let x : SFits w64 c.in_ok-sum.field-0 = search rules in
    omega (arith, ints, c.loop-i.sum-is)

pub loop-i-preserved : goal.loop-i-preserved
loop-i-preserved g c =
    let t = turned g c in
    let x : SFits w64 c.in_ok-sum.field-0 = search rules in
    let F = Summed (g.S.FactorSource.means c.args.source.now) (g.R.UseRule.worst c.args.rule.now) c.args.month c.args.limit c.args.rights.now (c.loop-i.i + 1) in
    subst F (omega (arith, ints, t.0, c.loop-i.sum-is)) t.1

pub returns-clause-worst : goal.returns-clause-worst
returns-clause-worst g c =
    let s = c.args.source.now in
    let r = c.args.rule.now in
    let means = g.S.FactorSource.means s in
    let rights = c.args.rights.now in
    let e = ended means (g.R.UseRule.worst r) c.args.month c.args.limit rights c.loop-i.i _ c.loop-i-test.false c.loop-i.invariant in
    worst_case _ _ _ (laws g s r) c.args.month c.args.limit rights _ (all_small means c.args.month c.args.limit 1 rights e.0) e.1
