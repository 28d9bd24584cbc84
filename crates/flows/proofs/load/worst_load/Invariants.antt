use Rattle.flows.proofs.Totals.{Summed}
use Rattle.flows.proofs.load.worst_load.Given as goal

abbrev pub invariant-loop-i : goal.invariant-loop-i
invariant-loop-i g l = Summed (g.S.FactorSource.means l.source) (g.R.UseRule.worst l.rule) l.month l.limit l.rights l.i l.sum
