use Rattle.desk.specs.Runs.{asked}
use Rattle.book.proofs.Lives.{carries_on}
use Rattle.desk.proofs.desk.Desk.answer.Goals as goal

pub returns-clause-lived : goal.returns-clause-lived
returns-clause-lived g c =
    carries_on g.S.FactorSource g.R.UseRule g.met.S.FactorSource.ranged g.met.R.UseRule.attained g.met.R.UseRule.dominates
    c.args.self.now.book (asked c.args.call) _ _ c.dispatch.ensures.gives
