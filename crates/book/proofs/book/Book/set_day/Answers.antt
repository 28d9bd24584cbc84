use Rattle.book.specs.Calls.Call.{SetDay}
use Rattle.book.specs.Calls.Answer.{Day}
use Rattle.book.proofs.Lives.{comes_to, carries_on}
use Rattle.book.proofs.book.Book.set_day.Goals as goal

pub returns-clause-lived : goal.returns-clause-lived
returns-clause-lived g c =
    carries_on g.S.FactorSource g.R.UseRule g.met.S.FactorSource.ranged g.met.R.UseRule.attained g.met.R.UseRule.dominates
    c.args.self.now (SetDay c.args.day) _ _ (comes_to Day _ c.set_day.result _ c.set_day.ensures.gives)
