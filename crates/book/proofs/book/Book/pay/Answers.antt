use Rattle.book.specs.Calls.Call.{Pay}
use Rattle.book.specs.Calls.Answer.{DebtLeft}
use Rattle.book.proofs.Lives.{comes_to, carries_on}
use Rattle.book.proofs.book.Book.pay.Goals as goal

pub returns-clause-lived : goal.returns-clause-lived
returns-clause-lived g c =
    carries_on g.S.FactorSource g.R.UseRule g.met.S.FactorSource.ranged g.met.R.UseRule.attained g.met.R.UseRule.dominates
    c.args.self.now (Pay c.args.serial c.args.amount) _ _ (comes_to DebtLeft _ c.pay.result _ c.pay.ensures.gives)
