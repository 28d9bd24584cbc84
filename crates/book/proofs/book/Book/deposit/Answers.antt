use Rattle.book.specs.Calls.Call.{Deposit}
use Rattle.book.specs.Calls.Answer.{Balance}
use Rattle.book.proofs.Lives.{comes_to, carries_on}
use Rattle.book.proofs.book.Book.deposit.Goals as goal

pub returns-clause-lived : goal.returns-clause-lived
returns-clause-lived g c =
    carries_on g.S.FactorSource g.R.UseRule g.met.S.FactorSource.ranged g.met.R.UseRule.attained g.met.R.UseRule.dominates
    c.args.self.now (Deposit c.args.holder c.args.amount) _ _ (comes_to Balance _ c.deposit.result _ c.deposit.ensures.gives)
