use Rattle.book.specs.Calls.Call.{Annul}
use Rattle.book.specs.Results.{annulled}
use Rattle.book.proofs.Lives.{comes_to, carries_on}
use Rattle.book.proofs.book.Book.annul.Goals as goal

pub returns-clause-lived : goal.returns-clause-lived
returns-clause-lived g c =
    carries_on g.S.FactorSource g.R.UseRule g.met.S.FactorSource.ranged g.met.R.UseRule.attained g.met.R.UseRule.dominates
    c.args.self.now (Annul c.args.serial) _ _ (comes_to annulled _ c.remove_overdue.result _ c.remove_overdue.ensures.gives)
