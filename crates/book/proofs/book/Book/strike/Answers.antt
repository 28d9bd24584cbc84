use Rattle.std.proofs.Common.{rules}
use Rattle.book.specs.Calls.Call.{Strike}
use Rattle.book.proofs.Lives.{carries_on}
use Rattle.book.proofs.book.Book.strike.Goals as goal

pub returns-clause-lived : goal.returns-clause-lived
returns-clause-lived g c =
    carries_on g.S.FactorSource g.R.UseRule g.met.S.FactorSource.ranged g.met.R.UseRule.attained g.met.R.UseRule.dominates
    c.args.self.now (let a = c.args.award.numbers in Strike a.book a.first a.lines) _ _ (search rules)
