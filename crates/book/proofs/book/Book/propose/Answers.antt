use Rattle.std.proofs.Common.{sym, ap, ◌∙◌}
use Rattle.std.proofs.lemmas.Result.{err_from_is_err_and}
use Rattle.book.specs.Calls.Call.{Propose}
use Rattle.book.specs.Results.{awarded}
use Rattle.book.proofs.Words.{form_told}
use Rattle.book.proofs.Lives.{carries_on}
use Rattle.book.proofs.book.Book.propose.Goals as goal

pub returns-in_err-numbers-clause-lived : goal.returns-in_err-numbers-clause-lived
returns-in_err-numbers-clause-lived g c =
    let p = err_from_is_err_and c.from_residual.result c.from_residual.ensures.1 in
    rw (p.1, p.2)
    (carries_on g.S.FactorSource g.R.UseRule g.met.S.FactorSource.ranged g.met.R.UseRule.attained g.met.R.UseRule.dominates
    c.args.self.now (Propose c.args.words.now) _ _ c.in_err-numbers.ensures.gives)

pub returns-in_err-numbers-clause-form : goal.returns-in_err-numbers-clause-form
returns-in_err-numbers-clause-form g c = form_told

pub returns-clause-lived : goal.returns-clause-lived
returns-clause-lived g c =
    let done = c.in_ok-numbers.ensures.gives in
    carries_on g.S.FactorSource g.R.UseRule g.met.S.FactorSource.ranged g.met.R.UseRule.attained g.met.R.UseRule.dominates
    c.args.self.now (Propose c.args.words.now) _ _ (done.0 ∙ ap awarded (sym c.of.ensures), done.1)

pub returns-clause-form : goal.returns-clause-form
returns-clause-form g c = form_told
