use Rattle.std.proofs.Common.{◌≡◌, None, Err, sym, ap, ◌∙◌}
use Rattle.std.proofs.lemmas.Result.{err_from_is_err_and}
use Rattle.terms.specs.declared.refusal.Refusal.TheVariants.{NoFactor}
use Rattle.book.specs.Market.{market_of}
use Rattle.book.specs.Refusing.{told}
use Rattle.book.proofs.Faults.{not-counted, has_factor, lacks_factor}
use Rattle.book.proofs.basis.Basis.check_factor.Goals as goal

pub returns-else-counts : goal.returns-else-counts
returns-else-counts g c =
    let m = market_of g.S.FactorSource g.R.UseRule c.args.self.now in
    sym (ap told (not-counted m c.args.place c.args.line.now c.args.month c.args.limit (sym c.if-counts.ensures)))

pub returns-in_ok-ok_or : goal.returns-in_ok-ok_or
returns-in_ok-ok_or g c =
    let m = market_of g.S.FactorSource g.R.UseRule c.args.self.now in
    sym (ap told (has_factor m c.args.place c.args.line.now c.args.month c.args.limit (sym c.if-counts.ensures) _ (sym c.in_ok-ok_or.ensures.ok_part ∙ c.factor.ensures)))

pub returns-in_err-ok_or : goal.returns-in_err-ok_or
returns-in_err-ok_or g c =
    let m = market_of g.S.FactorSource g.R.UseRule c.args.self.now in
    let none : None ≡ c.factor.result = sym c.in_err-ok_or.ensures.ok_part in
    let p = err_from_is_err_and c.from_residual.result c.from_residual.ensures.1 in
    let said : Err c.in_err-ok_or.field-0.0 ≡ Err (NoFactor c.args.place c.args.month c.args.limit) = rw (← none) at c.in_err-ok_or.ensures.value in
    let same : c.in_err-ok_or.field-0.0 ≡ NoFactor c.args.place c.args.month c.args.limit = cc in
    p.1 ∙ ap Err (p.2 ∙ same) ∙ sym (ap told (lacks_factor m c.args.place c.args.line.now c.args.month c.args.limit (sym c.if-counts.ensures) (none ∙ c.factor.ensures)))
