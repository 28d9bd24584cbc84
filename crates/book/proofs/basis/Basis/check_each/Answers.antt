use Rattle.std.proofs.Common.{◌≡◌, ◌+◌, ◌-◌, Ok, Err, None, sym, refl, ap, ◌∙◌, arith}
use Rattle.std.proofs.lemmas.Result.{err_from_is_err_and}
use Rattle.book.specs.Market.{market_of, limits}
use Rattle.book.specs.Refusing.{told, first_of}
use Rattle.book.specs.Checks.{by_month_and_limit}
use Rattle.book.proofs.Ranges.{told_ok, told_err, range_passed, range_stopped, range_done}
use Rattle.book.proofs.basis.Basis.check_each.Goals as goal
use Rattle.book.proofs.basis.Basis.check_each.Goals.{else-loop-limit-test, then-loop-limit-test+in_ok-check+else-limit-limit-end}

pub loop-month-init : goal.loop-month-init
loop-month-init g c = λ f d. refl

pub loop-limit-init : goal.loop-limit-init
loop-limit-init g c =
    let m = market_of g.S.FactorSource g.R.UseRule c.args.self.now in
    let long : limits m + 1 - 1 ≡ limits m = omega arith in
    (c.loop-month.auto.month, c.loop-month-test.true, (λ f d. ap (first_of (f c.loop-month.month) 1) long), c.loop-month.invariant)

pub returns-in_err-check : goal.returns-in_err-check
returns-in_err-check g c = λ f d.
    let m = market_of g.S.FactorSource g.R.UseRule c.args.self.now in
    let month = c.loop-month.month in
    let inv = c.loop-limit.invariant in
    let e = c.in_err-check.field-0.0 in
    let p = err_from_is_err_and c.from_residual.result c.from_residual.ensures.1 in
    let was : c.check.result ≡ Err e = c.in_err-check.was in
    let said = d month c.loop-limit.limit c.check.result (inv.0, inv.1) (omega arith) c.check.ensures in
    let here = range_stopped (f month) c.loop-limit.limit (limits m + 1) (first_of (f month) 1 (limits m)) (inv.2 f d) (omega (arith, c.limit_count-limit-end.ensures.value)) e (told_err _ e (sym was ∙ said)) in
    let stop = range_stopped (λ month. first_of (f month) 1 (limits m)) month 13 (by_month_and_limit m f) (inv.3 f d) (omega (arith, inv.1)) e here in
    p.1 ∙ ap Err p.2 ∙ sym (ap told stop)

pub loop-limit-preserved : goal.loop-limit-preserved
loop-limit-preserved g c =
    let m = market_of g.S.FactorSource g.R.UseRule c.args.self.now in
    let month = c.loop-month.month in
    let inv = c.loop-limit.invariant in
    let was : c.check.result ≡ Ok tt = c.in_ok-check.was in
    (inv.0, inv.1, (λ f d. range_passed (f month) c.loop-limit.limit (limits m + 1) (first_of (f month) 1 (limits m)) (inv.2 f d) (omega (arith, c.limit_count-limit-end.ensures.value)) (told_ok _ tt (sym was ∙ d month c.loop-limit.limit c.check.result (inv.0, inv.1) (omega arith) c.check.ensures))), inv.3)

pub loop-month-preserved : goal.loop-month-preserved
loop-month-preserved g c = λ f d.
    let m = market_of g.S.FactorSource g.R.UseRule c.args.self.now in
    let month = c.loop-month.month in
    let limit = c.loop-limit.limit in
    let inv = c.loop-limit.invariant in
    let count = c.limit_count-limit-end.ensures.value in
    let passed : first_of (f month) 1 (limits m) ≡ None = elim c.loop-limit-test.branch [
      | else-loop-limit-test w ↦ range_done (f month) limit (limits m + 1) (first_of (f month) 1 (limits m)) (inv.2 f d) (omega (arith, count, w.loop-limit-test.false))
      | then-loop-limit-test+in_ok-check+else-limit-limit-end w ↦
          let was : w.check.result ≡ Ok tt = w.in_ok-check.was in
          let said = d month limit w.check.result (inv.0, inv.1) (omega arith) w.check.ensures in
          let more = range_passed (f month) limit (limits m + 1) (first_of (f month) 1 (limits m)) (inv.2 f d) (omega (arith, count, w.loop-limit-test.true)) (told_ok _ tt (sym was ∙ said)) in
          range_done (f month) (limit + 1) (limits m + 1) _ more (omega (arith, count))
    ] in
    range_passed (λ month. first_of (f month) 1 (limits m)) month 13 (by_month_and_limit m f) (inv.3 f d) (omega (arith, inv.1)) passed

pub returns : goal.returns
returns g c = λ f d. sym (ap told (range_done _ c.loop-month.month 13 _ (c.loop-month.invariant f d) (omega arith)))
