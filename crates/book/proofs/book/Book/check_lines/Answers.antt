use Rattle.std.proofs.Common.{◌≡◌, ℕ, ◌+◌, ◌-◌, ◌/◌, ◌^◌, ◌<◌, ◌∷◌, length, drop, Err, sym, ap, ◌∙◌, subst, inl, arith}
use Rattle.std.proofs.lemmas.Result.{err_from_is_err_and}
use Rattle.submission.specs.declared.reader.Reader.{Reader}
use Rattle.submission.specs.Reading.{ahead}
use Rattle.submission.proofs.Lines.{length-lines_of}
use Rattle.book.specs.Market.{market_of}
use Rattle.book.specs.Refusing.{told}
use Rattle.book.specs.Checks.{lines_check}
use Rattle.book.specs.Views.{view}
use Rattle.book.proofs.Ranges.{told_ok, told_err}
use Rattle.book.proofs.Turns.{lines-passed, lines_stopped, lines_done}
use Rattle.book.proofs.book.Book.check_lines.Goals as goal

-- the lines that are left of a reader's words can be counted
counted : (r s : Reader) (n : ℕ) → s ≡ r → n ≡ 0 → length r.words.now < 2 ^ 63 → n + length (ahead s.words.now s.at) < 2 ^ 64
counted r s n e z h =
    let few : length (ahead r.words.now r.at) < 2 ^ 63 = omega (arith, length-lines_of ((length r.words.now - 1 - r.at) / 8) (drop r.at r.words.now)) in
    let fits : length (ahead s.words.now s.at) < 2 ^ 63 = subst (λ (q : Reader). length (ahead q.words.now q.at) < 2 ^ 63) (sym e) few in
    omega arith

pub loop-earlier-init-derived : goal.loop-earlier-init-derived
loop-earlier-init-derived g c =
    let into = c.into_iter-earlier-iterator.ensures.into_iter_gives in
    let count = ap (λ e. e.count) into ∙ c.enumerate-earlier-items.ensures.count in
    let whole = ap (λ e. e.iter) into ∙ c.enumerate-earlier-items.ensures.source in
    ((tt, tt, inl (counted c.args.reader _ _ whole count (omega (arith, c.ranges.reader)))), tt)

pub returns-in_err-check_next : goal.returns-in_err-check_next
returns-in_err-check_next g c =
    let me = c.args.self.now in
    let m = market_of g.S.FactorSource g.R.UseRule me.basis in
    let b = view me.ledger in
    let n = c.in-Some.ensures.steps in
    let was = c.loop-earlier in
    let earlier = was.invariant.0 in
    let here = ahead was.earlier-iterator.iter.words.now was.earlier-iterator.iter.at in
    let next = ahead c.next.new.self.iter.words.now c.next.new.self.iter.at in
    let split : here ≡ c.line.result ∷ next = n.0.cases.line ∙ (cc) in
    let inv = ap (λ k. lines_check m b (k + 1) earlier here) n.1 ∙ was.invariant.2 in
    let p = err_from_is_err_and c.from_residual.result c.from_residual.ensures.1 in
    let stop = lines_stopped m b (c.in-Some.earlier + 1) earlier c.line.result here next split _ inv c.in_err-check_next.field-0.0 (told_err _ _ (c.in_err-check_next.ensures.answer b earlier was.invariant.1)) in
    p.1 ∙ ap Err p.2 ∙ sym (ap told stop)

pub loop-earlier-preserved : goal.loop-earlier-preserved
loop-earlier-preserved g c =
    let me = c.args.self.now in
    let m = market_of g.S.FactorSource g.R.UseRule me.basis in
    let b = view me.ledger in
    let n = c.in-Some.ensures.steps in
    let was = c.loop-earlier in
    let earlier = was.invariant.0 in
    let here = ahead was.earlier-iterator.iter.words.now was.earlier-iterator.iter.at in
    let next = ahead c.next.new.self.iter.words.now c.next.new.self.iter.at in
    let split : here ≡ c.line.result ∷ next = n.0.cases.line ∙ (cc) in
    let inv = ap (λ k. lines_check m b (k + 1) earlier here) n.1 ∙ was.invariant.2 in
    let ok = c.in_ok-check_next.ensures in (
      c.line.result ∷ earlier,
      ok.left b earlier was.invariant.1,
      ap (λ k. lines_check m b (k + 1) (c.line.result ∷ earlier) next) (n.2 ∙ ap (λ k. k + 1) (sym n.1))
          ∙ lines-passed m b (c.in-Some.earlier + 1) earlier c.line.result here next split _ inv (told_ok _ _ (ok.answer b earlier was.invariant.1)),
    )

pub returns : goal.returns
returns g c =
    let me = c.args.self.now in
    let m = market_of g.S.FactorSource g.R.UseRule me.basis in
    let was = c.loop-earlier in
    sym (ap told (lines_done m (view me.ledger) _ was.invariant.0 _ _ c.in-None.ensures.steps.0.cases.none was.invariant.2))
