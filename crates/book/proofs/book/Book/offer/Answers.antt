use Rattle.std.proofs.Common.{◌≡◌, ℕ, ◌≤◌, List, [], ◌++◌, length, sym, ap, ◌∙◌, subst}
use Rattle.std.proofs.lemmas.Result.{err_from_is_err_and}
use Rattle.std.specs.List.{AllByRecursion}
use Rattle.submission.specs.declared.line.Line.{Line}
use Rattle.submission.specs.Submissions.{Submission, decode}
use Rattle.submission.specs.Reading.{Opened}
use Rattle.terms.specs.Ranges.{most_power}
use Rattle.book.specs.Market.{market_of}
use Rattle.book.specs.Rights.{numbered}
use Rattle.book.specs.States.{opened}
use Rattle.book.specs.Checks.{lines_check, room_for}
use Rattle.book.specs.Calls.Answer.{Awarded}
use Rattle.book.specs.Views.{view, rights}
use Rattle.book.proofs.Bounded.{bounded_lines}
use Rattle.book.proofs.Checks.{small_from_lines}
use Rattle.book.proofs.Ranges.{told_ok, told_err}
use Rattle.book.proofs.Words.{form_none, form_some}
use Rattle.book.proofs.Proposals.{open_as_viewed, broken_form, already_open, bad_lines, no_room, too_much, accepted}
use Rattle.book.proofs.book.Book.offer.Goals as goal

pub returns-in_err-reader-clause-gives : goal.returns-in_err-reader-clause-gives
returns-in_err-reader-clause-gives g c =
    let me = c.args.self.now in
    let m = market_of g.S.FactorSource g.R.UseRule me.basis in
    let p = err_from_is_err_and c.from_residual.result c.from_residual.ensures.1 in
    let e = c.in_err-reader.field-0.0 in
    rw (p.1, p.2) (broken_form m (view me.ledger) c.args.words.now e (form_some c.args.words.now e c.in_err-reader.ensures))

formed : (ws ds : List ℕ) (at : ℕ) → Opened ws ds at → Submission ws
formed ws ds at o = subst Submission o.words o.ready.whole

pub returns-then-is_some-clause-gives : goal.returns-then-is_some-clause-gives
returns-then-is_some-clause-gives g c =
    let me = c.args.self.now in
    let m = market_of g.S.FactorSource g.R.UseRule me.basis in
    let ws = c.args.words.now in
    let o = c.in_ok-reader.ensures in
    let reader = c.in_ok-reader.reader in
    let form = form_none ws (formed ws reader.words.now reader.at o) in
    already_open m (view me.ledger) ws form (open_as_viewed me.ledger.pending ∙ sym c.if-is_some.ensures)

pub returns-in_err-check_lines-clause-gives : goal.returns-in_err-check_lines-clause-gives
returns-in_err-check_lines-clause-gives g c =
    let me = c.args.self.now in
    let m = market_of g.S.FactorSource g.R.UseRule me.basis in
    let ws = c.args.words.now in
    let o = c.in_ok-reader.ensures in
    let reader = c.in_ok-reader.reader in
    let form = form_none ws (formed ws reader.words.now reader.at o) in
    let none = open_as_viewed me.ledger.pending ∙ sym c.if-is_some.ensures in
    let b = view me.ledger in
    let p = err_from_is_err_and c.from_residual-in_err-check_lines.result c.from_residual-in_err-check_lines.ensures.1 in
    let e = c.in_err-check_lines.field-0.0 in
    let bad = ap (lines_check m b 1 []) (sym o.lines) ∙ told_err _ e c.in_err-check_lines.ensures in
    rw (p.1, p.2) (bad_lines m b ws form none e bad)

pub returns-in_err-check_room-clause-gives : goal.returns-in_err-check_room-clause-gives
returns-in_err-check_room-clause-gives g c =
    let me = c.args.self.now in
    let m = market_of g.S.FactorSource g.R.UseRule me.basis in
    let ws = c.args.words.now in
    let o = c.in_ok-reader.ensures in
    let reader = c.in_ok-reader.reader in
    let form = form_none ws (formed ws reader.words.now reader.at o) in
    let none = open_as_viewed me.ledger.pending ∙ sym c.if-is_some.ensures in
    let b = view me.ledger in
    let lines = ap (lines_check m b 1 []) (sym o.lines) ∙ told_ok _ _ c.in_ok-check_lines.ensures in
    let count : c.lines_left-lines.result ≡ length (decode ws) = c.lines_left-lines.ensures ∙ ap length o.lines in
    let p = err_from_is_err_and c.from_residual-in_err-check_room.result c.from_residual-in_err-check_room.ensures.1 in
    let e = c.in_err-check_room.field-0.0 in
    let bad = ap (room_for b) (sym count) ∙ told_err _ e c.in_err-check_room.ensures in
    rw (p.1, p.2) (no_room m b ws form none lines e bad)

pub enter-requires-clause-small : goal.enter-requires-clause-small
enter-requires-clause-small g c =
    let me = c.args.self.now in
    let m = market_of g.S.FactorSource g.R.UseRule me.basis in
    let o = c.in_ok-reader.ensures in
    let b = view me.ledger in
    let ws = c.args.words.now in
    let lines = ap (lines_check m b 1 []) (sym o.lines) ∙ told_ok _ _ c.in_ok-check_lines.ensures in
    subst (AllByRecursion (λ (x : Line). x.power ≤ most_power)) (sym o.lines) (small_from_lines m (bounded_lines m) b 1 [] (decode ws) lines)

pub returns-in_err-check_capacity-clause-gives : goal.returns-in_err-check_capacity-clause-gives
returns-in_err-check_capacity-clause-gives g c =
    let me = c.args.self.now in
    let m = market_of g.S.FactorSource g.R.UseRule me.basis in
    let ws = c.args.words.now in
    let o = c.in_ok-reader.ensures in
    let reader = c.in_ok-reader.reader in
    let form = form_none ws (formed ws reader.words.now reader.at o) in
    let none = open_as_viewed me.ledger.pending ∙ sym c.if-is_some.ensures in
    let b = view me.ledger in
    let lines = ap (lines_check m b 1 []) (sym o.lines) ∙ told_ok _ _ c.in_ok-check_lines.ensures in
    let count : c.lines_left-lines.result ≡ length (decode ws) = c.lines_left-lines.ensures ∙ ap length o.lines in
    let room = ap (room_for b) (sym count) ∙ told_ok _ _ c.in_ok-check_room.ensures in
    let after = rights c.enter.new.table in
    let those : after ≡ rights me.ledger.rights ++ numbered me.ledger.next (decode ws) = c.enter.ensures ∙ ap (λ ls. rights me.ledger.rights ++ numbered me.ledger.next ls) o.lines in
    let p = err_from_is_err_and c.from_residual-in_err-check_capacity.result c.from_residual-in_err-check_capacity.ensures.1 in
    let e = c.in_err-check_capacity.field-0.0 in
    let bad = told_err _ e c.in_err-check_capacity.ensures in
    rw (p.1, p.2) (too_much m b ws form none lines room after those e bad)

pub returns-clause-gives : goal.returns-clause-gives
returns-clause-gives g c =
    let me = c.args.self.now in
    let m = market_of g.S.FactorSource g.R.UseRule me.basis in
    let ws = c.args.words.now in
    let o = c.in_ok-reader.ensures in
    let reader = c.in_ok-reader.reader in
    let form = form_none ws (formed ws reader.words.now reader.at o) in
    let none = open_as_viewed me.ledger.pending ∙ sym c.if-is_some.ensures in
    let b = view me.ledger in
    let lines = ap (lines_check m b 1 []) (sym o.lines) ∙ told_ok _ _ c.in_ok-check_lines.ensures in
    let count : c.lines_left-lines.result ≡ length (decode ws) = c.lines_left-lines.ensures ∙ ap length o.lines in
    let room = ap (room_for b) (sym count) ∙ told_ok _ _ c.in_ok-check_room.ensures in
    let after = rights c.enter.new.table in
    let those : after ≡ rights me.ledger.rights ++ numbered me.ledger.next (decode ws) = c.enter.ensures ∙ ap (λ ls. rights me.ledger.rights ++ numbered me.ledger.next ls) o.lines in
    let fits = told_ok _ _ c.in_ok-check_capacity.ensures in
    let done = accepted m b ws form none lines room after those fits in
    (done.0 ∙ ap (λ n. Awarded b.number b.next n) (sym count), done.1 ∙ ap (λ rs. opened b rs b.next (length (decode ws))) (sym those) ∙ ap (λ n. opened b after b.next n) (sym count) ∙ sym c.open_award.ensures)
