use Rattle.std.proofs.Common.{◌≡◌, ◌-◌, sym, ap, ◌∙◌}
use Rattle.book.specs.Market.{market_of}
use Rattle.book.specs.Rights.{debt, taking}
use Rattle.book.specs.States.{balance, with_rights, with_balance}
use Rattle.book.specs.Calls.Answer.{Annulled}
use Rattle.book.specs.Views.{view, rights}
use Rattle.book.proofs.Ranges.{told_ok}
use Rattle.book.proofs.Proposals.{open_as_viewed, annul_granted}
use Rattle.book.proofs.book.Book.remove_overdue.Goals as goal

pub returns-clause-gives : goal.returns-clause-gives
returns-clause-gives g c =
    let me = c.args.self.now in
    let m = market_of g.S.FactorSource g.R.UseRule me.basis in
    let b = view me.ledger in
    let s = c.args.serial in
    let r = c.in_ok-at.right in
    let found = c.in_ok-at.ensures in
    let none = open_as_viewed me.ledger.pending ∙ sym c.if-is_some.ensures in
    let late = sym c.if-not-is_overdue.ensures in
    let after = rights c.remove.new.self in
    let those = c.remove.ensures.serial s found.first in
    let fits = told_ok _ _ c.in_ok-check_capacity.ensures in
    let done = annul_granted m b s r found.its found.live none late after those fits in
    let took : c.taking-taking.result ≡ taking r = c.taking-taking.ensures.value in (
      done.0 ∙ ap (λ n. Annulled n (debt r - n)) (sym took) ∙ ap (λ d. Annulled c.taking-taking.result (d - c.taking-taking.result)) (sym c.debt.ensures),
      done.1 ∙ ap (λ rs. with_balance (with_rights b rs) r.line.holder (balance b r.line.holder - taking r)) (sym those)
          ∙ ap (λ n. with_balance (with_rights b after) r.line.holder (balance b r.line.holder - n)) (sym took) ∙ sym c.close_account.ensures,
    )
