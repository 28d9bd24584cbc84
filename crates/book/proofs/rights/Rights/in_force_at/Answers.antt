use Rattle.std.proofs.Common.{◌≡◌, Some, refl, sym, ap, ◌∙◌}
use Rattle.book.specs.Rights.{is_in_force}
use Rattle.book.specs.Tables.{FirstAt}
use Rattle.book.specs.Views.{rights}
use Rattle.book.proofs.Finds.{right_at}
use Rattle.book.proofs.rights.Rights.in_force_at.Goals as goal

pub returns-then-not-is_in_force : goal.returns-then-not-is_in_force
returns-then-not-is_in_force c =
    let rs = rights c.args.self.now in
    let first : FirstAt c.args.serial rs c.in_ok-at.at = rw c.in_ok-at.ensures.ok_part at c.find.ensures in
    let its = right_at c.args.serial rs c.in_ok-at.at first in
    let off = c.if-not-is_in_force.true in
    let same = c.is_in_force.ensures in
    let there = c.get-right.ensures in
    (refl, λ r e. let q : r ≡ c.get-right.result = cc in ap is_in_force q ∙ sym same ∙ off)

pub returns : goal.returns
returns c =
    let rs = rights c.args.self.now in
    let first : FirstAt c.args.serial rs c.in_ok-at.at = rw c.in_ok-at.ensures.ok_part at c.find.ensures in
    record {
      first = first;
      there = sym c.get-right.ensures;
      its = right_at c.args.serial rs c.in_ok-at.at first ∙ ap Some (sym c.get-right.ensures);
      live = sym c.is_in_force.ensures ∙ c.if-not-is_in_force.false;
    }
