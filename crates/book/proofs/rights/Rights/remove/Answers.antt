use Rattle.std.proofs.Common.{◌<◌, T, sym, ◌∙◌, subst, arith}
use Rattle.book.specs.Rows.{all_small}
use Rattle.book.specs.Views.{rights}
use Rattle.book.proofs.Finds.{without_at}
use Rattle.book.proofs.Smalls.{small-closed}
use Rattle.book.proofs.Tables.{length-rights, view-removed, behind_removed}
use Rattle.book.proofs.rights.Rights.remove.Goals as goal

pub invariant_of-self : goal.invariant_of-self
invariant_of-self c =
    let me = c.args.self.now in
    let inside : c.args.at < me.count = omega (arith, length-rights me) in
    record { full = omega (arith, c.close_gap.auto.rows, me.full); counted = omega (arith, me.counted); behind = behind_removed me.rows c.close_gap.new.rows me.count c.args.at me.full me.counted me.behind inside c.close_gap.ensures; small = subst (λ xs. T (all_small xs)) (sym c.close_gap.ensures) (small-closed me.rows c.args.at me.small) }

pub returns : goal.returns
returns c =
    let me = c.args.self.now in
    let inside : c.args.at < me.count = omega (arith, length-rights me) in
    let gone = view-removed me.rows c.close_gap.new.rows me.count c.args.at me.full me.counted me.behind inside c.close_gap.ensures in
    record { place = gone; serial = λ s f. gone ∙ without_at s (rights me) c.args.at f }
