use Rattle.std.proofs.Common.{◌≡◌, T, length, drop, sym, ap, ◌∙◌, subst, arith}
use Rattle.std.proofs.lemmas.List.{drop_at, length-map}
use Rattle.book.specs.Rows.{all_small}
use Rattle.book.specs.Rights.{confirmed, all_confirmed}
use Rattle.book.specs.Views.{rights}
use Rattle.book.proofs.Smalls.{small-append, small-confirmed, small-take, small-drop}
use Rattle.book.proofs.Tables.{length-rights}
use Rattle.book.proofs.rights.Rights.put_in_force.Goals as goal

pub invariant_of-self : goal.invariant_of-self
invariant_of-self c =
    let me = c.args.self.now in
    let long : length (all_confirmed (rights me)) ≡ me.count = length-map (rights me) confirmed ∙ length-rights me in
    record { full = omega (arith, c.confirm_front.auto.rows, me.full); counted = me.counted; behind = ap (drop me.count) c.confirm_front.ensures ∙ drop_at (all_confirmed (rights me)) (drop me.count me.rows) me.count long ∙ me.behind; small = subst (λ xs. T (all_small xs)) (sym c.confirm_front.ensures) (small-append (all_confirmed (rights me)) (drop me.count me.rows) (small-confirmed (rights me) (small-take me.count me.rows me.small)) (small-drop me.count me.rows me.small)) }
