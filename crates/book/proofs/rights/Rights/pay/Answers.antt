use Rattle.std.proofs.Common.{◌<◌, ◌≤◌, set, sym, ap, ◌∙◌, subst, arith, length-set}
use Rattle.std.proofs.lemmas.List.{drop-set-lt, get_or-take}
use Rattle.terms.specs.Ranges.{most_power}
use Rattle.book.specs.declared.right.Right.{Right}
use Rattle.book.specs.Rows.{empty}
use Rattle.book.specs.Rights.{paying}
use Rattle.book.specs.Views.{rights}
use Rattle.book.proofs.Finds.{paid_at}
use Rattle.book.proofs.Smalls.{small-set, small_at}
use Rattle.book.proofs.Tables.{length-rights, take_of_set}
use Rattle.book.proofs.rights.Rights.pay.Goals as goal

pub invariant_of-self : goal.invariant_of-self
invariant_of-self c =
    let me = c.args.self.now in
    let inside : c.args.at < me.count = omega (arith, length-rights me, c.requires.inside) in
    let low : c.paying.result.line.power ≤ most_power = subst (λ (r : Right). r.line.power ≤ most_power) (sym c.paying.ensures) (small_at me.rows c.args.at empty (omega (arith, me.full, me.counted)) me.small) in
    record { full = simp length-set me.full; counted = me.counted; behind = drop-set-lt me.count me.rows c.args.at c.paying.result inside ∙ me.behind; small = small-set me.rows c.args.at c.paying.result low me.small }

pub returns : goal.returns
returns c =
    let me = c.args.self.now in
    let inside : c.args.at < me.count = omega (arith, length-rights me, c.requires.inside) in
    let set_there =
    take_of_set me.count me.rows c.args.at c.paying.result
    ∙ ap (set (rights me) c.args.at) (c.paying.ensures ∙ ap (λ (r : Right). paying r c.args.amount) (sym (get_or-take me.count me.rows c.args.at empty inside))) in
    record { place = set_there; serial = λ s f. set_there ∙ paid_at s c.args.amount (rights me) c.args.at f }
