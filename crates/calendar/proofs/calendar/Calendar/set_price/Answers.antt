use Rattle.std.proofs.Common.{◌≡◌, map, slice_set, ap, ◌∙◌, arith, rules}
use Rattle.std.proofs.lemmas.Int.{ints}
use Rattle.terms.specs.Tables.{held}
use Rattle.calendar.specs.declared.calendar.Node.{Node}
use Rattle.calendar.specs.Calls.{repriced}
use Rattle.calendar.specs.Figures.{figures, node_figures}
use Rattle.calendar.proofs.Shown.{map-changed_shown, map-set_number}
use Rattle.calendar.proofs.calendar.Calendar.set_price.Goals as goal

pub returns : goal.returns
returns c =
    let cal = c.args.self.now in
    let f = figures cal in
    let node = c.in_ok-changed.changed in
    let price = c.in_ok-changed-2.field-0 in
    let change = repriced c.args.month c.args.price in
    let changed : Node = record { area = node.area; prices = slice_set node.prices c.in_ok-month.month price } in
    let written : held c.set.new.self ≡ slice_set (held cal.nodes) c.args.node changed = search rules in
    let same : price.thousandths ≡ c.args.price = omega (arith, ints, c.in_ok-changed-2.ensures.1) in
    let shown : node_figures changed ≡ change (node_figures node) =
    ap (λ ps. record { area = node.area.number; prices = ps })
    (map-set_number (λ p. p.thousandths) _ _ node.prices price _ c.in_ok-month.ensures.1.0 same) in (
      search rules,
      ap (λ ns. record { nodes = ns; limits = f.limits; months = f.months })
          (ap (map node_figures) written
          ∙ map-changed_shown node_figures change _ (held cal.nodes) changed _ c.in_ok-changed.ensures.0 (shown ∙ ap change c.in_ok-changed.ensures.1)),
    )
