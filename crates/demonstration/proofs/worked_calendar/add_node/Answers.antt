use Rattle.std.proofs.Common.{◌≡◌, ℕ, ◌-◌, ◌≤◌, ℤ, Result, sym, refl, ap, ◌∙◌, subst, arith, w64, to_z, of_z}
use Rattle.std.proofs.lemmas.Int.{to_z-of_z}
use Rattle.terms.specs.declared.refusal.Refusal.{Refusal}
use Rattle.calendar.specs.Values.{IsPrice}
use Rattle.calendar.specs.Figures.{Figures, figures}
use Rattle.calendar.specs.Calls.{AddsNode, SetsPrice, new_node, with_node}
use Rattle.demonstration.specs.Calendars.{priced_node}
use Rattle.demonstration.proofs.Prices.{priced, price_on, shown, has_last, price_ok}
use Rattle.demonstration.proofs.worked_calendar.add_node.Goals as goal

pub loop-month-init : goal.loop-month-init
loop-month-init c = refl

pub loop-month-preserved : goal.loop-month-preserved
loop-month-preserved c =
    let month = c.loop-month.month in
    let price : ℤ = to_z w64 (of_z w64 c.args.price) in
    let P : Result (Unit {0}) Refusal → Type 0 = λ r. SetsPrice c.loop-month.calendar c.unwrap-node.result month price r c.set_price.new.self in
    let set = subst P c.unwrap.ensures c.set_price.ensures in
    price_on month c.unwrap-node.result price _ _ _ c.loop-month.auto.month c.loop-month.invariant set.1

pub unwrap-requires : goal.unwrap-requires
unwrap-requires c =
    let month = c.loop-month.month in
    let node = c.unwrap-node.result in
    let price : ℤ = to_z w64 (of_z w64 c.args.price) in
    let A : Result ℕ Refusal → Type 0 = λ r. AddsNode c.args.calendar.now c.args.area r c.add_node.new.self in
    let added = subst A c.unwrap-node.ensures c.add_node.ensures in
    let so_far = shown (month - 1) (figures c.args.calendar.now) (new_node c.args.area) node price _ _ added.1 added.3 c.loop-month.invariant in
    let P : ℤ → Type 0 = λ z. IsPrice z in
    let fits : IsPrice price = subst P (sym (to_z-of_z w64 c.args.price c.ranges.price)) c.requires.price in
    let few : month ≤ 12 = omega arith in
    price_ok c.loop-month.calendar c.set_price.new.self node month price c.set_price.result
    (has_last (figures c.args.calendar.now) _ _ node added.1 so_far, (c.loop-month.auto.month, few), fits)
    c.set_price.ensures

pub returns : goal.returns
returns c =
    let month = c.loop-month.month in
    let node = c.unwrap-node.result in
    let f = figures c.args.calendar.now in
    let price : ℤ = to_z w64 (of_z w64 c.args.price) in
    let A : Result ℕ Refusal → Type 0 = λ r. AddsNode c.args.calendar.now c.args.area r c.add_node.new.self in
    let added = subst A c.unwrap-node.ensures c.add_node.ensures in
    let last : month - 1 ≡ 12 = omega arith in
    let S : ℕ → Figures = λ n. priced n node price (figures c.add_node.new.self) in
    let N : ℤ → Figures = λ z. with_node f (priced_node c.args.area z) in
    shown 12 f (new_node c.args.area) node price _ _ added.1 added.3 (c.loop-month.invariant ∙ ap S last)
    ∙ ap N (to_z-of_z w64 c.args.price c.ranges.price)
