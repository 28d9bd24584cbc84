use Rattle.std.proofs.Common.{◌≡◌, ℕ, ◌<◌, ◌≤◌, List, map, length, get_or, ◌∙◌, subst, arith, rules}
use Rattle.std.proofs.lemmas.List.{ext_get_or, get_or-map, length-map}
use Rattle.terms.specs.Ranges.{most_value}
use Rattle.calendar.specs.declared.parts.UpTo.{UpTo}
use Rattle.calendar.proofs.Ranged.{values_in_range}
use Rattle.calendar.proofs.calendar.calls.capacities.Goals as goal

pub returns : goal.returns
returns c =
    let cs : List (UpTo most_value) = c.loop-place.capacities in
    let vs : List ℕ = c.args.values in
    let number : UpTo most_value → ℕ = λ k. k.number in
    let none : UpTo most_value = record { number = 0; most = omega arith } in
    let v : length vs ≡ 12 = search rules in
    let e : map number cs ≡ vs =
    ext_get_or 0 (map number cs) vs (length-map cs number ∙ omega (arith, c.loop-place.invariant.0))
    (λ i h.
    let k : i < length cs = omega (arith, length-map cs number) in
    get_or-map number cs i none 0 k ∙ c.loop-place.invariant.1 i none (omega (arith, c.loop-place.invariant.0))) in
    (λ k. subst (λ xs. get_or xs k 0 ≤ 10000000) e (values_in_range cs k), e)
