-- The load of what is left of a list, its faults, and how far a load can be from 0.
use Rattle.std.proofs.Common.{◌≡◌, ℕ, suc, ◌+◌, ◌*◌, ◌<◌, ◌≤◌, List, [], ◌∷◌, length, get_or, drop, ℤ, pos, negsuc, ◌+ℤ◌, ◌*ℤ◌, Some, None, Ok, Err, Option, sym, refl, ap, ◌∙◌, subst, arith, w64, SFits}
use Rattle.std.proofs.lemmas.List.{at_drop_more, at_drop_all}
use Rattle.std.proofs.lemmas.Grind.{common_steps}
use Rattle.std.proofs.lemmas.Nat.{mul-le}
use Rattle.std.proofs.lemmas.Int.{ints}
use Rattle.terms.specs.declared.refusal.Refusal.{Refusal}
use Rattle.terms.specs.Ranges.{most_power}
use Rattle.flows.specs.declared.load.RightAtLimit.{RightAtLimit}
use Rattle.flows.specs.Factors.{Near, InFactorRange, Ranged, Meaning}
use Rattle.flows.specs.Loads.{factor_of, worst_at, worst_of, load, fault, ◌else◌, first_fault, judged, most_rights}
use Rattle.flows.proofs.Worst.{Lawful, Small}

-- an answer tells whether there was a fault
judged_ok : (o : Option Refusal) (v x : ℤ) → Ok x ≡ judged o v → (o ≡ None) × (x ≡ v)
judged_ok (Some e) v x h = cc
judged_ok None v x h = (refl, cc)

judged_err : (o : Option Refusal) (v : ℤ) (e : Refusal) → Err e ≡ judged o v → o ≡ Some e
judged_err (Some d) v e h = cc
judged_err None v e h = cc

else_parts : (a b : Option Refusal) → (a else b) ≡ None → (a ≡ None) × (b ≡ None)
else_parts (Some e) b h = cc
else_parts None b h = (refl, h)

module _ (means : Meaning) (month limit : ℕ) where
  power_small : (place : ℕ) (r : RightAtLimit) → fault means month limit place r ≡ None → r.power ≤ most_power
  power_small place r h = grind (arith, common_steps)

  pub all_small : (place : ℕ) (rights : List RightAtLimit) → first_fault means month limit place rights ≡ None → Small rights
  all_small place [] h = tt
  all_small place (r ∷ rs) h =
      let both = else_parts (fault means month limit place r) (first_fault means month limit (place + 1) rs) h in
      (power_small place r both.0, all_small (place + 1) rs both.1)

-- the sum of the rights before a place: with the load of the others it is the whole load; the first fault is among the others; it is near 0
abbrev pub Summed : Meaning → (ℕ → ℤ → ℤ) → ℕ → ℕ → List RightAtLimit → ℕ → ℤ → Type 0
Summed means worst month limit rights i s =
    (s +ℤ load means worst month limit (drop i rights) ≡ load means worst month limit rights)
    × (first_fault means month limit (i + 1) (drop i rights) ≡ first_fault means month limit 1 rights)
    × Near (i * 2000000000000) s

product_near : (f : ℤ) (u : ℕ) → InFactorRange f → u ≤ most_power → Near 2000000000000 (f *ℤ pos u)
product_near (pos a) u h k = let m = mul-le a u 2000000 1000000 (omega (arith, ints)) k in (omega (arith, ints), omega (arith, ints))
product_near (negsuc a) u h k = let m = mul-le (suc a) u 2000000 1000000 (omega (arith, ints)) k in (omega (arith, ints), omega (arith, ints))

module _ (means : Meaning) (allowed : ℕ → ℕ → Type 0) (worst : ℕ → ℤ → ℤ) (laws : Lawful means allowed worst) (month limit : ℕ) where
  pub worst_near : (p : ℕ) (o : Option ℤ) → p ≤ most_power → Ranged o → Near 2000000000000 (worst_at worst p o)
  worst_near p (Some f) small near =
      let a = laws.attained p f small near in
      let low : a.0 ≤ most_power = omega (arith, laws.bounded p a.0 small a.1) in
      subst (Near 2000000000000) (sym a.2) (product_near f a.0 near low)
  worst_near p None small near = (omega (arith, ints), omega (arith, ints))

  -- the worst flow of one right is at most 2,000,000 × 1,000,000
  pub worst_of_near : (r : RightAtLimit) → r.power ≤ most_power → Near 2000000000000 (worst_of means worst month limit r)
  worst_of_near r small =
      let n = worst_near r.power (factor_of means month limit r) small (laws.ranged month limit r.injection r.withdrawal) in
      grind (arith, ints, common_steps)

  -- one right more
  pub turn : (rights : List RightAtLimit) (i : ℕ) (d : RightAtLimit) (s x : ℤ) → i < length rights → length rights ≤ most_rights → Summed means worst month limit rights i s → Ok x ≡ judged (fault means month limit (i + 1) (get_or rights i d)) (worst_of means worst month limit (get_or rights i d)) → SFits w64 (s +ℤ x) × Summed means worst month limit rights (i + 1) (s +ℤ x)
  turn rights i d s x inside few so h =
      let r = get_or rights i d in
      let ok = judged_ok (fault means month limit (i + 1) r) (worst_of means worst month limit r) x h in
      let near = worst_of_near r (power_small means month limit (i + 1) r ok.0) in
      let step : load means worst month limit (drop i rights) ≡ worst_of means worst month limit r +ℤ load means worst month limit (drop (i + 1) rights) = at_drop_more (load means worst month limit) rights i d inside in
      let rest = first_fault means month limit (i + 1 + 1) (drop (i + 1) rights) in (
        omega (arith, ints, so.2, near, ok.1),
        (
          omega (arith, ints, so.0, step, ok.1),
          sym (ap (λ o. o else rest) ok.0) ∙ sym (at_drop_more (first_fault means month limit (i + 1)) rights i d inside) ∙ so.1,
          (omega (arith, ints, so.2, near, ok.1), omega (arith, ints, so.2, near, ok.1)),
        ),
      )

module _ (means : Meaning) (worst : ℕ → ℤ → ℤ) (month limit : ℕ) where
  -- a right with a fault
  pub stopped : (rights : List RightAtLimit) (i : ℕ) (d : RightAtLimit) (s v : ℤ) (e : Refusal) → i < length rights → Summed means worst month limit rights i s → Err e ≡ judged (fault means month limit (i + 1) (get_or rights i d)) v → first_fault means month limit 1 rights ≡ Some e
  stopped rights i d s v e inside so h =
      let first = at_drop_more (first_fault means month limit (i + 1)) rights i d inside in
      let fault = judged_err (fault means month limit (i + 1) (get_or rights i d)) v e h in
      grind arith

  -- no right is left
  pub ended : (rights : List RightAtLimit) (i : ℕ) (s : ℤ) → length rights ≤ i → Summed means worst month limit rights i s → (first_fault means month limit 1 rights ≡ None) × (s ≡ load means worst month limit rights)
  ended rights i s all so =
      let last = at_drop_all (load means worst month limit) rights i all in
      let none = at_drop_all (first_fault means month limit (i + 1)) rights i all in
      grind (arith, ints)
