-- The worst case of a list of rights, from the laws of a source and a rule.
use Rattle.std.proofs.Common.{◌≡◌, ℕ, ◌≤◌, Bool, true, false, cond, List, [], ◌∷◌, ℤ, pos, ◌*ℤ◌, ◌≤ℤ◌, Some, None, Option, sym, refl, arith}
use lib.Signed.{≤ℤ_refl}
use Rattle.std.proofs.lemmas.Int.{ints}
use Rattle.std.specs.List.{AllByRecursion}
use Rattle.terms.specs.Ranges.{most_power}
use Rattle.flows.specs.declared.load.RightAtLimit.{RightAtLimit}
use Rattle.flows.specs.Factors.{InFactorRange, Ranged, Meaning}
use Rattle.flows.specs.Loads.{counts, factor_of, worst_at, load}
use Rattle.flows.specs.Choices.{Choice, carried, flow, WorstCase}

-- what the laws say of a source's meaning and a rule's uses
pub record Lawful (means : Meaning) (allowed : ℕ → ℕ → Type 0) (worst : ℕ → ℤ → ℤ) : Type 0 where
  pub ranged : (month limit i w : ℕ) → Ranged (means month limit i w)
  pub bounded : (p u : ℕ) → p ≤ most_power → allowed p u → u ≤ p
  pub usable : (p : ℕ) → p ≤ most_power → (u : ℕ) × allowed p u
  pub attained : (p : ℕ) (f : ℤ) → p ≤ most_power → InFactorRange f → (u : ℕ) × (allowed p u) × (worst p f ≡ f *ℤ pos u)
  pub dominates : (p u : ℕ) (f : ℤ) → p ≤ most_power → InFactorRange f → allowed p u → (f *ℤ pos u) ≤ℤ (worst p f)

-- no right has more than 1,000,000 kW
abbrev pub Small : List RightAtLimit → Type 0
Small rights = AllByRecursion (λ r. r.power ≤ most_power) rights

cond_le : (b : Bool) (x y : ℤ) → x ≤ℤ y → (cond b x (pos 0)) ≤ℤ (cond b y (pos 0))
cond_le true x y h = h
cond_le false x y h = ≤ℤ_refl (pos 0)

module _ (means : Meaning) (allowed : ℕ → ℕ → Type 0) (worst : ℕ → ℤ → ℤ) (laws : Lawful means allowed worst) (month limit : ℕ) where
  carried_le : (p u : ℕ) (o : Option ℤ) → p ≤ most_power → Ranged o → allowed p u → (carried o u) ≤ℤ (worst_at worst p o)
  carried_le p u (Some f) small near a = laws.dominates p u f small near a
  carried_le p u None small near a = ≤ℤ_refl (pos 0)

  carried_reached : (p : ℕ) (o : Option ℤ) → p ≤ most_power → Ranged o → (u : ℕ) × (allowed p u) × (carried o u ≡ worst_at worst p o)
  carried_reached p (Some f) small near = let a = laws.attained p f small near in (a.0, a.1, sym a.2)
  carried_reached p None small near = let a = laws.usable p small in (a.0, a.1, refl)

  pub flow_le : (rights : List RightAtLimit) (uses : List ℕ) → Small rights → Choice allowed rights uses → (flow means month limit rights uses) ≤ℤ (load means worst month limit rights)
  flow_le [] [] small c = ≤ℤ_refl (pos 0)
  flow_le [] (u ∷ us) small c = absurd c
  flow_le (r ∷ rs) [] small c = absurd c
  flow_le (r ∷ rs) (u ∷ us) small c =
      let one = cond_le (counts month r) _ _ (carried_le r.power u (factor_of means month limit r) small.0 (laws.ranged month limit r.injection r.withdrawal) c.0) in
      let rest = flow_le rs us small.1 c.1 in
      omega (arith, ints)

  pub flow_reached : (rights : List RightAtLimit) → Small rights → (uses : List ℕ) × (Choice allowed rights uses) × (flow means month limit rights uses ≡ load means worst month limit rights)
  flow_reached [] small = ([], tt, refl)
  flow_reached (r ∷ rs) small =
      let one = carried_reached r.power (factor_of means month limit r) small.0 (laws.ranged month limit r.injection r.withdrawal) in
      let rest = flow_reached rs small.1 in (
        one.0 ∷ rest.0,
        (one.1, rest.1),
        (cc (one.2, rest.2)),
      )

  pub worst_case : (rights : List RightAtLimit) (sum : ℤ) → Small rights → sum ≡ load means worst month limit rights → WorstCase means allowed month limit rights sum
  worst_case rights sum small e =
      let some = flow_reached rights small in
      record {
        keeps = λ bound h uses c. let all = flow_le rights uses small c in omega (arith, ints);
        kept = λ bound h. let all = h some.0 some.1 in omega (arith, ints, some.2);
        passed = λ bound h. (some.0, some.1, omega (arith, ints, some.2));
      }
