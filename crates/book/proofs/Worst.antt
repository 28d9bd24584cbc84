-- The worst case: a load bounds the flow of every permitted choice, and some permitted choice reaches it.
use Rattle.std.proofs.Common.{◌≡◌, ℕ, suc, ◌≤◌, Bool, true, false, cond, eqb, List, [], ◌∷◌, ℤ, pos, ◌+ℤ◌, ◌*ℤ◌, ◌≤ℤ◌, ◌<ℤ◌, Some, None, Option, sym, refl, ap, ◌∙◌, arith}
use lib.Signed.{≤ℤ_refl}
use Rattle.std.proofs.ByRecursion.{All-weaker}
use Rattle.std.proofs.lemmas.Int.{ints}
use Rattle.std.proofs.lemmas.Bool.{ne_eqb, eq-eqb, cond-true, cond-false}
use Rattle.std.specs.List.{AllByRecursion}
use Rattle.book.specs.declared.right.Right.{Right}
use Rattle.book.specs.Market.{Market}
use Rattle.flows.specs.Factors.{InFactorRange, Ranged}
use Rattle.book.specs.Loads.{counts, factor, bound, worst_at, load, carried, flow, Permitted, Listed, Within, Passes}
use Rattle.book.proofs.Lists.{Rising, rising_above, all-zip}

-- no right has more than a million
abbrev pub Small : List Right → Type 0
Small rs = AllByRecursion (λ r. r.line.power ≤ 1000000) rs

-- what the market and the rule are known to keep
pub record Lawful (m : Market) (allowed : ℕ → ℕ → Type 0) : Type 0 where
  pub ranged : (month limit i w : ℕ) → Ranged (m.means month limit i w)
  pub attained : (p : ℕ) (f : ℤ) → p ≤ 1000000 → InFactorRange f → (u : ℕ) × (allowed p u) × (m.worst p f ≡ f *ℤ pos u)
  pub dominates : (p u : ℕ) (f : ℤ) → p ≤ 1000000 → InFactorRange f → allowed p u → (f *ℤ pos u) ≤ℤ (m.worst p f)

cond_le : (b : Bool) (x y : ℤ) → x ≤ℤ y → (cond b x (pos 0)) ≤ℤ (cond b y (pos 0))
cond_le true x y h = h
cond_le false x y h = ≤ℤ_refl (pos 0)

-- one use at a serial, and the others as they were
abbrev at_serial : ℕ → ℕ → (ℕ → ℕ) → ℕ → ℕ
at_serial s u us t = cond (eqb t s) u (us t)

at_other : (s u : ℕ) (us : ℕ → ℕ) (t : ℕ) → suc s ≤ t → at_serial s u us t ≡ us t
at_other s u us t h = cond-false (eqb t s) u (us t) (ne_eqb t s (λ e. omega arith))

at_same : (s u : ℕ) (us : ℕ → ℕ) → at_serial s u us s ≡ u
at_same s u us = cond-true (eqb s s) u (us s) (eq-eqb s s refl)

module _ (m : Market) (allowed : ℕ → ℕ → Type 0) (laws : Lawful m allowed) where
  carried_le : (p u : ℕ) (o : Option ℤ) → p ≤ 1000000 → Ranged o → allowed p u → (carried o u) ≤ℤ (worst_at m p o)
  carried_le p u (Some f) small h a = laws.dominates p u f small h a
  carried_le p u None small h a = ≤ℤ_refl (pos 0)

  carried_reached : (p : ℕ) (o : Option ℤ) → p ≤ 1000000 → Ranged o → (u : ℕ) × (allowed p u) × (carried o u ≡ worst_at m p o)
  carried_reached p (Some f) small h = let a = laws.attained p f small h in (a.0, a.1, sym a.2)
  carried_reached p None small h = let a = laws.attained p (pos 0) small (omega (arith, ints), omega (arith, ints)) in (a.0, a.1, refl)

  module _ (month limit : ℕ) where
    pub flow_le : 1 ≤ month → month ≤ 12 → (rs : List Right) (uses : ℕ → ℕ → ℕ) → Small rs → Permitted allowed rs uses → (flow m month limit rs uses) ≤ℤ (load m month limit rs)
    flow_le from to [] uses small p = ≤ℤ_refl (pos 0)
    flow_le from to (r ∷ rs) uses small p =
        let one = cond_le (counts m month limit r.line) _ _ (carried_le r.line.power (uses r.serial month) (factor m month limit r.line) small.0 (laws.ranged month limit r.line.injection r.line.withdrawal) (p.0 month from to)) in
        let rest = flow_le from to rs uses small.1 p.1 in
        omega (arith, ints)

    flow-same : (rs : List Right) (us vs : ℕ → ℕ) → AllByRecursion (λ r. us r.serial ≡ vs r.serial) rs → flow m month limit rs (λ s _. us s) ≡ flow m month limit rs (λ s _. vs s)
    flow-same [] us vs h = refl
    flow-same (r ∷ rs) us vs h =
        ap (λ u. cond (counts m month limit r.line) (carried (factor m month limit r.line) u) (pos 0) +ℤ flow m month limit rs (λ s _. us s)) h.0
        ∙ ap (λ z. cond (counts m month limit r.line) (carried (factor m month limit r.line) (vs r.serial)) (pos 0) +ℤ z) (flow-same rs us vs h.1)

    -- one use to each serial, the same in every month
    abbrev Chosen : List Right → (ℕ → ℕ) → Type 0
    Chosen rs us = AllByRecursion (λ r. allowed r.line.power (us r.serial)) rs

    reached : (lo : ℕ) (rs : List Right) (hi : ℕ) → Small rs → Rising lo rs hi → (us : ℕ → ℕ) × (Chosen rs us) × (flow m month limit rs (λ s _. us s) ≡ load m month limit rs)
    reached lo [] hi small rise = (λ _. 0, tt, refl)
    reached lo (r ∷ rs) hi small rise =
        let one = carried_reached r.line.power (factor m month limit r.line) small.0 (laws.ranged month limit r.line.injection r.line.withdrawal) in
        let rest = reached (suc r.serial) rs hi small.1 rise.1 in
        let us = at_serial r.serial one.0 rest.0 in
        let same = at_same r.serial one.0 rest.0 in
        let others : AllByRecursion (λ x. us x.serial ≡ rest.0 x.serial) rs = All-weaker (λ x. suc r.serial ≤ x.serial) (λ x. us x.serial ≡ rest.0 x.serial) (λ x h. at_other r.serial one.0 rest.0 x.serial h) rs (rising_above (suc r.serial) (suc r.serial) rs hi (omega arith) rise.1) in (
          us,
          (rw same one.1, all-zip (λ x. us x.serial ≡ rest.0 x.serial) (λ x. allowed x.line.power (rest.0 x.serial)) (λ x. allowed x.line.power (us x.serial)) (λ x e h. rw e h) rs others rest.1),
          ap (λ u. cond (counts m month limit r.line) (carried (factor m month limit r.line) u) (pos 0) +ℤ flow m month limit rs (λ s _. us s)) same
              ∙ ap (λ z. cond (counts m month limit r.line) z (pos 0) +ℤ flow m month limit rs (λ s _. us s)) one.2
              ∙ ap (λ z. cond (counts m month limit r.line) (worst_at m r.line.power (factor m month limit r.line)) (pos 0) +ℤ z) (flow-same rs us rest.0 others ∙ rest.2),
        )

    pub passes_from_load : (lo : ℕ) (rs : List Right) (hi : ℕ) → Small rs → Rising lo rs hi → (bound m month limit) <ℤ (load m month limit rs) → Passes m allowed rs month limit
    passes_from_load lo rs hi small rise h =
        let some = reached lo rs hi small rise in
        (λ s _. some.0 s, All-weaker (λ r. allowed r.line.power (some.0 r.serial)) (λ r. (month : ℕ) → 1 ≤ month → month ≤ 12 → allowed r.line.power (some.0 r.serial)) (λ r a month from to. a) rs some.1, rw some.2 h)

-- each load is within what its limit bears
abbrev pub Fits : Market → List Right → Type 0
Fits m rs = (month limit : ℕ) → Listed m month limit → (load m month limit rs) ≤ℤ (bound m month limit)

pub within_from_fits : (m : Market) (allowed : ℕ → ℕ → Type 0) → Lawful m allowed → (rs : List Right) → Small rs → Fits m rs → Within m allowed rs
within_from_fits m allowed laws rs small fits uses p month limit at =
    let low = flow_le m allowed laws month limit at.month_from at.month_to rs uses small p in
    let high = fits month limit at in
    omega (arith, ints)
