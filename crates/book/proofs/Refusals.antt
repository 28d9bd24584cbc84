-- What checks in turn say where they refuse and where they do not.
use Rattle.std.proofs.Common.{◌≡◌, ℕ, zero, suc, ◌+◌, ◌<◌, ◌≤◌, Bool, true, false, ◌⊎◌, Some, None, Option, sym, refl, ap, inl, inr, arith}
use Rattle.std.proofs.lemmas.Bool.{cases_eq}
use Rattle.terms.specs.declared.refusal.Refusal.{Refusal}
use Rattle.book.specs.Refusing.{◌then◌, refuse_if, first_of}

pub never : {X : Type 0} (e : Refusal) → ◌≡◌ {A = Option Refusal} (Some e) None → X
never e h = let z : ◌≡◌ {A = ℕ} 0 1 = cc in absurd (omega arith)

pub then_none : (a b : Option Refusal) → (a then b) ≡ None → (a ≡ None) × (b ≡ None)
then_none None b h = (refl, h)
then_none (Some e) b h = never e h

pub then_skip : (a b : Option Refusal) → a ≡ None → (a then b) ≡ b
then_skip a b e = ap (λ o. o then b) e

pub then_stop : (a b : Option Refusal) (e : Refusal) → a ≡ Some e → (a then b) ≡ Some e
then_stop a b e h = ap (λ o. o then b) h

pub then_some : (a b : Option Refusal) (e : Refusal) → (a then b) ≡ Some e → (a ≡ Some e) ⊎ ((a ≡ None) × (b ≡ Some e))
then_some None b e h = inr (refl, h)
then_some (Some x) b e h = inl h

pub refuse_none : (t : Bool) (e : Refusal) → refuse_if t e ≡ None → t ≡ false
refuse_none true e h = never e h
refuse_none false e h = refl

pub refuse_some : (t : Bool) (x e : Refusal) → refuse_if t x ≡ Some e → (t ≡ true) × (e ≡ x)
refuse_some true x e h = (refl, cc)
refuse_some false x e h = never e (sym h)

pub first_none : (check : ℕ → Option Refusal) (k n : ℕ) → first_of check k n ≡ None → (j : ℕ) → k ≤ j → j < k + n → check j ≡ None
unfolding first_of
first_none check k zero h j a b = absurd (omega arith)
first_none check k (suc n) h j a b =
    let p = then_none (check k) (first_of check (suc k) n) h in
    elim (cases_eq k j) [ inl e ↦ rw e at p.0 | inr ne ↦ first_none check (suc k) n p.1 j (omega (arith, ne)) (omega arith) ]

pub first_some : (check : ℕ → Option Refusal) (k n : ℕ) (e : Refusal) → first_of check k n ≡ Some e → (j : ℕ) × (k ≤ j) × (j < k + n) × (check j ≡ Some e)
unfolding first_of
first_some check k zero e h = never e (sym h)
first_some check k (suc n) e h =
    elim (then_some (check k) (first_of check (suc k) n) e h) [
      | inl p ↦ (k, omega arith, omega arith, p)
      | inr p ↦ let f = first_some check (suc k) n e p.1 in (f.0, omega (arith, f.1), omega (arith, f.2), f.3)
    ]
