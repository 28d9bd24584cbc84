-- The first refusal of a range of numbers, from one number on.
use Rattle.std.proofs.Common.{◌≡◌, ℕ, suc, ◌+◌, ◌-◌, ◌<◌, ◌≤◌, Some, None, Ok, Err, Option, sym, refl, ap, ◌∙◌, arith}
use Rattle.terms.specs.declared.refusal.Refusal.{Refusal}
use Rattle.book.specs.Refusing.{◌then◌, first_of, told}

module _ (check : ℕ → Option Refusal) (i e : ℕ) where
  pub range_more : i < e → first_of check i (e - i) ≡ check i then first_of check (i + 1) (e - (i + 1))
  unfolding first_of
  range_more h =
      let k : e - i ≡ suc (e - (i + 1)) = omega arith in
      let n : suc i ≡ i + 1 = omega arith in
      ap (first_of check i) k ∙ ap (λ j. check i then first_of check j (e - (i + 1))) n

  pub range_none : e ≤ i → first_of check i (e - i) ≡ None
  unfolding first_of
  range_none h = let k : e - i ≡ 0 = omega arith in ap (first_of check i) k

-- the answer of a check says which refusal it has
pub told_err : (o : Option Refusal) (e : Refusal) → Err e ≡ told o → o ≡ Some e
told_err None e h = let z : ◌≡◌ {A = ℕ} 0 1 = cc in absurd (omega arith)
told_err (Some x) e h = cc

pub told_ok : (o : Option Refusal) (x : Unit {0}) → Ok x ≡ told o → o ≡ None
told_ok None x h = refl
told_ok (Some e) x h = let z : ◌≡◌ {A = ℕ} 0 1 = cc in absurd (omega arith)

-- a range of checks of which those before a number passed
module _ (check : ℕ → Option Refusal) (i e : ℕ) (all : Option Refusal) (inv : first_of check i (e - i) ≡ all) where
  pub range_passed : i < e → check i ≡ None → first_of check (i + 1) (e - (i + 1)) ≡ all
  range_passed h ok = sym (range_more check i e h ∙ ap (λ o. o then first_of check (i + 1) (e - (i + 1))) ok) ∙ inv

  pub range_stopped : i < e → (x : Refusal) → check i ≡ Some x → all ≡ Some x
  range_stopped h x stop = sym inv ∙ range_more check i e h ∙ ap (λ o. o then first_of check (i + 1) (e - (i + 1))) stop

  pub range_done : e ≤ i → all ≡ None
  range_done h = sym inv ∙ range_none check i e h
