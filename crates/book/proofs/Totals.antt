-- Sums over rights, after each event, and balances.
use Rattle.std.proofs.Common.{◌≡◌, ℕ, suc, ◌+◌, ◌≤◌, Bool, true, false, cond, eqb, List, [], ◌∷◌, ◌++◌, length, get_or, set, Some, None, filter, Option, sym, refl, ap, ◌∙◌, inl, inr, arith}
use Rattle.std.proofs.lemmas.List.{get_or-set_same, get_or-set_other, set_past, get_or_past}
use Rattle.std.proofs.lemmas.Bool.{cond_both, cond-true, cond-false, cases_eq, cases_lt, eq-eqb, ne_eqb, eqb-true}
use Rattle.std.specs.List.{AllByRecursion}
use Rattle.submission.specs.declared.line.Line.{Line}
use Rattle.book.specs.declared.right.Right.{Right}
use Rattle.book.specs.Rights.{total, guarantee, held, held_of, asked_of, right_of, numbered, confirmed, all_confirmed, paying, paid_on, without}
use Rattle.book.proofs.Standings.{held-confirmed, held-paying}

pub total-append : {X : Type 0} (f : X → ℕ) (xs ys : List X) → total f (xs ++ ys) ≡ total f xs + total f ys
total-append f [] ys = omega arith
total-append f (x ∷ xs) ys = let h = total-append f xs ys in omega arith

pub total-kept_le : {X : Type 0} (f : X → ℕ) (test : X → Bool) (xs : List X) → total f (filter test xs) ≤ total f xs
total-kept_le f test [] = omega arith
total-kept_le f test (x ∷ xs) =
    let h = total-kept_le f test xs in
    cond_both (test x) (x ∷ filter test xs) (filter test xs) (λ ys. total f ys ≤ f x + total f xs) (λ _. omega arith) (λ _. omega arith)

pub none_some : {X : Type 0} (r : Right) → ◌≡◌ {A = Option Right} None (Some r) → X
none_some r h = let z : ◌≡◌ {A = ℕ} 0 1 = cc in absurd (omega arith)

pub right_of_serial : (s : ℕ) (rs : List Right) (r : Right) → right_of s rs ≡ Some r → r.serial ≡ s
right_of_serial s [] r h = none_some r h
right_of_serial s (y ∷ rs) r h =
    (elim (eqb y.serial s) as (λ t. eqb y.serial s ≡ t → cond t (Some y) (right_of s rs) ≡ Some r → r.serial ≡ s) [
      | true ↦ (λ e k. let q : y ≡ r = cc in sym (ap (λ x. x.serial) q) ∙ eqb-true y.serial s e)
      | false ↦ (λ e k. right_of_serial s rs r k)
    ]) refl h

-- one right less, and one right that was paid on
pub total-without : (f : Right → ℕ) (s : ℕ) (rs : List Right) (r : Right) → right_of s rs ≡ Some r → total f (without s rs) + f r ≡ total f rs
total-without f s [] r h = none_some r h
total-without f s (y ∷ rs) r h =
    (elim (eqb y.serial s) as (λ t. cond t (Some y) (right_of s rs) ≡ Some r → total f (cond t rs (y ∷ without s rs)) + f r ≡ f y + total f rs) [
      | true ↦ (λ k. let q : y ≡ r = cc in omega (arith, ap f q))
      | false ↦ (λ k. let i = total-without f s rs r k in omega arith)
    ]) h

pub total-paid : (f : Right → ℕ) (s n : ℕ) (rs : List Right) (r : Right) → right_of s rs ≡ Some r → total f (paid_on s n rs) + f r ≡ total f rs + f (paying r n)
total-paid f s n [] r h = none_some r h
total-paid f s n (y ∷ rs) r h =
    (elim (eqb y.serial s) as (λ t. cond t (Some y) (right_of s rs) ≡ Some r → total f (cond t (paying y n ∷ rs) (y ∷ paid_on s n rs)) + f r ≡ f y + total f rs + f (paying r n)) [
      | true ↦ (λ k. let q : y ≡ r = cc in omega (arith, ap f q, ap (λ x. f (paying x n)) q))
      | false ↦ (λ k. let i = total-paid f s n rs r k in omega arith)
    ]) h

pub all-paid_at : (P : Right → Type 0) (s n : ℕ) (rs : List Right) (r : Right) → right_of s rs ≡ Some r → P (paying r n) → AllByRecursion P rs → AllByRecursion P (paid_on s n rs)
all-paid_at P s n [] r h p all = tt
all-paid_at P s n (y ∷ rs) r h p all =
    (elim (eqb y.serial s) as (λ t. cond t (Some y) (right_of s rs) ≡ Some r → AllByRecursion P (cond t (paying y n ∷ rs) (y ∷ paid_on s n rs))) [
      | true ↦ (λ k. let q : r ≡ y = cc in (rw q at p, all.1))
      | false ↦ (λ k. (all.0, all-paid_at P s n rs r k p all.1))
    ]) h

-- guarantees held
cond_mono : (t : Bool) (a b : ℕ) → a ≤ b → cond t a 0 ≤ cond t b 0
cond_mono true a b h = h
cond_mono false a b h = omega arith

pub held_of-confirmed : (x : ℕ) (rs : List Right) → held_of x (all_confirmed rs) ≤ held_of x rs
held_of-confirmed x [] = omega arith
held_of-confirmed x (r ∷ rs) =
    let one = cond_mono (eqb r.line.holder x) (held (confirmed r)) (held r) (held-confirmed r) in
    let rest = held_of-confirmed x rs in
    omega arith

pub held_of-paid : (x s n : ℕ) (rs : List Right) (r : Right) → right_of s rs ≡ Some r → held_of x (paid_on s n rs) ≤ held_of x rs
held_of-paid x s n rs r h =
    let one = cond_mono (eqb r.line.holder x) (held (paying r n)) (held r) (held-paying r n) in
    let all = total-paid (λ y. cond (eqb y.line.holder x) (held y) 0) s n rs r h in
    omega arith

pub held_of-numbered : (x k : ℕ) (ls : List Line) → held_of x (numbered k ls) ≡ asked_of x ls
held_of-numbered x k [] = refl
held_of-numbered x k (l ∷ ls) = ap (λ z. cond (eqb l.holder x) (guarantee l) 0 + z) (held_of-numbered x (suc k) ls)

-- balances after one is set
pub balance-set : (bs : List ℕ) (x y v : ℕ) → (length bs ≤ x → v ≡ 0) → get_or (set bs x v) y 0 ≡ cond (eqb x y) v (get_or bs y 0)
balance-set bs x y v h = elim (cases_eq x y) [ inl e ↦ same e | inr ne ↦ get_or-set_other bs x y v 0 (λ q. ne (sym q)) ∙ sym (cond-false (eqb x y) v (get_or bs y 0) (ne_eqb x y ne)) ]
  where
    inside : (length bs ≤ x → v ≡ 0) → get_or (set bs x v) x 0 ≡ v
    inside k = elim (cases_lt x (length bs)) [ inl l ↦ get_or-set_same bs x v 0 l | inr l ↦ ap (λ z. get_or z x 0) (set_past bs x v l) ∙ get_or_past bs x 0 l ∙ sym (k l) ]

    same : x ≡ y → get_or (set bs x v) y 0 ≡ cond (eqb x y) v (get_or bs y 0)
    same e = ap (λ z. get_or (set bs x v) z 0) (sym e) ∙ inside h ∙ sym (cond-true (eqb x y) v (get_or bs y 0) (eq-eqb x y e))
