-- The place of a serial: which right it has, and what a change there makes of the rights.
use Rattle.std.proofs.Common.{◌≡◌, ℕ, zero, suc, ◌+◌, ◌<◌, ◌≤◌, cond, eqb, List, [], ◌∷◌, ◌++◌, length, get_or, take, drop, set, Some, None, Option, sym, refl, ap, ◌∙◌, arith}
use Rattle.std.specs.Prelude.{MatchOption}
use Rattle.std.specs.List.{position, position_or_len}
use Rattle.std.proofs.lemmas.List.Quantifiers.{position-Some}
use Rattle.std.proofs.lemmas.List.Sums.{fails_before_first}
use Rattle.std.proofs.lemmas.Grind.{common_steps}
use Rattle.std.proofs.lemmas.Bool.{cond-true, cond-false, eq-eqb, ne_eqb, eqb-true, eqb-false}
use Rattle.book.specs.declared.right.Right.{Right}
use Rattle.book.specs.Rows.{empty}
use Rattle.book.specs.Rights.{right_of, paying, paid_on, without}
use Rattle.book.specs.Tables.{removed, FirstAt}

pub none_of : (s : ℕ) (rs : List Right) → ((k : ℕ) → k < length rs → (get_or rs k empty).serial ≡ s → ⊥) → right_of s rs ≡ None
none_of s [] h = refl
none_of s (r ∷ rs) h = cond-false (eqb r.serial s) (Some r) (right_of s rs) (ne_eqb r.serial s (h 0 (omega arith))) ∙ none_of s rs (λ k l. h (suc k) (omega arith))

-- the first place at which a serial stands
pub first_place : (s : ℕ) (rs : List Right) (o : Option ℕ) → position (λ r. eqb r.serial s) rs ≡ o → MatchOption o (right_of s rs ≡ None) (FirstAt s rs)
first_place s rs None h =
    let p = λ (r : Right). eqb r.serial s in
    let past : length rs ≤ position_or_len p rs = grind (arith, common_steps) in
    none_of s rs (λ k l. eqb-false _ _ (fails_before_first p rs k empty (omega arith)))
first_place s rs (Some at) h =
    let p = position-Some (λ r. eqb r.serial s) rs at empty h in
    record { inside = p.0; its = eqb-true _ _ p.1; none_before = λ k l. eqb-false _ _ (p.2 k l) }

next : (s : ℕ) (r : Right) (rs : List Right) (at : ℕ) → FirstAt s (r ∷ rs) (suc at) → FirstAt s rs at
next s r rs at f = record { inside = omega (arith, f.inside); its = f.its; none_before = λ k l. f.none_before (suc k) (omega arith) }

other : {A : Type 0} (s : ℕ) (r : Right) (rs : List Right) (at : ℕ) (x y : A) → FirstAt s (r ∷ rs) (suc at) → cond (eqb r.serial s) x y ≡ y
other s r rs at x y f = cond-false (eqb r.serial s) x y (ne_eqb r.serial s (f.none_before 0 (omega arith)))

pub right_at : (s : ℕ) (rs : List Right) (at : ℕ) → FirstAt s rs at → right_of s rs ≡ Some (get_or rs at empty)
right_at s [] at f = absurd (omega (arith, f.inside))
right_at s (r ∷ rs) zero f = cond-true (eqb r.serial s) (Some r) (right_of s rs) (eq-eqb r.serial s f.its)
right_at s (r ∷ rs) (suc at) f = other s r rs at (Some r) (right_of s rs) f ∙ right_at s rs at (next s r rs at f)

pub without_at : (s : ℕ) (rs : List Right) (at : ℕ) → FirstAt s rs at → removed at rs ≡ without s rs
without_at s [] at f = absurd (omega (arith, f.inside))
without_at s (r ∷ rs) zero f = sym (cond-true (eqb r.serial s) rs (r ∷ without s rs) (eq-eqb r.serial s f.its))
without_at s (r ∷ rs) (suc at) f =
    let k : suc at + 1 ≡ suc (at + 1) = omega arith in
    ap (λ m. r ∷ (take at rs ++ drop m (r ∷ rs))) k ∙ ap (λ xs. r ∷ xs) (without_at s rs at (next s r rs at f)) ∙ sym (other s r rs at rs (r ∷ without s rs) f)

pub paid_at : (s n : ℕ) (rs : List Right) (at : ℕ) → FirstAt s rs at → set rs at (paying (get_or rs at empty) n) ≡ paid_on s n rs
paid_at s n [] at f = absurd (omega (arith, f.inside))
paid_at s n (r ∷ rs) zero f = sym (cond-true (eqb r.serial s) (paying r n ∷ rs) (r ∷ paid_on s n rs) (eq-eqb r.serial s f.its))
paid_at s n (r ∷ rs) (suc at) f = ap (λ xs. r ∷ xs) (paid_at s n rs at (next s r rs at f)) ∙ sym (other s r rs at (paying r n ∷ rs) (r ∷ paid_on s n rs) f)
