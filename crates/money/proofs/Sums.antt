-- What is joined over months, month by month.
use Rattle.std.proofs.Common.{◌≡◌, ℕ, zero, suc, ◌+◌, ◌-◌, ◌*◌, ◌<◌, ◌≤◌, ℤ, pos, neg_ℤ, ◌+ℤ◌, ◌≤ℤ◌, w64, SFits, sym, Bool, true, ap, ◌∙◌, subst, ⊎_elim, add-one, arith}
use Rattle.std.proofs.lemmas.Bool.{or_cases, or_left, or_right, cases_order, false≢true}
use Rattle.std.proofs.lemmas.Int.{ints}
use Rattle.money.specs.Floors.{signed_sum}
use Rattle.money.specs.Months.{over_months, sum, some_month}

-- the months from a to m, after those before m
pub over_next : {A : Type 0} (join : A → A → A) (none : A) (f : ℕ → A) (a m : ℕ) → a ≤ m → over_months join none f a (m + 1 - a) ≡ join (over_months join none f a (m - a)) (f m)
over_next join none f a m h =
    let n : m + 1 - a ≡ m - a + 1 = omega arith in
    let e : a + (m - a) ≡ m = omega arith in
    ap (over_months join none f a) (n ∙ add-one (m - a)) ∙ ap (λ b. join (over_months join none f a (m - a)) (f b)) e

-- a month and those before it are part of the sum
pub sum_part : (f : ℕ → ℕ) (a n i : ℕ) → i < n → sum f a i + f (a + i) ≤ sum f a n
sum_part f a zero i h = absurd (omega arith)
sum_part f a (suc n) i h =
    ⊎_elim
    (λ s. omega (arith, ap (λ k. sum f a k + f (a + k)) s))
    (⊎_elim (λ l. omega (arith, sum_part f a n i l)) (λ l. absurd (omega arith)))
    (cases_order i n)

-- some month is one of the months
pub some_at : (t : ℕ → Bool) (a n i : ℕ) → i < n → t (a + i) ≡ true → some_month t a n ≡ true
some_at t a zero i h e = absurd (omega arith)
some_at t a (suc n) i h e =
    ⊎_elim
    (λ s. or_right (some_month t a n) (t (a + n)) (subst (λ k. t (a + k) ≡ true) s e))
    (⊎_elim (λ l. or_left (some_month t a n) (t (a + n)) (some_at t a n i l e)) (λ l. absurd (omega arith)))
    (cases_order i n)

-- in m, which is one of the n
pub some_here : (t : ℕ → Bool) (a n m : ℕ) → a ≤ m → m - a < n → t m ≡ true → some_month t a n ≡ true
some_here t a n m h l e = let s : a + (m - a) ≡ m = omega arith in some_at t a n (m - a) l (ap t s ∙ e)

-- and the month in which it is
pub some_is : (t : ℕ → Bool) (a n : ℕ) → some_month t a n ≡ true → (i : ℕ) × (i < n) × (t (a + i) ≡ true)
some_is t a zero e = absurd (false≢true e)
some_is t a (suc n) e =
    ⊎_elim
    (λ s. let w = some_is t a n s in let l : w.0 < suc n = omega (arith, w.1) in (w.0, l, w.2))
    (λ s. (n, omega arith, s))
    (or_cases (some_month t a n) (t (a + n)) e)

-- the sum of f from a to the month before m, and how far from 0 it can be
abbrev pub SummedTo : (ℕ → ℤ) → ℕ → ℕ → ℤ → Type 0
SummedTo f a m s =
    (s ≡ signed_sum f a (m - a))
    × (neg_ℤ (pos (9223372036854775808 * (m - a))) ≤ℤ s) × (s ≤ℤ pos (9223372036854775808 * (m - a)))

-- one month more
pub summed_next : (f : ℕ → ℤ) (a m : ℕ) (s x : ℤ) → a ≤ m → SFits w64 x → x ≡ f m → SummedTo f a m s → SummedTo f a (m + 1) (s +ℤ x)
summed_next f a m s x h fits e so = (
  ap (λ y. y +ℤ x) so.0 ∙ ap (λ y. signed_sum f a (m - a) +ℤ y) e ∙ sym (over_next (λ y z. y +ℤ z) (pos 0) f a m h),
  omega (arith, ints, so.1),
  omega (arith, ints, so.2),
)
