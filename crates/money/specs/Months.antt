-- The valid months of a right, first to last, and what is summed up over them.
use Rattle.std.specs.Prelude.{ℕ, zero, suc, ◌+◌, ◌-◌, ◌≤◌, Bool, false, ◌&&◌, ◌||◌, nat_le}

-- how many months first to last are
abbrev pub month_count : ℕ → ℕ → ℕ
month_count first last = last - first + 1

-- whether first to last are months of the year
abbrev pub is_span : ℕ → ℕ → Bool
is_span first last = nat_le 1 first && (nat_le first last && nat_le last 12)

abbrev pub IsValid : ℕ → ℕ → ℕ → Type 0
IsValid first last month = (first ≤ month) × (month ≤ last)

-- none joined with f of n months in turn, the first of them a
abbrev pub over_months : {A : Type 0} → (A → A → A) → A → (ℕ → A) → ℕ → ℕ → A
over_months join none f a zero = none
over_months join none f a (suc n) = join (over_months join none f a n) (f (a + n))

-- f a + f (a + 1) + .., n months in all
abbrev pub sum : (ℕ → ℕ) → ℕ → ℕ → ℕ
sum f a n = over_months (λ x y. x + y) 0 f a n

-- whether the test holds in one of n months, the first of them a
abbrev pub some_month : (ℕ → Bool) → ℕ → ℕ → Bool
some_month test a n = over_months (λ x y. x || y) false test a n
