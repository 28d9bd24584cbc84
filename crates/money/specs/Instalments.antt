-- The instalments of a charge.
use Rattle.std.specs.Prelude.{◌≡◌, ℕ, ◌+◌, ◌-◌, ◌/◌, ◌%◌, ◌≤◌, cond, nat_lt}
use Rattle.money.specs.Months.{month_count, sum}

-- the instalment of a valid month: the whole quotient, and a cent more in the lowest months until the remainder is used
abbrev pub instalment : ℕ → ℕ → ℕ → ℕ → ℕ
instalment charge first last month =
    charge / month_count first last + cond (nat_lt (month - first) (charge % month_count first last)) 1 0

-- the instalments of the months before this one
abbrev pub earlier : ℕ → ℕ → ℕ → ℕ → ℕ
earlier charge first last month = sum (instalment charge first last) first (month - first)

-- every cent of the charge is in exactly one instalment
abbrev pub SumToCharge : ℕ → ℕ → ℕ → Type 0
SumToCharge charge first last = sum (instalment charge first last) first (month_count first last) ≡ charge

-- no instalment is larger than an earlier one, nor smaller by more than a cent
abbrev pub Even : ℕ → ℕ → ℕ → Type 0
Even charge first last =
    (m n : ℕ) → first ≤ m → m ≤ n → n ≤ last
    → (instalment charge first last n ≤ instalment charge first last m)
    × (instalment charge first last m ≤ instalment charge first last n + 1)
