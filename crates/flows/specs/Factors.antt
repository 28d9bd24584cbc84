-- What a factor is: the signed flow, in millionths of a kilowatt, for each kilowatt that a right uses.
use Rattle.std.specs.Prelude.{ℕ, cond, ◌&&◌, ℤ, pos, neg_ℤ, ◌≤ℤ◌, Some, None, Option, int_le}
use Rattle.terms.specs.Ranges.{most_factor}

-- a factor lies within ±2,000,000
abbrev pub InFactorRange : ℤ → Type 0
InFactorRange f = (neg_ℤ (pos most_factor) ≤ℤ f) × (f ≤ℤ pos most_factor)

-- a number from -n to n
abbrev pub Near : ℕ → ℤ → Type 0
Near n z = (neg_ℤ (pos n) ≤ℤ z) × (z ≤ℤ pos n)

-- a source means a factor in its range, or none
abbrev pub Ranged : Option ℤ → Type 0
Ranged (Some f) = InFactorRange f
Ranged None = Unit {0}

-- what a source means: a factor for a month, a limit, an injection node and a withdrawal node, or none
abbrev pub Meaning : Type 0
Meaning = ℕ → ℕ → ℕ → ℕ → Option ℤ

-- a number from -most to most counts, and one beyond is none
abbrev pub kept : ℤ → ℤ → Option ℤ
kept most n = cond (int_le (neg_ℤ most) n && int_le n most) (Some n) None
