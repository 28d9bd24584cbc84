-- What the two rules allow, and the worst flow of each.
use Rattle.std.specs.Prelude.{◌≡◌, ℕ, ◌≤◌, ℤ, pos, negsuc, ◌*ℤ◌}

-- the firm rule allows every use from 0 to the power
abbrev pub up_to_all : ℕ → ℕ → Type 0
up_to_all power used = used ≤ power

-- the obligation rule allows the whole power, and no other use
abbrev pub all_of : ℕ → ℕ → Type 0
all_of power used = used ≡ power

-- the greater of 0 and a factor
abbrev pub not_below_zero : ℤ → ℤ
not_below_zero (pos n) = pos n
not_below_zero (negsuc n) = pos 0

-- a firm right is at its worst when used whole where it loads the limit, and unused where it relieves it
abbrev pub firm_worst : ℕ → ℤ → ℤ
firm_worst power factor = not_below_zero factor *ℤ pos power

-- an obligation is always used whole, and relieves the limit where its factor is negative
abbrev pub obligation_worst : ℕ → ℤ → ℤ
obligation_worst power factor = factor *ℤ pos power
