-- The guarantee that an offer asks.
use Rattle.std.specs.Prelude.{ℕ, ◌+◌, ◌-◌, ◌*◌, ◌/◌, ◌≤◌, cond, ◌==◌}
use Rattle.money.specs.Months.{month_count}

-- a fifth of the offer for one month, a tenth for more
abbrev pub fraction : ℕ → ℕ → ℕ
fraction first last = cond (month_count first last == 1) 5 10

-- that part of the offer, rounded up
abbrev pub guarantee : ℕ → ℕ → ℕ → ℕ
guarantee offer first last = (offer + (fraction first last - 1)) / fraction first last

-- g is the least whole number of cents that, taken this many times, is at least the offer
abbrev pub LeastCover : ℕ → ℕ → ℕ → Type 0
LeastCover times offer g = (offer ≤ times * g) × ((h : ℕ) → offer ≤ times * h → g ≤ h)
