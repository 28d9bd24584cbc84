-- The floor of an offer: what prices say that power from node to node is worth, and never less than nothing.
use Rattle.std.specs.Prelude.{ℕ, ◌*◌, Bool, ℤ, pos, negsuc, ◌+ℤ◌, ◌-ℤ◌, ◌*ℤ◌, nat_le}
use Rattle.calendar.specs.Figures.{Figures, HasNode, hours, price}
use Rattle.money.specs.Months.{month_count, over_months}

-- the rule for a month, with sign: how far the withdrawal price is above the injection price, for each kilowatt-hour
abbrev pub month_worth : Figures → ℕ → ℕ → ℕ → ℕ → ℤ
month_worth cal injection withdrawal power month =
    (price cal withdrawal month -ℤ price cal injection month) *ℤ pos (power * hours cal month)

-- f a + f (a + 1) + .., n months in all, with sign
abbrev pub signed_sum : (ℕ → ℤ) → ℕ → ℕ → ℤ
signed_sum f a n = over_months (λ x y. x +ℤ y) (pos 0) f a n

-- over all valid months
abbrev pub worth : Figures → ℕ → ℕ → ℕ → ℕ → ℕ → ℤ
worth cal first last injection withdrawal power =
    signed_sum (month_worth cal injection withdrawal power) first (month_count first last)

-- 0 in place of a negative number
abbrev pub cut : ℤ → ℕ
cut (pos n) = n
cut (negsuc n) = 0

-- the floor, in ten-thousandths of a cent: a month of a negative worth lowers it, and only the whole sum is cut at 0
abbrev pub floor : Figures → ℕ → ℕ → ℕ → ℕ → ℕ → ℕ
floor cal first last injection withdrawal power = cut (worth cal first last injection withdrawal power)

-- whether an offer in cents reaches a floor
abbrev pub reaches : ℕ → ℕ → Bool
reaches offer least = nat_le least (offer * 10000)

abbrev pub HasNodes : Figures → ℕ → ℕ → Type 0
HasNodes cal injection withdrawal = HasNode cal injection × HasNode cal withdrawal
