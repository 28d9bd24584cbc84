-- The thirty pairs of areas.
use Rattle.std.specs.Prelude.{◌≡◌, ℕ, ◌+◌, ◌-◌, ◌*◌, cond, nat_lt}
use Rattle.terms.specs.declared.pair.Pair.{Pair}

-- the number of the pair with this injection area and this other withdrawal area: five pairs for each injection area,
-- in the order of both, so 1-2 to 1-6 are 0 to 4, then 2-1, 2-3 and on to 6-5, which is 29
abbrev pub pair_number : ℕ → ℕ → ℕ
pair_number injection withdrawal =
    5 * (injection - 1) + cond (nat_lt withdrawal injection) (withdrawal - 1) (withdrawal - 2)

abbrev pub number_of : Pair → ℕ
number_of p = pair_number p.injection.number p.withdrawal.number

-- two pairs of the same areas
abbrev pub SamePair : Pair → Pair → Type 0
SamePair p q = (p.injection.number ≡ q.injection.number) × (p.withdrawal.number ≡ q.withdrawal.number)
