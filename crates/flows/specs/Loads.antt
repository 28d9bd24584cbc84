-- Rights at a limit in a month: which of them count, and the load, which is the sum of their worst flows.
use Rattle.std.specs.Prelude.{ℕ, ◌+◌, Bool, cond, ◌&&◌, List, [], ◌∷◌, length, ℤ, pos, ◌+ℤ◌, Some, None, Ok, Err, Option, Result, nat_le}
use Rattle.terms.specs.declared.refusal.Refusal.{Refusal}
use Rattle.terms.specs.declared.refusal.Refusal.TheVariants.{BadLine, NoFactor, NoRoom}
use Rattle.terms.specs.Ranges.{most_power}
use Rattle.flows.specs.declared.load.RightAtLimit.{RightAtLimit}
use Rattle.flows.specs.Factors.{Meaning}

-- a month is valid from the right's first month to its last
abbrev pub valid : ℕ → RightAtLimit → Bool
valid month right = nat_le right.first month && nat_le month right.last

-- a limit counts a right in its valid months where it marks the right's pair
abbrev pub counts : ℕ → RightAtLimit → Bool
counts month right = valid month right && right.marked

-- the factor that a source means for a right
abbrev pub factor_of : Meaning → ℕ → ℕ → RightAtLimit → Option ℤ
factor_of means month limit right = means month limit right.injection right.withdrawal

-- the worst flow of a power at a factor, 0 where there is no factor
abbrev pub worst_at : (ℕ → ℤ → ℤ) → ℕ → Option ℤ → ℤ
worst_at worst power (Some f) = worst power f
worst_at worst power None = pos 0

-- the worst flow of a right, 0 where the limit does not count it
abbrev pub worst_of : Meaning → (ℕ → ℤ → ℤ) → ℕ → ℕ → RightAtLimit → ℤ
worst_of means worst month limit right =
    cond (counts month right) (worst_at worst right.power (factor_of means month limit right)) (pos 0)

-- the load: the sum of the worst flows
abbrev pub load : Meaning → (ℕ → ℤ → ℤ) → ℕ → ℕ → List RightAtLimit → ℤ
load means worst month limit [] = pos 0
load means worst month limit (right ∷ rights) = worst_of means worst month limit right +ℤ load means worst month limit rights

-- no factor is a fault of the right at this place
abbrev pub lacking : ℕ → ℕ → ℕ → Option ℤ → Option Refusal
lacking place month limit (Some f) = None
lacking place month limit None = Some (NoFactor place month limit)

-- the fault of the right at a place: a power over 1,000,000 kW, or no factor although the limit counts the right
abbrev pub fault : Meaning → ℕ → ℕ → ℕ → RightAtLimit → Option Refusal
fault means month limit place right =
    cond (nat_le right.power most_power)
    (cond (counts month right) (lacking place month limit (factor_of means month limit right)) None)
    (Some (BadLine place))

infixr 20 ◌else◌
-- the first of two faults
abbrev pub ◌else◌ : Option Refusal → Option Refusal → Option Refusal
Some e else later = Some e
None else later = later

-- the first fault of the rights, whose places are counted from this one
abbrev pub first_fault : Meaning → ℕ → ℕ → ℕ → List RightAtLimit → Option Refusal
first_fault means month limit place [] = None
first_fault means month limit place (right ∷ rights) =
    fault means month limit place right else first_fault means month limit (place + 1) rights

-- a load sums up at most 1,000,000 rights, as many as a book has serials
abbrev pub most_rights : ℕ
most_rights = 1000000

-- why the rights have no load: there are too many of them, or one of them, counted from 1, has a fault
abbrev pub no_load : Meaning → ℕ → ℕ → List RightAtLimit → Option Refusal
no_load means month limit rights = cond (nat_le (length rights) most_rights) (first_fault means month limit 1 rights) (Some NoRoom)

-- the refusal where there is one, else the value
abbrev pub judged : Option Refusal → ℤ → Result ℤ Refusal
judged (Some e) value = Err e
judged None value = Ok value
