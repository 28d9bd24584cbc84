-- Checks in turn, of which the first that refuses decides.
use Rattle.std.specs.Prelude.{◌≡◌, ℕ, zero, suc, ◌^◌, ◌<◌, Bool, cond, Some, None, Ok, Err, Option, Result}
use Rattle.terms.specs.declared.refusal.Refusal.{Refusal}
use Rattle.calendar.specs.Values.{IsMonth}

infixr 50 ◌then◌
abbrev pub ◌then◌ : Option Refusal → Option Refusal → Option Refusal
None then later = later
Some e then later = Some e

abbrev pub refuse_if : Bool → Refusal → Option Refusal
refuse_if test e = cond test (Some e) None

-- the first refusal of n numbers from k on
unfoldable pub first_of : (ℕ → Option Refusal) → ℕ → ℕ → Option Refusal
first_of check k zero = None
first_of check k (suc n) = check k then first_of check (suc k) n

-- the answer of a check: nothing to say, or its refusal
abbrev pub told : Option Refusal → Result (Unit {0}) Refusal
told None = Ok tt
told (Some e) = Err e

-- what the calls of a check at a month and a limit answer is what a definition says
abbrev pub Describes : (ℕ → ℕ → Result (Unit {0}) Refusal → Type 0) → (ℕ → ℕ → Option Refusal) → Type 0
Describes called f = (month limit : ℕ) (r : Result (Unit {0}) Refusal) → IsMonth month → limit < 2 ^ 32 → called month limit r → r ≡ told (f month limit)
