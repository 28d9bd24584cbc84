-- A change of what was added last.
use Rattle.std.proofs.Common.{◌≡◌, List, [], ◌∷◌, ◌++◌, length, refl, ap}
use Rattle.calendar.specs.Calls.{changed}

pub at_last : {A : Type 0} (f : A → A) (xs : List A) (x : A) → changed (length xs) f (xs ++ x ∷ []) ≡ xs ++ f x ∷ []
at_last f [] x = refl
at_last f (y ∷ ys) x = ap (λ l. y ∷ l) (at_last f ys x)
