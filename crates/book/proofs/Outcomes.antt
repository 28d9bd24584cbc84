-- Outcomes, by what their checks say.
use Rattle.std.proofs.Common.{◌≡◌, Some, None, Option, sym, refl, subst}
use Rattle.terms.specs.declared.refusal.Refusal.{Refusal}
use Rattle.book.specs.States.{State}
use Rattle.book.specs.Calls.{Answer, Outcome, outcome}
use Rattle.book.specs.Calls.Answer.{Refused}

-- an outcome's answer and the state after it
abbrev pub Is : Outcome → Answer → State → Type 0
Is o a after = (o.answer ≡ a) × (o.after ≡ after)

pub granted : (f : Option Refusal) (b : State) (a : Answer) (after : State) → f ≡ None → Is (outcome f b a after) a after
granted f b a after e = subst (λ g. Is (outcome g b a after) a after) (sym e) (refl, refl)

pub refused_by : (f : Option Refusal) (b : State) (a : Answer) (after : State) (e : Refusal) → f ≡ Some e → Is (outcome f b a after) (Refused e) b
refused_by f b a after e h = subst (λ g. Is (outcome g b a after) (Refused e) b) (sym h) (refl, refl)
