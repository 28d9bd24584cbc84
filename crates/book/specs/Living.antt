-- One call more on a book that has a history behind it.
use Rattle.std.specs.Prelude.{◌≡◌, ℕ, ◌∷◌, Ok, Err, Result}
use Rattle.terms.specs.declared.refusal.Refusal.{Refusal}
use Rattle.book.specs.declared.award.Award.{Award}
use Rattle.book.specs.declared.award.Returned.{Returned}
use Rattle.book.specs.Market.{Market}
use Rattle.book.specs.States.{State}
use Rattle.book.specs.Calls.{Call, Answer, Outcome}
use Rattle.book.specs.Calls.Answer.{Refused}
use Rattle.book.specs.Events.{Event}
use Rattle.book.specs.Histories.{History, Lived}
use Rattle.book.specs.StatedFindings.{FindingsAsStated}

-- the answer that a result stands for
abbrev pub answered : {X : Type 0} → (X → Answer) → Result X Refusal → Answer
answered granted (Ok x) = granted x
answered granted (Err e) = Refused e

-- the same of a call that takes an award
abbrev pub settled : Answer → Result (Unit {0}) Returned → Answer
settled granted (Ok _) = granted
settled granted (Err back) = Refused back.refusal

-- a refusal hands the very award back
abbrev pub HandedBack : Award → Result (Unit {0}) Returned → Type 0
HandedBack award (Ok _) = Unit {0}
HandedBack award (Err back) = back.award ≡ award

-- the outcome that is defined has this answer, and this state after it
abbrev pub ComesTo : Outcome → Answer → State → Type 0
ComesTo o answer after = (o.answer ≡ answer) × (o.after ≡ after)

abbrev pub happened : Call → Answer → Event
happened call answer = record { call = call; answer = answer }

-- a book that had lived through a history has lived through one event more, and all findings hold of it
abbrev pub LivesOn : Market → (ℕ → ℕ → Type 0) → State → Call → Answer → State → Type 0
LivesOn m allowed before call answer after =
    (n : ℕ) (h : History) → Lived m n h before →
    Lived m n (happened call answer ∷ h) after × FindingsAsStated m allowed n (happened call answer ∷ h) after
