-- What the result of a call says of its defined outcome, and of the ledger.
use Rattle.std.specs.Prelude.{◌≡◌, Ok, Err, Result}
use Rattle.terms.specs.declared.refusal.Refusal.{Refusal}
use Rattle.book.specs.declared.ledger.Ledger.{Ledger}
use Rattle.book.specs.declared.award.AwardNumbers.{AwardNumbers}
use Rattle.book.specs.declared.award.Returned.{Returned}
use Rattle.book.specs.declared.answers.Annulment.{Annulment}
use Rattle.book.specs.States.{State}
use Rattle.book.specs.Calls.{Answer, Outcome}
use Rattle.book.specs.Calls.Answer.{Awarded, Annulled, Refused}

-- the outcome's answer is the one that the result stands for, and its state the one after
abbrev pub Gives : {X : Type 0} → (X → Answer) → Outcome → Result X Refusal → State → Type 0
Gives made o (Ok x) after = (o.answer ≡ made x) × (o.after ≡ after)
Gives made o (Err e) after = (o.answer ≡ Refused e) × (o.after ≡ after)

-- a refusal leaves the whole ledger as it was
abbrev pub Untouched : {X : Type 0} → Result X Refusal → Ledger → Ledger → Type 0
Untouched (Ok x) before after = Unit {0}
Untouched (Err e) before after = after ≡ before

-- the same of a call that takes an award
abbrev pub LeftAsIs : Result (Unit {0}) Returned → Ledger → Ledger → Type 0
LeftAsIs (Ok _) before after = Unit {0}
LeftAsIs (Err back) before after = after ≡ before

-- the answer that the numbers of an award stand for, and that of an annulment
abbrev pub awarded : AwardNumbers → Answer
awarded a = Awarded a.book a.first a.lines

abbrev pub annulled : Annulment → Answer
annulled a = Annulled a.taking a.write_off
