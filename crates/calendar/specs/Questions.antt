-- What a question of a calendar answers.
use Rattle.std.specs.Prelude.{◌≡◌, Ok, Err, Result}
use Rattle.terms.specs.declared.refusal.Refusal.{Refusal}
use Rattle.terms.specs.declared.refusal.Refusal.TheVariants.{CalendarValue}

-- x where what is named is there, else the refusal
abbrev pub Answers : {A : Type 0} → Type 0 → A → Result A Refusal → Type 0
Answers Named x (Ok y) = Named × (y ≡ x)
Answers Named x (Err e) = (Named → ⊥) × (e ≡ CalendarValue)

-- a value that is so where what is named is there, else the refusal
abbrev pub AnswersOne : {A : Type 0} → Type 0 → (A → Type 0) → Result A Refusal → Type 0
AnswersOne Named So (Ok y) = Named × So y
AnswersOne Named So (Err e) = (Named → ⊥) × (e ≡ CalendarValue)
