-- The text of a line.
use Rattle.std.specs.Prelude.{◌≡◌, ℕ, ◌<◌, List, [], ◌∷◌, ◌++◌, length, drop, Ok, Err, codes, decimal, Result}
use Rattle.std.specs.List.{flat_map}
use Rattle.terms.specs.Refusals.{fields_of}
use Rattle.terms.specs.declared.refusal.Fields.{Fields}
use Rattle.terms.specs.declared.refusal.Refusal.{Refusal}
use Rattle.terms.specs.declared.refusal.Refusal.TheVariants.{Unwritable}
use Rattle.report.specs.declared.outcome.WellFormed.{WellFormed}
use Rattle.report.specs.declared.outcome.Accepted.{Accepted}

-- a space and a number in decimal
abbrev pub spaced : ℕ → List ℕ
spaced n = 32 ∷ decimal n

-- numbers in their order
abbrev pub numbers_text : List ℕ → List ℕ
numbers_text ns = flat_map spaced ns

-- a refusal's number, place, month, limit and excess
abbrev pub five_numbers : Fields → List ℕ
five_numbers f = numbers_text (f.number ∷ f.place ∷ f.month ∷ f.limit ∷ f.excess ∷ [])

-- the words of a submission that is well-formed, of one that is accepted, and of a refusal
abbrev pub well_formed_text : WellFormed → List ℕ
well_formed_text w = codes "well-formed" ++ numbers_text (w.lines ∷ [])

abbrev pub accepted_text : Accepted → List ℕ
accepted_text a = codes "accepted" ++ numbers_text (a.first ∷ a.lines ∷ [])

abbrev pub refusal_text : Refusal → List ℕ
refusal_text e = codes "refused" ++ five_numbers (fields_of e)

-- the words of an answer, where `words` are those of what is accepted
abbrev pub text_of : {T : Type 0} → (T → List ℕ) → Result T Refusal → List ℕ
text_of words (Ok x) = words x
text_of words (Err e) = refusal_text e

-- its line, which a newline ends
abbrev pub line_of : {T : Type 0} → (T → List ℕ) → Result T Refusal → List ℕ
line_of words r = text_of words r ++ 10 ∷ []

-- the words of a verdict, and its line
abbrev pub verdict_text : Result WellFormed Refusal → List ℕ
verdict_text v = text_of well_formed_text v

abbrev pub line_text : Result WellFormed Refusal → List ℕ
line_text v = verdict_text v ++ 10 ∷ []

-- the words of a reply, and its line
abbrev pub reply_text : Result Accepted Refusal → List ℕ
reply_text r = text_of accepted_text r

abbrev pub reply_line : Result Accepted Refusal → List ℕ
reply_line r = reply_text r ++ 10 ∷ []

-- the text is put at the front of a buffer that held `was` and now holds `is`, or the buffer is too short and stays as it was
abbrev pub Puts : List ℕ → List ℕ → List ℕ → Result ℕ Refusal → Type 0
Puts text was is (Ok n) = (n ≡ length text) × (is ≡ text ++ drop n was)
Puts text was is (Err e) = (e ≡ Unwritable) × (length was < length text) × (is ≡ was)
