-- What the bytes of an input decide.
use Rattle.std.specs.Prelude.{◌≡◌, ℕ, ◌+◌, ◌-◌, ◌*◌, ◌%◌, ◌≤◌, List, [], ◌∷◌, ◌++◌, length, Ok, Err, Result}
use Rattle.terms.specs.declared.refusal.Refusal.{Refusal}
use Rattle.terms.specs.declared.refusal.Refusal.TheVariants.{Form}
use Rattle.submission.specs.Submissions.{Submission, Sound, RefusedForm, decode}
use Rattle.report.specs.declared.outcome.WellFormed.{WellFormed}

-- the words of the bytes, four bytes each, the highest first; a last word of fewer bytes is left out
abbrev pub whole_words : List ℕ → List ℕ
whole_words [] = []
whole_words (a ∷ []) = []
whole_words (a ∷ b ∷ []) = []
whole_words (a ∷ b ∷ c ∷ []) = []
whole_words (a ∷ b ∷ c ∷ d ∷ bs) = (a * 16777216 + b * 65536 + c * 256 + d) ∷ whole_words bs

-- the last word is whole
abbrev pub Whole : List ℕ → Type 0
Whole bs = length bs % 4 ≡ 0

-- the bytes are a submission
abbrev pub Accepted : List ℕ → Type 0
Accepted bs = Whole bs × Submission (whole_words bs)

-- the bytes are no submission, and p, from 1, is the place of the first word that breaks the form: it follows the most whole
-- words that begin some submission, and may be a last word that is not whole, or one past the end
pub record Broken (bs : List ℕ) (p : ℕ) : Type 0 where
  pub none : Accepted bs → ⊥
  pub from : 1 ≤ p
  pub sound : Sound (whole_words bs) (p - 1)

-- the refusal of bytes that are no submission
abbrev pub RefusedBytes : List ℕ → Refusal → Type 0
RefusedBytes bs e = (p : ℕ) × (e ≡ Form p) × Broken bs p

-- the verdict on the bytes of an input
abbrev pub Judged : List ℕ → Result WellFormed Refusal → Type 0
Judged bs (Ok form) = Accepted bs × (form.lines ≡ length (decode (whole_words bs)))
Judged bs (Err e) = RefusedBytes bs e

-- the verdict on whole words
abbrev pub WordsJudged : List ℕ → Result WellFormed Refusal → Type 0
WordsJudged ws (Ok form) = Submission ws × (form.lines ≡ length (decode ws))
WordsJudged ws (Err e) = RefusedForm ws e

-- 521 bytes decide, whatever follows them
abbrev pub Decided : List ℕ → Result WellFormed Refusal → Type 0
Decided bs v = (rest : List ℕ) → 521 ≤ length bs → Judged (bs ++ rest) v
