-- What the bytes of an input are read as.
use Rattle.std.specs.Prelude.{◌≡◌, ℕ, ◌≤◌, List, ◌++◌, length, take, Ok, Err, Result}
use Rattle.terms.specs.declared.refusal.Refusal.{Refusal}
use Rattle.terms.specs.declared.table.Table.{Table}
use Rattle.terms.specs.Tables.{held}
use Rattle.report.specs.declared.input.InputWords.{InputWords}
use Rattle.report.specs.Inputs.{whole_words, Accepted, RefusedBytes}

-- the words that were read
abbrev pub words_in : InputWords → List ℕ
words_in w = held w.words

-- the table holds the whole words at the front of the bytes, 130 at most
abbrev pub FrontOf : List ℕ → Table ℕ 130 → Type 0
FrontOf bs t = held t ≡ take 130 (whole_words bs)

-- what the bytes are read as: their words if they are a submission, else a refusal
abbrev pub ReadAs : List ℕ → Result InputWords Refusal → Type 0
ReadAs bs (Ok w) = Accepted bs × (words_in w ≡ whole_words bs)
ReadAs bs (Err e) = RefusedBytes bs e

-- 521 bytes decide, whatever follows them
abbrev pub ReadDecided : List ℕ → Result InputWords Refusal → Type 0
ReadDecided bs r = (rest : List ℕ) → 521 ≤ length bs → ReadAs (bs ++ rest) r
