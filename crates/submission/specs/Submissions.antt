-- What a submission is, and where words break its form.
use Rattle.std.specs.Prelude.{◌≡◌, ℕ, zero, suc, ◌+◌, ◌-◌, ◌*◌, ◌≤◌, List, [], ◌∷◌, ◌++◌, length, take, drop, slice_index}
use Rattle.std.specs.List.{flat_map, AllByRecursion}
use Rattle.terms.specs.Ranges.{most_lines}
use Rattle.terms.specs.declared.refusal.Refusal.{Refusal}
use Rattle.terms.specs.declared.refusal.Refusal.TheVariants.{Form}
use Rattle.submission.specs.declared.line.Line.{Line}
use Rattle.submission.specs.Words.{word, payload, words_of, line_of, Fits}

-- the lines as words: an opening word with their number, the words of each, and a closing word with the number of words before it
abbrev pub encode : List Line → List ℕ
encode ls = (word 1 (length ls) ∷ flat_map words_of ls) ++ word 15 (8 * length ls + 1) ∷ []

-- lines that can be written: 1 to 16, and each fits
pub record Writable (ls : List Line) : Type 0 where
  pub some : 1 ≤ length ls
  pub few : length ls ≤ most_lines
  pub fit : AllByRecursion Fits ls

-- a submission: the words of some lines
abbrev pub Submission : List ℕ → Type 0
Submission ws = (ls : List Line) × Writable ls × (ws ≡ encode ls)

-- these words begin some submission
abbrev pub Begins : List ℕ → Type 0
Begins ws = (ls : List Line) × (rest : List ℕ) × Writable ls × (encode ls ≡ ws ++ rest)

-- the longest part of ws, from the front, that begins some submission has n words
pub record Sound (ws : List ℕ) (n : ℕ) : Type 0 where
  pub within : n ≤ length ws
  pub begins : Begins (take n ws)
  pub longest : (k : ℕ) → k ≤ length ws → Begins (take k ws) → k ≤ n

-- ws is no submission, and p, from 1, is the place of the first word that breaks its form, or one past the end where the
-- words stop early
pub record Breaks (ws : List ℕ) (p : ℕ) : Type 0 where
  pub from : 1 ≤ p
  pub sound : Sound ws (p - 1)
  pub none : Submission ws → ⊥

-- the refusal of words that are no submission
abbrev pub RefusedForm : List ℕ → Refusal → Type 0
RefusedForm ws e = (p : ℕ) × (e ≡ Form p) × Breaks ws p

-- the lines that n times eight words stand for
abbrev pub lines_of : ℕ → List ℕ → List Line
lines_of zero ws = []
lines_of (suc n) ws = line_of ws ∷ lines_of n (drop 8 ws)

-- the lines of a submission
abbrev pub decode : List ℕ → List Line
decode ws = lines_of (payload (slice_index ws 0)) (drop 1 ws)
