-- What the writer answers.
use Rattle.std.specs.Prelude.{◌≡◌, ℕ, ◌<◌, List, ◌++◌, length, take, drop, Ok, Err, Result}
use Rattle.terms.specs.declared.refusal.Refusal.{Refusal}
use Rattle.terms.specs.declared.refusal.Refusal.TheVariants.{Unwritable}
use Rattle.submission.specs.declared.line.Line.{Line}
use Rattle.submission.specs.Submissions.{encode, Writable, Submission, decode}

-- n words were written at the front of a buffer that held `was` and now holds `is`: the lines, which are read back from them
pub record Written (ls : List Line) (was is : List ℕ) (n : ℕ) : Type 0 where
  pub writable : Writable ls
  pub count : n ≡ length (encode ls)
  pub words : is ≡ encode ls ++ drop n was
  pub whole : Submission (take n is)
  pub back : decode (take n is) ≡ ls

-- the lines cannot be written, or the buffer is too short for them; it is as it was
pub record NotWritten (ls : List Line) (was is : List ℕ) (e : Refusal) : Type 0 where
  pub refusal : e ≡ Unwritable
  pub reason : Writable ls → length was < length (encode ls)
  pub same : is ≡ was

abbrev pub Writes : List Line → List ℕ → List ℕ → Result ℕ Refusal → Type 0
Writes ls was is (Ok n) = Written ls was is n
Writes ls was is (Err e) = NotWritten ls was is e
