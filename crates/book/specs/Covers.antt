-- What is left of the holders' free parts while the lines of a proposal are checked.
use Rattle.std.specs.Prelude.{◌≡◌, ℕ, ◌-◌, ◌<◌, List, length, slice_index}
use Rattle.submission.specs.declared.line.Line.{Line}
use Rattle.book.specs.Rights.{asked_of}
use Rattle.book.specs.States.{State, free_part}

-- each holder's free part, less the guarantees of its earlier lines
pub record Left (b : State) (earlier : List Line) (free : List ℕ) : Type 0 where
  pub long : length free ≡ 32
  pub each : (x : ℕ) → x < 32 → slice_index free x ≡ free_part b x - asked_of x earlier
