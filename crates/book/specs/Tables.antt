-- What the table of rights answers, and what it becomes, by places.
use Rattle.std.specs.Prelude.{◌≡◌, ℕ, ◌+◌, ◌<◌, true, false, List, ◌++◌, length, Some, take, drop, ◌≢◌, slice_index_or}
use Rattle.book.specs.declared.right.Right.{Right}
use Rattle.book.specs.Rows.{empty}
use Rattle.book.specs.Rights.{is_in_force, right_of}

-- the rights without the one at a place
abbrev pub removed : ℕ → List Right → List Right
removed at rs = take at rs ++ drop (at + 1) rs

-- the place of the first right that has a serial
pub record FirstAt (s : ℕ) (rs : List Right) (at : ℕ) : Type 0 where
  pub inside : at < length rs
  pub its : (slice_index_or rs at empty).serial ≡ s
  pub none_before : (k : ℕ) → k < at → (slice_index_or rs k empty).serial ≢ s

-- the right in force that has a serial, and its place
pub record InForceAt (s : ℕ) (rs : List Right) (at : ℕ) (r : Right) : Type 0 where
  pub first : FirstAt s rs at
  pub there : slice_index_or rs at empty ≡ r
  pub its : right_of s rs ≡ Some r
  pub live : is_in_force r ≡ true

-- no right in force has the serial
abbrev pub NoneInForce : ℕ → List Right → Type 0
NoneInForce s rs = (r : Right) → right_of s rs ≡ Some r → is_in_force r ≡ false
