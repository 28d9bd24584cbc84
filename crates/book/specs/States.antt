-- The state of a book, and how it changes.
use Rattle.std.specs.Prelude.{ℕ, ◌+◌, ◌-◌, List, [], ◌++◌, length, replicate, Some, None, Option, slice_index, slice_set}
use Rattle.submission.specs.declared.line.Line.{Line}
use Rattle.book.specs.declared.right.Right.{Right}
use Rattle.book.specs.Rights.{held_of, numbered}

pub record State : Type 0 where
  pub number : ℕ  -- the book's number
  pub day : ℕ
  pub next : ℕ  -- the next serial
  pub pending : Option (ℕ × ℕ)  -- the award that is open: its first serial, and how many lines
  pub rights : List Right  -- those not gone, in the order of their serials
  pub balances : List ℕ  -- of the 32 holders

-- a book just made
abbrev pub fresh : ℕ → State
fresh n = record { number = n; day = 0; next = 1; pending = None; rights = []; balances = replicate 32 0 }

abbrev pub balance : State → ℕ → ℕ
balance b x = slice_index b.balances x

-- what of a holder's balance no guarantee holds
abbrev pub free_part : State → ℕ → ℕ
free_part b x = balance b x - held_of x b.rights

-- these rights, and an award of so many lines open from a serial on
abbrev pub opened : State → List Right → ℕ → ℕ → State
opened b rs first lines = record { number = b.number; day = b.day; next = b.next + lines; pending = Some (first, lines); rights = rs; balances = b.balances }

-- the lines entered as provisional rights, and their award open
abbrev pub entered : State → List Line → State
entered b ls = record { number = b.number; day = b.day; next = b.next + length ls; pending = Some (b.next, length ls); rights = b.rights ++ numbered b.next ls; balances = b.balances }

-- no award open, and these rights
abbrev pub closed : State → List Right → State
closed b rs = record { number = b.number; day = b.day; next = b.next; pending = None; rights = rs; balances = b.balances }

abbrev pub with_rights : State → List Right → State
with_rights b rs = record { number = b.number; day = b.day; next = b.next; pending = b.pending; rights = rs; balances = b.balances }

abbrev pub with_balance : State → ℕ → ℕ → State
with_balance b x n = record { number = b.number; day = b.day; next = b.next; pending = b.pending; rights = b.rights; balances = slice_set b.balances x n }

abbrev pub with_day : State → ℕ → State
with_day b d = record { number = b.number; day = d; next = b.next; pending = b.pending; rights = b.rights; balances = b.balances }
