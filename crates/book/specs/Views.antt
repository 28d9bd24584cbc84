-- The state that a ledger is.
use Rattle.std.specs.Prelude.{ℕ, List, take}
use Rattle.std.specs.Option.{option_map}
use Rattle.book.specs.declared.right.Right.{Right}
use Rattle.book.specs.declared.rights.Rights.{Rights}
use Rattle.book.specs.declared.ledger.Pending.{Pending}
use Rattle.book.specs.declared.ledger.Ledger.{Ledger}
use Rattle.book.specs.States.{State}

-- the rights of a table: its rows up to the count
abbrev pub rights : Rights → List Right
rights t = take t.count t.rows

-- the open award's two numbers
abbrev pub numbers : Pending → ℕ × ℕ
numbers p = (p.first, p.lines)

abbrev pub view : Ledger → State
view l =
    record {
      number = l.number;
      day = l.day;
      next = l.next;
      pending = option_map numbers l.pending;
      rights = rights l.rights;
      balances = l.balances;
    }
