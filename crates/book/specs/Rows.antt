-- The rows of a book's table.
use Rattle.std.specs.Prelude.{Bool, true, ◌&&◌, List, [], ◌∷◌, nat_le}
use Rattle.terms.specs.Ranges.{most_power}
use Rattle.book.specs.declared.right.Right.{Right}
use Rattle.book.specs.declared.right.Standing.TheVariants.{Provisional}

-- a row with no right
abbrev pub empty : Right
empty = record {
  serial = 0;
  line = record { holder = 0; injection = 0; withdrawal = 0; first = 0; last = 0; power = 0; offer = 0; charge = 0 };
  standing = Provisional;
}

-- no row has more than 1,000,000 kilowatts
abbrev pub all_small : List Right → Bool
all_small [] = true
all_small (r ∷ rs) = nat_le r.line.power most_power && all_small rs
