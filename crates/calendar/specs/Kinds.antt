-- The numbers of kinds and directions.
use Rattle.std.specs.Prelude.{ℕ, cond, Some, None, Option, ◌==◌}
use Rattle.calendar.specs.declared.kinds.LimitKind.{LimitKind}
use Rattle.calendar.specs.declared.kinds.LimitKind.TheVariants.{Export, Import, Wheeling}
use Rattle.calendar.specs.declared.kinds.Direction.{Direction}
use Rattle.calendar.specs.declared.kinds.Direction.TheVariants.{Southward, Northward}

-- the kind of limit with this number, if there is one
abbrev pub kind_numbered : ℕ → Option LimitKind
kind_numbered n = cond (n == 1) (Some Export) (cond (n == 2) (Some Import) (cond (n == 3) (Some Wheeling) None))

-- the direction with this number, if there is one
abbrev pub direction_numbered : ℕ → Option Direction
direction_numbered n = cond (n == 1) (Some Southward) (cond (n == 2) (Some Northward) None)

-- the number of a kind, and of a direction
abbrev pub number_of_kind : LimitKind → ℕ
number_of_kind Export = 1
number_of_kind Import = 2
number_of_kind Wheeling = 3

abbrev pub number_of_direction : Direction → ℕ
number_of_direction Southward = 1
number_of_direction Northward = 2
