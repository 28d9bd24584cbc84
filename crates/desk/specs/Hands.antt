-- The award in hand, beside the book that gave it.
use Rattle.std.specs.Prelude.{Bool, not, is_some, Some, None, Option}
use Rattle.book.specs.declared.award.Award.{Award}
use Rattle.book.specs.States.{State}
use Rattle.book.specs.Checks.{is_open}

-- the award in hand is the one that is open, and none is in hand where none is open
abbrev pub in_hand : Option Award → State → Bool
in_hand None b = not (is_some b.pending)
in_hand (Some a) b = is_open b.number a.numbers.book a.numbers.first a.numbers.lines b.pending
