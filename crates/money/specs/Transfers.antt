-- What floors say of a transfer.
use Rattle.std.specs.Prelude.{ℕ, ℤ}
use Rattle.calendar.specs.Figures.{Figures}
use Rattle.money.specs.declared.transfer.Transfer.{Transfer}
use Rattle.money.specs.Floors.{HasNodes, month_worth, worth, floor}

-- its two nodes are there
abbrev pub HasEnds : Figures → Transfer → Type 0
HasEnds cal t = HasNodes cal t.injection t.withdrawal

-- its worth in a month
abbrev pub month_worth_of : Figures → Transfer → ℕ → ℤ
month_worth_of cal t month = month_worth cal t.injection t.withdrawal t.power month

-- its worth over all its months
abbrev pub worth_of : Figures → Transfer → ℤ
worth_of cal t = worth cal t.months.first t.months.last t.injection t.withdrawal t.power

-- the floor of an offer for it
abbrev pub floor_of : Figures → Transfer → ℕ
floor_of cal t = floor cal t.months.first t.months.last t.injection t.withdrawal t.power
