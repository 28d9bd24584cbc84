-- What is wrong with a line by itself.
use Rattle.std.specs.Prelude.{ℕ, Bool, not, ◌&&◌, Option, ◌==◌, nat_le, nat_lt}
use Rattle.terms.specs.declared.refusal.Refusal.{Refusal}
use Rattle.terms.specs.declared.refusal.Refusal.TheVariants.{BadLine, BelowFloor}
use Rattle.terms.specs.Ranges.{months, most_power}
use Rattle.submission.specs.declared.line.Line.{Line}
use Rattle.calendar.specs.Figures.{Figures, node_count, area_of}
use Rattle.money.specs.Floors.{floor, reaches}
use Rattle.book.specs.Refusing.{◌then◌, refuse_if}

-- there are 32 holders, from 0, and an offer is at most 2,000,000,000,000 cents
abbrev pub holders : ℕ
holders = 32

abbrev pub most_offer : ℕ
most_offer = 2000000000000

-- both nodes are there, in different areas
abbrev pub nodes_stand : Figures → Line → Bool
nodes_stand f x =
    nat_lt x.injection (node_count f)
    && (nat_lt x.withdrawal (node_count f) && not (area_of f x.injection == area_of f x.withdrawal))

-- the months are months of the year, the first not after the last
abbrev pub months_stand : Line → Bool
months_stand x = nat_le 1 x.first && (nat_le x.first x.last && nat_le x.last months)

-- power, offer and charge are in their ranges
abbrev pub amounts_stand : Line → Bool
amounts_stand x =
    nat_le 1 x.power && (nat_le x.power most_power && (nat_le x.offer most_offer && nat_le x.charge x.offer))

abbrev pub line_stands : Figures → Line → Bool
line_stands f x = nat_lt x.holder holders && (nodes_stand f x && (months_stand x && amounts_stand x))

-- whether the offer reaches the floor
abbrev pub reaches_floor : Figures → Line → Bool
reaches_floor f x = reaches x.offer (floor f x.first x.last x.injection x.withdrawal x.power)

-- the fault of the line at a place, by itself: its numbers, then its offer
unfoldable pub line_fault : Figures → ℕ → Line → Option Refusal
line_fault f place x =
    refuse_if (not (line_stands f x)) (BadLine place) then refuse_if (not (reaches_floor f x)) (BelowFloor place)
