-- The calendar of the worked example.
use Rattle.std.specs.Prelude.{ℕ, List, [], ◌∷◌, map, replicate, ℤ, pos}
use Rattle.calendar.specs.Figures.{Figures, NodeFigures, LimitFigures, MonthFigures}
use Rattle.calendar.specs.declared.kinds.LimitKind.{LimitKind}
use Rattle.calendar.specs.declared.kinds.LimitKind.TheVariants.{Export, Import}
use Rattle.calendar.specs.declared.kinds.Direction.{Direction}
use Rattle.calendar.specs.declared.kinds.Direction.TheVariants.{Southward, Northward}

-- a node in an area, with one price in every month
abbrev pub priced_node : ℕ → ℤ → NodeFigures
priced_node area price = record { area = area; prices = replicate 12 price }

-- a limit of area 1, with one value in every month and the marks of all thirty pairs
abbrev pub full_limit : LimitKind → Direction → ℕ → LimitFigures
full_limit kind direction value = record { kind = kind; area = 1; direction = direction; values = replicate 12 value; row = 1073741823 }

-- a month of 744 hours, with its pay day
abbrev pub long_month : ℕ → MonthFigures
long_month day = record { hours = 744; pay_day = day }

-- month m is paid on day 10 × m
abbrev pub worked_months : List MonthFigures
worked_months = map long_month (10 ∷ 20 ∷ 30 ∷ 40 ∷ 50 ∷ 60 ∷ 70 ∷ 80 ∷ 90 ∷ 100 ∷ 110 ∷ 120 ∷ [])

-- the months alone, before nodes and limits
abbrev pub months_alone : Figures
months_alone = record { nodes = []; limits = []; months = worked_months }

-- three nodes in areas 1 to 3, and what may leave and enter area 1
abbrev pub worked_calendar : Figures
worked_calendar =
    record {
      nodes = priced_node 1 (pos 50000) ∷ priced_node 2 (pos 60000) ∷ priced_node 3 (pos 60000) ∷ [];
      limits = full_limit Export Southward 300000 ∷ full_limit Import Northward 200000 ∷ [];
      months = worked_months;
    }
