-- What each call makes of a calendar.
use Rattle.std.specs.Prelude.{◌≡◌, ℕ, zero, suc, ◌+◌, ◌-◌, ◌<◌, ◌≤◌, true, ◌⊎◌, List, [], ◌∷◌, ◌++◌, replicate, ℤ, pos, is_some, Some, Ok, Err, Result, slice_index, slice_set}
use Rattle.terms.specs.Ranges.{most_limits, most_nodes}
use Rattle.terms.specs.declared.refusal.Refusal.{Refusal}
use Rattle.terms.specs.declared.refusal.Refusal.TheVariants.{CalendarValue, CalendarFull}
use Rattle.calendar.specs.declared.calendar.Calendar.{Calendar}
use Rattle.calendar.specs.Kinds.{kind_numbered, direction_numbered}
use Rattle.calendar.specs.Figures.{Figures, NodeFigures, LimitFigures, MonthFigures, figures, HasNode, HasLimit, node_count, limit_count}
use Rattle.calendar.specs.Values.{IsArea, IsHours, IsMonth, IsPayDay, IsPrice, IsRow, IsValue}

-- the list with f of what stands at place i, from 0, in its stead
abbrev pub changed : {A : Type 0} → ℕ → (A → A) → List A → List A
changed i f [] = []
changed zero f (x ∷ xs) = f x ∷ xs
changed (suc i) f (x ∷ xs) = x ∷ changed i f xs

-- a calendar with nothing in it
abbrev pub empty_figures : Figures
empty_figures = record { nodes = []; limits = []; months = replicate 12 (record { hours = 0; pay_day = 0 }) }

-- one more node
abbrev pub with_node : Figures → NodeFigures → Figures
with_node f node = record { nodes = f.nodes ++ node ∷ []; limits = f.limits; months = f.months }

-- a node with no prices yet
abbrev pub new_node : ℕ → NodeFigures
new_node area = record { area = area; prices = replicate 12 (pos 0) }

-- one more limit
abbrev pub with_limit : Figures → LimitFigures → Figures
with_limit f limit = record { nodes = f.nodes; limits = f.limits ++ limit ∷ []; months = f.months }

-- another price of a node in a month
abbrev pub repriced : ℕ → ℤ → NodeFigures → NodeFigures
repriced month price n = record { area = n.area; prices = slice_set n.prices (month - 1) price }

abbrev pub with_price : Figures → ℕ → ℕ → ℤ → Figures
with_price f node month price =
    record { nodes = changed node (repriced month price) f.nodes; limits = f.limits; months = f.months }

-- other hours of a month
abbrev pub rehoured : ℕ → MonthFigures → MonthFigures
rehoured hours m = record { hours = hours; pay_day = m.pay_day }

abbrev pub with_hours : Figures → ℕ → ℕ → Figures
with_hours f month hours =
    record { nodes = f.nodes; limits = f.limits; months = changed (month - 1) (rehoured hours) f.months }

-- another pay day of a month
abbrev pub redated : ℕ → MonthFigures → MonthFigures
redated day m = record { hours = m.hours; pay_day = day }

abbrev pub with_pay_day : Figures → ℕ → ℕ → Figures
with_pay_day f month day =
    record { nodes = f.nodes; limits = f.limits; months = changed (month - 1) (redated day) f.months }

-- another row of a limit
abbrev pub rerowed : ℕ → LimitFigures → LimitFigures
rerowed row l =
    record { kind = l.kind; area = l.area; direction = l.direction; values = l.values; row = row }

abbrev pub with_row : Figures → ℕ → ℕ → Figures
with_row f limit row =
    record { nodes = f.nodes; limits = changed (limit - 1) (rerowed row) f.limits; months = f.months }

-- a value beyond its range is refused first, then want of room
abbrev pub Refused : Refusal → Type 0 → Type 0 → Type 0
Refused e Fits Room = ((e ≡ CalendarValue) × (Fits → ⊥)) ⊎ ((e ≡ CalendarFull) × Fits × (Room → ⊥))

abbrev pub AddsNode : Calendar → ℕ → Result ℕ Refusal → Calendar → Type 0
AddsNode entry area (Ok node) exit =
    IsArea area × (node ≡ node_count (figures entry)) × (node < most_nodes) × (figures exit ≡ with_node (figures entry) (new_node area))
AddsNode entry area (Err e) exit = Refused e (IsArea area) (node_count (figures entry) < most_nodes) × (exit ≡ entry)

abbrev pub PriceFits : Figures → ℕ → ℕ → ℤ → Type 0
PriceFits f node month price = HasNode f node × IsMonth month × IsPrice price

abbrev pub SetsPrice : Calendar → ℕ → ℕ → ℤ → Result (Unit {0}) Refusal → Calendar → Type 0
SetsPrice entry node month price (Ok _) exit =
    PriceFits (figures entry) node month price × (figures exit ≡ with_price (figures entry) node month price)
SetsPrice entry node month price (Err e) exit =
    (PriceFits (figures entry) node month price → ⊥) × (e ≡ CalendarValue) × (exit ≡ entry)

-- the numbers of a limit that can be added
abbrev pub LimitFits : ℕ → ℕ → ℕ → List ℕ → Type 0
LimitFits kind area direction values =
    (is_some (kind_numbered kind) ≡ true) × IsArea area × (is_some (direction_numbered direction) ≡ true)
    × ((k : ℕ) → IsValue (slice_index values k))

-- the limit of these numbers, with no marks yet
abbrev pub NumberedLimit : ℕ → ℕ → ℕ → List ℕ → LimitFigures → Type 0
NumberedLimit kind area direction values l =
    (kind_numbered kind ≡ Some l.kind) × (l.area ≡ area) × (direction_numbered direction ≡ Some l.direction)
    × (l.values ≡ values) × (l.row ≡ 0)

abbrev pub AddsLimit : Calendar → ℕ → ℕ → ℕ → List ℕ → Result ℕ Refusal → Calendar → Type 0
AddsLimit entry kind area direction values (Ok limit) exit =
    LimitFits kind area direction values × (limit ≡ limit_count (figures entry) + 1) × (limit ≤ most_limits)
    × ((l : LimitFigures) × NumberedLimit kind area direction values l × (figures exit ≡ with_limit (figures entry) l))
AddsLimit entry kind area direction values (Err e) exit =
    Refused e (LimitFits kind area direction values) (limit_count (figures entry) < most_limits) × (exit ≡ entry)

abbrev pub SetsHours : Calendar → ℕ → ℕ → Result (Unit {0}) Refusal → Calendar → Type 0
SetsHours entry month hours (Ok _) exit =
    (IsMonth month × IsHours hours) × (figures exit ≡ with_hours (figures entry) month hours)
SetsHours entry month hours (Err e) exit =
    (IsMonth month × IsHours hours → ⊥) × (e ≡ CalendarValue) × (exit ≡ entry)

abbrev pub SetsPayDay : Calendar → ℕ → ℕ → Result (Unit {0}) Refusal → Calendar → Type 0
SetsPayDay entry month day (Ok _) exit =
    (IsMonth month × IsPayDay day) × (figures exit ≡ with_pay_day (figures entry) month day)
SetsPayDay entry month day (Err e) exit =
    (IsMonth month × IsPayDay day → ⊥) × (e ≡ CalendarValue) × (exit ≡ entry)

abbrev pub SetsRelation : Calendar → ℕ → ℕ → Result (Unit {0}) Refusal → Calendar → Type 0
SetsRelation entry limit row (Ok _) exit =
    (HasLimit (figures entry) limit × IsRow row) × (figures exit ≡ with_row (figures entry) limit row)
SetsRelation entry limit row (Err e) exit =
    (HasLimit (figures entry) limit × IsRow row → ⊥) × (e ≡ CalendarValue) × (exit ≡ entry)
