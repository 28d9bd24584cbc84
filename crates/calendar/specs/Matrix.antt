-- The matrix: which pairs load which limits, by the flows of reference rights.
use Rattle.std.specs.Prelude.{◌≡◌, ℕ, zero, suc, ◌+◌, ◌*◌, ◌<◌, ◌≤◌, Bool, true, false, cond, not, ◌&&◌, ◌||◌, ◌⊎◌, List, map, length, ℤ, pos, negsuc, Ok, Err, Result, ◌==◌, ◌≢◌, int_lt, nat_lt, slice_index_or}
use Rattle.terms.specs.Pairs.{pair_number}
use Rattle.terms.specs.Ranges.{counted_flow, most_references}
use Rattle.terms.specs.declared.refusal.Refusal.{Refusal}
use Rattle.terms.specs.declared.refusal.Refusal.TheVariants.{References, Stray}
use Rattle.calendar.specs.Calls.{rerowed}
use Rattle.calendar.specs.Figures.{Figures, LimitFigures, figures, limit_count, limit_of, HasLimit, numbered, marked}
use Rattle.calendar.specs.Values.{IsArea}
use Rattle.calendar.specs.declared.calendar.Calendar.{Calendar}
use Rattle.calendar.specs.declared.kinds.LimitKind.{LimitKind}
use Rattle.calendar.specs.declared.kinds.LimitKind.TheVariants.{Export, Import, Wheeling}
use Rattle.calendar.specs.declared.reference.Reference.{Reference}

-- a reference names two different areas
abbrev pub IsPair : Reference → Type 0
IsPair r = IsArea r.injection × IsArea r.withdrawal × (r.injection ≢ r.withdrawal)

-- whether a reference is one of this pair
abbrev pub is_of : Reference → ℕ → Bool
is_of r pair = pair_number r.injection r.withdrawal == pair

-- the reference at a place, from 0
abbrev pub reference_at : List Reference → ℕ → Reference
reference_at rs i = slice_index_or rs i (record { injection = 0; withdrawal = 0 })

-- flows stand reference after reference, each at every limit in turn
abbrev pub flow_at : List ℤ → ℕ → ℕ → ℕ → ℤ
flow_at flows limits i limit = numbered flows (i * limits + limit) (pos 0)

-- a limit is a pair's own if it is export of the injection area, import of the withdrawal area, or wheeling of either
abbrev pub own_by : LimitKind → ℕ → Reference → Bool
own_by Export area r = area == r.injection
own_by Import area r = area == r.withdrawal
own_by Wheeling area r = area == r.injection || area == r.withdrawal

abbrev pub own : LimitFigures → Reference → Bool
own l r = own_by l.kind l.area r

-- at another's export or import limit a flow strays from 100 kW
abbrev pub binds_own : LimitKind → Bool
binds_own Export = true
binds_own Import = true
binds_own Wheeling = false

abbrev pub strays : LimitFigures → Reference → ℤ → Bool
strays l r flow = binds_own l.kind && (not (own l r) && not (int_lt flow (pos counted_flow)))

-- what of a flow counts: nothing of a negative one, and nothing below 100 kW at another's limit
abbrev pub counted : Bool → ℤ → ℕ
counted isOwn (negsuc n) = 0
counted true (pos n) = n
counted false (pos n) = cond (nat_lt n counted_flow) 0 n

-- f 0 + .. + f (n − 1)
abbrev pub sum_below : (ℕ → ℕ) → ℕ → ℕ
sum_below f zero = 0
sum_below f (suc n) = sum_below f n + f n

-- what the reference at place i brings to a pair's flow at a limit
abbrev pub share : LimitFigures → ℕ → List Reference → List ℤ → ℕ → ℕ → ℕ → ℕ
share l limits rs flows limit pair i =
    cond (is_of (reference_at rs i) pair) (counted (own l (reference_at rs i)) (flow_at flows limits i limit)) 0

-- a pair's flow at a limit: the sum of what counts of its references' flows there
abbrev pub pair_flow : Figures → List Reference → List ℤ → ℕ → ℕ → ℕ
pair_flow f rs flows limit pair = sum_below (share (limit_of f limit) (limit_count f) rs flows limit pair) (length rs)

-- references that a matrix can be built from
abbrev pub GoodReferences : Figures → List Reference → List ℤ → Type 0
GoodReferences f rs flows =
    (1 ≤ length rs) × (length rs ≤ most_references) × ((i : ℕ) → i < length rs → IsPair (reference_at rs i))
    × (length flows ≡ length rs * limit_count f)

-- whether the flow of the reference at place i strays at a limit
abbrev pub strays_at : Figures → List Reference → List ℤ → ℕ → ℕ → Bool
strays_at f rs flows i limit = strays (limit_of f limit) (reference_at rs i) (flow_at flows (limit_count f) i limit)

-- the reference at place i strays at no limit, or first at this one
abbrev pub StraysNowhere : Figures → List Reference → List ℤ → ℕ → Type 0
StraysNowhere f rs flows i = (limit : ℕ) → HasLimit f limit → strays_at f rs flows i limit ≡ false

abbrev pub StraysFirstAt : Figures → List Reference → List ℤ → ℕ → ℕ → Type 0
StraysFirstAt f rs flows i limit =
    HasLimit f limit × (strays_at f rs flows i limit ≡ true)
    × ((l : ℕ) → 1 ≤ l → l < limit → strays_at f rs flows i l ≡ false)

-- no reference strays
abbrev pub NoStray : Figures → List Reference → List ℤ → Type 0
NoStray f rs flows = (i : ℕ) → i < length rs → StraysNowhere f rs flows i

-- the first reference that strays, and the first limit at which it does
abbrev pub FirstStray : Figures → List Reference → List ℤ → ℕ → ℕ → Type 0
FirstStray f rs flows i limit =
    (i < length rs) × StraysFirstAt f rs flows i limit × ((j : ℕ) → j < i → StraysNowhere f rs flows j)

-- a limit but for its row
abbrev pub unmarked : LimitFigures → LimitFigures
unmarked l = rerowed 0 l

-- the rows of the limits 1 to n say which pairs have flow there; all but the rows is as before
abbrev pub RowsSet : Figures → List Reference → List ℤ → ℕ → Figures → Type 0
RowsSet before rs flows n after =
    (after.nodes ≡ before.nodes) × (after.months ≡ before.months)
    × (map unmarked after.limits ≡ map unmarked before.limits)
    × ((limit pair : ℕ) → 1 ≤ limit → limit ≤ n → pair < 30 → marked after limit pair ≡ not (pair_flow before rs flows limit pair == 0))

-- bad references are refused first, then a flow that strays; a refusal changes nothing
abbrev pub BuildsMatrix : Calendar → List Reference → List ℤ → Result (Unit {0}) Refusal → Calendar → Type 0
BuildsMatrix entry rs flows (Ok _) exit =
    GoodReferences (figures entry) rs flows × NoStray (figures entry) rs flows
    × RowsSet (figures entry) rs flows (limit_count (figures entry)) (figures exit)
BuildsMatrix entry rs flows (Err e) exit =
    (exit ≡ entry)
    × (((e ≡ References) × (GoodReferences (figures entry) rs flows → ⊥))
    ⊎ (GoodReferences (figures entry) rs flows × ((i limit : ℕ) × FirstStray (figures entry) rs flows i limit × (e ≡ Stray (i + 1) limit))))
