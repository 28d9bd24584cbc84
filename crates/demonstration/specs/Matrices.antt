-- The matrix of one reference of the pair 1-3 over one limit of area 2, which lies between.
use Rattle.std.specs.Prelude.{◌≡◌, ℕ, Bool, List, [], ◌∷◌, replicate, pos, Ok, Err, Result}
use Rattle.terms.specs.Pairs.{pair_number}
use Rattle.terms.specs.declared.refusal.Refusal.{Refusal}
use Rattle.terms.specs.declared.refusal.Refusal.TheVariants.{Stray}
use Rattle.calendar.specs.declared.calendar.Calendar.{Calendar}
use Rattle.calendar.specs.declared.kinds.LimitKind.{LimitKind}
use Rattle.calendar.specs.declared.kinds.Direction.TheVariants.{Southward}
use Rattle.calendar.specs.declared.reference.Reference.{Reference}
use Rattle.calendar.specs.Figures.{Figures, figures, marked}
use Rattle.calendar.specs.Matrix.{BuildsMatrix, pair_flow}
use Rattle.demonstration.specs.Calendars.{worked_months}

-- a calendar with one limit of area 2, without marks
abbrev pub limit_of_two : LimitKind → Figures
limit_of_two kind =
    record {
      nodes = [];
      limits = record { kind = kind; area = 2; direction = Southward; values = replicate 12 300000; row = 0 } ∷ [];
      months = worked_months;
    }

-- a reference right from area 1 to area 3
abbrev pub one_to_three : List Reference
one_to_three = record { injection = 1; withdrawal = 3 } ∷ []

-- what counts of its flow of this many kilowatts
abbrev pub counted_of : LimitKind → ℕ → ℕ
counted_of kind flow = pair_flow (limit_of_two kind) one_to_three (pos flow ∷ []) 1 (pair_number 1 3)

-- the matrix of that flow is built, and the limit marks the pair or does not
abbrev pub Marks : LimitKind → ℕ → Bool → Type 0
Marks kind flow mark =
    (before later : Calendar) (r : Result (Unit {0}) Refusal) → figures before ≡ limit_of_two kind
    → BuildsMatrix before one_to_three (pos flow ∷ []) r later
    → (r ≡ Ok tt) × (marked (figures later) 1 (pair_number 1 3) ≡ mark)

-- the first flow strays at the first limit, and the calendar stays as it was
abbrev pub Strays : LimitKind → ℕ → Type 0
Strays kind flow =
    (before later : Calendar) (r : Result (Unit {0}) Refusal) → figures before ≡ limit_of_two kind
    → BuildsMatrix before one_to_three (pos flow ∷ []) r later
    → (r ≡ Err (Stray 1 1)) × (later ≡ before)
