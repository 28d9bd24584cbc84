use Rattle.std.proofs.Common.{◌≡◌, ℕ, ◌<◌, length, get_or}
use Rattle.terms.specs.Ranges.{most_value}
use Rattle.calendar.specs.declared.parts.UpTo.{UpTo}
use Rattle.calendar.proofs.calendar.calls.capacities.Given as goal

abbrev pub invariant-loop-place : goal.invariant-loop-place
invariant-loop-place l =
    (length l.capacities ≡ 12)
    × ((k : ℕ) (d : UpTo most_value) → k < l.place → (get_or l.capacities k d).number ≡ get_or l.fn.values k 0)
