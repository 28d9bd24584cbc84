-- Relation rows.
use Rattle.std.specs.Prelude.{ℕ, ◌/◌, ◌%◌, ◌^◌, Bool, ◌==◌}

-- whether a row marks a pair: bit j is the mark of pair j
abbrev pub row_mark : ℕ → ℕ → Bool
row_mark row pair = (row / 2 ^ pair) % 2 == 1
