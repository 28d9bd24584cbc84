-- The node table of the worked example: two limits and three nodes.
use Rattle.std.specs.Prelude.{ℕ, zero, suc, List, [], ◌∷◌, ◌++◌, ℤ, pos, neg_ℤ}

-- the entries of a month: node 0 loads limit 1 and relieves limit 2, the others do neither
abbrev pub month_entries : List ℤ
month_entries = pos 1000000 ∷ pos 0 ∷ pos 0 ∷ neg_ℤ (pos 1000000) ∷ pos 0 ∷ pos 0 ∷ []

-- the entries of n such months
abbrev pub entries_of : ℕ → List ℤ
entries_of zero = []
entries_of (suc n) = entries_of n ++ month_entries

abbrev pub worked_entries : List ℤ
worked_entries = entries_of 12
