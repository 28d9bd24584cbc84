-- Lists of a fixed room.
use Rattle.std.specs.Prelude.{ℕ, List, take}
use Rattle.terms.specs.declared.table.Table.{Table}

-- the items that a table holds, in their order
abbrev pub held : {T : Type 0} {n : ℕ} → Table T n → List T
held t = take t.count t.rows
