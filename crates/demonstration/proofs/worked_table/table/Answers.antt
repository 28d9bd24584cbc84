use Rattle.std.proofs.Common.{◌≡◌, ◌∙◌}
use Rattle.std.proofs.lemmas.List.Elements.{same_from_all_zip}
use Rattle.std.specs.List.{repeat}
use Rattle.demonstration.specs.Tables.{month_entries}
use Rattle.demonstration.proofs.worked_table.table.Goals as goal

pub returns : goal.returns
returns c =
    let same : c.in_ok-entries.entries.items ≡ repeat 12 month_entries = same_from_all_zip _ _ _ c.in_ok-entries.ensures.items (λ x y k. k) in
    (c.from_entries.ensures.limits, c.from_entries.ensures.nodes, c.from_entries.ensures.entries ∙ same)
