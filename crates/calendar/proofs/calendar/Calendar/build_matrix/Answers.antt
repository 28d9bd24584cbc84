use Rattle.std.proofs.Common.{◌≡◌, ◌+◌, ◌<◌, get_or, length, map, slice_set, sym, ap, ◌∙◌, subst, rules}
use Rattle.std.proofs.lemmas.List.{map-set}
use Rattle.terms.specs.Tables.{held}
use Rattle.calendar.specs.declared.calendar.Limit.{Limit}
use Rattle.calendar.specs.declared.parts.RelationRow.{RelationRow}
use Rattle.calendar.specs.Calls.{rerowed}
use Rattle.calendar.specs.Figures.{figures, limit_count, limit_figures, limit_of}
use Rattle.calendar.specs.Matrix.{RowsSet}
use Rattle.calendar.specs.Rows.{row_mark}
use Rattle.calendar.proofs.Limits.{limit_at}
use Rattle.calendar.proofs.RowsSet.{rows_more}
use Rattle.calendar.proofs.calendar.Calendar.build_matrix.Goals as goal

pub loop-at-preserved : goal.loop-at-preserved
loop-at-preserved c =
    let before = figures c.args.self.now in
    let cal = c.loop-at.self in
    let after = figures cal in
    let rs = c.args.references.now in
    let flows = c.args.flows.now in
    let at = c.loop-at.at in
    let row = c.row-item.result in
    let limit = c.index-as_slice-at.result in
    let changed : Limit = record limit { row = row } in
    let here : at < length (held c.rows-rows.result) = search rules in
    let within : at < limit_count before = search rules in
    let there : at < length (held cal.limits) = search rules in
    let same : row ≡ get_or (held c.rows-rows.result) at row = search rules in
    let read : limit_figures limit ≡ limit_of after (at + 1) = limit_at cal at limit there (search rules) in
    let written : held c.set.new.self ≡ slice_set (held cal.limits) at changed = search rules in
    let shown = ap (map limit_figures) written ∙ map-set limit_figures (held cal.limits) at changed ∙ ap (λ l. slice_set after.limits at (rerowed row.bits l)) read in
    subst (λ ls. RowsSet before rs flows (at + 1) (record after { limits = ls })) (sym shown)
    (rows_more before rs flows at row.bits after within c.loop-at.invariant (λ pair below. let marked = ap (λ (r : RelationRow). row_mark r.bits pair) same ∙ c.rows-rows.ensures.marks at pair row here below in search rules))
