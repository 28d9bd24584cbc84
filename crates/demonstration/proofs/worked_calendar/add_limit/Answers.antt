use Rattle.std.proofs.Common.{ℕ, replicate, Result, subst}
use Rattle.terms.specs.declared.refusal.Refusal.{Refusal}
use Rattle.calendar.specs.Figures.{figures}
use Rattle.calendar.specs.Calls.{AddsLimit, SetsRelation}
use Rattle.demonstration.proofs.Limits.{kind_of_number, direction_of_number, limit_full}
use Rattle.demonstration.proofs.worked_calendar.add_limit.Goals as goal

pub returns : goal.returns
returns c =
    let A : Result ℕ Refusal → Type 0 = λ r. AddsLimit c.args.calendar.now c.into.result 1 c.into-2.result (replicate 12 c.args.value) r c.add_limit.new.self in
    let added = subst A c.unwrap-limit.ensures c.add_limit.ensures in
    let R : Result (Unit {0}) Refusal → Type 0 = λ r. SetsRelation c.add_limit.new.self c.unwrap-limit.result 1073741823 r c.set_relation.new.self in
    let set = subst R c.unwrap.ensures c.set_relation.ensures in
    limit_full (figures c.args.calendar.now) _ _ added.3.0 c.unwrap-limit.result c.into.result c.into-2.result c.args.value added.1 added.3.1 added.3.2 set.1
    c.args.kind c.args.direction (kind_of_number c.args.kind _ c.into.ensures) (direction_of_number c.args.direction _ c.into-2.ensures)
