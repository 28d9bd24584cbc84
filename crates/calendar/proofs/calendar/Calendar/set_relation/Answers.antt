use Rattle.std.proofs.Common.{◌≡◌, ◌+◌, ◌-◌, ◌<◌, map, slice_set, ap, ◌∙◌, arith, rules}
use Rattle.terms.specs.Tables.{held}
use Rattle.calendar.specs.declared.calendar.Limit.{Limit}
use Rattle.calendar.specs.Calls.{rerowed}
use Rattle.calendar.specs.Figures.{figures, limit_count, limit_figures}
use Rattle.calendar.proofs.Shown.{map-changed_shown, numbered_place}
use Rattle.calendar.proofs.calendar.Calendar.set_relation.Goals as goal

pub returns : goal.returns
returns c =
    let cal = c.args.self.now in
    let f = figures cal in
    let limit = c.in_ok-changed.changed in
    let change = rerowed c.args.row in
    let changed : Limit = record limit { row = c.in_ok-changed-2.field-0 } in
    let place = c.args.limit - 1 in
    let number : place + 1 ≡ c.args.limit = omega (arith, c.in_ok-changed.ensures.0.0) in
    let within : place < limit_count f = omega (arith, c.in_ok-changed.ensures.0) in
    let written : held c.set.new.self ≡ slice_set (held cal.limits) place changed = search rules in
    let shown : limit_figures changed ≡ change (limit_figures limit) = ap (λ row. rerowed row (limit_figures limit)) c.in_ok-changed-2.ensures.1 in (
      search rules,
      ap (λ ls. record { nodes = f.nodes; limits = ls; months = f.months })
          (ap (map limit_figures) written
          ∙ map-changed_shown limit_figures change place (held cal.limits) changed _ within (shown ∙ ap change (c.in_ok-changed.ensures.1 ∙ numbered_place f.limits place _ _ number))),
    )
