use Rattle.std.proofs.Common.{◌<◌, length, ap, rules}
use Rattle.calendar.specs.Calls.{rehoured}
use Rattle.calendar.specs.Figures.{figures, month_figures}
use Rattle.calendar.proofs.Shown.{map-changed_number}
use Rattle.calendar.proofs.calendar.Calendar.set_hours.Goals as goal

pub returns : goal.returns
returns c =
    let cal = c.args.self.now in
    let f = figures cal in
    let within : c.in_ok-place.place < length cal.months = search rules in (
      search rules,
      ap (λ ms. record { nodes = f.nodes; limits = f.limits; months = ms })
          (map-changed_number month_figures (rehoured c.args.hours) _ _ cal.months _ c.index-self-place.result c.in_ok-place.ensures.1.0 within (search rules)),
    )
