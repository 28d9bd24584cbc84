use Rattle.std.proofs.Common.{◌<◌, length, sym, rules}
use Rattle.calendar.specs.Figures.{month_figures}
use Rattle.calendar.proofs.Shown.{numbered-map}
use Rattle.calendar.proofs.calendar.Calendar.month.Goals as goal

pub returns : goal.returns
returns c =
    let within : c.in_ok-month_place.field-0 < length c.args.self.now.months = search rules in
    (search rules, sym (numbered-map month_figures _ _ _ _ _ c.in_ok-month_place.ensures.1.0 within))
