use Rattle.std.proofs.Common.{rules}
use Rattle.calendar.specs.Figures.{figures}
use Rattle.money.specs.Charges.{late_of}
use Rattle.money.proofs.Spans.{any_month}
use Rattle.money.proofs.Lateness.{overdue_laws}
use Rattle.money.proofs.dues.Dues.overdue.Goals as goal

pub returns : goal.returns
returns c =
    let d = c.args.self in
    let span = d.months in
    let cal = figures c.args.calendar.now in
    let e = any_month _ c.any.result span.first span.last (late_of cal d c.args.day) span.ordered c.any.ensures.runs (search rules) (search rules) (search rules) (λ m b lo hi k. search rules) in
    let laws = overdue_laws cal d.charge d.paid span.first span.last c.args.day c.any.result span.from span.ordered span.within e in
    record { value = laws.0; month = laws.1; settled = laws.2 }
