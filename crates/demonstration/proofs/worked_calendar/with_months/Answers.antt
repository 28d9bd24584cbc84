use Rattle.std.proofs.Common.{◌≡◌, ℕ, ◌-◌, Result, ap, ◌∙◌, subst, arith}
use Rattle.terms.specs.declared.refusal.Refusal.{Refusal}
use Rattle.calendar.specs.Figures.{Figures, figures}
use Rattle.calendar.specs.Calls.{SetsHours, SetsPayDay, with_pay_day}
use Rattle.demonstration.proofs.Months.{dated, date_on}
use Rattle.demonstration.proofs.worked_calendar.with_months.Goals as goal

pub loop-month-init : goal.loop-month-init
loop-month-init c = c.new-calendar.ensures

pub loop-month-preserved : goal.loop-month-preserved
loop-month-preserved c =
    let month = c.loop-month.month in
    let H : Result (Unit {0}) Refusal → Type 0 = λ r. SetsHours c.loop-month.calendar month 744 r c.set_hours.new.self in
    let D : Result (Unit {0}) Refusal → Type 0 = λ r. SetsPayDay c.set_hours.new.self month c.pay_day.result r c.set_pay_day.new.self in
    let W : ℕ → Figures = λ day. with_pay_day (figures c.set_hours.new.self) month day in
    let houred = subst H c.unwrap.ensures c.set_hours.ensures in
    let redated = subst D c.unwrap-in-loop-month.ensures c.set_pay_day.ensures in
    date_on month _ _ _ c.loop-month.auto.month c.loop-month.invariant houred.1 (redated.1 ∙ ap W c.pay_day.ensures)

pub returns : goal.returns
returns c =
    let last : c.loop-month.month - 1 ≡ 12 = omega arith in
    c.loop-month.invariant ∙ ap dated last
