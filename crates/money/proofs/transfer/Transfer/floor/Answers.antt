use Rattle.std.proofs.Common.{◌≡◌, ◌+◌, ◌-◌, ◌+ℤ◌, ap, ◌∙◌, arith, w64, SFits, rules}
use Rattle.std.proofs.lemmas.Int.{ints}
use Rattle.calendar.specs.Figures.{figures}
use Rattle.money.specs.Floors.{cut, signed_sum}
use Rattle.money.specs.Months.{month_count}
use Rattle.money.specs.Transfers.{month_worth_of}
use Rattle.money.proofs.Sums.{summed_next}
use Rattle.money.proofs.transfer.Transfer.floor.Goals as goal
use Rattle.money.proofs.transfer.Transfer.floor.Goals.{else-loop-month-test, then-loop-month-test+in_ok-month_worth+else-month-month-end}

pub loop-month-preserved : goal.loop-month-preserved
loop-month-preserved c =
    let t = c.args.self in
    let worth = c.in_ok-month_worth.field-0 in
    let f : SFits w64 worth = search rules in
    let n = summed_next (month_worth_of (figures c.args.calendar.now) t) t.months.first c.loop-month.month c.loop-month.sum worth (omega arith) f c.in_ok-month_worth.ensures.1 (search rules) in
    ((omega (arith, ints, n), omega (arith, ints, n), omega (arith, ints, n)), λ _. c.in_ok-month_worth.ensures.0)

pub returns : goal.returns
returns c =
    let t = c.args.self in
    let f = month_worth_of (figures c.args.calendar.now) t in
    let first = t.months.first in
    elim c.loop-month-test.branch [
      | else-loop-month-test w ↦ absurd (omega (arith, w.loop-month-test.false))
      | then-loop-month-test+in_ok-month_worth+else-month-month-end w ↦
          let worth = w.in_ok-month_worth.field-0 in
          let fits : SFits w64 worth = search rules in
          let n = summed_next f first c.loop-month.month c.loop-month.sum worth (omega arith) fits w.in_ok-month_worth.ensures.1 (search rules) in
          let s : c.loop-month.month + 1 - first ≡ month_count first t.months.last = omega arith in
          let total : c.loop-month-test.sum ≡ c.loop-month.sum +ℤ worth = omega (arith, ints, w.sum-is, w.from.ensures, n) in
          (w.in_ok-month_worth.ensures.0, c.cut.ensures ∙ ap cut (c.loop-month-test.sum-is ∙ total ∙ n.0 ∙ ap (signed_sum f first) s))
    ]
