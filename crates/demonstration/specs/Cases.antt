-- The worked cases of the market. Powers are in kilowatts, money in cents; each right starts in month 1.
use Rattle.std.specs.Prelude.{◌≡◌, ℕ, true, false, List, [], ◌∷◌, ◌++◌, map, Ok}
use Rattle.terms.specs.declared.refusal.Refusal.TheVariants.{BelowFloor, LimitPassed, NotOverdue}
use Rattle.submission.specs.declared.line.Line.{Line}
use Rattle.calendar.specs.declared.kinds.LimitKind.TheVariants.{Export, Wheeling}
use Rattle.money.specs.Guarantees.{guarantee}
use Rattle.money.specs.Instalments.{instalment}
use Rattle.book.specs.Calls.{Call}
use Rattle.book.specs.Calls.Call.{Annul, Pay, SetDay}
use Rattle.book.specs.Calls.Answer.{Awarded, Confirmed, DebtLeft, Annulled, Day, Refused}
use Rattle.book.specs.Histories.{payments, takings, write_offs}
use Rattle.book.specs.Questions.{statement}
use Rattle.demonstration.specs.Runs.{firm, obligation, right, asked, sold, after, past, answers}
use Rattle.demonstration.specs.Matrices.{counted_of, Marks, Strays}

-- 200,000 kW out of area 1, and 150,000 kW back into it
abbrev pub out : Line
out = right 0 1 1 200000 148800000 148800000

abbrev pub back : Line
back = right 1 0 1 150000 100 100

-- both sold
abbrev pub out_and_back : List Call
out_and_back = sold 1 out ++ sold 2 back

-- 150,000 kW more out of area 1
abbrev pub more : Line
more = right 0 2 1 150000 111600000 111600000

-- an offer of 101 and a charge of 100, from month 1 to the last, at no floor
abbrev pub small : ℕ → Line
small last = right 1 2 last 1000 101 100

-- it is sold for three months, its first instalment paid, and its annulment asked on two days
abbrev pub paid_and_annulled : List Call
paid_and_annulled = sold 1 (small 3) ++ Pay 1 34 ∷ SetDay 20 ∷ Annul 1 ∷ SetDay 21 ∷ Annul 1 ∷ []

pub record WorkedCases : Type 0 where
  -- under the firm rule what comes back makes no room: limit 1 is passed in month 1 by 50,000 kW, and 100,000 kW fill it
  pub firm_run :
      answers firm (out_and_back ++ asked more ∷ asked (right 0 2 1 100000 74400000 74400000) ∷ [])
      ≡ Awarded 1 1 1 ∷ Confirmed ∷ Awarded 1 2 1 ∷ Confirmed ∷ Refused (LimitPassed 1 1 50000000000) ∷ Awarded 1 3 1 ∷ []
  -- under the obligation rule all three are sold, and the second, though overdue, cannot be annulled, since the others need it
  pub obligation_run :
      answers obligation (out_and_back ++ sold 3 more ++ SetDay 11 ∷ Annul 2 ∷ [])
      ≡ Awarded 1 1 1 ∷ Confirmed ∷ Awarded 1 2 1 ∷ Confirmed ∷ Awarded 1 3 1 ∷ Confirmed ∷ Day 11 ∷ Refused (LimitPassed 1 1 50000000000) ∷ []
  -- the first right needs an offer of 148,800,000, and a cent less is below the floor
  pub floor_run : answers firm (asked (right 0 1 1 200000 148799999 148799999) ∷ asked out ∷ []) ≡ Refused (BelowFloor 1) ∷ Awarded 1 1 1 ∷ []
  -- the instalments of 100 over three months
  pub instalments : map (instalment 100 1 3) (1 ∷ 2 ∷ 3 ∷ []) ≡ 34 ∷ 33 ∷ 33 ∷ []
  -- a tenth of an offer over three months is held, a fifth over one, rounded up
  pub tenth : guarantee 101 1 3 ≡ 11
  pub fifth : guarantee 101 1 1 ≡ 21
  pub tenth_held : statement (after firm (asked (small 3) ∷ [])) 1 ≡ Ok (record { charge = 0; paid = 0; debt = 0; guarantee = 11 })
  pub fifth_held : statement (after firm (asked (small 1) ∷ [])) 1 ≡ Ok (record { charge = 0; paid = 0; debt = 0; guarantee = 21 })
  -- with its first instalment paid a right is not overdue on the pay day of the second, and is a day later: the guarantee is taken, the rest written off
  pub overdue_run :
      answers firm paid_and_annulled
      ≡ Awarded 1 1 1 ∷ Confirmed ∷ DebtLeft 66 ∷ Day 20 ∷ Refused NotOverdue ∷ Day 21 ∷ Annulled 11 55 ∷ []
  -- so its charge of 100 was paid, taken and written off
  pub paid : payments 1 (past firm paid_and_annulled) ≡ 34
  pub taken : takings 1 (past firm paid_and_annulled) ≡ 11
  pub written_off : write_offs 1 (past firm paid_and_annulled) ≡ 55
  -- through another area a flow counts from 100 kW, and out of it one strays
  pub passing_99 : counted_of Wheeling 99 ≡ 0
  pub passing_100 : counted_of Wheeling 100 ≡ 100
  pub unmarked_99 : Marks Wheeling 99 false
  pub marked_100 : Marks Wheeling 100 true
  pub strays_100 : Strays Export 100
