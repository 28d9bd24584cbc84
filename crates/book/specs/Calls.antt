-- The calls of a book: the answer to each, and the state after it.
use Rattle.std.specs.Prelude.{ℕ, ◌+◌, ◌-◌, List, ◌++◌, length, Some, None, Option}
use Rattle.book.specs.declared.right.Right.{Right}
use Rattle.terms.specs.declared.refusal.Refusal.{Refusal}
use Rattle.terms.specs.declared.refusal.Refusal.TheVariants.{Unknown}
use Rattle.book.specs.Market.{Market}
use Rattle.book.specs.Rights.{debt, right_of, in_force, numbered, all_confirmed, paid_on, without, taking, write_off}
use Rattle.book.specs.States.{State, balance, entered, closed, with_rights, with_balance, with_day}
use Rattle.submission.specs.Submissions.{decode}
use Rattle.book.specs.Refusing.{◌then◌}
use Rattle.book.specs.Checks.{capacity_check, propose_check, award_check, pay_check, annul_check, deposit_check, withdraw_check, day_check}

pub data Call : Type 0 where
  Propose : List ℕ → Call  -- the words of a submission
  Confirm : ℕ → ℕ → ℕ → Call  -- book, first serial, how many lines
  Strike : ℕ → ℕ → ℕ → Call
  Pay : ℕ → ℕ → Call  -- serial, amount
  Annul : ℕ → Call  -- serial
  Deposit : ℕ → ℕ → Call  -- holder, amount
  Withdraw : ℕ → ℕ → Call
  SetDay : ℕ → Call

pub data Answer : Type 0 where
  Awarded : ℕ → ℕ → ℕ → Answer  -- book, first serial, how many lines
  Confirmed : Answer
  Struck : Answer
  DebtLeft : ℕ → Answer
  Annulled : ℕ → ℕ → Answer  -- taking, write-off
  Balance : ℕ → Answer
  Day : ℕ → Answer
  Refused : Refusal → Answer

pub record Outcome : Type 0 where
  pub answer : Answer
  pub after : State

abbrev pub refused : State → Refusal → Outcome
refused b e = record { answer = Refused e; after = b }

-- a check's refusal leaves the state as it was; else the answer and the state after it
abbrev pub outcome : Option Refusal → State → Answer → State → Outcome
outcome (Some e) b granted after = refused b e
outcome None b granted after = record { answer = granted; after = after }

abbrev pub propose : Market → State → List ℕ → Outcome
propose m b ws =
    outcome (propose_check m b ws then capacity_check m (b.rights ++ numbered b.next (decode ws))) b
    (Awarded b.number b.next (length (decode ws)))
    (entered b (decode ws))

abbrev pub confirm : State → ℕ → ℕ → ℕ → Outcome
confirm b book first lines = outcome (award_check b book first lines) b Confirmed (closed b (all_confirmed b.rights))

abbrev pub strike : State → ℕ → ℕ → ℕ → Outcome
strike b book first lines = outcome (award_check b book first lines) b Struck (closed b (in_force b.rights))

-- of the right that has the serial, if one has it
abbrev pub pay_right : State → ℕ → ℕ → Option Right → Outcome
pay_right b s amount None = refused b Unknown
pay_right b s amount (Some r) = outcome (pay_check amount r) b (DebtLeft (debt r - amount)) (with_rights b (paid_on s amount b.rights))

abbrev pub pay : State → ℕ → ℕ → Outcome
pay b s amount = pay_right b s amount (right_of s b.rights)

abbrev pub annul_right : Market → State → ℕ → Option Right → Outcome
annul_right m b s None = refused b Unknown
annul_right m b s (Some r) =
    outcome (annul_check m b r then capacity_check m (without s b.rights)) b (Annulled (taking r) (write_off r))
    (with_balance (with_rights b (without s b.rights)) r.line.holder (balance b r.line.holder - taking r))

abbrev pub annul : Market → State → ℕ → Outcome
annul m b s = annul_right m b s (right_of s b.rights)

abbrev pub deposit : State → ℕ → ℕ → Outcome
deposit b x amount = outcome (deposit_check b x amount) b (Balance (balance b x + amount)) (with_balance b x (balance b x + amount))

abbrev pub withdraw : State → ℕ → ℕ → Outcome
withdraw b x amount = outcome (withdraw_check b x amount) b (Balance (balance b x - amount)) (with_balance b x (balance b x - amount))

abbrev pub set_day : State → ℕ → Outcome
set_day b d = outcome (day_check b d) b (Day d) (with_day b d)

abbrev pub act : Market → State → Call → Outcome
act m b (Propose ws) = propose m b ws
act m b (Confirm book first lines) = confirm b book first lines
act m b (Strike book first lines) = strike b book first lines
act m b (Pay s amount) = pay b s amount
act m b (Annul s) = annul m b s
act m b (Deposit x amount) = deposit b x amount
act m b (Withdraw x amount) = withdraw b x amount
act m b (SetDay d) = set_day b d
