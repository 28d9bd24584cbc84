-- Events: a call with its answer, and what the two say by themselves. Where they say nothing, 0.
use Rattle.std.specs.Prelude.{ℕ, Bool, true, false, cond, List, [], ◌++◌, Some, None, Option, ◌==◌}
use Rattle.submission.specs.Submissions.{decode}
use Rattle.book.specs.declared.right.Right.{Right}
use Rattle.book.specs.Rights.{right_of, in_force, provisional, numbered, all_confirmed, paid_on, without}
use Rattle.book.specs.Calls.{Call, Answer}
use Rattle.book.specs.Calls.Call.{Propose, Confirm, Strike, Pay, Annul, Deposit, Withdraw, SetDay}
use Rattle.book.specs.Calls.Answer.{Awarded, Confirmed, Struck, DebtLeft, Annulled, Balance, Day, Refused}

pub record Event : Type 0 where
  pub call : Call
  pub answer : Answer

abbrev pub accepted : Answer → Bool
accepted (Awarded book first lines) = true
accepted Confirmed = true
accepted Struck = true
accepted (DebtLeft n) = true
accepted (Annulled t w) = true
accepted (Balance n) = true
accepted (Day d) = true
accepted (Refused e) = false

-- the first serial of an award
abbrev pub first_serial : Answer → ℕ
first_serial (Awarded book first lines) = first
first_serial Confirmed = 0
first_serial Struck = 0
first_serial (DebtLeft n) = 0
first_serial (Annulled t w) = 0
first_serial (Balance n) = 0
first_serial (Day d) = 0
first_serial (Refused e) = 0

-- what an annulment took, and what it wrote off
abbrev pub taken : Answer → ℕ
taken (Awarded book first lines) = 0
taken Confirmed = 0
taken Struck = 0
taken (DebtLeft n) = 0
taken (Annulled t w) = t
taken (Balance n) = 0
taken (Day d) = 0
taken (Refused e) = 0

abbrev pub written_off : Answer → ℕ
written_off (Awarded book first lines) = 0
written_off Confirmed = 0
written_off Struck = 0
written_off (DebtLeft n) = 0
written_off (Annulled t w) = w
written_off (Balance n) = 0
written_off (Day d) = 0
written_off (Refused e) = 0

-- what an accepted call makes of the rights that are not gone
abbrev pub noted : List Right → Call → Answer → List Right
noted rs (Propose ws) a = rs ++ numbered (first_serial a) (decode ws)
noted rs (Confirm book first lines) a = all_confirmed rs
noted rs (Strike book first lines) a = in_force rs
noted rs (Pay s amount) a = paid_on s amount rs
noted rs (Annul s) a = without s rs
noted rs (Deposit x amount) a = rs
noted rs (Withdraw x amount) a = rs
noted rs (SetDay d) a = rs

-- those that a call confirms where it is accepted
abbrev pub confirming : List Right → Call → List Right
confirming rs (Propose ws) = []
confirming rs (Confirm book first lines) = provisional rs
confirming rs (Strike book first lines) = []
confirming rs (Pay s amount) = []
confirming rs (Annul s) = []
confirming rs (Deposit x amount) = []
confirming rs (Withdraw x amount) = []
confirming rs (SetDay d) = []

-- what a call pays on a serial, and whether it annuls it
abbrev pub pays : ℕ → Call → ℕ
pays s (Propose ws) = 0
pays s (Confirm book first lines) = 0
pays s (Strike book first lines) = 0
pays s (Pay t amount) = cond (t == s) amount 0
pays s (Annul t) = 0
pays s (Deposit x amount) = 0
pays s (Withdraw x amount) = 0
pays s (SetDay d) = 0

abbrev pub annuls : ℕ → Call → Bool
annuls s (Propose ws) = false
annuls s (Confirm book first lines) = false
annuls s (Strike book first lines) = false
annuls s (Pay t amount) = false
annuls s (Annul t) = t == s
annuls s (Deposit x amount) = false
annuls s (Withdraw x amount) = false
annuls s (SetDay d) = false

-- what a call pays into a holder's account, and what it draws from it
abbrev pub pays_in : ℕ → Call → ℕ
pays_in x (Propose ws) = 0
pays_in x (Confirm book first lines) = 0
pays_in x (Strike book first lines) = 0
pays_in x (Pay s amount) = 0
pays_in x (Annul s) = 0
pays_in x (Deposit y amount) = cond (y == x) amount 0
pays_in x (Withdraw y amount) = 0
pays_in x (SetDay d) = 0

abbrev pub draws : ℕ → Call → ℕ
draws x (Propose ws) = 0
draws x (Confirm book first lines) = 0
draws x (Strike book first lines) = 0
draws x (Pay s amount) = 0
draws x (Annul s) = 0
draws x (Deposit y amount) = 0
draws x (Withdraw y amount) = cond (y == x) amount 0
draws x (SetDay d) = 0

-- whether a right is there and of a holder
abbrev pub of_holder : ℕ → Option Right → Bool
of_holder x None = false
of_holder x (Some r) = r.line.holder == x

-- whether a call annuls a right of a holder
abbrev pub annuls_of : ℕ → List Right → Call → Bool
annuls_of x rs (Propose ws) = false
annuls_of x rs (Confirm book first lines) = false
annuls_of x rs (Strike book first lines) = false
annuls_of x rs (Pay s amount) = false
annuls_of x rs (Annul s) = of_holder x (right_of s rs)
annuls_of x rs (Deposit y amount) = false
annuls_of x rs (Withdraw y amount) = false
annuls_of x rs (SetDay d) = false
