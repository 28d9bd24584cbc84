-- Runs: a list of calls made on a new book, with the answers to them.
use Rattle.std.specs.Prelude.{◌≡◌, ℕ, min, List, [], ◌∷◌, length, take, drop, Some, None, Option, Result}
use Rattle.desk.specs.declared.desk.Call.{Call as Made}
use Rattle.desk.specs.declared.desk.Call.TheVariants.{Propose as MadePropose, Confirm as MadeConfirm, Strike as MadeStrike, Pay as MadePay, Annul as MadeAnnul, Deposit as MadeDeposit, Withdraw as MadeWithdraw, SetDay as MadeSetDay}
use Rattle.desk.specs.declared.desk.Answer.{Answer as Given}
use Rattle.desk.specs.declared.desk.Answer.TheVariants.{Awarded as GivenAward, Confirmed as GivenConfirmed, Struck as GivenStruck, DebtLeft as GivenDebt, Annulled as GivenAnnulment, Balance as GivenBalance, Day as GivenDay}
use Rattle.terms.specs.declared.refusal.Refusal.{Refusal}
use Rattle.book.specs.Market.{Market}
use Rattle.book.specs.Rights.{in_force}
use Rattle.book.specs.States.{State, closed}
use Rattle.book.specs.Calls.{Call, Answer}
use Rattle.book.specs.Calls.Call.{Propose, Confirm, Strike, Pay, Annul, Deposit, Withdraw, SetDay}
use Rattle.book.specs.Calls.Answer.{Awarded, Confirmed, Struck, DebtLeft, Annulled, Balance, Day}
use Rattle.book.specs.Histories.{History, Lived}
use Rattle.book.specs.Living.{answered, happened}
use Rattle.book.specs.StatedFindings.{FindingsAsStated}

-- what a call of the code asks
abbrev pub asked : Made → Call
asked (MadePropose words) = Propose words.now
asked (MadeConfirm a) = Confirm a.book a.first a.lines
asked (MadeStrike a) = Strike a.book a.first a.lines
asked (MadePay serial amount) = Pay serial amount
asked (MadeAnnul serial) = Annul serial
asked (MadeDeposit holder amount) = Deposit holder amount
asked (MadeWithdraw holder amount) = Withdraw holder amount
asked (MadeSetDay day) = SetDay day

-- what an answer of the code says, where the call is granted
abbrev pub said : Given → Answer
said (GivenAward a) = Awarded a.book a.first a.lines
said GivenConfirmed = Confirmed
said GivenStruck = Struck
said (GivenDebt n) = DebtLeft n
said (GivenAnnulment a) = Annulled a.taking a.write_off
said (GivenBalance n) = Balance n
said (GivenDay d) = Day d

-- calls with their answers, after a history, the latest first
abbrev pub history_of : History → List Made → List (Result Given Refusal) → History
history_of h [] answers = h
history_of h (c ∷ calls) [] = h
history_of h (c ∷ calls) (a ∷ answers) = history_of (happened (asked c) (answered said a) ∷ h) calls answers

-- as many calls are made as there is room for answers; the buffer held `was` and now holds `is`; the book, now at a state, has lived
-- through these calls with these answers, each of them the defined one, and all findings hold of it
pub record Runs (m : Market) (allowed : ℕ → ℕ → Type 0) (number : ℕ) (calls : List Made) (was is : List (Result Given Refusal)) (made : ℕ) (b : State) : Type 0 where
  pub all : made ≡ min (length calls) (length was)
  pub rest : drop made is ≡ drop made was
  pub lived : Lived m number (history_of [] (take made calls) (take made is)) b
  pub findings : FindingsAsStated m allowed number (history_of [] (take made calls) (take made is)) b

-- the award that is open, if one is, is struck
abbrev pub struck_by : State → Option (ℕ × ℕ) → State
struck_by b None = b
struck_by b (Some award) = closed b (in_force b.rights)

abbrev pub struck_open : State → State
struck_open b = struck_by b b.pending
