-- The findings as the book's questions answer them, with capacity said both ways.
use Rattle.std.specs.Prelude.{◌≡◌, ℕ, ◌+◌, ◌≤◌, List, ◌∷◌, ◌++◌, length, Some, None}
use Rattle.std.specs.List.{AllByRecursion}
use Rattle.submission.specs.Submissions.{decode}
use Rattle.book.specs.declared.right.Right.{Right}
use Rattle.terms.specs.declared.refusal.Refusal.TheVariants.{LimitPassed}
use Rattle.book.specs.Market.{Market}
use Rattle.book.specs.Rights.{held_of, right_of, in_force, numbered, without, taking, write_off}
use Rattle.book.specs.Loads.{Listed, Within, Passes}
use Rattle.book.specs.States.{State}
use Rattle.book.specs.Questions.{statement, debt_stated, account, balance_stated}
use Rattle.book.specs.Checks.{propose_check, annul_check}
use Rattle.book.specs.Calls.{Answer}
use Rattle.book.specs.Calls.Call.{Propose, Annul}
use Rattle.book.specs.Calls.Answer.{Awarded, Annulled, Refused}
use Rattle.book.specs.Events.{Event}
use Rattle.book.specs.Histories.{History, Lived, standing, ever_confirmed, payments, takings, write_offs, deposits, withdrawals, takings_from}

-- capacity decides exactly, by the rights that a call would leave
pub record DecidedBothWays (m : Market) (allowed : ℕ → ℕ → Type 0) (left : List Right) (answer granted : Answer) : Type 0 where
  -- where some permitted choice passes a limit in a month, the answer names a limit that is passed
  pub refused : (month limit : ℕ) → Listed m month limit → Passes m allowed left month limit → (month' limit' excess : ℕ) × (answer ≡ Refused (LimitPassed month' limit' excess))
  -- and only there: some permitted choice passes the limit that is named, in the month that is named
  pub only : (month limit excess : ℕ) → answer ≡ Refused (LimitPassed month limit excess) → (Listed m month limit) × (Passes m allowed left month limit)
  -- where every permitted choice keeps within every limit, the call is granted
  pub accepted : Within m allowed left → answer ≡ granted

-- a proposal that passed its earlier checks is decided by the rights not gone and its own lines
abbrev pub ProposalBothWays : Market → (ℕ → ℕ → Type 0) → List Right → State → Event → Type 0
ProposalBothWays m allowed rs b e =
    (ws : List ℕ) → e.call ≡ Propose ws → propose_check m b ws ≡ None →
    DecidedBothWays m allowed (rs ++ numbered b.next (decode ws)) e.answer (Awarded b.number b.next (length (decode ws)))

-- an annulment that passed its earlier checks is decided by the rights not gone but the one named
abbrev pub AnnulmentBothWays : Market → (ℕ → ℕ → Type 0) → List Right → State → Event → Type 0
AnnulmentBothWays m allowed rs b e =
    (s : ℕ) (r : Right) → e.call ≡ Annul s → right_of s b.rights ≡ Some r → annul_check m b r ≡ None →
    DecidedBothWays m allowed (without s rs) e.answer (Annulled (taking r) (write_off r))

-- a charge is what was paid, is owed, was taken and was written off; the debt as the right's statement answers it
abbrev pub AccountedAsStated : History → State → Right → Type 0
AccountedAsStated h b r = r.line.charge ≡ payments r.serial h + debt_stated (statement b r.serial) + takings r.serial h + write_offs r.serial h

pub record FindingsAsStated (m : Market) (allowed : ℕ → ℕ → Type 0) (n : ℕ) (h : History) (b : State) : Type 0 where
  -- no choice passes a limit: by the rights not gone, and by those of them in force
  pub within : Within m allowed (standing h)
  pub within_in_force : Within m allowed (in_force (standing h))
  -- capacity decides exactly, at each event of the history, from the state before it
  pub proposals : (later earlier : History) (e : Event) (before : State) → h ≡ later ++ e ∷ earlier → Lived m n earlier before → ProposalBothWays m allowed (standing earlier) before e
  pub annulments : (later earlier : History) (e : Event) (before : State) → h ≡ later ++ e ∷ earlier → Lived m n earlier before → AnnulmentBothWays m allowed (standing earlier) before e
  -- a charge is accounted for
  pub charges : AllByRecursion (AccountedAsStated h b) (ever_confirmed h)
  -- an account is accounted for, and covers the guarantees held; the balance as the account answers it
  pub accounts : (x : ℕ) → deposits x h ≡ withdrawals x h + takings_from x h + balance_stated (account b x)
  pub covered : (x : ℕ) → held_of x b.rights ≤ balance_stated (account b x)
