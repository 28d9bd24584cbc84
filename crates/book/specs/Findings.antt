-- The findings: what holds of every book, after every history.
use Rattle.std.specs.Prelude.{◌≡◌, ℕ, ◌+◌, ◌≤◌, ◌⊎◌, List, [], ◌∷◌, ◌++◌, length, ℤ, Some, None}
use Rattle.std.specs.List.{AllByRecursion}
use Rattle.submission.specs.Submissions.{decode}
use Rattle.calendar.specs.Figures.{Figures}
use Rattle.flows.specs.Factors.{Meaning}
use Rattle.book.specs.declared.right.Right.{Right}
use Rattle.terms.specs.declared.refusal.Refusal.TheVariants.{LimitPassed}
use Rattle.book.specs.Market.{Market, market}
use Rattle.book.specs.Rights.{held_of, owed, right_of, in_force, numbered, without, taking, write_off}
use Rattle.book.specs.Loads.{Listed, Within, Passes}
use Rattle.book.specs.States.{State, fresh, balance}
use Rattle.book.specs.Checks.{propose_check, annul_check}
use Rattle.book.specs.Calls.{Call, Answer}
use Rattle.book.specs.Calls.Call.{Propose, Annul}
use Rattle.book.specs.Calls.Answer.{Awarded, Annulled, Refused}
use Rattle.book.specs.Events.{Event}
use Rattle.book.specs.Histories.{History, Lived, standing, ever_confirmed, payments, takings, write_offs, deposits, withdrawals, takings_from, state_after, history_after}

-- refused with a limit that some permitted choice passes, or granted and no permitted choice passes any
abbrev pub Decided : Market → (ℕ → ℕ → Type 0) → List Right → Answer → Answer → Type 0
Decided m allowed left answer granted =
    ((month limit excess : ℕ) × (Listed m month limit) × (answer ≡ Refused (LimitPassed month limit excess)) × (Passes m allowed left month limit))
    ⊎ ((answer ≡ granted) × (Within m allowed left))

-- a proposal that passed its earlier checks is decided by the rights not gone and its own lines
abbrev pub ProposalDecided : Market → (ℕ → ℕ → Type 0) → List Right → State → Event → Type 0
ProposalDecided m allowed rs b e =
    (ws : List ℕ) → e.call ≡ Propose ws → propose_check m b ws ≡ None →
    Decided m allowed (rs ++ numbered b.next (decode ws)) e.answer (Awarded b.number b.next (length (decode ws)))

-- an annulment that passed its earlier checks is decided by the rights not gone but the one named
abbrev pub AnnulmentDecided : Market → (ℕ → ℕ → Type 0) → List Right → State → Event → Type 0
AnnulmentDecided m allowed rs b e =
    (s : ℕ) (r : Right) → e.call ≡ Annul s → right_of s b.rights ≡ Some r → annul_check m b r ≡ None →
    Decided m allowed (without s rs) e.answer (Annulled (taking r) (write_off r))

-- a charge is what was paid, is owed, was taken and was written off
abbrev pub Accounted : History → State → Right → Type 0
Accounted h b r = r.line.charge ≡ payments r.serial h + owed r.serial b.rights + takings r.serial h + write_offs r.serial h

pub record Findings (m : Market) (allowed : ℕ → ℕ → Type 0) (n : ℕ) (h : History) (b : State) : Type 0 where
  -- no choice passes a limit: by the rights not gone, and by those of them in force
  pub within : Within m allowed (standing h)
  pub within_in_force : Within m allowed (in_force (standing h))
  -- capacity decides exactly, at each event of the history, from the state before it
  pub proposals : (later earlier : History) (e : Event) (before : State) → h ≡ later ++ e ∷ earlier → Lived m n earlier before → ProposalDecided m allowed (standing earlier) before e
  pub annulments : (later earlier : History) (e : Event) (before : State) → h ≡ later ++ e ∷ earlier → Lived m n earlier before → AnnulmentDecided m allowed (standing earlier) before e
  -- a charge is accounted for
  pub charges : AllByRecursion (Accounted h b) (ever_confirmed h)
  -- an account is accounted for, and covers the guarantees held
  pub accounts : (x : ℕ) → deposits x h ≡ withdrawals x h + takings_from x h + balance b x
  pub covered : (x : ℕ) → held_of x b.rights ≤ balance b x

-- of every calendar, every book and every history that it has lived through
abbrev pub FindingsHold : Meaning → (ℕ → ℤ → ℤ) → (ℕ → ℕ → Type 0) → Type 0
FindingsHold means worst allowed =
    (c : Figures) → (n : ℕ) (h : History) (b : State) → Lived (market means worst c) n h b → Findings (market means worst c) allowed n h b

-- of every calendar, every new book and every list of calls made on it
abbrev pub RunsHold : Meaning → (ℕ → ℤ → ℤ) → (ℕ → ℕ → Type 0) → Type 0
RunsHold means worst allowed =
    (c : Figures) → (n : ℕ) (calls : List Call) →
    Findings (market means worst c) allowed n (history_after (market means worst c) (fresh n) [] calls) (state_after (market means worst c) (fresh n) calls)
