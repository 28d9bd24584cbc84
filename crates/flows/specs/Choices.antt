-- Choices of uses, and the worst that a choice can do.
use Rattle.std.specs.Prelude.{ℕ, cond, List, [], ◌∷◌, ℤ, pos, ◌+ℤ◌, ◌*ℤ◌, ◌≤ℤ◌, ◌<ℤ◌, Some, None, Option}
use Rattle.flows.specs.declared.load.RightAtLimit.{RightAtLimit}
use Rattle.flows.specs.Factors.{Meaning}
use Rattle.flows.specs.Loads.{counts, factor_of}

-- a choice: one use for each right, each of them one that the rule allows for the right's power
abbrev pub Choice : (ℕ → ℕ → Type 0) → List RightAtLimit → List ℕ → Type 0
Choice allowed [] [] = Unit {0}
Choice allowed [] (used ∷ uses) = ⊥
Choice allowed (right ∷ rights) [] = ⊥
Choice allowed (right ∷ rights) (used ∷ uses) = allowed right.power used × Choice allowed rights uses

-- the flow of a use at a factor
abbrev pub carried : Option ℤ → ℕ → ℤ
carried (Some f) used = f *ℤ pos used
carried None used = pos 0

-- the flow of a right: factor × use in a valid month where the pair is marked, else 0
abbrev pub flow_of : Meaning → ℕ → ℕ → RightAtLimit → ℕ → ℤ
flow_of means month limit right used = cond (counts month right) (carried (factor_of means month limit right) used) (pos 0)

-- the flow of a choice: the sum of the flows of the rights
abbrev pub flow : Meaning → ℕ → ℕ → List RightAtLimit → List ℕ → ℤ
flow means month limit [] uses = pos 0
flow means month limit (right ∷ rights) [] = pos 0
flow means month limit (right ∷ rights) (used ∷ uses) = flow_of means month limit right used +ℤ flow means month limit rights uses

-- every choice stays within a bound
abbrev pub Within : Meaning → (ℕ → ℕ → Type 0) → ℕ → ℕ → List RightAtLimit → ℤ → Type 0
Within means allowed month limit rights bound =
    (uses : List ℕ) → Choice allowed rights uses → (flow means month limit rights uses) ≤ℤ bound

-- some choice passes a bound
abbrev pub Passable : Meaning → (ℕ → ℕ → Type 0) → ℕ → ℕ → List RightAtLimit → ℤ → Type 0
Passable means allowed month limit rights bound =
    (uses : List ℕ) × Choice allowed rights uses × (bound <ℤ (flow means month limit rights uses))

-- a sum is the worst case of the rights: it is within a bound exactly when every choice is, and where it passes a bound, some choice does
pub record WorstCase (means : Meaning) (allowed : ℕ → ℕ → Type 0) (month limit : ℕ) (rights : List RightAtLimit) (sum : ℤ) : Type 0 where
  pub keeps : (bound : ℤ) → sum ≤ℤ bound → Within means allowed month limit rights bound
  pub kept : (bound : ℤ) → Within means allowed month limit rights bound → sum ≤ℤ bound
  pub passed : (bound : ℤ) → bound <ℤ sum → Passable means allowed month limit rights bound
