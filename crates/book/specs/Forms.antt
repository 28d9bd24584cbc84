-- The form of a proposal's words, word by word.
use Rattle.std.specs.Prelude.{ℕ, suc, ◌+◌, ◌-◌, ◌*◌, ◌%◌, Bool, cond, ◌&&◌, List, [], ◌∷◌, Some, None, Option, MatchOption, ◌==◌, nat_le, slice_index}
use Rattle.terms.specs.declared.refusal.Refusal.{Refusal}
use Rattle.terms.specs.declared.refusal.Refusal.TheVariants.{Form}
use Rattle.submission.specs.Submissions.{Submission, RefusedForm}
use Rattle.submission.specs.Words.{kind, payload}

-- whether the word w may stand at the index i of a submission of n lines
abbrev pub may_stand : ℕ → ℕ → ℕ → Bool
may_stand n i w =
    cond (i == 0) (kind w == 1 && (nat_le 1 (payload w) && nat_le (payload w) 16))
    (cond (nat_le i (8 * n)) (kind w == (i - 1) % 8 + 2) (i == 8 * n + 1 && (kind w == 15 && payload w == i)))

-- the first word, of those from the index i on, that may not stand, or one past the end where some are missing
unfoldable pub first_broken : ℕ → ℕ → List ℕ → Option Refusal
first_broken n i [] = cond (i == 8 * n + 2) None (Some (Form (i + 1)))
first_broken n i (w ∷ ws) = cond (may_stand n i w) (first_broken n (suc i) ws) (Some (Form (i + 1)))

-- the refusal of words that are no submission
abbrev pub form_check : List ℕ → Option Refusal
form_check ws = first_broken (payload (slice_index ws 0)) 0 ws

-- it refuses exactly the words that are no submission, with the place where they break the form
abbrev pub FormDecides : Type 0
FormDecides = (ws : List ℕ) → MatchOption (form_check ws) (Submission ws) (λ e. RefusedForm ws e)
