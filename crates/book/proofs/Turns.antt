-- One line more of a submission: checked.
use Rattle.std.proofs.Common.{◌≡◌, ℕ, suc, ◌+◌, List, [], ◌∷◌, Some, None, Option, sym, refl, ap, ◌∙◌, arith}
use Rattle.terms.specs.declared.refusal.Refusal.{Refusal}
use Rattle.submission.specs.declared.line.Line.{Line}
use Rattle.book.specs.Market.{Market}
use Rattle.book.specs.Refusing.{◌then◌}
use Rattle.book.specs.States.{State}
use Rattle.book.specs.Checks.{factor_at, factors_check, cover_check, line_check, lines_check}
use Rattle.book.specs.Lines.{line_fault}
use Rattle.book.proofs.Refusals.{then_skip, then_stop}

-- three checks in turn before a fourth, and the three as one
then_three : (f g h k : Option Refusal) → f then g then h then k ≡ (f then g then h) then k
then_three None None h k = refl
then_three None (Some e) h k = refl
then_three (Some e) g h k = refl

module _ (m : Market) (b : State) (place : ℕ) (earlier : List Line) (x : Line) (here next : List Line) (split : here ≡ x ∷ next) where
  lines_step : lines_check m b place earlier (x ∷ next) ≡ line_fault m.calendar place x then factors_check m place x then cover_check b place earlier x then lines_check m b (suc place) (x ∷ earlier) next
  unfolding lines_check factor_at
  lines_step = refl

  lines_more : lines_check m b place earlier here ≡ line_check m b place earlier x then lines_check m b (place + 1) (x ∷ earlier) next
  lines_more =
      let n : suc place ≡ place + 1 = omega arith in
      ap (lines_check m b place earlier) split ∙ lines_step
      ∙ then_three (line_fault m.calendar place x) (factors_check m place x) (cover_check b place earlier x) (lines_check m b (suc place) (x ∷ earlier) next)
      ∙ ap (λ k. line_check m b place earlier x then lines_check m b k (x ∷ earlier) next) n

  pub lines-passed : (all : Option Refusal) → lines_check m b place earlier here ≡ all → line_check m b place earlier x ≡ None → lines_check m b (place + 1) (x ∷ earlier) next ≡ all
  lines-passed all inv ok = sym (lines_more ∙ then_skip _ (lines_check m b (place + 1) (x ∷ earlier) next) ok) ∙ inv

  pub lines_stopped : (all : Option Refusal) → lines_check m b place earlier here ≡ all → (e : Refusal) → line_check m b place earlier x ≡ Some e → all ≡ Some e
  lines_stopped all inv e stop = sym inv ∙ lines_more ∙ then_stop _ (lines_check m b (place + 1) (x ∷ earlier) next) e stop

pub lines_done : (m : Market) (b : State) (place : ℕ) (earlier here : List Line) (all : Option Refusal) → here ≡ [] → lines_check m b place earlier here ≡ all → all ≡ None
unfolding lines_check
lines_done m b place earlier here all none inv = sym inv ∙ ap (lines_check m b place earlier) none
