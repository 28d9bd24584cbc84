-- The cover of guarantees, line after line.
use Rattle.std.proofs.Common.{◌≡◌, ℕ, ◌<◌, ltb, List, get_or, None, ap}
use Rattle.std.proofs.lemmas.Bool.{and_parts, ltb-true, not-false}
use Rattle.terms.specs.declared.refusal.Refusal.TheVariants.{Uncovered}
use Rattle.submission.specs.declared.line.Line.{Line}
use Rattle.calendar.specs.Figures.{Figures}
use Rattle.book.specs.Covers.{Left}
use Rattle.book.specs.Lines.{line_fault, line_stands, holders}
use Rattle.book.specs.Refusing.{refuse_if}
use Rattle.book.specs.Rights.{guarantee}
use Rattle.book.specs.States.{State}
use Rattle.book.specs.Checks.{cover_check}
use Rattle.book.proofs.Refusals.{then_none, refuse_none}

-- the holder of a line without fault is there
pub holder_there : (f : Figures) (place : ℕ) (x : Line) → line_fault f place x ≡ None → x.holder < 32
unfolding line_fault
holder_there f place x h =
    let stands = not-false (line_stands f x) (refuse_none _ _ (then_none _ _ h).0) in
    ltb-true x.holder 32 (and_parts (ltb x.holder holders) _ stands).0

module _ (b : State) (earlier : List Line) (free : List ℕ) (left : Left b earlier free) (place : ℕ) (x : Line) (there : x.holder < 32) where
  -- what is left decides
  pub cover_told : refuse_if (ltb (get_or free x.holder 0) (guarantee x)) (Uncovered place) ≡ cover_check b place earlier x
  cover_told = ap (λ n. refuse_if (ltb n (guarantee x)) (Uncovered place)) (left.each x.holder there)
