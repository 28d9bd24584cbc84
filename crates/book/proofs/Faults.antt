-- The fault of a line by itself, and of the factors that it needs, from what the tests say.
use Rattle.std.proofs.Common.{◌≡◌, ℕ, true, false, not, ◌&&◌, ℤ, is_some, Some, None, sym, ap, ◌∙◌}
use Rattle.terms.specs.declared.refusal.Refusal.TheVariants.{BadLine, BelowFloor, NoFactor}
use Rattle.submission.specs.declared.line.Line.{Line}
use Rattle.calendar.specs.Figures.{Figures}
use Rattle.book.specs.Refusing.{◌then◌, refuse_if}
use Rattle.book.specs.Market.{Market}
use Rattle.book.specs.Lines.{line_stands, reaches_floor, line_fault}
use Rattle.book.specs.Loads.{counts, factor}
use Rattle.book.specs.Checks.{factor_at}

module _ (f : Figures) (place : ℕ) (x : Line) where
  pub bad_line : line_stands f x ≡ false → line_fault f place x ≡ Some (BadLine place)
  unfolding line_fault
  bad_line e = ap (λ t. refuse_if (not t) (BadLine place) then refuse_if (not (reaches_floor f x)) (BelowFloor place)) e

  floor_left : line_stands f x ≡ true → line_fault f place x ≡ refuse_if (not (reaches_floor f x)) (BelowFloor place)
  unfolding line_fault
  floor_left e = ap (λ t. refuse_if (not t) (BadLine place) then refuse_if (not (reaches_floor f x)) (BelowFloor place)) e

  pub below_floor : line_stands f x ≡ true → reaches_floor f x ≡ false → line_fault f place x ≡ Some (BelowFloor place)
  below_floor e g = floor_left e ∙ ap (λ t. refuse_if (not t) (BelowFloor place)) g

  pub no_fault : line_stands f x ≡ true → reaches_floor f x ≡ true → line_fault f place x ≡ None
  no_fault e g = floor_left e ∙ ap (λ t. refuse_if (not t) (BelowFloor place)) g

-- the factor that a line needs at a limit in a month
module _ (m : Market) (place : ℕ) (x : Line) (month limit : ℕ) where
  pub not-counted : counts m month limit x ≡ false → factor_at m place x month limit ≡ None
  unfolding factor_at
  not-counted e = ap (λ t. refuse_if (t && not (is_some (factor m month limit x))) (NoFactor place month limit)) e

  counted : counts m month limit x ≡ true → factor_at m place x month limit ≡ refuse_if (not (is_some (factor m month limit x))) (NoFactor place month limit)
  unfolding factor_at
  counted e = ap (λ t. refuse_if (t && not (is_some (factor m month limit x))) (NoFactor place month limit)) e

  pub has_factor : counts m month limit x ≡ true → (f : ℤ) → Some f ≡ factor m month limit x → factor_at m place x month limit ≡ None
  has_factor e f h = counted e ∙ ap (λ o. refuse_if (not (is_some o)) (NoFactor place month limit)) (sym h)

  pub lacks_factor : counts m month limit x ≡ true → None ≡ factor m month limit x → factor_at m place x month limit ≡ Some (NoFactor place month limit)
  lacks_factor e h = counted e ∙ ap (λ o. refuse_if (not (is_some o)) (NoFactor place month limit)) (sym h)
