-- A call that comes to its defined outcome carries every history on by one event.
use Rattle.std.proofs.Common.{◌≡◌, ℕ, ◌≤◌, ◌∷◌, ℤ, pos, ◌*ℤ◌, ◌≤ℤ◌, Ok, Err, Result, sym}
use Rattle.calendar.specs.Figures.{Figures, figures}
use Rattle.flows.specs.Factors.{InFactorRange, Ranged}
use Rattle.flows.specs.declared.source.FactorSource as source
use Rattle.flows.specs.declared.rule.UseRule as rule
use Rattle.terms.specs.Ranges.{most_power}
use Rattle.book.specs.declared.book.Book.{Book}
use Rattle.book.specs.Views.{view}
use Rattle.terms.specs.declared.refusal.Refusal.{Refusal}
use Rattle.book.specs.Market.{Market, market, market_of}
use Rattle.book.specs.States.{State}
use Rattle.book.specs.Calls.{Call, Answer, Outcome, act}
use Rattle.book.specs.Histories.{Lived}
use Rattle.book.specs.Results.{Gives}
use Rattle.book.specs.Living.{answered, ComesTo, happened, LivesOn}
use Rattle.book.proofs.Worst.{Lawful}
use Rattle.book.proofs.BothWays.{findings_as_stated}

pub comes_to : {X : Type 0} (granted : X → Answer) (o : Outcome) (r : Result X Refusal) (after : State) → Gives granted o r after → ComesTo o (answered granted r) after
comes_to granted o (Ok x) after g = g
comes_to granted o (Err e) after g = g

pub lives_on : (m : Market) (allowed : ℕ → ℕ → Type 0) → Lawful m allowed → (b : State) (c : Call) (a : Answer) (after : State) → ComesTo (act m b c) a after → LivesOn m allowed b c a after
lives_on m allowed laws b c a after o n h l =
    let more : Lived m n (happened c a ∷ h) after = (b, l, sym o.0, sym o.1) in
    (more, findings_as_stated m allowed laws n (happened c a ∷ h) after more)

module _ {S R : Type 0} (s : source.Ghosts S) (r : rule.Ghosts R)
    (ranged : (x : S) (month limit i w : ℕ) → Ranged (s.means x month limit i w))
    (attained : (y : R) (p : ℕ) (f : ℤ) → p ≤ most_power → InFactorRange f → (u : ℕ) × (r.allowed y p u) × (r.worst y p f ≡ f *ℤ pos u))
    (dominates : (y : R) (p u : ℕ) (f : ℤ) → p ≤ most_power → InFactorRange f → r.allowed y p u → (f *ℤ pos u) ≤ℤ (r.worst y p f)) where
  -- the laws of a source and a rule, as those of a market
  pub lawful : (x : S) (y : R) (k : Figures) → Lawful (market (s.means x) (r.worst y) k) (r.allowed y)
  lawful x y k = record { ranged = ranged x; attained = attained y; dominates = dominates y }

  pub carries_on : (before : Book S R) (c : Call) (a : Answer) (after : State) → ComesTo (act (market_of s r before.basis) (view before.ledger) c) a after → LivesOn (market_of s r before.basis) (r.allowed before.basis.rule) (view before.ledger) c a after
  carries_on before c a after = lives_on (market_of s r before.basis) (r.allowed before.basis.rule) (lawful before.basis.source before.basis.rule (figures before.basis.calendar)) (view before.ledger) c a after
