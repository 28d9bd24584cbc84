-- The award in hand is the one that is open, after each call.
use Rattle.std.proofs.Common.{◌≡◌, ℕ, Bool, true, ◌&&◌, T, eqb, List, ◌++◌, length, Some, None, Option, sym, refl, subst, arith}
use Rattle.std.proofs.lemmas.Bool.{and_from, eq-eqb}
use Rattle.terms.specs.declared.refusal.Refusal.{Refusal}
use Rattle.submission.specs.Submissions.{decode}
use Rattle.book.specs.declared.award.AwardNumbers.{AwardNumbers}
use Rattle.book.specs.Market.{Market}
use Rattle.book.specs.Refusing.{◌then◌}
use Rattle.book.specs.Rights.{numbered}
use Rattle.book.specs.States.{State, entered}
use Rattle.book.specs.Checks.{is_open, propose_check, capacity_check}
use Rattle.book.specs.Calls.{outcome, propose}
use Rattle.book.specs.Calls.Answer.{Awarded}
use Rattle.book.specs.Results.{awarded}
use Rattle.book.specs.Living.{ComesTo}

true_T : (t : Bool) → t ≡ true → T t
true_T t e = subst T (sym e) tt

-- an accepted proposal opens the award that it hands out, and none was open before
module _ (m : Market) (b : State) (ws : List ℕ) (a : AwardNumbers) (after : State) where
  granted_only : (f : Option Refusal) → ComesTo (outcome f b (Awarded b.number b.next (length (decode ws))) (entered b (decode ws))) (awarded a) after → (f ≡ None) × (awarded a ≡ Awarded b.number b.next (length (decode ws))) × (entered b (decode ws) ≡ after)
  granted_only None k = (refl, sym k.0, k.1)
  granted_only (Some e) k = let z : ◌≡◌ {A = ℕ} 0 1 = let h = k.0 in cc in absurd (omega arith)

  pub proposed_open : ComesTo (propose m b ws) (awarded a) after → T (is_open after.number a.book a.first a.lines after.pending)
  proposed_open k =
      let g = granted_only (propose_check m b ws then capacity_check m (b.rights ++ numbered b.next (decode ws))) k in
      let ea : a.book ≡ b.number = let h = g.1 in cc in
      let ef : a.first ≡ b.next = let h = g.1 in cc in
      let el : a.lines ≡ length (decode ws) = let h = g.1 in cc in
      subst (λ (s : State). T (is_open s.number a.book a.first a.lines s.pending)) g.2
      (true_T _ (and_from (eqb a.book b.number) (eqb a.first b.next && eqb a.lines (length (decode ws))) (eq-eqb a.book b.number ea)
      (and_from (eqb a.first b.next) (eqb a.lines (length (decode ws))) (eq-eqb a.first b.next ef) (eq-eqb a.lines (length (decode ws)) el))))
