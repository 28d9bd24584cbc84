-- Histories: capacity decides proposals and annulments exactly.
use Rattle.std.proofs.Common.{◌≡◌, ℕ, ◌+◌, ◌≤◌, List, [], ◌∷◌, ◌++◌, length, Some, None, Option, sym, refl, ap, ◌∙◌, subst, inl, inr}
use Rattle.submission.specs.Submissions.{decode}
use Rattle.book.specs.declared.right.Right.{Right}
use Rattle.terms.specs.declared.refusal.Refusal.{Refusal}
use Rattle.book.specs.Market.{Market}
use Rattle.book.proofs.Bounded.{BoundedLines}
use Rattle.book.specs.Rights.{right_of, numbered, without, taking, write_off}
use Rattle.book.specs.States.{State}
use Rattle.book.specs.Refusing.{◌then◌}
use Rattle.book.specs.Checks.{capacity_check, propose_check, annul_check}
use Rattle.book.specs.Calls.{Answer, outcome, propose, annul_right, annul, act}
use Rattle.book.specs.Calls.Answer.{Awarded, Annulled, Refused}
use Rattle.book.specs.Events.{Event}
use Rattle.book.specs.Histories.{History, Lived, standing}
use Rattle.book.specs.Findings.{Decided, ProposalDecided, AnnulmentDecided}
use Rattle.book.proofs.Lists.{Rising, rising_without, all_without}
use Rattle.book.proofs.Worst.{Small, Lawful, passes_from_load, within_from_fits}
use Rattle.book.proofs.Checks.{fits_from_check, past_from_check}
use Rattle.book.proofs.Sound.{Sound, proposed_small, proposed_rising}
use Rattle.book.proofs.Accounts.{standing-lived, sound-lived}

module _ (m : Market) (allowed : ℕ → ℕ → Type 0) (laws : Lawful m allowed) where
  -- the capacity check alone
  decided : (left : List Right) (hi : ℕ) → Small left → Rising 0 left hi → (f : Option Refusal) → capacity_check m left ≡ f → (b : State) (granted : Answer) (after : State) → Decided m allowed left (outcome f b granted after).answer granted
  decided left hi small up None e b granted after = inr (refl, within_from_fits m allowed laws left small (fits_from_check m left e))
  decided left hi small up (Some x) e b granted after =
      let p = past_from_check m left x e in
      inl (p.0, p.1, p.2, p.3, ap Refused p.4, passes_from_load m allowed laws p.0 p.1 0 left hi small up p.5)

  -- behind checks that passed
  decided_behind : (left : List Right) (hi : ℕ) → Small left → Rising 0 left hi → (f : Option Refusal) → f ≡ None → (b : State) (granted : Answer) (after : State) → Decided m allowed left (outcome (f then capacity_check m left) b granted after).answer granted
  decided_behind left hi small up f e b granted after =
      subst (λ g. Decided m allowed left (outcome (g then capacity_check m left) b granted after).answer granted) (sym e) (decided left hi small up (capacity_check m left) refl b granted after)

  decided-propose : (b : State) → Sound m b → (ws : List ℕ) → propose_check m b ws ≡ None → Decided m allowed (b.rights ++ numbered b.next (decode ws)) (propose m b ws).answer (Awarded b.number b.next (length (decode ws)))
  decided-propose b is ws h = decided_behind (b.rights ++ numbered b.next (decode ws)) (b.next + length (decode ws)) (proposed_small m b is ws h) (proposed_rising m b is ws) (propose_check m b ws) h b _ _

  decided-annul : (b : State) → Sound m b → (s : ℕ) (r : Right) → right_of s b.rights ≡ Some r → annul_check m b r ≡ None → Decided m allowed (without s b.rights) (annul m b s).answer (Annulled (taking r) (write_off r))
  decided-annul b is s r e h =
      subst (λ o. Decided m allowed (without s b.rights) (annul_right m b s o).answer (Annulled (taking r) (write_off r))) (sym e)
      (decided_behind (without s b.rights) b.next (all_without (λ r. r.line.power ≤ 1000000) s b.rights is.small) (rising_without s 0 b.rights b.next is.rising) (annul_check m b r) h b _ _)

  module _ (law : BoundedLines m) (n : ℕ) where
    -- a book that lived through a history lived through its beginning
    lived-before : (later h : History) (b : State) → Lived m n (later ++ h) b → (c : State) × Lived m n h c
    lived-before [] h b l = (b, l)
    lived-before (e ∷ later) h b l = lived-before later h l.0 l.1

    -- a history leads to one ledger
    lived_one : (h : History) (b c : State) → Lived m n h b → Lived m n h c → b ≡ c
    lived_one [] b c l k = l ∙ sym k
    lived_one (e ∷ h) b c l k = l.3 ∙ ap (λ z. (act m z e.call).after) (lived_one h l.0 k.0 l.1 k.1) ∙ sym k.3

    -- the answer at an event is the one from the state before it
    answered : (h later earlier : History) (e : Event) (b c : State) → Lived m n h b → h ≡ later ++ e ∷ earlier → Lived m n earlier c → e.answer ≡ (act m c e.call).answer
    answered h later earlier e b c l q k =
        let at = (lived-before later (e ∷ earlier) b (subst (λ x. Lived m n x b) q l)).1 in
        at.2 ∙ ap (λ z. (act m z e.call).answer) (lived_one earlier at.0 c at.1 k)

    pub proposals-lived : (h : History) (b : State) → Lived m n h b → (later earlier : History) (e : Event) (c : State) → h ≡ later ++ e ∷ earlier → Lived m n earlier c → ProposalDecided m allowed (standing earlier) c e
    proposals-lived h b l later earlier e c q k ws ec check =
        rw (standing-lived m n earlier c k, answered h later earlier e b c l q k, ec) (decided-propose c (sound-lived m law n earlier c k) ws check)

    pub annulments-lived : (h : History) (b : State) → Lived m n h b → (later earlier : History) (e : Event) (c : State) → h ≡ later ++ e ∷ earlier → Lived m n earlier c → AnnulmentDecided m allowed (standing earlier) c e
    annulments-lived h b l later earlier e c q k s r ec there check =
        rw (standing-lived m n earlier c k, answered h later earlier e b c l q k, ec) (decided-annul c (sound-lived m law n earlier c k) s r there check)
