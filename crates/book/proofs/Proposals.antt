-- The outcome of a proposal, and of an annulment that is granted, by what their checks say in turn.
use Rattle.std.proofs.Common.{◌≡◌, ℕ, ◌-◌, Bool, true, false, not, List, [], ◌++◌, length, is_some, Some, None, Option, sym, refl, ap, ◌∙◌, subst}
use Rattle.std.specs.Option.{option_map}
use Rattle.terms.specs.declared.refusal.Refusal.{Refusal}
use Rattle.terms.specs.declared.refusal.Refusal.TheVariants.{AwardOpen, Unknown, NotOverdue}
use Rattle.submission.specs.Submissions.{decode}
use Rattle.book.specs.declared.ledger.Pending.{Pending}
use Rattle.book.specs.declared.right.Right.{Right}
use Rattle.book.specs.Market.{Market}
use Rattle.book.specs.Refusing.{◌then◌, refuse_if}
use Rattle.book.specs.Rights.{is_in_force, right_of, numbered, without, taking, write_off}
use Rattle.book.specs.States.{State, balance, entered, with_rights, with_balance}
use Rattle.book.specs.Views.{numbers}
use Rattle.book.specs.Forms.{form_check}
use Rattle.book.specs.Checks.{open_check, lines_check, room_check, propose_check, capacity_check, known_check, overdue_on, annul_check}
use Rattle.book.specs.Calls.{propose, annul, annul_right}
use Rattle.book.specs.Calls.Answer.{Awarded, Annulled, Refused}
use Rattle.book.proofs.Refusals.{then_skip, then_stop}
use Rattle.book.proofs.Outcomes.{Is, granted, refused_by}

-- whether an award is open, in the ledger and in the state that it is
pub open_as_viewed : (o : Option Pending) → is_some (option_map numbers o) ≡ is_some o
open_as_viewed None = refl
open_as_viewed (Some p) = refl

-- an award is open, or none is
pub award_open : (b : State) → is_some b.pending ≡ true → open_check b ≡ Some AwardOpen
award_open b e = ap (λ t. refuse_if t AwardOpen) e

pub no_award : (b : State) → is_some b.pending ≡ false → open_check b ≡ None
no_award b e = ap (λ t. refuse_if t AwardOpen) e

module _ (m : Market) (b : State) (ws : List ℕ) where
  abbrev leaves : List Right
  leaves = b.rights ++ numbered b.next (decode ws)

  refused : (e : Refusal) → propose_check m b ws ≡ Some e → Is (propose m b ws) (Refused e) b
  refused e h = refused_by (propose_check m b ws then capacity_check m leaves) b (Awarded b.number b.next (length (decode ws))) (entered b (decode ws)) e (then_stop (propose_check m b ws) (capacity_check m leaves) e h)

  pub broken_form : (e : Refusal) → form_check ws ≡ Some e → Is (propose m b ws) (Refused e) b
  broken_form e h = refused e (then_stop (form_check ws) (open_check b then lines_check m b 1 [] (decode ws) then room_check b (decode ws)) e h)

  module _ (formed : form_check ws ≡ None) where
    after_form : propose_check m b ws ≡ open_check b then lines_check m b 1 [] (decode ws) then room_check b (decode ws)
    after_form = then_skip (form_check ws) (open_check b then lines_check m b 1 [] (decode ws) then room_check b (decode ws)) formed

    pub already_open : is_some b.pending ≡ true → Is (propose m b ws) (Refused AwardOpen) b
    already_open e = refused AwardOpen (after_form ∙ then_stop (open_check b) (lines_check m b 1 [] (decode ws) then room_check b (decode ws)) AwardOpen (award_open b e))

    module _ (none : is_some b.pending ≡ false) where
      after_open : propose_check m b ws ≡ lines_check m b 1 [] (decode ws) then room_check b (decode ws)
      after_open = after_form ∙ then_skip (open_check b) (lines_check m b 1 [] (decode ws) then room_check b (decode ws)) (no_award b none)

      pub bad_lines : (e : Refusal) → lines_check m b 1 [] (decode ws) ≡ Some e → Is (propose m b ws) (Refused e) b
      bad_lines e h = refused e (after_open ∙ then_stop (lines_check m b 1 [] (decode ws)) (room_check b (decode ws)) e h)

      module _ (lines : lines_check m b 1 [] (decode ws) ≡ None) where
        after-lines : propose_check m b ws ≡ room_check b (decode ws)
        after-lines = after_open ∙ then_skip (lines_check m b 1 [] (decode ws)) (room_check b (decode ws)) lines

        pub no_room : (e : Refusal) → room_check b (decode ws) ≡ Some e → Is (propose m b ws) (Refused e) b
        no_room e h = refused e (after-lines ∙ h)

        module _ (room : room_check b (decode ws) ≡ None) (after : List Right) (those : after ≡ leaves) where
          check_is : (o : Option Refusal) → capacity_check m after ≡ o → propose_check m b ws then capacity_check m leaves ≡ o
          check_is o h = then_skip (propose_check m b ws) (capacity_check m leaves) (after-lines ∙ room) ∙ ap (capacity_check m) (sym those) ∙ h

          pub too_much : (e : Refusal) → capacity_check m after ≡ Some e → Is (propose m b ws) (Refused e) b
          too_much e h = refused_by (propose_check m b ws then capacity_check m leaves) b (Awarded b.number b.next (length (decode ws))) (entered b (decode ws)) e (check_is (Some e) h)

          pub accepted : capacity_check m after ≡ None → Is (propose m b ws) (Awarded b.number b.next (length (decode ws))) (entered b (decode ws))
          accepted h = granted (propose_check m b ws then capacity_check m leaves) b (Awarded b.number b.next (length (decode ws))) (entered b (decode ws)) (check_is None h)

module _ (m : Market) (b : State) (s : ℕ) (r : Right) (there : right_of s b.rights ≡ Some r) where
  abbrev cleared : State
  cleared = with_balance (with_rights b (without s b.rights)) r.line.holder (balance b r.line.holder - taking r)

  module _ (live : is_in_force r ≡ true) where
    after_known : annul_check m b r ≡ open_check b then refuse_if (not (overdue_on m b.day r)) NotOverdue
    after_known = then_skip (known_check r) (open_check b then refuse_if (not (overdue_on m b.day r)) NotOverdue) (ap (λ x. refuse_if (not x) Unknown) live)

    module _ (none : is_some b.pending ≡ false) where
      after_opening : (x : Bool) → overdue_on m b.day r ≡ x → annul_check m b r ≡ refuse_if (not x) NotOverdue
      after_opening x e = after_known ∙ then_skip (open_check b) (refuse_if (not (overdue_on m b.day r)) NotOverdue) (no_award b none) ∙ ap (λ t. refuse_if (not t) NotOverdue) e

      module _ (late : overdue_on m b.day r ≡ true) (after : List Right) (those : after ≡ without s b.rights) where
        annul_is : (o : Option Refusal) → capacity_check m after ≡ o → annul_check m b r then capacity_check m (without s b.rights) ≡ o
        annul_is o h = then_skip (annul_check m b r) (capacity_check m (without s b.rights)) (after_opening true late) ∙ ap (capacity_check m) (sym those) ∙ h

        pub annul_granted : capacity_check m after ≡ None → Is (annul m b s) (Annulled (taking r) (write_off r)) cleared
        annul_granted h =
            subst (λ o. Is (annul_right m b s o) (Annulled (taking r) (write_off r)) cleared) (sym there)
            (granted (annul_check m b r then capacity_check m (without s b.rights)) b (Annulled (taking r) (write_off r)) cleared (annul_is None h))
