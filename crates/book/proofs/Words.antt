-- The check of the form word by word refuses words that are no submission, at the place where they break the form, and no others.
use Rattle.std.proofs.Common.{◌≡◌, ℕ, zero, suc, ◌+◌, ◌-◌, ◌*◌, ◌<◌, true, false, eqb, List, length, get_or, drop, Some, None, Option, sym, refl, ap, ◌∙◌, subst, arith, below_more, MatchOption}
use Rattle.std.proofs.lemmas.List.{drop_all, drop_more}
use Rattle.std.proofs.lemmas.Bool.{cond_both, eqb-true}
use Rattle.std.proofs.lemmas.Bool.Decides.{nat_tests}
use Rattle.terms.specs.declared.refusal.Refusal.{Refusal}
use Rattle.terms.specs.declared.refusal.Refusal.TheVariants.{Form}
use Rattle.submission.specs.Places.{Stands}
use Rattle.submission.specs.Submissions.{Submission, Breaks, RefusedForm}
use Rattle.submission.proofs.Forms.{count, formed_back}
use Rattle.submission.proofs.Prefixes.{StandTo, breaks_at, breaks_off}
use Rattle.book.specs.Forms.{may_stand, first_broken, form_check}

stands_from_test : (n i w : ℕ) → may_stand n i w ≡ true → Stands n i w
stands_from_test n i w h = record {
  head = λ z. (grind (arith, nat_tests), grind (arith, nat_tests), grind (arith, nat_tests));
  inner = λ a b. grind (arith, nat_tests);
  end = λ a. (grind (arith, nat_tests), grind (arith, nat_tests), grind (arith, nat_tests));
}

test_from_stands : (n i w : ℕ) → may_stand n i w ≡ false → Stands n i w → ⊥
test_from_stands n i w h s =
    let head = s.head in
    let inner = s.inner in
    let end = s.end in
    grind (arith, nat_tests)

-- what a check of the form tells
abbrev Told : List ℕ → Option Refusal → Type 0
Told ws o = MatchOption o (Submission ws) (λ e. RefusedForm ws e)

told : (ws : List ℕ) (k i : ℕ) → i + k ≡ length ws → StandTo ws i → Told ws (first_broken (count ws) i (drop i ws))
unfolding first_broken
told ws zero i e r =
    subst (λ vs. Told ws (first_broken (count ws) i vs)) (sym (drop_all i ws (omega arith)))
    (cond_both (eqb i (8 * count ws + 2)) None (Some (Form (i + 1))) (Told ws)
    (λ yes. formed_back ws (record { long = omega (arith, eqb-true i (8 * count ws + 2) yes); each = λ j h. r j (omega arith) }))
    (λ not. (i + 1, refl, subst (λ j. Breaks ws (j + 1)) (let q : length ws ≡ i = omega arith in q) (breaks_off ws (λ j h. r j (omega arith)) (λ q. grind (arith, nat_tests))))))
told ws (suc k) i e r =
    let here : i < length ws = omega arith in
    let w : ℕ = get_or ws i 0 in
    subst (λ vs. Told ws (first_broken (count ws) i vs)) (sym (drop_more ws i 0 here))
    (cond_both (may_stand (count ws) i w) (first_broken (count ws) (suc i) (drop (i + 1) ws)) (Some (Form (i + 1))) (Told ws)
    (λ yes. subst (λ j. Told ws (first_broken (count ws) (suc i) (drop j ws))) (let q : suc i ≡ i + 1 = omega arith in q)
    (told ws k (suc i) (omega arith) (λ j h. below_more (λ j. Stands (count ws) j (get_or ws j 0)) i r (stands_from_test (count ws) i w yes) j (omega arith))))
    (λ not. (i + 1, refl, breaks_at ws i here r (test_from_stands (count ws) i w not))))

pub form_told : (ws : List ℕ) → Told ws (form_check ws)
form_told ws = told ws (length ws) 0 (omega arith) (λ k h. absurd (omega arith))

one_place : (ws : List ℕ) (p q : ℕ) → Breaks ws p → Breaks ws q → p ≡ q
one_place ws p q a b =
    let x = a.sound.longest (q - 1) b.sound.within b.sound.begins in
    let y = b.sound.longest (p - 1) a.sound.within a.sound.begins in
    omega (arith, a.from, b.from)

pub form_none : (ws : List ℕ) → Submission ws → form_check ws ≡ None
form_none ws s = by (form_check ws) (form_told ws)
  where
    by : (o : Option Refusal) → Told ws o → o ≡ None
    by None t = refl
    by (Some e) t = absurd (t.2.none s)

pub form_some : (ws : List ℕ) (e : Refusal) → RefusedForm ws e → form_check ws ≡ Some e
form_some ws e r = by (form_check ws) (form_told ws)
  where
    by : (o : Option Refusal) → Told ws o → o ≡ Some e
    by None t = absurd (r.2.none t)
    by (Some x) t = ap Some (t.1 ∙ ap Form (one_place ws t.0 r.0 t.2 r.2) ∙ sym r.1)
