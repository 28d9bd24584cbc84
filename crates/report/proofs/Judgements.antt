-- What the first words of an input decide.
use Rattle.std.proofs.Common.{◌≡◌, ℕ, ◌+◌, ◌-◌, ◌*◌, ◌<◌, ◌≤◌, List, [], ◌++◌, length, take, drop, Ok, Err, sym, refl, ap, ◌∙◌, subst, ⊎_elim, append-nil, arith, length-append, take-append-drop}
use lib.Seq.{take-append-le}
use Rattle.std.proofs.lemmas.List.{length-take-le, take_all}
use Rattle.std.proofs.lemmas.Bool.{cases_lt}
use Rattle.std.specs.Prelude.{Result}
use Rattle.terms.specs.declared.refusal.Refusal.{Refusal}
use Rattle.terms.specs.declared.refusal.Refusal.TheVariants.{Form}
use Rattle.submission.specs.Submissions.{Submission, Begins, Sound, RefusedForm, decode}
use Rattle.submission.proofs.Lines.{length-encode}
use Rattle.report.specs.declared.outcome.WellFormed.{WellFormed}
use Rattle.report.specs.Inputs.{whole_words, Accepted, RefusedBytes, Judged, Decided}
use Rattle.report.proofs.Bytes.{length-words, words_front}

-- a submission has at most 130 words, and so have words that begin one
begins_short : (ws : List ℕ) → Begins ws → length ws ≤ 130
begins_short ws b =
    omega (arith, ap length b.3, length-append ws b.1, length-encode b.0, b.2.few)

begins_whole : (ws : List ℕ) → Submission ws → Begins ws
begins_whole ws s = (s.0, [], s.1, sym s.2 ∙ sym (append-nil ws))

submission_short : (ws : List ℕ) → Submission ws → length ws ≤ 130
submission_short ws s = begins_short ws (begins_whole ws s)

-- 521 bytes are no submission
pub too_long : (bs : List ℕ) → 521 ≤ length bs → Accepted bs → ⊥
too_long bs h a = omega (arith, a.0, submission_short (whole_words bs) a.1, length-words bs)

-- words behind the first 130 change nothing
sound_front : (ws more : List ℕ) (n : ℕ) → 130 ≤ length ws → Sound ws n → Sound (ws ++ more) n
sound_front ws more n h s =
    let long = length-append ws more in
    record {
      within = omega (arith, s.within);
      begins = subst Begins (sym (take-append-le n ws more s.within)) s.begins;
      longest = λ k le b.
          let short = begins_short (take k (ws ++ more)) b in
          let kept = length-take-le k (ws ++ more) le in
          let in' : k ≤ length ws = omega arith in
          s.longest k in' (subst Begins (take-append-le k ws more in') b);
    }

-- 521 bytes decide
pub decided : (bs : List ℕ) (r : Result WellFormed Refusal) → Judged bs r → Decided bs r
decided bs (Ok form) a rest h = absurd (too_long bs h a.0)
decided bs (Err e) (p, is, b) rest h =
    let w = words_front bs rest in (
      p,
      is,
      record {
        none = λ a. too_long (bs ++ rest) (omega (arith, length-append bs rest)) a;
        from = b.from;
        sound = subst (λ ws. Sound ws (p - 1)) (sym w.1) (sound_front (whole_words bs) w.0 (p - 1) (omega (arith, length-words bs)) b.sound);
      },
    )

-- vs, the first 130 words, decide
module _ (bs vs : List ℕ) (cut : vs ≡ take 130 (whole_words bs)) where
  abbrev ws : List ℕ
  ws = whole_words bs

  every : length ws ≤ 130 → vs ≡ ws
  every h = cut ∙ take_all 130 ws h

  front_sound : (m : ℕ) → Sound vs m → Sound ws m
  front_sound m s = ⊎_elim
      (λ h. subst (λ v. Sound v m) (ap (λ v. v ++ drop 130 ws) cut ∙ take-append-drop 130 ws) (sound_front vs (drop 130 ws) m (omega (arith, ap length cut, length-take-le 130 ws (omega arith))) s))
      (λ h. subst (λ v. Sound v m) (every h) s)
      (cases_lt 130 (length ws))

  pub broken_early : (e : Refusal) → RefusedForm vs e → RefusedBytes bs e
  broken_early e (p, is, b) = (
    p,
    is,
    record {
      none = λ a. b.none (subst Submission (sym (every (submission_short ws a.1))) a.1);
      from = b.from;
      sound = front_sound (p - 1) b.sound;
    },
  )

  pub broken_late : Submission vs → 4 * length vs < length bs → RefusedBytes bs (Form (length vs + 1))
  broken_late s more = (
    length vs + 1,
    refl,
    record {
      none = λ a. omega (arith, a.0, ap length (every (submission_short ws a.1)), length-words bs);
      from = omega arith;
      sound = front_sound (length vs + 1 - 1) (record {
        within = omega arith;
        begins = subst Begins (sym (take_all (length vs + 1 - 1) vs (omega arith))) (begins_whole vs s);
        longest = λ k le b. omega arith;
      });
    },
  )

  -- what is accepted was read whole
  pub all_read : Accepted bs → vs ≡ ws
  all_read a = every (submission_short ws a.1)

  pub all_counted : (n : ℕ) → Accepted bs → n ≡ length (decode ws) → n ≡ length (decode vs)
  all_counted n a e = e ∙ ap (λ ws. length (decode ws)) (sym (all_read a))

  pub whole : Submission vs → length bs ≤ 4 * length vs → Accepted bs × (vs ≡ ws)
  whole s all =
      let same : vs ≡ ws = ⊎_elim
      (λ h. absurd (omega (arith, ap length cut, length-take-le 130 ws (omega arith), length-words bs)))
      (λ h. every h)
      (cases_lt 130 (length ws)) in
      ((omega (arith, ap length same, length-words bs), subst Submission same s), same)
