-- What the reader keeps.
use Rattle.std.proofs.Common.{◌≡◌, ℕ, suc, ◌+◌, ◌-◌, ◌/◌, ◌<◌, ◌≤◌, List, ◌∷◌, length, get_or, take, drop, sym, refl, ap, ◌∙◌, arith, lit<, length-drop, get_or-drop}
use Rattle.std.proofs.lemmas.List.{drop-drop, get_or-take, take-take}
use Rattle.submission.specs.Words.{payload, words_of, line_of}
use Rattle.submission.specs.Submissions.{Submission, lines_of}
use Rattle.submission.specs.Reading.{Ready, Opened, Ended, Handed}
use Rattle.submission.proofs.Lines.{Kinds, line-back, line-fits}
use Rattle.submission.proofs.Forms.{formed, only_writing}

pub opened : (ws : List ℕ) → Submission ws → Opened ws ws 1
opened ws s =
    let f = formed ws s in
    let n : (length ws - 1 - 1) / 8 ≡ payload (get_or ws 0 0) = omega (arith, f.long) in
    record {
      words = refl;
      ready = record { whole = s; seam = refl; inside = omega (arith, f.long) };
      lines = ap (λ k. lines_of k (drop 1 ws)) n;
      only = only_writing ws s;
    }

pub ended : (ws : List ℕ) (at : ℕ) → (length ws - 1 - at) / 8 ≡ 0 → Ended ws at at
ended ws at z = record { none = ap (λ k. lines_of k (drop at ws)) z; on = refl }

-- the line of eight words is that of any words which begin with them
line_of_eight : (xs : List ℕ) → line_of (take 8 xs) ≡ line_of xs
line_of_eight xs =
    simp (
      get_or-take 8 xs 0 0 (lit< tt),
      get_or-take 8 xs 1 0 (lit< tt),
      get_or-take 8 xs 2 0 (lit< tt),
      get_or-take 8 xs 3 0 (lit< tt),
      get_or-take 8 xs 4 0 (lit< tt),
      get_or-take 8 xs 5 0 (lit< tt),
      get_or-take 8 xs 6 0 (lit< tt),
      get_or-take 8 xs 7 0 (lit< tt),
    )

module _ (ws : List ℕ) (at : ℕ) (room : at + 8 < length ws) where
  kinds : Ready ws at → Kinds 8 (drop at ws)
  kinds r i h =
      let f = formed ws r.whole in
      let s = (f.each (at + i) (omega arith)).inner (omega (arith, r.seam)) (omega (arith, f.long, r.seam)) in
      let e = get_or-drop at ws i 0 in
      omega (arith, r.seam, s)

  pub handed : (vs : List ℕ) (p : ℕ) → vs ≡ take 8 (drop at ws) → p ≡ at + 1 → Handed ws at (at + 8) vs p
  handed vs p cut place =
      let same : line_of (drop at ws) ≡ line_of vs = sym (line_of_eight (drop at ws)) ∙ ap line_of (sym cut) in
      let count : (length ws - 1 - at) / 8 ≡ suc ((length ws - 1 - (at + 8)) / 8) = omega arith in
      record {
        words = cut;
        place = place;
        on = refl;
        line = ap (λ k. lines_of k (drop at ws)) count ∙ (λ i. same i ∷ lines_of ((length ws - 1 - (at + 8)) / 8) (drop-drop 8 at ws i));
        room = room;
        same = λ r. cut ∙ line-back (drop at ws) (omega (arith, length-drop at ws)) (kinds r) ∙ ap words_of same;
        fits = λ r. line-fits vs;
        ready = λ r. record { whole = r.whole; seam = omega (arith, r.seam); inside = room };
      }

-- the first eight of the words that are left are handed out
pub handed-front : (ws : List ℕ) (at : ℕ) (left vs : List ℕ) → left ≡ take (length ws - 1 - at) (drop at ws) → length left ≡ length ws - 1 - at → 8 ≤ length left → vs ≡ take 8 left → Handed ws at (at + 8) vs (at + 1)
handed-front ws at left vs e n enough cut =
    handed ws at (omega arith) vs (at + 1) (cut ∙ ap (take 8) e ∙ take-take 8 (length ws - 1 - at) (drop at ws) (omega arith)) refl
