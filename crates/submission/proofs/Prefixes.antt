-- Where words first break the form.
use Rattle.std.proofs.Common.{◌≡◌, ℕ, zero, suc, ◌+◌, ◌-◌, ◌*◌, ◌%◌, ◌<◌, ◌≤◌, cond, ltb, leb, List, [], ◌∷◌, map, length, get_or, take, drop, sym, refl, ap, ◌∙◌, subst, ⊎_elim, arith}
use Rattle.std.specs.List.{range_with_len}
use Rattle.std.proofs.lemmas.List.FromFn.{length-map-range_with_len, get_or-map-range_with_len}
use Rattle.std.proofs.lemmas.List.Prefix.{front_fits, front_reads, front_from_reads}
use Rattle.std.proofs.lemmas.List.{get_or-take, length-take-le}
use Rattle.std.proofs.lemmas.Bool.{cases_lt, lt-ltb, le-ltb, le-leb, lt-leb, cond-true, cond-false}
use Rattle.submission.specs.declared.line.Line.{Line}
use Rattle.submission.specs.Words.{word, payload, line_of}
use Rattle.submission.specs.Submissions.{encode, Writable, Begins, Sound, Breaks}
use Rattle.submission.specs.Places.{Stands}
use Rattle.submission.proofs.Lines.{line-fits}
use Rattle.submission.proofs.Forms.{count, Formed, formed_back, formed_forth, formed}

-- the first j words of ws stand right
abbrev pub StandTo : List ℕ → ℕ → Type 0
StandTo ws j = (k : ℕ) → k < j → Stands (count ws) k (get_or ws k 0)

-- a word that may stand at the index i
abbrev blank : ℕ → ℕ → ℕ
blank n i = cond (leb i (8 * n)) (word ((i - 1) % 8 + 2) 0) (word 15 i)

blank_stands : (n i : ℕ) → n ≤ 16 → 0 < i → i < 8 * n + 2 → Stands n i (blank n i)
blank_stands n i f p h =
    ⊎_elim
    (λ lt.
    let e = cond-false (leb i (8 * n)) (word ((i - 1) % 8 + 2) 0) (word 15 i) (lt-leb i (8 * n) lt) in
    record { head = λ z. absurd (omega arith); inner = λ a b. absurd (omega arith); end = λ a. (omega arith, omega arith, omega arith) })
    (λ le.
    let e = cond-true (leb i (8 * n)) (word ((i - 1) % 8 + 2) 0) (word 15 i) (le-leb i (8 * n) le) in
    record { head = λ z. absurd (omega arith); inner = λ a b. omega arith; end = λ a. absurd (omega arith) })
    (cases_lt (8 * n) i)

-- words that stand right, some at least, go on to a submission by words that may stand there
module _ (ws : List ℕ) (j : ℕ) (some : 0 < j) (in' : j ≤ length ws) (r : StandTo ws j) where
  abbrev n : ℕ
  n = count ws

  abbrev place : ℕ → ℕ
  place i = cond (ltb i j) (get_or ws i 0) (blank n i)

  abbrev full : List ℕ
  full = map place (range_with_len 0 (8 * n + 2))

  long : length full ≡ 8 * n + 2
  long = length-map-range_with_len place 0 (8 * n + 2)

  few : n ≤ 16
  few = ((r 0 some).head refl).2

  within : j ≤ 8 * n + 2
  within =
      ⊎_elim
      (λ lt. omega (arith, ((r (j - 1) (omega arith)).end lt).0))
      (λ le. omega arith)
      (cases_lt (8 * n) (j - 1))

  old : (i : ℕ) → i < j → get_or full i 0 ≡ get_or ws i 0
  old i h = let w = within in get_or-map-range_with_len place 0 (8 * n + 2) i i 0 (omega arith) (omega arith) ∙ cond-true (ltb i j) (get_or ws i 0) (blank n i) (lt-ltb i j h)

  new : (i : ℕ) → j ≤ i → i < 8 * n + 2 → get_or full i 0 ≡ blank n i
  new i g h = get_or-map-range_with_len place 0 (8 * n + 2) i i 0 h (omega arith) ∙ cond-false (ltb i j) (get_or ws i 0) (blank n i) (le-ltb i j g)

  stand : (i : ℕ) → i < 8 * n + 2 → Stands n i (get_or full i 0)
  stand i h =
      ⊎_elim
      (λ lt. subst (Stands n i) (sym (old i lt)) (r i lt))
      (λ le. subst (Stands n i) (sym (new i le h)) (blank_stands n i few (omega arith) h))
      (cases_lt i j)

  full_formed : Formed full
  full_formed =
      let e : count full ≡ n = ap payload (old 0 some) in
      record {
        long = long ∙ ap (λ k. 8 * k + 2) (sym e);
        each = λ i h. subst (λ k. Stands k i (get_or full i 0)) (sym e) (stand i (omega (arith, long)));
      }

  begins_some : Begins (take j ws)
  begins_some =
      let t = length-take-le j ws in' in
      let w = within in
      let f = front_from_reads 0 full (take j ws) (omega (arith, long)) (λ i h. old i (omega arith) ∙ sym (get_or-take j ws i 0 (omega arith))) in
      let b = formed_back full full_formed in
      (b.0, drop (length (take j ws)) full, b.1, sym b.2 ∙ f)

-- some line that can be written
plain : Line
plain = line_of []

plain_writable : Writable (plain ∷ [])
unfolding plain
plain_writable = record { some = omega arith; few = omega arith; fit = (line-fits [], tt) }

begins : (ws : List ℕ) (j : ℕ) → j ≤ length ws → StandTo ws j → Begins (take j ws)
begins ws zero h r = (plain ∷ [], encode (plain ∷ []), plain_writable, refl)
begins ws (suc j) h r = begins_some ws (suc j) (omega arith) h r

stands_within : (ws : List ℕ) (j m : ℕ) → j < m → m ≤ length ws → Begins (take m ws) → Stands (count ws) j (get_or ws j 0)
stands_within ws j m h in' b =
    let t = length-take-le m ws in' in
    let read : (k : ℕ) → k < m → get_or (encode b.0) k 0 ≡ get_or ws k 0 = λ k lt. front_reads 0 (encode b.0) (take m ws) b.1 b.3 k (omega arith) ∙ get_or-take m ws k 0 lt in
    let long = front_fits (encode b.0) (take m ws) b.1 b.3 in
    let r = (formed_forth b.0 b.2).each j (omega arith) in
    subst (λ v. Stands (payload v) j (get_or ws j 0)) (read 0 (omega arith)) (subst (Stands (count (encode b.0)) j) (read j (omega arith)) r)

-- the words before j stand right, and that at j does not, or there is none
sound_at : (ws : List ℕ) (j : ℕ) → j ≤ length ws → StandTo ws j → (j < length ws → Stands (count ws) j (get_or ws j 0) → ⊥) → Sound ws (j + 1 - 1)
sound_at ws j h r bad =
    let e : j ≡ j + 1 - 1 = omega arith in
    subst (Sound ws) e (record {
      within = h;
      begins = begins ws j h r;
      longest = λ k le b. ⊎_elim (λ lt. absurd (bad (omega arith) (stands_within ws j k lt le b))) (λ ge. ge) (cases_lt j k);
    })

pub breaks_at : (ws : List ℕ) (j : ℕ) → j < length ws → StandTo ws j → (Stands (count ws) j (get_or ws j 0) → ⊥) → Breaks ws (j + 1)
breaks_at ws j h r bad = record {
  from = omega arith;
  sound = sound_at ws j (omega arith) r (λ _. bad);
  none = λ s. bad ((formed ws s).each j h);
}

pub breaks_off : (ws : List ℕ) → StandTo ws (length ws) → (length ws ≡ 8 * count ws + 2 → ⊥) → Breaks ws (length ws + 1)
breaks_off ws r bad = record {
  from = omega arith;
  sound = sound_at ws (length ws) (omega arith) r (λ h. absurd (omega arith));
  none = λ s. bad (formed ws s).long;
}
