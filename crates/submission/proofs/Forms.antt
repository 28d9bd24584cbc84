-- Words that stand right at every place are a submission, and the other way round.
use Rattle.std.proofs.Common.{◌≡◌, ℕ, zero, suc, ◌+◌, ◌*◌, ◌<◌, List, [], ◌∷◌, ◌++◌, length, get_or, take, drop, sym, refl, ap, ◌∙◌, subst, arith, length-drop, take-append-drop, get_or-drop}
use Rattle.std.specs.List.{flat_map}
use Rattle.std.proofs.lemmas.List.{get_or_at}
use Rattle.submission.specs.declared.line.Line.{Line}
use Rattle.submission.specs.Words.{word, payload, words_of}
use Rattle.submission.specs.Submissions.{encode, Writable, Submission, lines_of, decode}
use Rattle.submission.specs.Places.{Stands}
use Rattle.submission.specs.Reading.{OnlyWriting}
use Rattle.submission.proofs.Lines.{Kinds, length_joined, length-encode, length-lines_of, lines-back, lines_fit, lines_forth, lines_kinds}

-- the number of lines that ws speaks of
abbrev pub count : List ℕ → ℕ
count ws = payload (get_or ws 0 0)

-- each word stands right, and none is missing
pub record Formed (ws : List ℕ) : Type 0 where
  pub long : length ws ≡ 8 * count ws + 2
  pub each : (i : ℕ) → i < length ws → Stands (count ws) i (get_or ws i 0)

-- ws is the writing of the lines that it yields
record Same (ws : List ℕ) : Type 0 where
  good : Writable (decode ws)
  same : ws ≡ encode (decode ws)

last_one : (ws : List ℕ) → length ws ≡ 1 → ws ≡ get_or ws 0 0 ∷ []
last_one [] h = absurd (omega arith)
last_one (w ∷ []) h = refl
last_one (w ∷ v ∷ ws) h = absurd (omega arith)

formed_tail : (w : ℕ) (ws : List ℕ) → Formed (w ∷ ws) → Same (w ∷ ws)
formed_tail w ws f =
    let n : ℕ = payload w in
    let r : Kinds (8 * n) ws = λ i h. let s = (f.each (suc i) (omega (arith, f.long))).inner (omega arith) (omega arith) in omega (arith, s) in
    let h = (f.each 0 (omega (arith, f.long))).head refl in
    let z = (f.each (8 * n + 1) (omega (arith, f.long))).end (omega arith) in
    let k = length-lines_of n ws in
    let front : w ≡ word 1 (length (lines_of n ws)) = omega arith in
    let body : take (8 * n) ws ≡ flat_map words_of (lines_of n ws) = lines-back n ws (omega (arith, f.long)) r in
    let left = last_one (drop (8 * n) ws) (omega (arith, length-drop (8 * n) ws, f.long)) in
    let at : get_or (drop (8 * n) ws) 0 0 ≡ get_or (w ∷ ws) (8 * n + 1) 0 = get_or-drop (8 * n) ws 0 0 ∙ ap (λ k. get_or (w ∷ ws) k 0) (let e : suc (8 * n + 0) ≡ 8 * n + 1 = omega arith in e) in
    let end : get_or (drop (8 * n) ws) 0 0 ≡ word 15 (8 * length (lines_of n ws) + 1) = omega arith in
    record {
      good = record { some = omega arith; few = omega arith; fit = lines_fit n ws };
      same = λ i. front i ∷ (sym (take-append-drop (8 * n) ws) ∙ (λ j. body j ++ (left ∙ ap (λ v. v ∷ []) end) j)) i;
    }

formed_same : (ws : List ℕ) → Formed ws → Same ws
formed_same [] f = absurd (omega (arith, f.long))
formed_same (w ∷ ws) f = formed_tail w ws f

pub formed_back : (ws : List ℕ) → Formed ws → Submission ws
formed_back ws f = let s = formed_same ws f in (decode ws, s.good, s.same)

stands_forth : (ls : List Line) → Writable ls → (i : ℕ) → i < length (encode ls) → Stands (count (encode ls)) i (get_or (encode ls) i 0)
stands_forth ls g zero h =
    let p : payload (word 1 (length ls)) ≡ length ls = omega (arith, g.few) in
    record {
      head = λ z. (omega (arith, g.few), omega (arith, g.some), omega (arith, g.few));
      inner = λ a b. absurd (omega arith);
      end = λ a. absurd (omega arith);
    }
stands_forth ls g (suc j) h =
    let p : payload (word 1 (length ls)) ≡ length ls = omega (arith, g.few) in
    let n = length-encode ls in
    record {
      head = λ z. absurd (omega arith);
      inner = λ a b. let s = lines_kinds ls (word 15 (8 * length ls + 1) ∷ []) g.fit j (omega arith) in omega arith;
      end = λ a.
          let e : length (flat_map words_of ls) ≡ j = omega (arith, length_joined ls) in
          let v : get_or (flat_map words_of ls ++ word 15 (8 * length ls + 1) ∷ []) j 0 ≡ word 15 (8 * length ls + 1) = get_or_at (flat_map words_of ls) (word 15 (8 * length ls + 1)) [] 0 j e in
          (omega arith, omega (arith, g.few), omega (arith, g.few));
    }

pub formed_forth : (ls : List Line) → Writable ls → Formed (encode ls)
formed_forth ls g =
    let p : payload (word 1 (length ls)) ≡ length ls = omega (arith, g.few) in
    record { long = omega (arith, length-encode ls); each = stands_forth ls g }

pub formed : (ws : List ℕ) → Submission ws → Formed ws
formed ws s = subst Formed (sym s.2) (formed_forth s.0 s.1)

-- the lines that were written are read back
pub decode-encode : (ls : List Line) → Writable ls → decode (encode ls) ≡ ls
decode-encode ls g =
    let p : payload (word 1 (length ls)) ≡ length ls = omega (arith, g.few) in
    ap (λ n. lines_of n (flat_map words_of ls ++ word 15 (8 * length ls + 1) ∷ [])) p ∙ lines_forth ls _ g.fit

pub only_writing : (ws : List ℕ) → Submission ws → OnlyWriting ws
only_writing ws s =
    let b = formed_same ws (formed ws s) in
    record {
      writable = b.good;
      same = b.same;
      only = λ vs t e. (formed_same vs (formed vs t)).same ∙ ap encode e ∙ sym b.same;
    }
