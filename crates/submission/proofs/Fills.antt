-- What the writes of `write` leave.
use Rattle.std.proofs.Common.{◌≡◌, ℕ, ◌+◌, ◌*◌, ◌<◌, ◌≤◌, List, [], ◌∷◌, ◌++◌, length, get_or, take, drop, set, sym, ap, ◌∙◌, append_assoc, arith, length-set}
use borrow.Rule.Slice.PartMut.{put_mid}
use Rattle.std.specs.List.{flat_map}
use Rattle.std.proofs.Concat.{flat_map-take_more}
use Rattle.std.proofs.lemmas.List.{length-take-le, take_at, drop_at, drop-drop, drop_more, set_at, drop-set-lt, take_all}
use Rattle.submission.specs.declared.line.Line.{Line}
use Rattle.submission.specs.Words.{word, words_of}
use Rattle.submission.specs.Submissions.{encode, Writable, decode}
use Rattle.submission.specs.Writing.{Written}
use Rattle.submission.proofs.Lines.{length_joined}
use Rattle.submission.proofs.Forms.{decode-encode}

pub first : (out : List ℕ) (w v : ℕ) → 1 ≤ length out → w ≡ v → set out 0 w ≡ v ∷ drop 1 (set out 0 w)
first [] w v h e = absurd (omega arith)
first (x ∷ out) w v h e = ap (λ u. u ∷ out) e

-- the opening word and the lines before i are written over E
abbrev pub Upto : List Line → ℕ → List ℕ → List ℕ
Upto ls i E = (word 1 (length ls) ∷ flat_map words_of (take i ls)) ++ drop (8 * i + 1) E

module _ (ls : List Line) where
  abbrev front : ℕ → List ℕ
  front i = word 1 (length ls) ∷ flat_map words_of (take i ls)

  long : (i : ℕ) → i ≤ length ls → length (front i) ≡ 8 * i + 1
  long i h = omega (arith, length_joined (take i ls), length-take-le i ls h)

  pub more : (i : ℕ) (d : Line) (E out ys : List ℕ) (k : ℕ) → i < length ls → k ≡ 8 → ys ≡ words_of (get_or ls i d) → out ≡ Upto ls i E → put_mid (8 * i + 1) k out ys ≡ Upto ls (i + 1) E
  more i d E out ys k h e y o =
      let n = long i (omega arith) in
      let before : take (8 * i + 1) out ≡ front i = ap (take (8 * i + 1)) o ∙ take_at (front i) (drop (8 * i + 1) E) (8 * i + 1) n in
      let rest : drop (8 * i + 1) out ≡ drop (8 * i + 1) E = ap (drop (8 * i + 1)) o ∙ drop_at (front i) (drop (8 * i + 1) E) (8 * i + 1) n in
      let back : drop k (drop (8 * i + 1) out) ≡ drop (8 * (i + 1) + 1) E = ap (drop k) rest ∙ drop-drop k (8 * i + 1) E ∙ ap (λ m. drop m E) (let q : 8 * i + 1 + k ≡ 8 * (i + 1) + 1 = omega arith in q) in
      (λ j. before j ++ (y j ++ back j))
      ∙ sym (append_assoc (front i) (words_of (get_or ls i d)) (drop (8 * (i + 1) + 1) E))
      ∙ ap (λ z. (word 1 (length ls) ∷ z) ++ drop (8 * (i + 1) + 1) E) (flat_map-take_more words_of ls i d h)

  pub last : (i x v : ℕ) (was out : List ℕ) → i ≡ length ls → 8 * length ls + 1 < length was → out ≡ Upto ls i (set was 0 x) → v ≡ word 15 (8 * length ls + 1) → set out (8 * length ls + 1) v ≡ encode ls ++ drop (8 * length ls + 1 + 1) was
  last i x v was out i-is room o v-is =
      let m : ℕ = 8 * length ls + 1 in
      let P : List ℕ = word 1 (length ls) ∷ flat_map words_of ls in
      let n : length P ≡ 8 * length ls + 1 = omega (arith, length_joined ls) in
      let E : List ℕ = set was 0 x in
      let all : Upto ls i E ≡ P ++ drop m E = λ j. (word 1 (length ls) ∷ flat_map words_of ((ap (λ k. take k ls) i-is ∙ take_all (length ls) ls (omega arith)) j)) ++ drop (8 * i-is j + 1) E in
      let closing : drop m E ≡ get_or E m 0 ∷ drop (m + 1) E = drop_more E m 0 (omega (arith, length-set was 0 x)) in
      ap (λ z. set z m v) (o ∙ all ∙ ap (λ z. P ++ z) closing)
      ∙ set_at P (get_or E m 0) (drop (m + 1) E) v m n
      ∙ (λ j. P ++ v-is j ∷ drop-set-lt (m + 1) was 0 x (omega arith) j)
      ∙ sym (append_assoc P (word 15 (8 * length ls + 1) ∷ []) (drop (m + 1) was))

  -- what was written is a submission of these lines
  pub written : (was is : List ℕ) (n : ℕ) → Writable ls → n ≡ length (encode ls) → is ≡ encode ls ++ drop n was → Written ls was is n
  written was is n g e w =
      let front : take n is ≡ encode ls = ap (take n) w ∙ take_at (encode ls) (drop n was) n (sym e) in
      record {
        writable = g;
        count = e;
        words = w;
        whole = (ls, g, front);
        back = ap decode front ∙ decode-encode ls g;
      }
