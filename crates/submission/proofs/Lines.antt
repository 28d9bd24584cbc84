-- The words of lines, and the lines of words.
use Rattle.std.proofs.Common.{◌≡◌, ℕ, zero, suc, ◌+◌, ◌-◌, ◌*◌, ◌/◌, ◌%◌, ◌^◌, ◌<◌, ◌≤◌, List, [], ◌∷◌, ◌++◌, length, get_or, take, drop, refl, ap, ◌∙◌, subst, ⊎_elim, arith, length-append, length-drop, get_or-drop, take-add}
use Rattle.std.specs.List.{flat_map, AllByRecursion}
use Rattle.std.proofs.lemmas.Bool.{cases_lt}
use Rattle.submission.specs.declared.line.Line.{Line}
use Rattle.submission.specs.Words.{word, kind, words_of, Fits, line_of}
use Rattle.submission.specs.Submissions.{encode, lines_of}

-- the first n words of ws have the kinds of lines
abbrev pub Kinds : ℕ → List ℕ → Type 0
Kinds n ws = (i : ℕ) → i < n → kind (get_or ws i 0) ≡ i % 8 + 2

eight : (ws : List ℕ) → 8 ≤ length ws → take 8 ws ≡ get_or ws 0 0 ∷ get_or ws 1 0 ∷ get_or ws 2 0 ∷ get_or ws 3 0 ∷ get_or ws 4 0 ∷ get_or ws 5 0 ∷ get_or ws 6 0 ∷ get_or ws 7 0 ∷ []
eight [] h = absurd (omega arith)
eight (a ∷ []) h = absurd (omega arith)
eight (a ∷ b ∷ []) h = absurd (omega arith)
eight (a ∷ b ∷ c ∷ []) h = absurd (omega arith)
eight (a ∷ b ∷ c ∷ d ∷ []) h = absurd (omega arith)
eight (a ∷ b ∷ c ∷ d ∷ e ∷ []) h = absurd (omega arith)
eight (a ∷ b ∷ c ∷ d ∷ e ∷ f ∷ []) h = absurd (omega arith)
eight (a ∷ b ∷ c ∷ d ∷ e ∷ f ∷ g ∷ []) h = absurd (omega arith)
eight (a ∷ b ∷ c ∷ d ∷ e ∷ f ∷ g ∷ k ∷ ws) h = refl

-- eight words of the right kinds are the words of their line
pub line-back : (ws : List ℕ) → 8 ≤ length ws → Kinds 8 ws → take 8 ws ≡ words_of (line_of ws)
line-back ws h r =
    let e0 : get_or ws 0 0 ≡ word 2 (line_of ws).holder = omega (arith, r 0 (omega arith)) in
    let e1 : get_or ws 1 0 ≡ word 3 ((line_of ws).injection * 16384 + (line_of ws).withdrawal) = omega (arith, r 1 (omega arith)) in
    let e2 : get_or ws 2 0 ≡ word 4 ((line_of ws).first * 16 + (line_of ws).last) = omega (arith, r 2 (omega arith)) in
    let e3 : get_or ws 3 0 ≡ word 5 (line_of ws).power = omega (arith, r 3 (omega arith)) in
    let e4 : get_or ws 4 0 ≡ word 6 ((line_of ws).offer / 2 ^ 28) = omega (arith, r 4 (omega arith)) in
    let e5 : get_or ws 5 0 ≡ word 7 ((line_of ws).offer % 2 ^ 28) = omega (arith, r 5 (omega arith)) in
    let e6 : get_or ws 6 0 ≡ word 8 ((line_of ws).charge / 2 ^ 28) = omega (arith, r 6 (omega arith)) in
    let e7 : get_or ws 7 0 ≡ word 9 ((line_of ws).charge % 2 ^ 28) = omega (arith, r 7 (omega arith)) in
    eight ws h ∙ (λ i. e0 i ∷ e1 i ∷ e2 i ∷ e3 i ∷ e4 i ∷ e5 i ∷ e6 i ∷ e7 i ∷ [])

-- the line of any words fits
pub line-fits : (ws : List ℕ) → Fits (line_of ws)
line-fits ws = record {
  holder = omega arith;
  injection = omega arith;
  withdrawal = omega arith;
  first = omega arith;
  last = omega arith;
  power = omega arith;
  offer = omega arith;
  charge = omega arith;
}

-- a line that fits is the line of its words
pub line_forth : (l : Line) (rest : List ℕ) → Fits l → line_of (words_of l ++ rest) ≡ l
line_forth l rest f =
    let e0 : (line_of (words_of l ++ rest)).holder ≡ l.holder = omega arith in
    let e1 : (line_of (words_of l ++ rest)).injection ≡ l.injection = omega arith in
    let e2 : (line_of (words_of l ++ rest)).withdrawal ≡ l.withdrawal = omega arith in
    let e3 : (line_of (words_of l ++ rest)).first ≡ l.first = omega arith in
    let e4 : (line_of (words_of l ++ rest)).last ≡ l.last = omega arith in
    let e5 : (line_of (words_of l ++ rest)).power ≡ l.power = omega arith in
    let e6 : (line_of (words_of l ++ rest)).offer ≡ l.offer = omega arith in
    let e7 : (line_of (words_of l ++ rest)).charge ≡ l.charge = omega arith in
    λ i. record { holder = e0 i; injection = e1 i; withdrawal = e2 i; first = e3 i; last = e4 i; power = e5 i; offer = e6 i; charge = e7 i }

line_kinds : (l : Line) (rest : List ℕ) → Fits l → Kinds 8 (words_of l ++ rest)
line_kinds l rest f zero h = omega arith
line_kinds l rest f (suc zero) h = omega arith
line_kinds l rest f (suc (suc zero)) h = omega arith
line_kinds l rest f (suc (suc (suc zero))) h = omega arith
line_kinds l rest f (suc (suc (suc (suc zero)))) h = omega arith
line_kinds l rest f (suc (suc (suc (suc (suc zero))))) h = omega arith
line_kinds l rest f (suc (suc (suc (suc (suc (suc zero)))))) h = omega arith
line_kinds l rest f (suc (suc (suc (suc (suc (suc (suc zero))))))) h = omega arith
line_kinds l rest f (suc (suc (suc (suc (suc (suc (suc (suc i)))))))) h = absurd (omega arith)

pub length_joined : (ls : List Line) → length (flat_map words_of ls) ≡ 8 * length ls
length_joined [] = refl
length_joined (l ∷ ls) = omega (arith, length_joined ls)

pub length-encode : (ls : List Line) → length (encode ls) ≡ 8 * length ls + 2
length-encode ls = omega (arith, length-append (word 1 (length ls) ∷ flat_map words_of ls) (word 15 (8 * length ls + 1) ∷ []), length_joined ls)

pub length-lines_of : (n : ℕ) (ws : List ℕ) → length (lines_of n ws) ≡ n
length-lines_of zero ws = refl
length-lines_of (suc n) ws = ap suc (length-lines_of n (drop 8 ws))

kinds_on : (n : ℕ) (ws : List ℕ) → Kinds (8 * suc n) ws → Kinds (8 * n) (drop 8 ws)
kinds_on n ws r i h =
    let e = get_or-drop 8 ws i 0 in
    let m : (8 + i) % 8 ≡ i % 8 = omega arith in
    let s = r (8 + i) (omega arith) in
    omega arith

pub lines-back : (n : ℕ) (ws : List ℕ) → 8 * n ≤ length ws → Kinds (8 * n) ws → take (8 * n) ws ≡ flat_map words_of (lines_of n ws)
lines-back zero ws h r = refl
lines-back (suc n) ws h r =
    let e : 8 * suc n ≡ 8 + 8 * n = omega arith in
    let one = line-back ws (omega arith) (λ i k. r i (omega arith)) in
    let more = lines-back n (drop 8 ws) (omega (arith, length-drop 8 ws)) (kinds_on n ws r) in
    ap (λ k. take k ws) e ∙ take-add 8 (8 * n) ws ∙ (λ i. one i ++ more i)

pub lines_fit : (n : ℕ) (ws : List ℕ) → AllByRecursion Fits (lines_of n ws)
lines_fit zero ws = tt
lines_fit (suc n) ws = (line-fits ws, lines_fit n (drop 8 ws))

pub lines_forth : (ls : List Line) (rest : List ℕ) → AllByRecursion Fits ls → lines_of (length ls) (flat_map words_of ls ++ rest) ≡ ls
lines_forth [] rest f = refl
lines_forth (l ∷ ls) rest f =
    let one = line_forth l (flat_map words_of ls ++ rest) f.0 in
    let more = lines_forth ls rest f.1 in
    λ i. one i ∷ more i

pub lines_kinds : (ls : List Line) (rest : List ℕ) → AllByRecursion Fits ls → Kinds (8 * length ls) (flat_map words_of ls ++ rest)
lines_kinds [] rest f i h = absurd (omega arith)
lines_kinds (l ∷ ls) rest f i h =
    ⊎_elim
    (λ lt. line_kinds l (flat_map words_of ls ++ rest) f.0 i lt)
    (λ ge.
    let more = lines_kinds ls rest f.1 (i - 8) (omega arith) in
    let e : 8 + (i - 8) ≡ i = omega arith in
    let g = get_or-drop 8 (words_of l ++ (flat_map words_of ls ++ rest)) (i - 8) 0 ∙ ap (λ k. get_or (words_of l ++ (flat_map words_of ls ++ rest)) k 0) e in
    let m : i % 8 ≡ (i - 8) % 8 = omega arith in
    subst (λ w. kind w ≡ i % 8 + 2) g (omega arith))
    (cases_lt i 8)
