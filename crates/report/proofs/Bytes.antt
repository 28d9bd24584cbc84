-- Bytes as words.
use Rattle.std.proofs.Common.{◌≡◌, ℕ, suc, ◌+◌, ◌*◌, ◌/◌, List, [], ◌∷◌, ◌++◌, map, length, refl, sym, ap, ◌∙◌, take, arith}
use Rattle.std.proofs.lemmas.List.{take-map}
use Rattle.std.specs.Int.{w32, from_be_bytes}
use Rattle.std.specs.Simd.{first_chunks}
use Rattle.report.specs.Inputs.{whole_words}

pub length-words : (bs : List ℕ) → length (whole_words bs) ≡ length bs / 4
length-words [] = refl
length-words (a ∷ []) = refl
length-words (a ∷ b ∷ []) = refl
length-words (a ∷ b ∷ c ∷ []) = refl
length-words (a ∷ b ∷ c ∷ d ∷ bs) = omega (arith, length-words bs)

-- bytes that follow add words at the end
pub words_front : (bs rest : List ℕ) → (more : List ℕ) × (whole_words (bs ++ rest) ≡ whole_words bs ++ more)
words_front [] rest = (whole_words rest, refl)
words_front (a ∷ []) rest = (whole_words (a ∷ rest), refl)
words_front (a ∷ b ∷ []) rest = (whole_words (a ∷ b ∷ rest), refl)
words_front (a ∷ b ∷ c ∷ []) rest = (whole_words (a ∷ b ∷ c ∷ rest), refl)
words_front (a ∷ b ∷ c ∷ d ∷ bs) rest =
    let w = words_front bs rest in
    (w.0, ap (λ z. (a * 16777216 + b * 65536 + c * 256 + d) ∷ z) w.1)

-- the chunks of four bytes are the whole words
pub words_of_chunks : (bs : List ℕ) → map (from_be_bytes w32) (first_chunks 4 (length bs / 4) bs) ≡ whole_words bs
words_of_chunks [] = refl
words_of_chunks (a ∷ []) = refl
words_of_chunks (a ∷ b ∷ []) = refl
words_of_chunks (a ∷ b ∷ c ∷ []) = refl
words_of_chunks (a ∷ b ∷ c ∷ d ∷ bs) =
    let more : length (a ∷ b ∷ c ∷ d ∷ bs) / 4 ≡ suc (length bs / 4) = omega arith in
    ap (λ k. map (from_be_bytes w32) (first_chunks 4 k (a ∷ b ∷ c ∷ d ∷ bs))) more ∙ ap (λ ws. (a * 16777216 + b * 65536 + c * 256 + d) ∷ ws) (words_of_chunks bs)

-- words that were made of the first i chunks
pub words_of_first : (bs vs : List ℕ) (fours : List (List ℕ)) (i : ℕ) → fours ≡ first_chunks 4 (length bs / 4) bs → vs ≡ map (from_be_bytes w32) (take i fours) → vs ≡ take i (whole_words bs)
words_of_first bs vs fours i e h =
    h ∙ sym (take-map (from_be_bytes w32) i fours) ∙ ap (λ xs. take i (map (from_be_bytes w32) xs)) e ∙ ap (take i) (words_of_chunks bs)
