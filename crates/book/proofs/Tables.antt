-- A table with its rights at the front and empty rows behind. Assumes nothing.
use Rattle.std.proofs.Common.{◌≡◌, ℕ, zero, suc, ◌+◌, ◌-◌, ◌<◌, ◌≤◌, List, [], ◌∷◌, ◌++◌, length, take, drop, set, replicate, sym, refl, ap, ◌∙◌, arith, length-append}
use Rattle.std.proofs.lemmas.List.{append_assoc, length-take-le, length-drop, take-append-drop, take-append-le, take_at, drop_at, drop-append-le, drop-drop, drop-set-lt, drop-replicate, replicate_more}
use Rattle.book.specs.declared.right.Right.{Right}
use Rattle.book.specs.declared.rights.Rights.{Rights}
use Rattle.book.specs.Rows.{empty}
use Rattle.book.specs.Tables.{removed}
use Rattle.book.specs.Views.{rights}

pub length-rights : (t : Rights) → length (rights t) ≡ t.count
length-rights t = length-take-le t.count t.rows (omega (arith, t.full, t.counted))

module _ (rows : List Right) (n : ℕ) (full : length rows ≡ 96) (behind : drop n rows ≡ replicate (96 - n) empty) where
  drop-next : drop (n + 1) rows ≡ replicate (96 - n - 1) empty
  drop-next = sym (drop-drop 1 n rows) ∙ ap (drop 1) behind ∙ drop-replicate 1 (96 - n) empty

  pub behind_push : (r : Right) → drop (n + 1) (set rows n r) ≡ replicate (96 - (n + 1)) empty
  behind_push r =
      let k : 96 - n - 1 ≡ 96 - (n + 1) = omega arith in
      drop-set-lt (n + 1) rows n r (omega arith) ∙ drop-next ∙ ap (λ m. replicate m empty) k

-- a change of one of the rights
pub take_of_set : (n : ℕ) (rows : List Right) (i : ℕ) (r : Right) → take n (set rows i r) ≡ set (take n rows) i r
take_of_set zero rows i r = refl
take_of_set (suc n) [] i r = refl
take_of_set (suc n) (x ∷ rows) zero r = refl
take_of_set (suc n) (x ∷ rows) (suc i) r = ap (λ xs. x ∷ xs) (take_of_set n rows i r)

-- the gap is closed among the rights alone
removed-append : (i : ℕ) (rs t : List Right) → i < length rs → removed i (rs ++ t) ≡ removed i rs ++ t
removed-append i rs t h =
    ap (λ xs. xs ++ drop (i + 1) (rs ++ t)) (take-append-le i rs t (omega arith))
    ∙ ap (λ xs. take i rs ++ xs) (drop-append-le (i + 1) rs t (omega arith))
    ∙ sym (append_assoc (take i rs) (drop (i + 1) rs) t)

pub length_removed : (i : ℕ) (rs : List Right) → i < length rs → length (removed i rs) ≡ length rs - 1
length_removed i rs h = omega (arith, length-append (take i rs) (drop (i + 1) rs), length-take-le i rs (omega arith), length-drop (i + 1) rs)

module _ (rows is : List Right) (n i : ℕ) (full : length rows ≡ 96) (counted : n ≤ 96) (behind : drop n rows ≡ replicate (96 - n) empty) (inside : i < n) (gone : is ≡ removed i rows ++ empty ∷ []) where
  rs_long : length (take n rows) ≡ n
  rs_long = length-take-le n rows (omega arith)

  closed : is ≡ removed i (take n rows) ++ replicate (96 - n + 1) empty
  closed =
      let inside' : i < length (take n rows) = omega (arith, rs_long) in
      gone ∙ ap (λ xs. removed i xs ++ empty ∷ []) (sym (take-append-drop n rows) ∙ ap (λ xs. take n rows ++ xs) behind)
      ∙ ap (λ xs. xs ++ empty ∷ []) (removed-append i (take n rows) (replicate (96 - n) empty) inside')
      ∙ append_assoc (removed i (take n rows)) (replicate (96 - n) empty) (empty ∷ [])
      ∙ ap (λ xs. removed i (take n rows) ++ xs) (replicate_more (96 - n) empty)

  closed-long : length (removed i (take n rows)) ≡ n - 1
  closed-long = omega (arith, rs_long, length_removed i (take n rows) (omega (arith, rs_long)))

  pub view-removed : take (n - 1) is ≡ removed i (take n rows)
  view-removed = ap (take (n - 1)) closed ∙ take_at (removed i (take n rows)) (replicate (96 - n + 1) empty) (n - 1) closed-long

  pub behind_removed : drop (n - 1) is ≡ replicate (96 - (n - 1)) empty
  behind_removed =
      let k : 96 - n + 1 ≡ 96 - (n - 1) = omega arith in
      ap (drop (n - 1)) closed ∙ drop_at (removed i (take n rows)) (replicate (96 - n + 1) empty) (n - 1) closed-long ∙ ap (λ m. replicate m empty) k
