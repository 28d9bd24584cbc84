-- Rows of no more than the most power, and what keeps them so.
use Rattle.std.proofs.Common.{ℕ, zero, suc, ◌+◌, ◌<◌, ◌≤◌, Bool, true, false, ◌&&◌, T, leb, List, [], ◌∷◌, ◌++◌, length, get_or, take, drop, set, arith, le→leb, leb→le}
use Rattle.terms.specs.Ranges.{most_power}
use Rattle.book.specs.declared.right.Right.{Right}
use Rattle.book.specs.declared.rights.Rights.{Rights}
use Rattle.book.specs.Rows.{empty, all_small}
use Rattle.book.specs.Rights.{confirmed, all_confirmed}
use Rattle.book.specs.Tables.{removed}
use Rattle.book.specs.Views.{rights}

and_T : (a b : Bool) → T (a && b) → T a × T b
and_T true b h = (tt, h)
and_T false b h = absurd h

both : (a b : Bool) → T a → T b → T (a && b)
both true b p q = q
both false b p q = absurd p

head : (r : Right) (rs : List Right) → T (all_small (r ∷ rs)) → T (leb r.line.power most_power)
head r rs h = (and_T (leb r.line.power most_power) (all_small rs) h).0

tail : (r : Right) (rs : List Right) → T (all_small (r ∷ rs)) → T (all_small rs)
tail r rs h = (and_T (leb r.line.power most_power) (all_small rs) h).1

before : (r : Right) (rs : List Right) → T (leb r.line.power most_power) → T (all_small rs) → T (all_small (r ∷ rs))
before r rs p q = both (leb r.line.power most_power) (all_small rs) p q

pub small_at : (rs : List Right) (i : ℕ) (d : Right) → i < length rs → T (all_small rs) → (get_or rs i d).line.power ≤ most_power
small_at [] i d l h = absurd (omega arith)
small_at (r ∷ rs) zero d l h = leb→le r.line.power most_power (head r rs h)
small_at (r ∷ rs) (suc i) d l h = small_at rs i d (omega arith) (tail r rs h)

pub small-set : (rs : List Right) (i : ℕ) (r : Right) → r.line.power ≤ most_power → T (all_small rs) → T (all_small (set rs i r))
small-set [] i r p h = tt
small-set (x ∷ rs) zero r p h = before r rs (le→leb r.line.power most_power p) (tail x rs h)
small-set (x ∷ rs) (suc i) r p h = before x (set rs i r) (head x rs h) (small-set rs i r p (tail x rs h))

pub small-take : (n : ℕ) (rs : List Right) → T (all_small rs) → T (all_small (take n rs))
small-take zero rs h = tt
small-take (suc n) [] h = tt
small-take (suc n) (r ∷ rs) h = before r (take n rs) (head r rs h) (small-take n rs (tail r rs h))

pub small-drop : (n : ℕ) (rs : List Right) → T (all_small rs) → T (all_small (drop n rs))
small-drop zero rs h = h
small-drop (suc n) [] h = tt
small-drop (suc n) (r ∷ rs) h = small-drop n rs (tail r rs h)

pub small-append : (rs xs : List Right) → T (all_small rs) → T (all_small xs) → T (all_small (rs ++ xs))
small-append [] xs h k = k
small-append (r ∷ rs) xs h k = before r (rs ++ xs) (head r rs h) (small-append rs xs (tail r rs h) k)

pub small-confirmed : (rs : List Right) → T (all_small rs) → T (all_small (all_confirmed rs))
small-confirmed [] h = tt
small-confirmed (r ∷ rs) h = before (confirmed r) (all_confirmed rs) (head r rs h) (small-confirmed rs (tail r rs h))

pub small-closed : (rs : List Right) (at : ℕ) → T (all_small rs) → T (all_small (removed at rs ++ empty ∷ []))
small-closed rs at h = small-append (removed at rs) (empty ∷ []) (small-append (take at rs) (drop (at + 1) rs) (small-take at rs h) (small-drop (at + 1) rs h)) tt

pub small-rights : (t : Rights) → T (all_small (rights t))
small-rights t = small-take t.count t.rows t.small
