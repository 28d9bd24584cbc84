-- Lists of rights: what holds of each, serials that rise, and sums.
use Rattle.std.proofs.Common.{ℕ, suc, ◌+◌, ◌≤◌, Bool, eqb, List, [], ◌∷◌, ◌++◌, length, filter, arith}
use Rattle.std.proofs.lemmas.Bool.{cond_both}
use Rattle.std.specs.List.{AllByRecursion}
use Rattle.submission.specs.declared.line.Line.{Line}
use Rattle.book.specs.declared.right.Standing.TheVariants.{Provisional}
use Rattle.book.specs.declared.right.Right.{Right}
use Rattle.book.specs.Rights.{numbered, confirmed, all_confirmed, paying, paid_on, without}

pub all-zip : {X : Type 0} (P Q R : X → Type 0) → ((x : X) → P x → Q x → R x) → (xs : List X) → AllByRecursion P xs → AllByRecursion Q xs → AllByRecursion R xs
all-zip P Q R f [] p q = tt
all-zip P Q R f (x ∷ xs) p q = (f x p.0 q.0, all-zip P Q R f xs p.1 q.1)

-- serials rise, from lo on and below hi
abbrev pub Rising : ℕ → List Right → ℕ → Type 0
Rising lo [] hi = lo ≤ hi
Rising lo (r ∷ rs) hi = (lo ≤ r.serial) × Rising (suc r.serial) rs hi

pub rising_above : (a lo : ℕ) (rs : List Right) (hi : ℕ) → a ≤ lo → Rising lo rs hi → AllByRecursion (λ r. a ≤ r.serial) rs
rising_above a lo [] hi h k = tt
rising_above a lo (r ∷ rs) hi h k = (omega (arith, k.0), rising_above a (suc r.serial) rs hi (omega (arith, k.0)) k.1)

pub rising_weaker : (a lo : ℕ) (rs : List Right) (hi z : ℕ) → a ≤ lo → hi ≤ z → Rising lo rs hi → Rising a rs z
rising_weaker a lo [] hi z h e k = omega arith
rising_weaker a lo (r ∷ rs) hi z h e k = (omega (arith, k.0), rising_weaker (suc r.serial) (suc r.serial) rs hi z (omega arith) e k.1)

pub rising_append : (lo mid hi : ℕ) (rs xs : List Right) → Rising lo rs mid → Rising mid xs hi → Rising lo (rs ++ xs) hi
rising_append lo mid hi [] xs h k = rising_weaker lo mid xs hi hi h (omega arith) k
rising_append lo mid hi (r ∷ rs) xs h k = (h.0, rising_append (suc r.serial) mid hi rs xs h.1 k)

rising_order : (lo : ℕ) (rs : List Right) (hi : ℕ) → Rising lo rs hi → lo ≤ hi
rising_order lo [] hi h = h
rising_order lo (r ∷ rs) hi h = let k = rising_order (suc r.serial) rs hi h.1 in omega (arith, h.0)

-- a front of what rises
pub rising_front : (lo hi : ℕ) (rs xs : List Right) → Rising lo (rs ++ xs) hi → Rising lo rs hi
rising_front lo hi [] xs h = rising_order lo xs hi h
rising_front lo hi (r ∷ rs) xs h = (h.0, rising_front (suc r.serial) hi rs xs h.1)

pub rising_numbered : (k : ℕ) (ls : List Line) → Rising k (numbered k ls) (k + length ls)
rising_numbered k [] = omega arith
rising_numbered k (x ∷ xs) = (omega arith, rising_weaker (suc k) (suc k) (numbered (suc k) xs) (suc k + length xs) (k + suc (length xs)) (omega arith) (omega arith) (rising_numbered (suc k) xs))

pub rising_kept : (test : Right → Bool) (lo : ℕ) (rs : List Right) (hi : ℕ) → Rising lo rs hi → Rising lo (filter test rs) hi
rising_kept test lo [] hi h = h
rising_kept test lo (r ∷ rs) hi h =
    let rest = rising_kept test (suc r.serial) rs hi h.1 in
    cond_both (test r) (r ∷ filter test rs) (filter test rs) (λ xs. Rising lo xs hi) (λ _. (h.0, rest))
    (λ _. rising_weaker lo (suc r.serial) (filter test rs) hi hi (omega (arith, h.0)) (omega arith) rest)

pub rising_confirmed : (lo : ℕ) (rs : List Right) (hi : ℕ) → Rising lo rs hi → Rising lo (all_confirmed rs) hi
rising_confirmed lo [] hi h = h
rising_confirmed lo (r ∷ rs) hi h = (h.0, rising_confirmed (suc r.serial) rs hi h.1)

pub rising_paid : (s n lo : ℕ) (rs : List Right) (hi : ℕ) → Rising lo rs hi → Rising lo (paid_on s n rs) hi
rising_paid s n lo [] hi h = h
rising_paid s n lo (r ∷ rs) hi h =
    cond_both (eqb r.serial s) (paying r n ∷ rs) (r ∷ paid_on s n rs) (λ xs. Rising lo xs hi) (λ _. h) (λ _. (h.0, rising_paid s n (suc r.serial) rs hi h.1))

pub rising_without : (s lo : ℕ) (rs : List Right) (hi : ℕ) → Rising lo rs hi → Rising lo (without s rs) hi
rising_without s lo [] hi h = h
rising_without s lo (r ∷ rs) hi h =
    cond_both (eqb r.serial s) rs (r ∷ without s rs) (λ xs. Rising lo xs hi)
    (λ _. rising_weaker lo (suc r.serial) rs hi hi (omega (arith, h.0)) (omega arith) h.1)
    (λ _. (h.0, rising_without s (suc r.serial) rs hi h.1))

-- what holds of each right, after an event
pub all_confirmed-all : (P : Right → Type 0) → ((r : Right) → P r → P (confirmed r)) → (rs : List Right) → AllByRecursion P rs → AllByRecursion P (all_confirmed rs)
all_confirmed-all P f [] h = tt
all_confirmed-all P f (r ∷ rs) h = (f r h.0, all_confirmed-all P f rs h.1)

pub all_paid : (P : Right → Type 0) (s n : ℕ) → ((r : Right) → P r → P (paying r n)) → (rs : List Right) → AllByRecursion P rs → AllByRecursion P (paid_on s n rs)
all_paid P s n f [] h = tt
all_paid P s n f (r ∷ rs) h =
    cond_both (eqb r.serial s) (paying r n ∷ rs) (r ∷ paid_on s n rs) (AllByRecursion P) (λ _. (f r h.0, h.1)) (λ _. (h.0, all_paid P s n f rs h.1))

pub all_without : (P : Right → Type 0) (s : ℕ) (rs : List Right) → AllByRecursion P rs → AllByRecursion P (without s rs)
all_without P s [] h = tt
all_without P s (r ∷ rs) h = cond_both (eqb r.serial s) rs (r ∷ without s rs) (AllByRecursion P) (λ _. h.1) (λ _. (h.0, all_without P s rs h.1))

pub all-numbered : (P : Right → Type 0) (Q : Line → Type 0) → ((k : ℕ) (x : Line) → Q x → P (record { serial = k; line = x; standing = Provisional })) → (k : ℕ) (ls : List Line) → AllByRecursion Q ls → AllByRecursion P (numbered k ls)
all-numbered P Q f k [] h = tt
all-numbered P Q f k (x ∷ xs) h = (f k x h.0, all-numbered P Q f (suc k) xs h.1)
