-- Rights: what is owed and held on them, and what an event does to a list of them.
use Rattle.std.specs.Prelude.{ℕ, suc, ◌+◌, ◌-◌, min, true, false, cond, not, ◌||◌, Bool, List, [], ◌∷◌, map, filter, Option, ◌==◌, nat_lt}
use Rattle.std.specs.List.{find}
use Rattle.money.specs.Guarantees.{guarantee as guarantee_of}
use Rattle.submission.specs.declared.line.Line.{Line}
use Rattle.book.specs.declared.right.Right.{Right}
use Rattle.book.specs.declared.right.Standing.{Standing}
use Rattle.book.specs.declared.right.Standing.TheVariants.{Provisional, InForce}

-- the sum of a number over a list
abbrev pub total : {X : Type 0} → (X → ℕ) → List X → ℕ
total f [] = 0
total f (x ∷ xs) = f x + total f xs

-- the guarantee due on a line's offer
abbrev pub guarantee : Line → ℕ
guarantee x = guarantee_of x.offer x.first x.last

-- a right is provisional, or in force with what is paid of its charge
abbrev pub stands_in_force : Standing → Bool
stands_in_force Provisional = false
stands_in_force (InForce paid) = true

-- whether a right is in force
abbrev pub is_in_force : Right → Bool
is_in_force r = stands_in_force r.standing

-- what is paid of the charge: nothing while provisional
abbrev pub paid_so_far : Standing → ℕ
paid_so_far Provisional = 0
paid_so_far (InForce paid) = paid

abbrev pub paid_of : Right → ℕ
paid_of r = paid_so_far r.standing

-- what is left to pay of the charge, once in force: as much as the instalments lack together
abbrev pub debt : Right → ℕ
debt r = cond (is_in_force r) (r.line.charge - paid_of r) 0

-- the guarantee is held while the right is provisional or owes
abbrev pub held : Right → ℕ
held r = cond (not (is_in_force r) || nat_lt 0 (debt r)) (guarantee r.line) 0

-- the guarantees held of a holder
abbrev pub held_of : ℕ → List Right → ℕ
held_of x rs = total (λ r. cond (r.line.holder == x) (held r) 0) rs

-- the guarantees that lines ask of a holder
abbrev pub asked_of : ℕ → List Line → ℕ
asked_of x ls = total (λ l. cond (l.holder == x) (guarantee l) 0) ls

-- the debt on a serial: 0 where no right has it
abbrev pub owed : ℕ → List Right → ℕ
owed s rs = total (λ r. cond (r.serial == s) (debt r) 0) rs

-- the right with a serial
abbrev pub right_of : ℕ → List Right → Option Right
right_of s rs = find (λ r. r.serial == s) rs

abbrev pub in_force : List Right → List Right
in_force rs = filter is_in_force rs

abbrev pub provisional : List Right → List Right
provisional rs = filter (λ r. not (is_in_force r)) rs

-- lines as provisional rights with consecutive serials
abbrev pub numbered : ℕ → List Line → List Right
numbered k [] = []
numbered k (x ∷ xs) = record { serial = k; line = x; standing = Provisional } ∷ numbered (suc k) xs

abbrev pub confirmed : Right → Right
confirmed r = record { serial = r.serial; line = r.line; standing = InForce (paid_of r) }

abbrev pub all_confirmed : List Right → List Right
all_confirmed rs = map confirmed rs

-- a standing after a payment; nothing is paid while provisional
abbrev pub paid_more : Standing → ℕ → Standing
paid_more Provisional n = Provisional
paid_more (InForce paid) n = InForce (paid + n)

-- a right after a payment
abbrev pub paying : Right → ℕ → Right
paying r n = record { serial = r.serial; line = r.line; standing = paid_more r.standing n }

-- the rights after a payment on a serial
abbrev pub paid_on : ℕ → ℕ → List Right → List Right
paid_on s n [] = []
paid_on s n (r ∷ rs) = cond (r.serial == s) (paying r n ∷ rs) (r ∷ paid_on s n rs)

-- the rights without the one that has a serial
abbrev pub without : ℕ → List Right → List Right
without s [] = []
without s (r ∷ rs) = cond (r.serial == s) rs (r ∷ without s rs)

-- an annulment takes the guarantee held, up to the debt, and writes off the rest
abbrev pub taking : Right → ℕ
taking r = min (held r) (debt r)

abbrev pub write_off : Right → ℕ
write_off r = debt r - taking r
