-- What statements and accounts answer is what is owed and held.
use Rattle.std.proofs.Common.{◌≡◌, ℕ, suc, ◌≤◌, eqb, leb, List, [], ◌∷◌, length, Some, Ok, Err, Option, refl, arith}
use Rattle.std.proofs.lemmas.List.{get_or_past}
use Rattle.std.proofs.lemmas.Bool.{cond_both, cond-true, cond-false, ne_eqb, eqb-true, leb-true}
use Rattle.std.specs.Option.{option_map, ok_or}
use Rattle.std.specs.List.{AllByRecursion}
use Rattle.terms.specs.declared.refusal.Refusal.TheVariants.{Unknown}
use Rattle.book.specs.declared.right.Right.{Right}
use Rattle.book.specs.Rights.{debt, owed, right_of}
use Rattle.book.specs.States.{State, balance}
use Rattle.book.specs.Questions.{statement_of, statement, debt_stated, account_of, account, balance_stated}
use Rattle.book.proofs.Lists.{Rising, rising_above}

-- the debt on a right, if there is one
stated : Option Right → ℕ
stated o = debt_stated (ok_or (option_map statement_of o) Unknown)

owed_above : (s : ℕ) (rs : List Right) → AllByRecursion (λ r. suc s ≤ r.serial) rs → owed s rs ≡ 0
owed_above s [] h = refl
owed_above s (r ∷ rs) h = omega (arith, cond-false (eqb r.serial s) (debt r) 0 (ne_eqb r.serial s (λ e. omega (arith, h.0))), owed_above s rs h.1)

owed_once : (s lo : ℕ) (rs : List Right) (hi : ℕ) → Rising lo rs hi → owed s rs ≡ stated (right_of s rs)
unfolding stated
owed_once s lo [] hi h = refl
owed_once s lo (r ∷ rs) hi h =
    cond_both (eqb r.serial s) (Some r) (right_of s rs) (λ o. owed s (r ∷ rs) ≡ debt_stated (ok_or (option_map statement_of o) Unknown))
    (λ t.
    let e = eqb-true r.serial s t in
    omega (arith, cond-true (eqb r.serial s) (debt r) 0 t, owed_above s rs (rising_above (suc s) (suc r.serial) rs hi (omega arith) h.1)))
    (λ f. omega (arith, cond-false (eqb r.serial s) (debt r) 0 f, owed_once s (suc r.serial) rs hi h.1))

pub owed_stated : (b : State) (hi : ℕ) → Rising 0 b.rights hi → (s : ℕ) → owed s b.rights ≡ debt_stated (statement b s)
unfolding stated
owed_stated b hi rise s = owed_once s 0 b.rights hi rise

pub balance_as_stated : (b : State) → length b.balances ≡ 32 → (x : ℕ) → balance b x ≡ balance_stated (account b x)
balance_as_stated b long x =
    cond_both (leb 32 x) (Err Unknown) (Ok (account_of b x)) (λ o. balance b x ≡ balance_stated o)
    (λ t. let past = leb-true 32 x t in get_or_past b.balances x 0 (omega arith))
    (λ f. refl)
