-- What a check says where it refuses and where it does not.
use Rattle.std.proofs.Common.{◌≡◌, ℕ, suc, ◌+◌, ◌-◌, ◌≤◌, true, false, cond, eqb, List, [], ◌∷◌, ℤ, ◌-ℤ◌, nat_abs, ◌≤ℤ◌, ◌<ℤ◌, Some, None, ap, arith}
use lib.Signed.{lt_z}
use Rattle.std.proofs.lemmas.Int.{ints}
use Rattle.std.proofs.lemmas.Bool.{ltb-false, cond_both, eqb-true}
use Rattle.std.specs.List.{AllByRecursion}
use Rattle.submission.specs.declared.line.Line.{Line}
use Rattle.book.specs.declared.right.Right.{Right}
use Rattle.terms.specs.declared.refusal.Refusal.{Refusal}
use Rattle.terms.specs.declared.refusal.Refusal.TheVariants.{LimitPassed}
use Rattle.book.specs.Market.{Market, limits}
use Rattle.book.proofs.Bounded.{BoundedLines}
use Rattle.book.specs.Lines.{line_fault}
use Rattle.book.specs.Rights.{guarantee, asked_of}
use Rattle.book.specs.Loads.{bound, load, Listed}
use Rattle.book.specs.States.{State, free_part}
use Rattle.book.specs.Refusing.{first_of}
use Rattle.book.specs.Checks.{limit_check, capacity_check, factor_check, cover_check, lines_check}
use Rattle.book.proofs.Worst.{Fits}
use Rattle.book.proofs.Refusals.{then_none, refuse_none, refuse_some, first_none, first_some}

not-past : (a b : ℤ) → lt_z a b ≡ false → b ≤ℤ a
not-past a b h = grind (arith, ints)

past : (a b : ℤ) → lt_z a b ≡ true → a <ℤ b
past a b h = grind (arith, ints)

pub fits_from_check : (m : Market) (rs : List Right) → capacity_check m rs ≡ None → Fits m rs
unfolding capacity_check limit_check
fits_from_check m rs h month limit at =
    let row = first_none (λ k. first_of (λ j. limit_check m rs k j) 1 (limits m)) 1 12 h month at.month_from (omega (arith, at.month_to)) in
    let here = first_none (λ j. limit_check m rs month j) 1 (limits m) row limit at.limit_from (omega (arith, at.limit_to)) in
    not-past (bound m month limit) (load m month limit rs) (refuse_none _ _ here)

pub past_from_check : (m : Market) (rs : List Right) (e : Refusal) → capacity_check m rs ≡ Some e → (month limit excess : ℕ) × (Listed m month limit) × (e ≡ LimitPassed month limit excess) × ((bound m month limit) <ℤ (load m month limit rs))
unfolding capacity_check limit_check
past_from_check m rs e h =
    let row = first_some (λ k. first_of (λ j. limit_check m rs k j) 1 (limits m)) 1 12 e h in
    let month = row.0 in
    let here = first_some (λ j. limit_check m rs month j) 1 (limits m) e row.3 in
    let limit = here.0 in
    let found = refuse_some (lt_z (bound m month limit) (load m month limit rs)) (LimitPassed month limit (nat_abs (load m month limit rs -ℤ bound m month limit))) e here.3 in (
      month,
      limit,
      nat_abs (load m month limit rs -ℤ bound m month limit),
      record { month_from = row.1; month_to = omega (arith, row.2); limit_from = here.1; limit_to = omega (arith, here.2) },
      found.1,
      past (bound m month limit) (load m month limit rs) found.0,
    )

-- lines that pass are small
pub small_from_lines : (m : Market) → BoundedLines m → (b : State) (place : ℕ) (earlier ls : List Line) → lines_check m b place earlier ls ≡ None → AllByRecursion (λ x. x.power ≤ 1000000) ls
unfolding lines_check
small_from_lines m law b place earlier [] h = tt
small_from_lines m law b place earlier (x ∷ xs) h =
    let p = then_none (line_fault m.calendar place x) _ h in
    let q = then_none (factor_check m place x) _ p.1 in
    let r = then_none (cover_check b place earlier x) _ q.1 in
    (law place x p.0, small_from_lines m law b (suc place) (x ∷ earlier) xs r.1)

-- and their guarantees are covered
pub covered_from_lines : (m : Market) (b : State) (place : ℕ) (earlier ls : List Line) → lines_check m b place earlier ls ≡ None → (x : ℕ) → asked_of x earlier ≤ free_part b x → asked_of x earlier + asked_of x ls ≤ free_part b x
unfolding lines_check
covered_from_lines m b place earlier [] h x k = omega arith
covered_from_lines m b place earlier (l ∷ ls) h x k =
    let p = then_none (line_fault m.calendar place l) _ h in
    let q = then_none (factor_check m place l) _ p.1 in
    let r = then_none (cover_check b place earlier l) _ q.1 in
    let enough = ltb-false (free_part b l.holder - asked_of l.holder earlier) (guarantee l) (refuse_none _ _ r.0) in
    let more : cond (eqb l.holder x) (guarantee l) 0 + asked_of x earlier ≤ free_part b x =
    cond_both (eqb l.holder x) (guarantee l) 0 (λ g. g + asked_of x earlier ≤ free_part b x)
    (λ e. let same = eqb-true l.holder x e in omega (arith, enough, ap (λ y. asked_of y earlier) same, ap (free_part b) same))
    (λ e. omega arith) in
    let rest = covered_from_lines m b (suc place) (l ∷ earlier) ls r.1 x more in
    omega arith
