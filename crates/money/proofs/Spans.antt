-- What `any` tells of a test of the months of a span.
use Rattle.std.proofs.Common.{◌≡◌, ℕ, ◌+◌, ◌-◌, ◌<◌, ◌≤◌, [], Bool, true, false, Some, None, Option, MatchBool, IsTrue, subst, sym, ap, ⊎_elim, arith}
use Rattle.std.proofs.lemmas.Bool.{cases_Bool}
use Rattle.std.proofs.lemmas.Option.{same_Some}
use Rattle.std.specs.Option.{IfSome, IsSomeAnd, option_map}
use Rattle.std.specs.declared.ops.Range.{Range}
use Rattle.std.specs.Fn.{Called}
use Rattle.std.specs.Iterator.Runs.{SomeRun, AnyItemGives, AllItemsGive, CallKeepsClosure}
use Rattle.std.proofs.iter.Yields.{nat_range_steps}
use Rattle.std.proofs.iter.runs.Sources.{range_listed}
use denote.Param.Members.{Mut}
use Rattle.money.specs.Months.{month_count, some_month}
use Rattle.money.proofs.Sums.{some_here, some_is}

-- an item of which two facts hold
met : (P Q : ℕ → Type 0) (o : Option ℕ) → IfSome o P → IsSomeAnd o Q → (m : ℕ) × P m × Q m
met P Q (Some m) p q = (m, p, q)
met P Q None p q = absurd q

-- what holds of an item that is known
told : (Q : ℕ → Type 0) (o : Option ℕ) (m : ℕ) → option_map (λ y. y) o ≡ Some m → IfSome o Q → Q m
told Q (Some n) m e q = subst Q (same_Some n m e) q
told Q None m e q = cc

-- `any` from first to last is whether the test holds in one of these months
pub any_month : {F : Type 0} {g : Mut F (ℕ × Unit {0}) Bool} {f : F} (s : Range ℕ) (r : Bool) (first last : ℕ) (test : ℕ → Bool) → first ≤ last
    → SomeRun nat_range_steps s (λ p. MatchBool r (AnyItemGives p g f true) (IsTrue p.whole × AllItemsGive p g f false))
    → s.start ≡ first → s.end ≡ last + 1 → CallKeepsClosure g f
    → ((m : ℕ) (b : Bool) → first ≤ m → m ≤ last → Called g f (m, tt) b f → b ≡ test m)
    → some_month test first (month_count first last) ≡ r
any_month s true first last test ordered run start end keeps calls =
    let p = run.0 in
    let from = run.1 in
    let up = range_listed p p.seen in
    let hit = run.2 keeps in
    let m = met _ _ (p.at hit.0) (up.4.2 hit.0) hit.2 in
    let lo : first ≤ m.0 = omega (arith, m.1, up.2, ap (λ x. x.start) from) in
    let hi : m.0 ≤ last = omega (arith, m.1, up.3, ap (λ x. x.end) from) in
    some_here test first (month_count first last) m.0 lo (omega arith) (sym (calls m.0 true lo hi m.2))
any_month s false first last test ordered run start end keeps calls =
    let p = run.0 in
    let from = run.1 in
    let up = range_listed p p.seen in
    let none : (m : ℕ) → first ≤ m → m ≤ last → false ≡ test m = λ m lo hi.
    let above : up.0 ≤ m = omega (arith, up.2, ap (λ x. x.start) from) in
    let below : m < up.0 + p.len = omega (arith, up.4.1 run.2.0, up.2, up.3, ap (λ x. x.start) from, ap (λ x. x.end) from) in
    calls m false lo hi (told _ (p.at (m - up.0)) m (up.5 [] m 0 above below).1 (run.2.1 keeps (m - up.0))) in
    ⊎_elim
    (λ t.
    let w = some_is test first (month_count first last) t in
    let q = none (first + w.0) (omega arith) (omega (arith, w.1)) in
    absurd (cc (q, w.2)))
    (λ t. t)
    (cases_Bool (some_month test first (month_count first last)))
