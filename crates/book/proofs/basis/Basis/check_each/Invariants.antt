use Rattle.std.proofs.Common.{◌≡◌, ℕ, ◌+◌, ◌-◌, ◌≤◌, Option}
use Rattle.terms.specs.declared.refusal.Refusal.{Refusal}
use Rattle.book.specs.Market.{market_of, limits}
use Rattle.book.specs.Refusing.{first_of, Describes}
use Rattle.book.specs.Checks.{by_month_and_limit}
use Rattle.book.proofs.basis.Basis.check_each.Given as goal

-- the months that are left give the same answer as all
abbrev pub invariant-loop-month : goal.invariant-loop-month
invariant-loop-month g l =
    let m = market_of g.S.FactorSource g.R.UseRule l.self in
    (f : ℕ → ℕ → Option Refusal) → Describes (λ month limit r. g.C.Fn.post l.check (month, (limit, tt)) r) f
    → first_of (λ month. first_of (f month) 1 (limits m)) l.month (13 - l.month) ≡ by_month_and_limit m f

-- the limits that are left of the month, and then the months that are, give the same answer as all
abbrev pub invariant-loop-limit : goal.invariant-loop-limit
invariant-loop-limit g l =
    let m = market_of g.S.FactorSource g.R.UseRule l.self in
    (1 ≤ l.month) × (l.month ≤ 12) × (
    (f : ℕ → ℕ → Option Refusal) → Describes (λ month limit r. g.C.Fn.post l.check (month, (limit, tt)) r) f
    → first_of (f l.month) l.limit (limits m + 1 - l.limit) ≡ first_of (f l.month) 1 (limits m)
    ) × (
    (f : ℕ → ℕ → Option Refusal) → Describes (λ month limit r. g.C.Fn.post l.check (month, (limit, tt)) r) f
    → first_of (λ month. first_of (f month) 1 (limits m)) l.month (13 - l.month) ≡ by_month_and_limit m f
    )
