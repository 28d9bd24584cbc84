-- The months of a calendar, set one by one.
use Rattle.std.proofs.Common.{◌≡◌, ℕ, zero, suc, ◌+◌, ◌-◌, ◌*◌, ◌≤◌, ap, ◌∙◌, arith}
use Rattle.calendar.specs.Figures.{Figures}
use Rattle.calendar.specs.Calls.{empty_figures, with_hours, with_pay_day}

-- an empty calendar with hours and pay days in the first n months
abbrev pub dated : ℕ → Figures
dated zero = empty_figures
dated (suc n) = with_pay_day (with_hours (dated n) (suc n) 744) (suc n) (10 * suc n)

-- one month more
pub date_on : (month : ℕ) (before between after : Figures) → 1 ≤ month
    → before ≡ dated (month - 1) → between ≡ with_hours before month 744 → after ≡ with_pay_day between month (10 * month)
    → after ≡ dated (month + 1 - 1)
date_on zero before between after h p q r = let z : ⊥ = omega arith in elim z [ ]
date_on (suc k) before between after h p q r =
    let H : Figures → Figures = λ g. with_hours g (suc k) 744 in
    let D : Figures → Figures = λ g. with_pay_day g (suc k) (10 * suc k) in
    let low : suc k - 1 ≡ k = omega arith in
    let high : suc k ≡ suc k + 1 - 1 = omega arith in
    r ∙ ap D (q ∙ ap H (p ∙ ap dated low)) ∙ ap dated high
