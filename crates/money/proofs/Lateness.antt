-- A right is overdue exactly when some month is late, and never without a debt.
use Rattle.std.proofs.Common.{◌≡◌, ℕ, ◌+◌, ◌<◌, ◌≤◌, Bool, true, false, ltb, Decides, sym, ◌∙◌, subst, ⊎_elim, arith}
use Rattle.std.proofs.lemmas.Bool.Decides.{nat_tests}
use Rattle.std.proofs.lemmas.Bool.{and_parts, and_from, ltb-true, lt-ltb, cases_Bool}
use Rattle.calendar.specs.Figures.{Figures, pay_day}
use Rattle.money.specs.Months.{is_span, month_count, some_month}
use Rattle.money.specs.Payments.{lack, debt, late, overdue, Overdue}
use Rattle.money.proofs.Sums.{sum_part, some_here, some_is}

module _ (cal : Figures) (charge paid first last day : ℕ) where
  -- over months of the year
  overdue_span : 1 ≤ first → first ≤ last → last ≤ 12 → some_month (late cal charge paid first last day) first (month_count first last) ≡ overdue cal charge paid first last day
  overdue_span f o l = grind (arith, nat_tests)

  -- over none
  pub overdue_no_span : ((1 ≤ first) × (first ≤ last) × (last ≤ 12) → ⊥) → overdue cal charge paid first last day ≡ false
  overdue_no_span n = grind (arith, nat_tests)

  -- the month that is late
  late_month : overdue cal charge paid first last day ≡ true → (i : ℕ) × (i < month_count first last) × (0 < lack charge paid first last (first + i)) × (pay_day cal (first + i) < day)
  late_month e =
      let s = and_parts (is_span first last) (some_month (late cal charge paid first last day) first (month_count first last)) e in
      let w = some_is (late cal charge paid first last day) first (month_count first last) s.1 in
      let p = and_parts (ltb 0 (lack charge paid first last (first + w.0))) (ltb (pay_day cal (first + w.0)) day) w.2 in
      (w.0, w.1, ltb-true _ _ p.0, ltb-true _ _ p.1)

  pub overdue_decides : 1 ≤ first → first ≤ last → last ≤ 12 → Decides (overdue cal charge paid first last day) (Overdue cal charge paid first last day)
  overdue_decides f o l = (
    (λ e. let w = late_month e in let h = w.1 in (first + w.0, (omega arith, omega arith), w.2, w.3)),
    (λ m.
        let v = m.1 in
        let t : late cal charge paid first last day m.0 ≡ true = and_from _ _ (lt-ltb _ _ m.2) (lt-ltb _ _ m.3) in
        sym (overdue_span f o l)
        ∙ some_here (late cal charge paid first last day) first (month_count first last) m.0 v.0 (omega (arith, v.0, v.1)) t),
  )

  pub settled : debt charge paid first last ≡ 0 → overdue cal charge paid first last day ≡ false
  settled e =
      ⊎_elim
      (λ o.
      let w = late_month o in
      absurd (omega (arith, sum_part (lack charge paid first last) first (month_count first last) w.0 w.1, w.2)))
      (λ o. o)
      (cases_Bool (overdue cal charge paid first last day))

  -- what an answer over months of the year keeps
  pub overdue_laws : (r : Bool) → 1 ≤ first → first ≤ last → last ≤ 12 → some_month (late cal charge paid first last day) first (month_count first last) ≡ r → (r ≡ overdue cal charge paid first last day) × Decides r (Overdue cal charge paid first last day) × (debt charge paid first last ≡ 0 → r ≡ false)
  overdue_laws r f o l s =
      let e : r ≡ overdue cal charge paid first last day = sym s ∙ overdue_span f o l in (
        e,
        subst (λ b. Decides b (Overdue cal charge paid first last day)) (sym e) (overdue_decides f o l),
        (λ z. e ∙ settled z),
      )
