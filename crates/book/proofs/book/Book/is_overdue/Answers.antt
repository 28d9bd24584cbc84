use Rattle.std.proofs.Common.{◌≡◌, ℕ, ◌≤◌, false, ◌&&◌, leb, sym, ap, ◌∙◌, inl, inr}
use Rattle.std.proofs.lemmas.Bool.{cases_Bool, and_parts, and_left, leb-true}
use Rattle.calendar.specs.Figures.{figures}
use Rattle.money.specs.Months.{is_span}
use Rattle.money.specs.Payments.{overdue}
use Rattle.book.specs.Rights.{paid_of}
use Rattle.book.specs.Checks.{overdue_on}
use Rattle.book.proofs.book.Book.is_overdue.Goals as goal

no_span : (first last : ℕ) → ((1 ≤ first) × (first ≤ last) × (last ≤ 12) → ⊥) → is_span first last ≡ false
no_span first last h = elim (cases_Bool (is_span first last)) [
  | inl t ↦
      let p = and_parts (leb 1 first) (leb first last && leb last 12) t in
      let q = and_parts (leb first last) (leb last 12) p.1 in
      absurd (h (leb-true 1 first p.0, leb-true first last q.0, leb-true last 12 q.1))
  | inr e ↦ e
]

pub returns-in_default : goal.returns-in_default
unfolding overdue_on
returns-in_default g c = let x = c.args.right.now.line in sym (and_left (is_span x.first x.last) _ (no_span x.first x.last c.in_default.ensures))

pub returns : goal.returns
unfolding overdue_on
returns g c =
    let me = c.args.self.now in
    let x = c.args.right.now in
    let s = c.in-Some.ensures in
    c.overdue.ensures.value
    ∙ ap (λ paid. overdue (figures me.basis.calendar) x.line.charge paid c.in-Some.months.first c.in-Some.months.last me.ledger.day) c.paid.ensures
    ∙ ap (λ first. overdue (figures me.basis.calendar) x.line.charge (paid_of x) first c.in-Some.months.last me.ledger.day) s.0
    ∙ ap (λ last. overdue (figures me.basis.calendar) x.line.charge (paid_of x) x.line.first last me.ledger.day) s.1
