use Rattle.std.proofs.Common.{◌≡◌, ℕ, ◌+◌, ◌≤◌, length, sym, ap, ◌∙◌, refl, below_more, false, arith, rules}
use Rattle.calendar.specs.Figures.{figures, limit_count, limit_figures, limit_of}
use Rattle.calendar.specs.Matrix.{strays_at}
use Rattle.calendar.proofs.Limits.{by_places, limit_at, limits-counted}
use Rattle.calendar.proofs.calendar.study.Study.check_strays.Goals as goal

pub returns-then-strays : goal.returns-then-strays
returns-then-strays c =
    let s = c.args.self.now in
    let cal = s.calendar.now in
    let at = c.loop-at.at in
    let Strays = strays_at (figures cal) s.references.now s.flows.now c.loop-place.place in
    let Quiet : ℕ → Type 0 = λ l. Strays l ≡ false in
    let read : limit_figures c.limit-item.result ≡ limit_of (figures cal) (at + 1) = search (rules, limit_at) in
    let answer : c.strays.result ≡ Strays (at + 1) = search rules in (
      c.loop-place.place,
      at + 1,
      (
        c.loop-place-test.true,
        ((omega arith, omega (arith, limits-counted cal, ap length c.as_slice-limit-items.ensures)), sym answer ∙ c.if-strays.true, λ l low high. by_places Quiet at c.loop-at.invariant.1 l low (omega arith)),
        c.loop-at.invariant.0,
      ),
      refl,
    )

pub loop-at-preserved : goal.loop-at-preserved
loop-at-preserved c =
    let s = c.args.self.now in
    let cal = s.calendar.now in
    let at = c.loop-at.at in
    let read : limit_figures c.limit-item.result ≡ limit_of (figures cal) (at + 1) = search (rules, limit_at) in
    let answer : c.strays.result ≡ strays_at (figures cal) s.references.now s.flows.now c.loop-place.place (at + 1) = search rules in
    (c.loop-at.invariant.0, below_more _ _ c.loop-at.invariant.1 (sym answer ∙ c.if-strays.false))

pub loop-place-preserved : goal.loop-place-preserved
loop-place-preserved c =
    let s = c.args.self.now in
    let cal = s.calendar.now in
    let Quiet : ℕ → Type 0 = λ l. strays_at (figures cal) s.references.now s.flows.now c.loop-place.place l ≡ false in
    let end : limit_count (figures cal) ≤ c.loop-at.at = omega (arith, limits-counted cal, ap length c.as_slice-limit-items.ensures) in
    below_more _ _ c.loop-at.invariant.0 (λ l has. by_places Quiet c.loop-at.at c.loop-at.invariant.1 l has.0 (omega (arith, has.1, end)))
