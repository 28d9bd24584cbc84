use Rattle.std.proofs.Common.{◌≡◌, ℕ, add-one, ap, ◌+◌, ◌<◌, length, sym, ◌∙◌, arith, rules}
use Rattle.std.proofs.lemmas.Bool.{cond-false, cond-true}
use Rattle.terms.specs.Tables.{held}
use Rattle.calendar.specs.Figures.{figures, limit_count, limit_figures, limit_of}
use Rattle.calendar.specs.Matrix.{counted, flow_at, is_of, own, reference_at, share, sum_below}
use Rattle.calendar.proofs.Limits.{limit_at, limits-counted}
use Rattle.calendar.proofs.calendar.study.Study.pair_flow.Goals as goal
use Rattle.calendar.proofs.calendar.study.Study.pair_flow.Goals.{then-is_of, else-is_of}

sum_below-more : (f : ℕ → ℕ) (i : ℕ) → sum_below f (i + 1) ≡ sum_below f i + f i
sum_below-more f i = ap (sum_below f) (add-one i)

pub loop-place-preserved : goal.loop-place-preserved
loop-place-preserved c =
    let s = c.args.self.now in
    let cal = s.calendar.now in
    let f = figures cal in
    let number = c.args.at + 1 in
    let place = c.loop-place.place in
    let within : c.args.at < length (held cal.limits) = omega (arith, c.requires, limits-counted cal) in
    let read : limit_figures c.index-as_slice-at.result ≡ limit_of f number = search (rules, limit_at) in
    let reference = reference_at s.references.now place in
    let own' = counted (own (limit_of f number) reference) (flow_at s.flows.now (limit_count f) place number) in
    let of = share (limit_of f number) (limit_count f) s.references.now s.flows.now number c.args.pair in
    let more = sum_below-more of place in
    elim c.if-is_of.branch [
      | then-is_of w ↦
          let here : w.counted.result ≡ own' = search rules in
          let shared = cond-true (is_of reference c.args.pair) own' 0 (sym c.is_of.ensures ∙ w.if-is_of.true) in
          (omega (arith, more, shared, here), omega (arith, w.counted.ensures.bound))
      | else-is_of w ↦
          let shared = cond-false (is_of reference c.args.pair) own' 0 (sym c.is_of.ensures ∙ w.if-is_of.false) in
          (omega (arith, more, shared), omega arith)
    ]
