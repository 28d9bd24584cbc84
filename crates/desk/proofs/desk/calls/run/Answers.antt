use Rattle.std.proofs.Common.{◌≡◌, ℕ, ◌+◌, ◌<◌, ◌≤◌, [], length, take, drop, set, sym, ap, ◌∙◌, subst, arith}
use Rattle.std.proofs.lemmas.List.{length-take-le, get_or-take}
use Rattle.book.specs.declared.basis.Basis.{Basis}
use Rattle.book.specs.Market.{Market, market, market_of, RestsOn}
use Rattle.book.specs.Living.{answered, LivesOn}
use Rattle.book.specs.Histories.{Lived}
use Rattle.book.specs.Views.{view}
use Rattle.desk.specs.Runs.{asked, said, history_of}
use Rattle.calendar.specs.Figures.{figures}
use Rattle.book.proofs.Lives.{lawful}
use Rattle.book.proofs.BothWays.{findings_as_stated}
use Rattle.desk.proofs.Running.{lived_push, drop-next}
use Rattle.desk.proofs.desk.calls.run.Goals as goal

pub loop-i-preserved : goal.loop-i-preserved
loop-i-preserved g c =
    let inv = c.loop-i.invariant in
    let a = c.answer.ensures in
    let i = c.loop-i.i in
    let calls = c.args.calls.now in
    let is = c.loop-i.desk.book in
    let m = λ (b : Basis g.row.S.Denot g.row.R.Denot). market_of g.S.FactorSource g.R.UseRule b in
    let few : c.min-made.result ≤ length calls = omega (arith, c.min-made.ensures) in
    let turn : i < c.min-made.result = omega (arith, c.loop-i-test.true, length-take-le c.min-made.result calls few) in
    let here : i < length calls = omega (arith, few) in
    let there : i < length c.loop-i.answers = omega (arith, turn, c.min-made.ensures, c.loop-i.auto.answers) in
    let on = subst (λ x. LivesOn (m is.basis) (g.R.UseRule.allowed is.basis.rule) (view is.ledger) (asked x) (answered said c.answer.result) (view c.answer.new.self.book.ledger)) (get_or-take c.min-made.result calls i _ turn) a.lived in
    let past = history_of [] (take (i + 1) calls) (take (i + 1) (set c.loop-i.answers i c.answer.result)) in
    let lived = lived_push (m is.basis) (g.R.UseRule.allowed is.basis.rule) c.args.number calls c.loop-i.answers i _ c.answer.result (view is.ledger) (view c.answer.new.self.book.ledger) here there on inv.2 in (
      subst (RestsOn c.args.source c.args.rule c.args.calendar) (sym a.fixed) inv.0,
      drop-next c.args.answers.now c.loop-i.answers i c.answer.result inv.1,
      subst (λ b. Lived (m b) c.args.number past (view c.answer.new.self.book.ledger)) (sym a.fixed) lived,
    )

pub returns : goal.returns
returns g c =
    let inv = c.loop-i.invariant in
    let args = c.args in
    let basis = c.loop-i.desk.book.basis in
    let m = market (g.S.FactorSource.means args.source) (g.R.UseRule.worst args.rule) (figures args.calendar) in
    let same : market_of g.S.FactorSource g.R.UseRule basis ≡ m =
    ap (λ s. market (g.S.FactorSource.means s) (g.R.UseRule.worst basis.rule) (figures basis.calendar)) inv.0.0
    ∙ ap (λ r. market (g.S.FactorSource.means args.source) (g.R.UseRule.worst r) (figures basis.calendar)) inv.0.1
    ∙ ap (λ k. market (g.S.FactorSource.means args.source) (g.R.UseRule.worst args.rule) (figures k)) inv.0.2 in
    let few : c.min-made.result ≤ length args.calls.now = omega (arith, c.min-made.ensures) in
    let done : c.loop-i.i ≡ c.min-made.result = omega (arith, c.loop-i-test.false, c.loop-i.auto.i-end, length-take-le c.min-made.result args.calls.now few) in
    let past = λ (k : ℕ). history_of [] (take k args.calls.now) (take k c.loop-i.answers) in
    let b = view c.loop-i.desk.book.ledger in
    let lived = subst (λ (k : ℕ). Lived m args.number (past k) b) done (subst (λ (x : Market). Lived x args.number (past c.loop-i.i) b) same inv.2) in
    let laws = lawful g.S.FactorSource g.R.UseRule g.met.S.FactorSource.ranged g.met.R.UseRule.attained g.met.R.UseRule.dominates args.source args.rule (figures args.calendar) in
    record {
      fixed = inv.0;
      runs = record {
        all = c.min-made.ensures;
        rest = subst (λ (k : ℕ). drop k c.loop-i.answers ≡ drop k args.answers.now) done inv.1;
        lived = lived;
        findings = findings_as_stated m (g.R.UseRule.allowed args.rule) laws args.number (past c.min-made.result) b lived;
      };
    }
