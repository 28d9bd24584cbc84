use Rattle.std.proofs.Common.{◌≡◌, Some, sym, ap, ◌∙◌, subst, arith, w32, w64, SFits, to_z, of_z, rules}
use Rattle.std.proofs.lemmas.Int.{ints, to_z-of_z}
use Rattle.flows.specs.Factors.{Near, InFactorRange, Ranged}
use Rattle.flows.proofs.Totals.{worst_near}
use Rattle.flows.proofs.Worst.{Lawful}
use Rattle.book.specs.Market.{market_of}
use Rattle.book.proofs.Sums.{worst-counted}
use Rattle.book.proofs.basis.Basis.worst_of.Goals as goal

pub returns-in-Some : goal.returns-in-Some
returns-in-Some g c =
    let me = c.args.self.now in
    let line = c.args.line.now in
    let factor = c.in-Some.factor in
    let means = g.S.FactorSource.means me.source in
    let worst = g.R.UseRule.worst me.rule in
    let near : InFactorRange factor = subst Ranged (sym c.in-Some.ensures) (g.met.S.FactorSource.ranged me.source c.args.month c.args.limit line.injection line.withdrawal) in
    let fits : SFits w32 factor = omega (arith, ints) in
    let read : to_z w32 (of_z w32 factor) ≡ factor = to_z-of_z w32 factor fits in
    let bits : SFits w64 c.worst_flow.result = search rules in
    let back = to_z-of_z w64 c.worst_flow.result bits in
    let value : c.worst_flow.result ≡ worst line.power factor = c.worst_flow.ensures c.requires (rw read near) ∙ ap (worst line.power) read in
    let laws : Lawful means (g.R.UseRule.allowed me.rule) worst = record { ranged = g.met.S.FactorSource.ranged me.source; bounded = g.met.R.UseRule.bounded me.rule; usable = g.met.R.UseRule.usable me.rule; attained = g.met.R.UseRule.attained me.rule; dominates = g.met.R.UseRule.dominates me.rule } in
    let small = worst_near means (g.R.UseRule.allowed me.rule) worst laws c.args.month c.args.limit line.power (Some factor) c.requires near in
    record {
      value = worst-counted (market_of g.S.FactorSource g.R.UseRule me) c.args.month c.args.limit line factor _ (sym c.if-not-counts.ensures) c.in-Some.ensures (back ∙ value);
      near = subst (Near 2000000000000) (sym (back ∙ value)) small;
    }
