use Rattle.std.proofs.Common.{[], refl}
use Rattle.book.specs.Market.{Market, market}
use Rattle.calendar.specs.Figures.{Figures}
use Rattle.book.specs.States.{fresh}
use Rattle.book.proofs.Words.{form_told}
use Rattle.book.proofs.Main.{findings, lived-after}
use Rattle.book.proofs.Lives.{lawful}
use Rattle.book.proofs.theorem.findings_stand.Goals as goal

pub returns : goal.returns
returns g c =
    let s = c.args.source.now in
    let r = c.args.rule.now in
    let over : Figures → Market = market (g.S.FactorSource.means s) (g.R.UseRule.worst r) in
    let laws = lawful g.S.FactorSource g.R.UseRule g.met.S.FactorSource.ranged g.met.R.UseRule.attained g.met.R.UseRule.dominates s r in
    record {
      form = form_told;
      lived = λ k n h b l. findings (over k) (g.R.UseRule.allowed r) (laws k) n h b l;
      runs = λ k n calls. findings (over k) (g.R.UseRule.allowed r) (laws k) n _ _ (lived-after (over k) n calls [] (fresh n) refl);
    }
