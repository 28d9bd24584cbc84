use Rattle.std.proofs.Common.{rules}
use Rattle.book.specs.Market.{market_of}
use Rattle.book.specs.Checks.{limit_check, capacity_check}
use Rattle.book.specs.Views.{rights}
use Rattle.book.proofs.basis.Basis.check_capacity.Goals as goal

pub returns : goal.returns
unfolding capacity_check
returns g c = c.check_each.ensures (limit_check (market_of g.S.FactorSource g.R.UseRule c.args.self.now) (rights c.args.table.now)) (λ month limit r valid fits said. search rules)
