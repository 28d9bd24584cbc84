use Rattle.book.specs.Market.{market_of}
use Rattle.book.proofs.Sums.{Summed}
use Rattle.book.proofs.basis.Basis.load_of.Given as goal

abbrev pub invariant-loop-right : goal.invariant-loop-right
invariant-loop-right g l = Summed (market_of g.S.FactorSource g.R.UseRule l.self) l.month l.limit l.rights l.right-index l.sum
