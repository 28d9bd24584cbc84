use Rattle.book.specs.Market.{market_of}
use Rattle.book.specs.Views.{view}
use Rattle.desk.proofs.Handling.{proposed_open}
use Rattle.desk.proofs.desk.Desk.propose.Goals as goal

pub invariant_of-self-2 : goal.invariant_of-self-2
invariant_of-self-2 g c =
    let me = c.args.self.now.book in
    let m = market_of g.S.FactorSource g.R.UseRule me.basis in
    record { held = proposed_open m (view me.ledger) c.args.words.now c.in_ok-award.award.numbers (view c.propose.new.self.ledger) c.in_ok-award.ensures.gives }
