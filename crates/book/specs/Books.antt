-- A call on a book, with what it rests on.
use Rattle.flows.specs.declared.source.FactorSource as source
use Rattle.flows.specs.declared.rule.UseRule as rule
use Rattle.book.specs.declared.book.Book.{Book}
use Rattle.book.specs.Calls.{Call, Answer}
use Rattle.book.specs.Living.{LivesOn}
use Rattle.book.specs.Market.{market_of}
use Rattle.book.specs.Views.{view}

-- the call, answered so, carries every history of the book before it on to the book after it, and all findings hold
abbrev pub CarriesOn : {S R : Type 0} → source.Ghosts S → rule.Ghosts R → Book S R → Call → Answer → Book S R → Type 0
CarriesOn s r before call answer after = LivesOn (market_of s r before.basis) (r.allowed before.basis.rule) (view before.ledger) call answer (view after.ledger)
