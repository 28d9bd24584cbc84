use Rattle.std.proofs.Common.{◌≡◌, [], take, drop}
use Rattle.book.specs.Market.{market_of, RestsOn}
use Rattle.book.specs.Histories.{Lived}
use Rattle.desk.specs.Runs.{history_of}
use Rattle.book.specs.Views.{view}
use Rattle.desk.proofs.desk.calls.run.Given as goal

-- the calls so far, with the answers so far, are lived through
abbrev pub invariant-loop-i : goal.invariant-loop-i
invariant-loop-i g l =
    let is = l.desk.book in
    RestsOn l.fn.source l.fn.rule l.fn.calendar is.basis
    × (drop l.i l.answers ≡ drop l.i l.initial.answers)
    × Lived (market_of g.S.FactorSource g.R.UseRule is.basis) l.number (history_of [] (take l.i l.calls) (take l.i l.answers)) (view is.ledger)
