use Rattle.std.proofs.Common.{◌≡◌, ◌+◌, List, []}
use Rattle.submission.specs.declared.line.Line.{Line}
use Rattle.submission.specs.Reading.{ahead}
use Rattle.book.specs.Market.{market_of}
use Rattle.book.specs.Covers.{Left}
use Rattle.book.specs.Checks.{lines_check}
use Rattle.book.specs.Views.{view}
use Rattle.book.proofs.book.Book.check_lines.Given as goal

-- the lines that are left, after some earlier ones, give the same answer as all
abbrev pub invariant-loop-earlier : goal.invariant-loop-earlier
invariant-loop-earlier g l =
    let m = market_of g.S.FactorSource g.R.UseRule l.self.basis in
    let b = view l.self.ledger in
    let here = l.earlier-iterator in
    let left = ahead here.iter.words.now here.iter.at in
    (earlier : List Line) × (Left b earlier l.free) × (lines_check m b (here.count + 1) earlier left ≡ lines_check m b 1 [] (ahead l.fn.reader.words.now l.fn.reader.at))
