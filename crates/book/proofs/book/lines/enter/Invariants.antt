use Rattle.std.proofs.Common.{◌≡◌, ◌+◌, ◌^◌, ◌<◌, ◌≤◌, ◌++◌, length}
use Rattle.std.specs.List.{AllByRecursion}
use Rattle.terms.specs.Ranges.{most_power}
use Rattle.submission.specs.Reading.{ahead}
use Rattle.book.specs.Rights.{numbered}
use Rattle.book.specs.Views.{rights}
use Rattle.book.proofs.book.lines.enter.Given as goal

-- what is entered with what is left to enter is all
abbrev pub invariant-loop-part : goal.invariant-loop-part
invariant-loop-part l =
    let left = ahead l.part-iterator.a.words.now l.part-iterator.a.at in
    let all = ahead l.initial.part-iterator.a.words.now l.initial.part-iterator.a.at in
    (length (rights l.table) + length left ≤ 96)
    × (l.part-iterator.b.start + length left < 2 ^ 32)
    × AllByRecursion (λ x. x.power ≤ most_power) left
    × (rights l.table ++ numbered l.part-iterator.b.start left ≡ rights l.initial.table ++ numbered l.initial.part-iterator.b.start all)
