use Rattle.std.proofs.Common.{◌≡◌, take}
use Rattle.terms.specs.Tables.{held}
use Rattle.report.proofs.input.read.front.Given as goal

abbrev pub invariant-loop-word : goal.invariant-loop-word
invariant-loop-word l = held l.words ≡ take l.word-index l.word-items
