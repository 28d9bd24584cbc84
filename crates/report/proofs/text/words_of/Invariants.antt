use Rattle.std.proofs.Common.{◌≡◌, ◌+◌, ◌*◌, ◌≤◌, ◌++◌, length, take}
use Rattle.report.specs.Texts.{numbers_text}
use Rattle.report.proofs.text.words_of.Given as goal

abbrev pub invariant-loop-number : goal.invariant-loop-number
invariant-loop-number l = record {
  text : l.text.bytes ≡ l.word ++ numbers_text (take l.number-index l.numbers);
  room : length l.text.bytes ≤ length l.word + 21 * l.number-index;
}
