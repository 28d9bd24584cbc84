use Rattle.std.proofs.Common.{◌<◌, length, ap, ◌∙◌, arith}
use Rattle.std.proofs.lemmas.List.{length-take, take_all}
use Rattle.terms.specs.Tables.{held}
use Rattle.report.specs.Inputs.{whole_words}
use Rattle.report.proofs.input.read.front.Goals as goal

pub unwrap-requires : goal.unwrap-requires
unwrap-requires c =
    let words = c.read_words-word-items in
    let all = ap length words.ensures in
    let held_now = ap length c.loop-word.invariant in
    let few : length (held c.loop-word.words) < 130 = omega (arith, all, held_now, length-take c.loop-word.word-index words.result.now, length-take 130 (whole_words c.args.bytes.now), c.loop-word-test.true) in
    grind arith

pub returns : goal.returns
returns c = c.loop-word.invariant ∙ take_all _ _ c.loop-word-test.false ∙ c.read_words-word-items.ensures
