use Rattle.std.proofs.Common.{◌≡◌, map, take, sym, ap, ◌∙◌, arith}
use Rattle.std.proofs.lemmas.List.{take_min}
use Rattle.std.specs.Int.{w32, from_be_bytes}
use Rattle.report.proofs.Bytes.{words_of_first}
use Rattle.report.proofs.input.read.read_words.Goals as goal

pub returns : goal.returns
returns c =
    let fours = c.as_chunks.result.0.now in
    let end : c.loop-i.i ≡ c.min-count.result = omega arith in
    let all : take c.loop-i.i fours ≡ take 130 fours = ap (λ n. take n fours) (end ∙ c.min-count.ensures) ∙ take_min 130 fours in
    words_of_first _ _ fours 130 c.as_chunks.ensures.front
    (ap (λ n. take n c.loop-i.words) (sym end) ∙ c.loop-i.invariant ∙ ap (map (from_be_bytes w32)) all)
