use Rattle.std.proofs.Common.{length, sym, refl, ◌∙◌, arith}
use Rattle.std.proofs.lemmas.Bool.{eqb-false}
use Rattle.std.proofs.lemmas.List.Elements.{recursion_from_All}
use Rattle.submission.specs.Words.{Fits}
use Rattle.submission.proofs.Lines.{length-encode}
use Rattle.submission.proofs.Fills.{first, more, last, written}
use Rattle.submission.proofs.writer.write.Goals as goal

pub returns-then-out-end : goal.returns-then-out-end
returns-then-out-end c = record {
  refusal = refl;
  reason = λ g. omega (arith, length-encode c.args.lines.now);
  same = refl;
}

pub loop-i-init : goal.loop-i-init
loop-i-init c = first c.args.out.now c.word.result _ (omega arith) c.word.ensures

pub loop-i-preserved : goal.loop-i-preserved
loop-i-preserved c = more c.args.lines.now c.loop-i.i _ _ c.loop-i.out c.copy_from_slice.new.self _ c.loop-i-test.true (omega arith) (c.copy_from_slice.ensures.after ∙ c.words.ensures) c.loop-i.invariant

pub returns : goal.returns
returns c = written c.args.lines.now c.args.out.now _ _
    (record { some = omega (arith, eqb-false (length c.args.lines.now) 0 (sym c.if-is_empty.ensures)); few = omega arith; fit = recursion_from_All Fits c.args.lines.now (c.if-not-all_fit.ensures.0 refl) })
    (omega (arith, length-encode c.args.lines.now))
    (last c.args.lines.now c.loop-i.i c.word.result c.word-2.result c.args.out.now c.loop-i.out (omega arith) (omega arith) c.loop-i.invariant (omega arith))
