use Rattle.std.proofs.Common.{◌+◌, length, get_or, sym, subst, arith}
use Rattle.std.proofs.lemmas.Bool.{false≢true}
use Rattle.submission.specs.Places.{Stands}
use Rattle.submission.proofs.Forms.{formed_back}
use Rattle.submission.proofs.Prefixes.{breaks_at, breaks_off}
use Rattle.submission.proofs.form.check_form.Goals as goal

pub returns-then-not-may_stand : goal.returns-then-not-may_stand
returns-then-not-may_stand c = (
  c.loop-i.i + 1,
  c.broken_at.ensures,
  breaks_at c.args.words.now c.loop-i.i c.loop-i-test.true c.loop-i.invariant
      (λ r. false≢true (c.if-not-may_stand.ensures.1 (subst (λ n. Stands n c.loop-i.i (get_or c.args.words.now c.loop-i.i 0)) (sym c.line_count-lines.ensures.value) r))),
)

pub returns-then-words-lines : goal.returns-then-words-lines
returns-then-words-lines c = (length c.args.words.now + 1, c.broken_at-then-words-lines.ensures, breaks_off c.args.words.now (λ k h. c.loop-i.invariant k (omega arith)) (λ e. c.if-words-lines.true (omega (arith, c.line_count-lines.ensures.value))))

pub returns : goal.returns
returns c = formed_back c.args.words.now (record {
  long = omega (arith, c.line_count-lines.ensures.value);
  each = λ i h. c.loop-i.invariant i (omega arith);
})
