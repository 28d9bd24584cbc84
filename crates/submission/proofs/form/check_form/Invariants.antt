use Rattle.submission.proofs.Prefixes.{StandTo}
use Rattle.submission.proofs.form.check_form.Given as goal

abbrev pub invariant-loop-i : goal.invariant-loop-i
invariant-loop-i l = StandTo l.words l.i
