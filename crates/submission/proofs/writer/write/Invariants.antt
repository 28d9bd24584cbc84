use Rattle.std.proofs.Common.{◌≡◌}
use Rattle.submission.proofs.Fills.{Upto}
use Rattle.submission.proofs.writer.write.Given as goal

abbrev pub invariant-loop-i : goal.invariant-loop-i
invariant-loop-i l = l.out ≡ Upto l.lines l.i l.initial.out
