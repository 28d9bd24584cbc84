use Rattle.std.proofs.Common.{length, refl, ap, arith}
use Rattle.submission.proofs.Hands.{handed-front}
use Rattle.submission.proofs.reader.ReaderIterator.next.Goals as goal

pub returns : goal.returns
returns c =
    let chunk = c.in_ok-words.ensures.cases in
    let h = handed-front c.args.self.now.words.now c.args.self.now.at _ _ c.left.ensures.words c.left.ensures.count chunk.enough chunk.same in
    record {
      steps = record { lent = refl; cases = h };
      goes = record { on = λ f. (tt, tt, omega (arith, ap length h.line)); keeps = tt; rests = λ f. tt };
    }
