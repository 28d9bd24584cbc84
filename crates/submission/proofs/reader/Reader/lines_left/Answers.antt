use Rattle.std.proofs.Common.{◌/◌, sym, ap, ◌∙◌}
use Rattle.submission.proofs.Lines.{length-lines_of}
use Rattle.submission.proofs.reader.Reader.lines_left.Goals as goal

pub returns : goal.returns
returns c = ap (λ n. n / 8) c.left.ensures.count ∙ sym (length-lines_of _ _)
