use Rattle.submission.proofs.Hands.{opened}
use Rattle.submission.proofs.reader.Reader.open.Goals as goal

pub returns : goal.returns
returns c = opened c.args.words.now c.in_ok-check_form.ensures
