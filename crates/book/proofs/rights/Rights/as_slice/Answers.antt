use Rattle.book.proofs.Smalls.{small-rights}
use Rattle.book.proofs.rights.Rights.as_slice.Goals as goal

pub returns-clause-small : goal.returns-clause-small
returns-clause-small c = small-rights c.args.self.now
