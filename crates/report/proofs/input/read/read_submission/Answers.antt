use Rattle.std.proofs.Common.{rules}
use Rattle.report.proofs.Judgements.{too_long, all_read, all_counted}
use Rattle.report.proofs.input.read.read_submission.Goals as goal

pub returns-in_err-form-clause-decided : goal.returns-in_err-form-clause-decided
returns-in_err-form-clause-decided c rest long = let refused = c.form_in.ensures.decided rest long in search rules

pub invariant_of-result : goal.invariant_of-result
invariant_of-result c = let counted = all_counted c.args.bytes.now _ c.front-words.ensures in search rules

pub returns-clause-read : goal.returns-clause-read
returns-clause-read c = let read = all_read c.args.bytes.now _ c.front-words.ensures in search rules

pub returns-clause-decided : goal.returns-clause-decided
returns-clause-decided c rest long = let never = too_long c.args.bytes.now long in absurd (search rules)
