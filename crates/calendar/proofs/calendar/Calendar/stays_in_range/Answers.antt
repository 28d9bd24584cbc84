use Rattle.calendar.proofs.Ranged.{in_range}
use Rattle.calendar.proofs.calendar.Calendar.stays_in_range.Goals as goal

pub returns : goal.returns
returns c = in_range c.args.self.now
