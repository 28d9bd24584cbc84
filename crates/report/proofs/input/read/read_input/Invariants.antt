use Rattle.std.proofs.Common.{◌-◌, length}
use Rattle.std.specs.Io.KnownBytes.{Consumes}
use Rattle.report.proofs.input.read.read_input.Given as goal

-- what was read is the front of the input, and the reader has the rest
abbrev pub invariant-loop-part : goal.invariant-loop-part
invariant-loop-part g l = Consumes (g.R.Read.remaining l.fn.input) (g.R.Read.remaining l.input) l.bytes.items

-- the room that is left
abbrev pub decreases-loop-part : goal.decreases-loop-part
decreases-loop-part g l = 521 - length l.bytes.items
