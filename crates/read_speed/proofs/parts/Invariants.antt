use Rattle.std.proofs.Common.{ℕ, length}
use Rattle.read_speed.proofs.parts.Given as goal

abbrev pub decreases-loop-part : goal.decreases-loop-part
decreases-loop-part g l = length (g.R.Reader.section l.input).bytes
