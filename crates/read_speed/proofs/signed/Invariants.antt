use Rattle.std.proofs.Common.{ℕ, length}
use Rattle.read_speed.proofs.signed.Given as goal

abbrev pub decreases-loop-number : goal.decreases-loop-number
decreases-loop-number g l = length (g.R.Reader.section l.input).bytes
