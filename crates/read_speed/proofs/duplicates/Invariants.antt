use Rattle.std.proofs.Common.{ℕ, length}
use Rattle.read_speed.proofs.duplicates.Given as goal

abbrev pub decreases-loop-copy : goal.decreases-loop-copy
decreases-loop-copy g l = length (g.R.Reader.section l.input).bytes
