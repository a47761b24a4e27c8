use Rattle.std.proofs.Common.{ℕ, length}
use Rattle.read_speed.proofs.words.Given as goal

abbrev pub decreases-loop-word : goal.decreases-loop-word
decreases-loop-word g l = length (g.R.Reader.section l.input).bytes
