use Rattle.std.proofs.Common.{length}
use Rattle.rust_names.proofs.write_lines.Given as goal

abbrev pub decreases-loop-line : goal.decreases-loop-line
decreases-loop-line g l = length l.rest
