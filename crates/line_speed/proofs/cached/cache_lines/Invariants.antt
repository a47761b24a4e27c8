use Rattle.std.proofs.Common.{length}
use Rattle.line_speed.proofs.cached.cache_lines.Given as goal

abbrev pub decreases-loop-headers : goal.decreases-loop-headers
decreases-loop-headers g l = length l.headers
