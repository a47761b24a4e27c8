use Rattle.std.proofs.Common.{length}
use Rattle.read_speed.proofs.entries.entries_checksum.Given as goal

abbrev pub decreases-loop-headers : goal.decreases-loop-headers
decreases-loop-headers g l = length l.headers
