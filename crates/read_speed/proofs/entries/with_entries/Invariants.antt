use Rattle.std.proofs.Common.{length}
use Rattle.read_speed.proofs.entries.with_entries.Given as goal

abbrev pub decreases-loop-entries : goal.decreases-loop-entries
decreases-loop-entries g l = length l.entries.cursor.left.bytes
