use Rattle.std.proofs.Common.{length}
use Rattle.inflate_file.proofs.write_answers.Given as goal

abbrev pub decreases-loop-stream : goal.decreases-loop-stream
decreases-loop-stream g l = length l.rest
