use Rattle.addr2line_units.specs.Continuation.{loads_left}
use Rattle.addr2line.specs.WaitingLookups.{count_loads}
use Rattle.addr2line_uses.proofs.split_files.frames_at.Given as goal

abbrev pub decreases-loop-lookup : goal.decreases-loop-lookup
decreases-loop-lookup g l = loads_left (λ c. count_loads c.ctx.now c.probe) l.lookup
