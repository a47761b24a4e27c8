use Rattle.gimli_read.proofs.Common.{◌≡◌, drop}
use Rattle.gimli_read.specs.SizedRuns.{rest_after_runs}
use Rattle.gimli_read.proofs.skip.skip_runs.Given as goal

abbrev pub invariant-loop-run : goal.invariant-loop-run
invariant-loop-run l = rest_after_runs l.fn.encoding (drop l.run-index l.runs) l.fn.last l.bytes ≡ rest_after_runs l.fn.encoding l.runs l.fn.last l.fn.bytes
