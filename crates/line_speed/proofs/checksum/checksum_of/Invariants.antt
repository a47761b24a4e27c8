use Rattle.std.proofs.Common.{◌≡◌, length}
use Rattle.gimli_read.specs.Run.{run_of, fold_of}
use Rattle.line_speed.specs.Checksum.{program_at, with_program}
use Rattle.line_speed.proofs.checksum.checksum_of.Given as goal

abbrev pub invariant-loop-rest : goal.invariant-loop-rest
invariant-loop-rest g l = fold_of with_program l.sum (run_of program_at (g.R.Reader.section l.rest)) ≡ fold_of with_program 0 (run_of program_at (g.R.Reader.section l.fn.section))

abbrev pub decreases-loop-rest : goal.decreases-loop-rest
decreases-loop-rest g l = length (g.R.Reader.section l.rest).bytes
