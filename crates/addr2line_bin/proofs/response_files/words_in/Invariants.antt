-- What is read of the characters so far.
use Rattle.addr2line_bin.proofs.Common.{◌≡◌}
use Rattle.std.specs.Prelude.{fold}
use Rattle.addr2line_bin.specs.ResponseFiles.{nothing_read, with_next}
use Rattle.addr2line_bin.proofs.response_files.words_in.Given as goal

abbrev pub invariant-loop-c : goal.invariant-loop-c
invariant-loop-c l = l.read ≡ fold with_next nothing_read l.yielded
