use Rattle.addr2line.proofs.Common.{◌≡◌, ◌≤◌, vec_len}
use Rattle.addr2line.proofs.files.HostFilePartSource.part.Given as goal

abbrev pub invariant-loop-left : goal.invariant-loop-left
invariant-loop-left l = record {
  room : vec_len l.room ≡ vec_len l.initial.room;
  left : l.left ≤ l.fn.len;
}

abbrev pub decreases-loop-left : goal.decreases-loop-left
decreases-loop-left l = l.left
