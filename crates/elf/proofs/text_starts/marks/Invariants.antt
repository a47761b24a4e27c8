use Rattle.elf.proofs.Common.{◌≡◌, ◌-◌, length, drop, reverse, text_starts, IsTextDistance}
use Rattle.elf.proofs.text_starts.marks.Given as goal

abbrev pub invariant-loop-read : goal.invariant-loop-read
invariant-loop-read l = record {
  distance : IsTextDistance (drop (length l.table - l.read) l.table) l.distance;
  starts : l.starts.items ≡ reverse (text_starts (drop (length l.table - l.read) l.table));
}
