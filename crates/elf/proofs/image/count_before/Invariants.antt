use Rattle.elf.proofs.Common.{◌≤◌, ◌-◌, length, take, drop}
use Rattle.elf.specs.Pieces.{AllEndBefore, NoneEndsBefore}
use Rattle.elf.proofs.image.count_before.Given as goal

abbrev pub invariant-loop-low : goal.invariant-loop-low
invariant-loop-low l = record {
  order : l.low ≤ l.high;
  within : l.high ≤ length l.pieces;
  before : AllEndBefore l.end (take l.low l.pieces);
  after : NoneEndsBefore l.end (drop l.high l.pieces);
}

abbrev pub decreases-loop-low : goal.decreases-loop-low
decreases-loop-low l = l.high - l.low
