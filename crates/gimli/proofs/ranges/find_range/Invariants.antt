use Rattle.gimli.proofs.Common.{◌≡◌, length, ranges_from}
use Rattle.gimli.proofs.ranges.find_range.Given as goal

abbrev pub invariant-loop-entry : goal.invariant-loop-entry
invariant-loop-entry g l =
    let d = l.fn.unit.dwarf.now in
    let u = l.fn.unit.unit.now in
    ranges_from d u l.base l.input ≡ ranges_from d u l.fn.base l.fn.input

abbrev pub decreases-loop-entry : goal.decreases-loop-entry
decreases-loop-entry g l = length l.input.bytes
