use Rattle.addr2line_units.proofs.Common.{CountsUnits, FindsNothing}
use Rattle.addr2line_units.proofs.ParsesWalkLemmas.{ReadSoFar}
use Rattle.addr2line_units.proofs.units.Units.read_functions.Given as goal

abbrev pub invariant-loop-number : goal.invariant-loop-number
invariant-loop-number g l = record {
  so_far : ReadSoFar l.depth l.number l.fn.self l.self;
  counts : CountsUnits l.count (record l.fn.self { stop = FindsNothing });
}
