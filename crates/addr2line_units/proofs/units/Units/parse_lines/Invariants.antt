use Rattle.addr2line_units.proofs.Common.{CountsUnits, FindsNothing}
use Rattle.addr2line_units.proofs.LocationsWalkLemmas.{ParsedSoFar}
use Rattle.addr2line_units.proofs.units.Units.parse_lines.Given as goal

abbrev pub invariant-loop-number : goal.invariant-loop-number
invariant-loop-number g l = record {
  so_far : ParsedSoFar l.number l.fn.self l.self;
  counts : CountsUnits l.count (record l.fn.self { stop = FindsNothing });
}
