use Rattle.std.proofs.Common.{length}
use Rattle.gimli.specs.UnitsLeft.{all_headers}
use Rattle.function_speed.proofs.UnitsRead.{AreReadUpTo}
use Rattle.function_speed.proofs.sections.read_units.Given as goal

abbrev pub invariant-loop-headers : goal.invariant-loop-headers
invariant-loop-headers g l = AreReadUpTo l.dwarf (all_headers l.dwarf.debug_info) l.units.items l.headers

abbrev pub decreases-loop-headers : goal.decreases-loop-headers
decreases-loop-headers g l = length l.headers
