use Rattle.std.proofs.Common.{length}
use Rattle.addr2line_units.specs.LocationsLeft.{locations_left}
use Rattle.addr2line_uses.proofs.address_range.lines_between.Given as goal

abbrev pub decreases-loop-runs : goal.decreases-loop-runs
decreases-loop-runs g l = length (locations_left l.rows)
