use Rattle.addr2line_units.proofs.Common.{◌≡◌, length, ranges_left}
use Rattle.addr2line_units.specs.LocationsLeft.{locations_left}
use Rattle.addr2line_units.proofs.locations.LocationRangeIter.next_loc.Given as goal

abbrev pub invariant-loop-self : goal.invariant-loop-self
invariant-loop-self g l = locations_left l.self ≡ locations_left l.fn.self

abbrev pub decreases-loop-self : goal.decreases-loop-self
decreases-loop-self g l = length (ranges_left l.self.ranges)
