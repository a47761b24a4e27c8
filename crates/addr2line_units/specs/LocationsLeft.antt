-- The rows and faults that a range lookup has left.
use Rattle.std.specs.Prelude.{List, ◌++◌, option_map, Result}
use Rattle.addr2line_units.specs.Common.{Error, LocatedSpan}
use Rattle.addr2line_lines.specs.RangesLeft.{located_rows_left}
use Rattle.addr2line_units.specs.declared.locations.LocationRangeIter.{LocationRangeIter}
use Rattle.addr2line_units.specs.LocationsRange.{cached_along, unit_rows_left}
use Rattle.addr2line_units.specs.RangeIterLeft.{ranges_left}

-- the rows and faults that are left: of the unit range that is walked, and of those after it
abbrev pub locations_left : {R : Type 0} → LocationRangeIter R → List (Result LocatedSpan Error)
locations_left i =
    unit_rows_left (option_map located_rows_left i.rows)
    ++ cached_along i.caches.now.items i.low i.high (ranges_left i.ranges)
