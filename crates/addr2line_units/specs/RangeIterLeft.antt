-- The ranges of units that a search has left, as the private functions see them.
use Rattle.std.specs.Prelude.{List, filter, map}
use Rattle.addr2line_units.specs.declared.index.UnitRange.{UnitRange}
use Rattle.addr2line_units.specs.declared.range_iter.UnitRangeIter.{UnitRangeIter}
use Rattle.addr2line_units.specs.IndexLeastBegins.{range_begins_by, unit_range_of}

-- the ranges that are left
abbrev pub ranges_left : UnitRangeIter → List UnitRange
ranges_left i = filter (range_begins_by i.last) (map unit_range_of i.ranges.now)
