use Rattle.addr2line.proofs.Common.{◌≡◌, ◌++◌, length, map, result_map, as_owned_span}
use Rattle.addr2line_units.specs.LocationsLeft.{locations_left}
use Rattle.addr2line.proofs.copies.copy_rows.Given as goal

-- the copies, and the rows that are left, are all rows
abbrev pub invariant-loop-row : goal.invariant-loop-row
invariant-loop-row g l =
    map (result_map as_owned_span) l.copies.items ++ locations_left l.rows ≡ locations_left l.fn.rows

abbrev pub decreases-loop-row : goal.decreases-loop-row
decreases-loop-row g l = length (locations_left l.rows)
