use Rattle.addr2line_bin.proofs.Common.{◌≡◌, []}
use Rattle.addr2line_units.specs.LocationsLeft.{locations_left}
use Rattle.addr2line_bin.specs.AllAddresses.{addresses_in, rising_after}
use Rattle.addr2line_bin.proofs.all_addresses.collect.Given as goal

-- what is kept, and the rows that are left
abbrev pub invariant-loop-row : goal.invariant-loop-row
invariant-loop-row g l = rising_after l.kept.items (addresses_in (locations_left l.rows)) ≡ rising_after [] (addresses_in (locations_left l.fn.rows))
