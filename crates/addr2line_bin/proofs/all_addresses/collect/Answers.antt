use Rattle.addr2line_bin.proofs.Common.{ap, option_map, refl}
use Rattle.addr2line_units.specs.LocationsLeft.{locations_left}
use Rattle.addr2line_lines.specs.RangesLeft.{as_located}
use Rattle.addr2line_bin.proofs.AddressListLemmas.{given_row, kept_more, no_row}
use Rattle.addr2line_bin.proofs.all_addresses.collect.Goals as goal

pub loop-row-init : goal.loop-row-init
loop-row-init g c = rw c.new-kept.ensures.items refl

pub loop-row-preserved : goal.loop-row-preserved
loop-row-preserved g c =
    let old = locations_left c.loop-row.rows in
    let new = locations_left c.next.new.self in
    let first = given_row old (option_map as_located c.next.result) new (as_located c.in-Some.row) c.next.ensures.steps (ap (option_map as_located) c.in-Some.is) in
    kept_more old new (as_located c.in-Some.row) c.loop-row.kept.items _ c.keep_rising.new.kept.items first c.loop-row.invariant c.in_ok-keep_rising.ensures.gives

pub returns : goal.returns
returns g c =
    let none = no_row (locations_left c.loop-row.rows) (option_map as_located c.next.result) (locations_left c.next.new.self) c.next.ensures.steps (ap (option_map as_located) c.in_default.is) in
    record { gives = rw none at c.loop-row.invariant }
