use Rattle.gimli.proofs.UpToEnd.{left_fewer}
use Rattle.gimli.proofs.HeaderOrder.{headers_in_order}
use Rattle.function_speed.proofs.UnitsRead.{none_read, read_more, read_in_order}
use Rattle.function_speed.proofs.sections.read_units.Goals as goal

pub loop-headers-init : goal.loop-headers-init
loop-headers-init g c = none_read c.args.dwarf.now _ _ _ c.new-units.ensures.items c.in_ok-headers.ensures.gives

pub loop-headers-smaller : goal.loop-headers-smaller
loop-headers-smaller g c = left_fewer _ _ c.in-Some.header (rw c.in-Some.is at c.in_ok-header.ensures.gives)

pub loop-headers-preserved : goal.loop-headers-preserved
loop-headers-preserved g c =
    let given = rw c.in-Some.is at c.in_ok-header.ensures.gives in
    rw c.in_ok-push.ensures.items (read_more c.args.dwarf.now _ _ _ c.next.new.self c.in-Some.header c.in_ok-unit.field-0 given c.in_ok-unit.ensures.gives c.loop-headers.invariant)

pub returns : goal.returns
returns g c =
    let ended = rw c.in_default.is at c.in_ok-header.ensures.gives in
    record { made = read_in_order c.args.dwarf.now _ _ _ _ (headers_in_order c.args.dwarf.now.debug_info) ended c.loop-headers.invariant }
