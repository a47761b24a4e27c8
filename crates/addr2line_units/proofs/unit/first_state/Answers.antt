use Rattle.addr2line_units.proofs.Common.{◌≡◌, Some, ap, sym, is_some, true, false}
use Rattle.addr2line_units.proofs.UnitViewLemmas.{is_there, verdict_of_fault, verdict_of_main, verdict_of_no_fault}
use Rattle.addr2line_units.proofs.unit.first_state.Goals as goal

pub returns-then-is_none-clause-gives : goal.returns-then-is_none-clause-gives
returns-then-is_none-clause-gives g c =
    let id : is_some c.args.unit.now.dwo_id ≡ false = rw (← c.unit.view_is) c.if-is_none.ensures in
    ap Some (sym (verdict_of_main c.args.dwarf.now c.args.unit.now id))

pub returns-in-Ok-clause-gives : goal.returns-in-Ok-clause-gives
returns-in-Ok-clause-gives g c =
    let id : is_some c.args.unit.now.dwo_id ≡ true = rw (← c.unit.view_is) (is_there c.unit.inside.dwo_id c.is_none.result c.if-is_none.false c.is_none.ensures) in
    ap Some (sym (verdict_of_no_fault c.args.dwarf.now c.args.unit.now id c.in-Ok.ensures.gives))

pub returns-in-Err-clause-gives : goal.returns-in-Err-clause-gives
returns-in-Err-clause-gives g c =
    let id : is_some c.args.unit.now.dwo_id ≡ true = rw (← c.unit.view_is) (is_there c.unit.inside.dwo_id c.is_none.result c.if-is_none.false c.is_none.ensures) in
    ap Some (sym (verdict_of_fault c.args.dwarf.now c.args.unit.now c.in-Err.error id c.in-Err.ensures.gives))
