use Rattle.addr2line_lines.proofs.Common.{err_from_is_err_and}
use Rattle.addr2line_lines.proofs.FoundRanges.{rangeless}
use Rattle.addr2line_lines.proofs.function.read_range_attributes.Goals as goal

pub returns-in_err-take_attributes-clause-gives : goal.returns-in_err-take_attributes-clause-gives
returns-in_err-take_attributes-clause-gives g c =
    let p = err_from_is_err_and c.from_residual.result c.from_residual.ensures.1 in
    rw (p.1, p.2) (rw (c.requires.encoding, c.new-ranges.ensures.gives) at c.in_err-take_attributes.ensures.gives)

pub take_attributes-requires-clause-others : goal.take_attributes-requires-clause-others
take_attributes-requires-clause-others g c = rangeless c.args.unit.dwarf.now c.args.unit.unit.now
