use Rattle.addr2line_lines.proofs.Common.{Ok, ap, sym, ◌∙◌}
use Rattle.addr2line_lines.proofs.NumberLemmas.{address_number}
use Rattle.addr2line_lines.proofs.function.RangeSinkAttributeSinkAttribute.take_number.Goals as goal

pub returns-clause-gives : goal.returns-clause-gives
returns-clause-gives g c = λ named value is. address_number c.args.self.now.unit.dwarf.now c.args.self.now.unit.unit.now c.args.found.now c.args.name value c.args.number is named ∙ ap Ok (sym c.take_number.ensures.gives)
