use Rattle.addr2line_units.proofs.Common.{rules, OnOk}
use Rattle.addr2line_units.proofs.LoadsLemmas.{marks_more}
use Rattle.addr2line_units.proofs.loads.mark_unit.Goals as goal

pub returns : goal.returns
returns c = search rules
