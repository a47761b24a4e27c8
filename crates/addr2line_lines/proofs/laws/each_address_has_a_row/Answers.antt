use Rattle.addr2line_lines.proofs.SpanLemmas.{address_has_row}
use Rattle.addr2line_lines.proofs.laws.each_address_has_a_row.Goals as goal

pub returns : goal.returns
returns c = record { law = address_has_row }
