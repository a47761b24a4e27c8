use Rattle.addr2line_lines.proofs.Common.{function_begin, function_end, function_offset}
use Rattle.addr2line_lines.proofs.ShortestLemmas
use Rattle.addr2line_lines.proofs.laws.lone_is_shortest.Goals as goal

pub returns : goal.returns
returns c = record { law = ShortestLemmas.lone_is_shortest function_begin function_end function_offset }
