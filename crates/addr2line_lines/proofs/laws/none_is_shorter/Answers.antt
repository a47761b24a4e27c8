use Rattle.addr2line_lines.proofs.Common.{function_begin, function_end, function_offset}
use Rattle.addr2line_lines.proofs.ShortestLemmas
use Rattle.addr2line_lines.proofs.laws.none_is_shorter.Goals as goal

pub returns : goal.returns
returns c = record { law = ShortestLemmas.none_is_shorter function_begin function_end function_offset }
