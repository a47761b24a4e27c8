use Rattle.addr2line_lines.proofs.Common.{start_of, end_of}
use Rattle.addr2line_lines.proofs.LonePick
use Rattle.addr2line_lines.proofs.laws.lone_is_picked.Goals as goal

pub returns : goal.returns
returns c = record { law = LonePick.lone_is_picked start_of end_of }
