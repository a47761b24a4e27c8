use Rattle.addr2line_lines.proofs.RangeSpans.{whole_spans}
use Rattle.addr2line_lines.proofs.spans.SequenceSpans.new.Goals as goal

pub returns : goal.returns
returns c = record { gives = whole_spans _ _ _ _ c.requires.among }
