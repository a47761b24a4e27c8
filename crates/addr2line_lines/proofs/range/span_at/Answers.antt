use Rattle.addr2line_lines.proofs.RangeSpans.{spans_last, spans_more}
use Rattle.addr2line_lines.proofs.range.span_at.Goals as goal

pub returns-then-next-until : goal.returns-then-next-until
returns-then-next-until c = record { gives = spans_more _ _ _ _ _ c.row-row.ensures.gives c.requires.within c.requires.inside c.if-next-until.true _ c.address-end.ensures.gives }

pub returns-else-next-until : goal.returns-else-next-until
returns-else-next-until c = record { gives = spans_last _ _ _ _ _ c.row-row.ensures.gives c.requires.within c.requires.inside c.if-next-until.false }
