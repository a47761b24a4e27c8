use Rattle.addr2line_lines.proofs.Common.{ap, sym, ◌∙◌, count_by}
use Rattle.addr2line_lines.specs.OpenEntries.{is_inlined_kind}
use Rattle.addr2line_lines.proofs.nesting.Nesting.depth.Goals as goal
use Rattle.addr2line_lines.proofs.Facts.{count_reverse}

pub returns : goal.returns
returns c = record { gives = c.self.invariant.inlined_is ∙ sym (count_reverse is_inlined_kind c.self.inside.kinds.items) ∙ ap (count_by is_inlined_kind) c.self.view_is }
