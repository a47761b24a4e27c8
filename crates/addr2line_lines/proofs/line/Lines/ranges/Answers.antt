use Rattle.addr2line_lines.proofs.Common.{map, ap, ◌∙◌}
use Rattle.addr2line_lines.specs.Location.{LineTable}
use Rattle.addr2line_lines.specs.RangeLocations.{sequence_range, sequence_ranges}
use Rattle.addr2line_lines.specs.RangesLeft.{packed_range}
use Rattle.addr2line_lines.proofs.RangeSpans.{ranges_are}
use Rattle.addr2line_lines.proofs.TableLemmas.{ordered_are}
use Rattle.addr2line_lines.proofs.line.Lines.ranges.Goals as goal

pub returns : goal.returns
returns c =
    let p = c.self.inside.packed in
    record {
      gives = c.new.ensures.gives ∙ ap (map packed_range) c.sequences.ensures.gives ∙ ranges_are p.rows p.sequences ∙ ap (map sequence_range) (ordered_are p.rows p.listed p.sequences c.known.ensures.gives)
          ∙ ap (λ (t : LineTable). sequence_ranges t) c.self.view_is;
    }
