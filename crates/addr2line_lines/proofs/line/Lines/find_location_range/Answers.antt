use Rattle.addr2line_lines.proofs.Common.{List, flat_map, map, max, min, ap, ◌∙◌, unpacked, Sequence}
use Rattle.std.specs.String.{string_bytes}
use Rattle.addr2line_lines.specs.Location.{LineTable}
use Rattle.addr2line_lines.specs.RangeLocations.{located_in, locations_in_range}
use Rattle.addr2line_lines.proofs.TableLemmas.{ordered_are}
use Rattle.addr2line_lines.proofs.line.Lines.find_location_range.Goals as goal

pub returns : goal.returns
returns c =
    let p = c.self.inside.packed in
    let ss : List Sequence = map (unpacked p.rows) p.sequences in
    let lo = max c.args.low c.args.unit.begin in
    let hi = min c.args.high c.args.unit.end in
    record {
      gives = c.new.ensures.gives
          ∙ ap (λ n. flat_map (located_in (map string_bytes c.deref.result.now) n c.min-high.result) ss) c.max-low.ensures
          ∙ ap (λ n. flat_map (located_in (map string_bytes c.deref.result.now) lo n) ss) c.min-high.ensures
          ∙ ap (λ files. flat_map (located_in (map string_bytes files) lo hi) ss) c.deref.ensures.value
          ∙ ap (flat_map (located_in (map string_bytes c.self.inside.files.items) lo hi)) (ordered_are p.rows p.listed p.sequences c.known.ensures.gives)
          ∙ ap (λ (t : LineTable). locations_in_range t c.args.unit c.args.low c.args.high) c.self.view_is;
    }
