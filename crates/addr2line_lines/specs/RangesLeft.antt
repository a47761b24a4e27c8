-- The rows of a range that are left, as the private functions see them.
use Rattle.std.specs.Prelude.{ℕ, ◌-◌, List, [], ◌∷◌, ◌++◌, drop, filter, flat_map, map, take}
use Rattle.std.specs.String.{string_bytes}
use Rattle.addr2line_lines.specs.declared.location.Location.{Location as SourceLocation}
use Rattle.addr2line_lines.specs.declared.range.LineLocationRangeIter.{LineLocationRangeIter}
use Rattle.addr2line_lines.specs.declared.range.LineSpan.{LineSpan}
use Rattle.addr2line_lines.specs.declared.spans.SequenceSpans.{SequenceSpans}
use Rattle.addr2line_lines.specs.declared.row.Row.{Row}
use Rattle.addr2line_lines.specs.Common.{Range}
use Rattle.addr2line_lines.specs.declared.sequence.LineSequence.{LineSequence}
use Rattle.addr2line_lines.specs.Packed.{Packed, unpacked}
use Rattle.addr2line_lines.specs.RangeLocations.{LocatedSpan, located, located_in, meets}
use Rattle.addr2line_lines.specs.LentLocation.{as_location}
use Rattle.addr2line_lines.specs.Spans.{Span}

-- each row's span up to the next listed row, the last one's up to the end
abbrev pub next_spans : ℕ → List Row → List Span
next_spans end [] = []
next_spans end (r ∷ []) = record { row = r; end = end } ∷ []
next_spans end (r ∷ s ∷ rows) = record { row = r; end = s.address } ∷ next_spans end (s ∷ rows)

-- the spans of the rows from a place up to another one
abbrev pub spans_left : ℕ → List Row → ℕ → ℕ → List Span
spans_left end rows place until = next_spans end (take (until - place) (drop place rows))

-- a span of the code
abbrev pub as_span : LineSpan → Span
as_span s = record { row = s.row; end = s.end }

-- an item of the iterator
abbrev pub as_located : ℕ × ℕ × SourceLocation → LocatedSpan
as_located x = record { address = x.0; length = x.1; location = as_location x.2 }

-- the rows of a sequence that is walked, and those of the sequences from a place on
abbrev pub located_left : List (List ℕ) → ℕ → ℕ → List Span → Packed → ℕ → List LocatedSpan
located_left files low high current packed next =
    map (located files) current
    ++ flat_map (located_in files low high)
    (map (unpacked packed.rows) (drop next packed.sequences))

-- the rows of a sequence that are left and that a range meets
abbrev pub spans_of_sequence : SequenceSpans → List Span
spans_of_sequence s =
    filter (meets s.low s.high) (spans_left s.end s.packed.now.rows s.place s.until)

-- the rows of a unit that are left and that a range meets
abbrev pub located_rows_left : LineLocationRangeIter → List LocatedSpan
located_rows_left i =
    located_left (map string_bytes i.files.now) i.low i.high (spans_of_sequence i.current)
    i.packed.now i.next

-- the range of a sequence
abbrev pub packed_range : LineSequence → Range
packed_range s = record { begin = s.start; end = s.end }
