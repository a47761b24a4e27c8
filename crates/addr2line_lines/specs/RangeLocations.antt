-- The rows that a range of addresses meets (DWARF 5, section 6.2.2).
-- Own: sequences come by start, then end, then place in the program; of each the rows whose spans
-- begin below the range's end and end past its begin, each with its own address and the whole
-- length of its span. The range's ends may be reversed.
use Rattle.std.specs.Prelude.{ℕ, ◌-◌, Bool, ◌&&◌, nat_lt, List, filter, flat_map, map, max, min}
use Rattle.addr2line_lines.specs.Common.{Range}
use Rattle.addr2line_lines.specs.InOrder.{begins_sooner, in_order}
use Rattle.addr2line_lines.specs.Sequences.{Sequence, start_of, end_of}
use Rattle.addr2line_lines.specs.Spans.{Span, spans}
use Rattle.addr2line_lines.specs.Location.{LineTable, Location, location_of_row}

-- a row by its address, the length of its span, and its location
pub record LocatedSpan : Type 0 where
  pub address : ℕ
  pub length : ℕ
  pub location : Location

-- the span begins below high and ends past low
abbrev pub meets : ℕ → ℕ → Span → Bool
meets low high s = nat_lt s.row.address high && nat_lt low s.end

-- a span with its length and its location
abbrev pub located : List (List ℕ) → Span → LocatedSpan
located files s = record {
  address = s.row.address;
  length = s.end - s.row.address;
  location = location_of_row files s.row;
}

-- the rows of a sequence that the range meets
abbrev pub located_in : List (List ℕ) → ℕ → ℕ → Sequence → List LocatedSpan
located_in files low high s = map (located files) (filter (meets low high) (spans s.end s.rows))

-- the rows of all sequences that the range meets, in a range of a unit
abbrev pub locations_in_range : LineTable → Range → ℕ → ℕ → List LocatedSpan
locations_in_range table unit low high =
    flat_map (located_in table.files (max low unit.begin) (min high unit.end))
    (in_order (begins_sooner start_of end_of) table.sequences)

-- the range of a sequence
abbrev pub sequence_range : Sequence → Range
sequence_range s = record { begin = s.start; end = s.end }

-- the ranges of the sequences, in order
abbrev pub sequence_ranges : LineTable → List Range
sequence_ranges table =
    map sequence_range (in_order (begins_sooner start_of end_of) table.sequences)
