-- What C gets for the rows that a range of addresses meets (DWARF 5, section 6.2.2).
-- Own: a fault of a unit's lines stands in the place of its rows: it has its status, and neither
-- addresses nor a location. A row has the status done.
use Rattle.std.specs.Prelude.{◌≤◌, ℕ, List, [], drop, length, nat_le, take, Option, Some, None, Result, Ok, Err}
use Rattle.addr2line_c.specs.Common.{Error, ◌>>=◌, Sections, spans_of, of_file}
use Rattle.addr2line_lines.specs.Location.{Location}
use Rattle.addr2line_lines.specs.RangeLocations.{LocatedSpan}
use Rattle.addr2line_c.specs.declared.spans.WrittenSpan.{WrittenSpan}
use Rattle.addr2line_c.specs.declared.status.Status.{Status}
use Rattle.addr2line_c.specs.declared.status.Status.TheVariants.{Done}
use Rattle.addr2line_c.specs.Answered.{SaysWhatIsThere}
use Rattle.addr2line_c.specs.Filled.{IsFilled}
use Rattle.addr2line_c.specs.Sequence.{EachNames, texts_of_items, written_items}
use Rattle.addr2line_c.specs.Status.{status_number, status_of_error}
use Rattle.addr2line_c.specs.Texts.{NamesText, optional_text, zero_ended}
use Rattle.addr2line_c.specs.Written.{location_file, written_location}

-- the location of a row; a fault has none
abbrev pub location_of_span : Result LocatedSpan Error → Option Location
location_of_span (Ok s) = Some s.location
location_of_span (Err e) = None

-- the texts of a row or a fault
abbrev pub texts_of_span : Result LocatedSpan Error → List (List ℕ)
texts_of_span s = optional_text (location_file (location_of_span s))

-- the row or the fault that follows these texts
abbrev pub written_span : List (List ℕ) → Result LocatedSpan Error → WrittenSpan
written_span before (Ok s) = record {
  address = s.address;
  length = s.length;
  location = written_location before (Some s.location);
  status = status_number Done;
}
written_span before (Err e) = record {
  address = 0;
  length = 0;
  location = written_location before None;
  status = status_number (status_of_error e);
}

-- rows and faults, the first of which follows no text
abbrev pub written_spans : List (Result LocatedSpan Error) → List WrittenSpan
written_spans spans = written_items texts_of_span written_span [] spans

-- the texts of rows and faults
abbrev pub texts_of_spans : List (Result LocatedSpan Error) → List (List ℕ)
texts_of_spans spans = texts_of_items texts_of_span spans

-- the part of a row names its text in a buffer
abbrev pub NamesSpan : List ℕ → WrittenSpan → Result LocatedSpan Error → Type 0
NamesSpan buffer w s = NamesText buffer w.location.file (location_file (location_of_span s))

-- the rows and faults from a place on among those that a range of addresses meets, so many at most
abbrev pub spans_from : Sections → ℕ → ℕ → ℕ → ℕ
    → Result (Option (List (Result LocatedSpan Error))) Error
spans_from d low high first most =
    spans_of d low high >>= λ spans. Ok (Some (take most (drop first spans)))

-- these rows and faults are written, with their texts
pub record IsWrittenSpans (out : List WrittenSpan) (count : ℕ) (buffer : List ℕ) (needed : ℕ)
    (spans : List (Result LocatedSpan Error)) : Type 0 where
  pub parts : IsFilled count out (written_spans spans)
  pub texts : IsFilled needed buffer (zero_ended (texts_of_spans spans))
  pub named : length spans ≤ length out
      → length (zero_ended (texts_of_spans spans)) ≤ length buffer
      → EachNames (NamesSpan buffer) out spans

-- the status says which rows and faults there are, and these are written
abbrev pub SaysSpans : Result (Option (List (Result LocatedSpan Error))) Error → List WrittenSpan
    → ℕ → List ℕ → ℕ → Status → Type 0
SaysSpans given out count buffer needed s = SaysWhatIsThere (of_file given)
    (IsWrittenSpans out count buffer needed) (nat_le needed (length buffer)) s
