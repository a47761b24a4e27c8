-- Inlined entries: what their attributes say of their ranges, their name and the call (DWARF 5,
-- sections 2.17 and 3.3.8).
-- Own: of call_file a constant counts that is above 0, or any in version 5; call_line and
-- call_column keep their low 32 bits, and are 0 where they are no constant. The last of each
-- counts.
use Rattle.std.specs.Prelude.{ℕ, ◌==◌, ◌||◌, nat_lt, Bool, List, map, Option, Some, None, option_and_then, unwrap_or, Result, Ok, if◌then◌else◌}
use Rattle.std.specs.Option.{option_or}
use Rattle.addr2line_lines.specs.Common.{DwAt, DW_AT_call_column, DW_AT_call_file, DW_AT_call_line, Error, Range, Abbrev, NamedValue, constant_of, ◌>>=◌, Section, taken_in, UnitRecord}
use Rattle.gimli_read.specs.declared.constants.TheConstants.DwTag.{DW_TAG_inlined_subroutine}
use Rattle.gimli_read.specs.Version.{is_5}
use Rattle.addr2line_lines.specs.declared.function.RangeAttributes.{RangeAttributes}
use Rattle.addr2line_lines.specs.declared.inlined.CallSite.{CallSite}
use Rattle.addr2line_lines.specs.LowBits.{low_bits}
use Rattle.addr2line_lines.specs.Names.{with_name}
use Rattle.addr2line_lines.specs.RangeAttributes.{no_range_attributes, with_range_attribute}
use Rattle.addr2line_lines.specs.References.{Scope}

-- an inlined entry: where it begins, in bytes from the start of the unit's length, its name, and
-- where it was called
pub record InlinedEntry : Type 0 where
  pub offset : ℕ
  pub name : Option Section
  pub call : CallSite

-- a range of an inlined entry, and how many inlined entries are around that
pub record InlinedRange : Type 0 where
  pub depth : ℕ
  pub range : Range
  pub entry : InlinedEntry

-- what attributes of an inlined entry say
pub record InlinedAttributes : Type 0 where
  pub ranges : RangeAttributes
  pub name : Option Section
  pub call : CallSite

-- no call, before the first attribute
abbrev pub no_call : CallSite
no_call = record { file = None; line = 0; column = 0 }

-- before the first attribute
abbrev pub no_inlined_attributes : InlinedAttributes
no_inlined_attributes = record { ranges = no_range_attributes; name = None; call = no_call }

-- whether an entry is an inlined function's
abbrev pub is_inlined : Abbrev → Bool
is_inlined a = a.tag.0 == DW_TAG_inlined_subroutine.0

-- the index of a file that counts in a version
abbrev pub counted_file : ℕ → ℕ → Option ℕ
counted_file version n = if nat_lt 0 n || is_5 version then Some n else None

-- the low 32 bits of a constant, 0 of another value
abbrev pub constant_bits : Option ℕ → ℕ
constant_bits n = low_bits (unwrap_or n 0)

-- one more attribute of a call, by its name and its constant, if its value is one
abbrev pub with_call_constant : ℕ → CallSite → DwAt → Option ℕ → CallSite
with_call_constant version call name constant =
    if name.0 == DW_AT_call_file.0
    then record call {
      file = option_or (option_and_then (counted_file version) constant) call.file;
    }
    else if name.0 == DW_AT_call_line.0 then record call { line = constant_bits constant }
    else if name.0 == DW_AT_call_column.0 then record call { column = constant_bits constant }
    else call

-- one more attribute of a call
abbrev pub with_call : ℕ → CallSite → NamedValue → CallSite
with_call version call a = with_call_constant version call a.name (constant_of a.value)

-- one more attribute of an inlined entry
unfoldable pub with_inlined_attribute : Scope → UnitRecord → InlinedAttributes → NamedValue
    → Result InlinedAttributes Error
with_inlined_attribute scope u x a = do
  ranges ← with_range_attribute scope.file.sections u x.ranges a
  name ← with_name scope u x.name a
  Ok (record {
    ranges = ranges;
    name = name;
    call = with_call u.header.encoding.version x.call a;
  })

-- what the attributes of an inlined entry say, or the first fault among them
abbrev pub inlined_attributes_of : Scope → UnitRecord → List NamedValue
    → Result InlinedAttributes Error
inlined_attributes_of scope u attributes =
    taken_in (with_inlined_attribute scope u) (Ok no_inlined_attributes) attributes

-- the entry of these attributes
abbrev pub inlined_entry : ℕ → InlinedAttributes → InlinedEntry
inlined_entry offset x = record { offset = offset; name = x.name; call = x.call }

-- its ranges, of a depth
abbrev pub inlined_ranges : ℕ → ℕ → InlinedAttributes → List Range → List InlinedRange
inlined_ranges depth offset x ranges =
    map (λ r. record { depth = depth; range = r; entry = inlined_entry offset x }) ranges
