-- What attributes of inlined entries say, as the private functions see them.
use Rattle.std.specs.Prelude.{◌==◌, ◌||◌, Bool, List, Result}
use Rattle.addr2line_lines.specs.Common.{DwAt, DW_AT_call_column, DW_AT_call_file, DW_AT_call_line, Error, NamedValue, Reading, Section, taken_after, UnitRecord}
use Rattle.addr2line_lines.specs.declared.inlined.InlinedAttributes as declared_attributes
use Rattle.addr2line_lines.specs.InlinedEntries.{InlinedAttributes, with_inlined_attribute}
use Rattle.addr2line_lines.specs.FoundNames.{found_name, is_name_attribute}
use Rattle.addr2line_lines.specs.FoundRanges.{is_range_name}
use Rattle.addr2line_lines.specs.References.{Scope}

-- what attributes of an inlined entry say
abbrev pub as_attributes : {R : Type 0} → (R → Section) → declared_attributes.InlinedAttributes R
    → InlinedAttributes
as_attributes see x =
    record { ranges = x.ranges; name = found_name see x.name; call = x.call }

-- whether an attribute says of a call
abbrev pub is_call : DwAt → Bool
is_call name =
    name.0 == DW_AT_call_file.0 || name.0 == DW_AT_call_line.0 || name.0 == DW_AT_call_column.0

-- whether an attribute says something of an inlined entry
abbrev pub is_inlined_attribute : DwAt → Bool
is_inlined_attribute name = is_range_name name || is_name_attribute name || is_call name

-- what attributes that are read say, after those that were read before
abbrev pub inlined_attributes_after : Scope → UnitRecord → Result InlinedAttributes Error
    → Reading (List NamedValue) → Result InlinedAttributes Error
inlined_attributes_after scope u x read = taken_after (with_inlined_attribute scope u) x read
