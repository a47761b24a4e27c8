-- The entries of a unit from an offset on (DWARF 5, section 7.5).
-- Own: an offset counts from the start of the unit's length, and is valid from the end of the
-- header to below the unit's end; any other is OffsetOutOfBounds.
use Rattle.std.specs.Prelude.{ℕ, ◌+◌, ◌-◌, nat_lt, List, length, Option, Some, None, Result, Ok, Err, if◌then◌else◌}
use Rattle.gimli.specs.Common.{Error, OffsetOutOfBounds, Abbrev, Section, after, NamedValue}
use Rattle.gimli.specs.Header.{UnitHeaderFields}
use Rattle.gimli.specs.Entry.{EntryUnit, root_attributes}
use Rattle.gimli.specs.Unit.{UnitRecord}

-- how many bytes a unit has, with its header
abbrev pub unit_length : UnitHeaderFields → ℕ
unit_length header = header.header_length + length header.entries.bytes

-- what the entries of a unit are read by
abbrev pub entry_unit : UnitHeaderFields → List Abbrev → EntryUnit
entry_unit header table =
    record { encoding = header.encoding; abbreviations = table; length = unit_length header }

-- the bytes of the entries from an offset on, or from the root entry
abbrev pub entry_bytes_from : UnitHeaderFields → Option ℕ → Result Section Error
entry_bytes_from header None = Ok header.entries
entry_bytes_from header (Some offset) =
    if nat_lt offset header.header_length then Err OffsetOutOfBounds
    else if nat_lt offset (unit_length header)
    then Ok (after (offset - header.header_length) header.entries)
    else Err OffsetOutOfBounds

-- the attributes of a unit's root entry, in their order
abbrev pub root_attributes_of : UnitRecord → Result (List NamedValue) Error
root_attributes_of u = root_attributes u.header.encoding u.abbreviations u.header.entries
