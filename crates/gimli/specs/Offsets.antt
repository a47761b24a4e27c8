-- Offsets in .debug_info and in a unit (DWARF 5, section 7.5.1).
-- Own: an offset in a unit counts from the start of the unit's length, and is valid from the end of
-- the header to below the unit's end.
use Rattle.std.specs.Prelude.{ℕ, ◌-◌, ◌||◌, nat_lt, nat_le, Option, Some, None, if◌then◌else◌}
use Rattle.gimli.specs.Header.{UnitHeaderFields}
use Rattle.gimli.specs.Entries.{unit_length}

-- an offset in a unit, where it is valid
abbrev pub valid_in : UnitHeaderFields → ℕ → Option ℕ
valid_in header n =
    if nat_lt n header.header_length || nat_le (unit_length header) n then None else Some n

-- the offset in a unit of an offset in .debug_info, where it is valid
abbrev pub unit_offset_of : ℕ → UnitHeaderFields → Option ℕ
unit_offset_of offset header =
    if nat_lt offset header.offset.0 then None else valid_in header (offset - header.offset.0)
