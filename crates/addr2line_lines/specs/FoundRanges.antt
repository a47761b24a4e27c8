-- The attributes of ranges among those of an entry, as the private functions see them.
use Rattle.std.specs.Prelude.{◌==◌, ◌&&◌, ◌||◌, Bool}
use Rattle.std.specs.List.{list_any}
use Rattle.addr2line_lines.specs.Common.{DwAt, DW_AT_high_pc, DW_AT_low_pc, DW_AT_ranges, Abbrev, Specification}
use Rattle.addr2line_lines.specs.Functions.{is_subprogram}

-- whether an attribute says of an entry's ranges
abbrev pub is_range_name : DwAt → Bool
is_range_name name =
    name.0 == DW_AT_low_pc.0 || name.0 == DW_AT_high_pc.0 || name.0 == DW_AT_ranges.0

-- whether an attribute says where the addresses of an entry begin or end
abbrev pub is_address_name : DwAt → Bool
is_address_name name = name.0 == DW_AT_low_pc.0 || name.0 == DW_AT_high_pc.0

-- whether a specification is that of an attribute of ranges
abbrev pub is_range_specification : Specification → Bool
is_range_specification x = is_range_name x.name

-- whether an abbreviation is that of functions' entries, which may have ranges
abbrev pub is_function : Abbrev → Bool
is_function a = is_subprogram a && list_any is_range_specification a.attributes
