-- The attributes of a root entry that lookups ask for, as the private functions see them.
use Rattle.std.specs.Prelude.{◌==◌, ◌||◌, Bool}
use Rattle.gimli_read.specs.declared.constants.DwAt.{DwAt}
use Rattle.gimli_read.specs.declared.constants.TheConstants.DwAt.{DW_AT_high_pc, DW_AT_language, DW_AT_low_pc, DW_AT_ranges}

-- whether an attribute says of its unit's addresses or language
abbrev pub is_unit_name : DwAt → Bool
is_unit_name name =
    name.0 == DW_AT_low_pc.0 || name.0 == DW_AT_high_pc.0 || name.0 == DW_AT_ranges.0
    || name.0 == DW_AT_language.0
