-- Attributes that are asked for by their names, among others; and those of a unit's root entry that
-- are, as the private functions see them.
use Rattle.std.specs.Prelude.{◌≡◌, ◌==◌, ◌||◌, Bool, false, List, ◌∷◌, ◌++◌}
use Rattle.std.specs.List.{All}
use Rattle.gimli.specs.Common.{DwAt, Specification}
use Rattle.gimli_read.specs.declared.constants.TheConstants.DwAt.{DW_AT_name, DW_AT_comp_dir, DW_AT_low_pc, DW_AT_stmt_list, DW_AT_str_offsets_base, DW_AT_addr_base, DW_AT_GNU_addr_base, DW_AT_rnglists_base, DW_AT_GNU_ranges_base, DW_AT_GNU_dwo_id, DW_AT_GNU_dwo_name, DW_AT_dwo_name}

-- whether a specification is that of an attribute that is asked for
abbrev pub is_wanted_specification : (DwAt → Bool) → Specification → Bool
is_wanted_specification wanted x = wanted x.name

-- no attribute is asked for
abbrev pub HasNoWanted : (DwAt → Bool) → List Specification → Type 0
HasNoWanted wanted specifications = All (λ x. wanted x.name ≡ false) specifications

-- what comes before an attribute, where no other is asked for, and what comes after it
abbrev pub IsSplitAtWanted : (DwAt → Bool) → List Specification → List Specification
    → Specification → List Specification → Type 0
IsSplitAtWanted wanted all before x after = (all ≡ before ++ x ∷ after) × HasNoWanted wanted before

-- whether an attribute of a root entry may give a value of the unit's record
abbrev pub is_root_name : DwAt → Bool
is_root_name name =
    name.0 == DW_AT_name.0 || name.0 == DW_AT_comp_dir.0 || name.0 == DW_AT_low_pc.0
    || name.0 == DW_AT_stmt_list.0 || name.0 == DW_AT_str_offsets_base.0
    || name.0 == DW_AT_addr_base.0 || name.0 == DW_AT_GNU_addr_base.0
    || name.0 == DW_AT_rnglists_base.0 || name.0 == DW_AT_GNU_ranges_base.0
    || name.0 == DW_AT_GNU_dwo_id.0 || name.0 == DW_AT_GNU_dwo_name.0
    || name.0 == DW_AT_dwo_name.0
