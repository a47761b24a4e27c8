-- The bytes of a unit's parts as tuples, as the private functions see them (on specs/Package.antt).
use Rattle.package.specs.Common.{Section}
use Rattle.package.specs.declared.unit_index.UnitSections.{UnitSections}
use Rattle.package.specs.Package.{Package, nothing_of, part_bytes}

-- four readers, seen as sections
abbrev pub as_four : {R : Type 0} → (R → Section) → R × R × R × R
    → Section × Section × Section × Section
as_four see x = (see x.0, see x.1, see x.2, see x.3)

-- five readers, seen as sections
abbrev pub as_five : {R : Type 0} → (R → Section) → R × R × R × R × R
    → Section × Section × Section × Section × Section
as_five see x = (see x.0, see x.1, see x.2, see x.3, see x.4)

-- no bytes, four times
abbrev pub four_nothings : Section → Section × Section × Section × Section
four_nothings s = (nothing_of s, nothing_of s, nothing_of s, nothing_of s)

-- the bytes of the parts of a unit, in the order of the sections' names
abbrev pub unit_bytes : UnitSections → Package → Section × Section × Section × Section × Section
unit_bytes parts p = (
  part_bytes parts.debug_abbrev p.debug_abbrev,
  part_bytes parts.debug_info p.debug_info,
  part_bytes parts.debug_line p.debug_line,
  part_bytes parts.debug_rnglists p.debug_rnglists,
  part_bytes parts.debug_str_offsets p.debug_str_offsets,
)
