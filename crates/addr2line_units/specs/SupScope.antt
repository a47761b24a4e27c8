-- References to units, and where references lead from units, as contracts see them.
use Rattle.std.specs.Prelude.{List, Option, Some, option_map}
use Rattle.gimli.specs.declared.unit_ref.UnitRef.{UnitRef}
use Rattle.addr2line_units.specs.Common.{Sections, UnitRecord, FileRecord, Scope}
use Rattle.addr2line_units.specs.declared.sup.SupUnits.{SupUnits}

-- the sections and the unit of a reference
abbrev pub as_unit : {R : Type 0} → UnitRef R → Sections × UnitRecord
as_unit r = (r.dwarf.now, r.unit.now)

-- what a lookup of a unit that has ended has found
abbrev pub as_found_unit : {R : Type 0} → Option (UnitRef R)
    → Option (Option (Sections × UnitRecord))
as_found_unit found = Some (option_map as_unit found)

-- where references to the supplementary file lead, if there is one
abbrev pub sup_file : {R : Type 0} → SupUnits R → Option FileRecord
sup_file sup = option_map (λ d. record { sections = d; units = sup.units.items }) sup.dwarf

-- where references lead from the units of a file
abbrev pub scope_in : {R : Type 0} → Sections → List UnitRecord → SupUnits R → Scope
scope_in d us sup = record { file = record { sections = d; units = us }; sup = sup_file sup }
