-- What a context is made of (DWARF 5, sections 3.1 and 7.3.6): its units with their languages, the
-- ranges of addresses that lead to each (specs/UnitsRanged.antt), and the units of the
-- supplementary file.
-- Own: the first fault refuses the context: of a set's header of .debug_aranges; then of a unit, in
-- their order; then of a header of the supplementary file.
-- Own: in the supplementary file every unit whose record can be read counts.
use Rattle.std.specs.Prelude.{List, [], map, Option, Some, None, Result, Ok}
use Rattle.std.specs.Result.{result_ok}
use Rattle.addr2line_units.specs.Common.{Error, ◌>>=◌, UnitHeaderFields, Sections, SupSections, sup_sections, UnitRecord, unit_record_of, all_headers}
use Rattle.addr2line_units.specs.declared.index.UnitRange.{UnitRange}
use Rattle.addr2line_lines.specs.UnitsOfHeaders.{units_of}
use Rattle.addr2line_units.specs.UnitsRanged.{IndexedUnit, indexed_of, unit_ranges_from, ranged_units}

-- what a context is made of
pub record UnitIndex : Type 0 where
  pub units : List IndexedUnit
  pub ranges : List UnitRange
  pub sup_units : List UnitRecord

-- the unit of a header of the supplementary file, none where its record is faulty
abbrev pub sup_unit_of_header : Sections → UnitHeaderFields → Result (Option UnitRecord) Error
sup_unit_of_header d h = Ok (result_ok (unit_record_of d h))

-- the units of the supplementary file, or the first fault
abbrev pub sup_units : Option SupSections → Result (List UnitRecord) Error
sup_units None = Ok []
sup_units (Some s) = units_of (sup_unit_of_header (sup_sections s)) (all_headers s.debug_info)

-- what a context of the sections is made of, or why it is refused
abbrev pub index_units : Sections → Result UnitIndex Error
index_units d = do
  units ← ranged_units d
  sup ← sup_units d.sup
  Ok (record {
    units = map indexed_of units;
    ranges = unit_ranges_from d 0 units;
    sup_units = sup;
  })
