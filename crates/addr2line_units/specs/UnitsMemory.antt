-- Where memory may be taken for units by their headers, and for the ranges of .debug_aranges:
-- `stored_x` is what is stored on the way to the reading x, and only its memory counts; with it x is
-- `x_at_cost`.
-- Own: a unit is read whole before the next header. It takes memory where its abbreviations begin in
-- their section; a type unit of the main file takes none. Where readers share their bytes a second
-- reader of the headers takes memory, even if there is no header. The ranges of each set are stored.
use Rattle.std.specs.Prelude.{Bool, List, [], ◌∷◌, ◌++◌, is_ok, length, nat_lt, Option, Some, None, option_to_list, Result, Ok, if◌then◌else◌}
use Rattle.addr2line_units.specs.Common.{Error, Costed, free, parts_on_the_way, UnitHeaderFields, Sections, SupSections, sup_sections, UnitRecord, all_headers}
use Rattle.gimli_read.specs.Costed.{◌>>=◌, by_stored, room_if}
use Rattle.gimli.specs.Aranges.{ArangeSet}
use Rattle.gimli.specs.Text.{from_offset}
use Rattle.addr2line_units.specs.declared.index.UnitArange.{UnitArange}
use Rattle.addr2line_lines.specs.UnitsOfHeaders.{units_of}
use Rattle.addr2line_units.specs.IndexAranges.{aranges_in, set_aranges}
use Rattle.addr2line_units.specs.UnitsIndex.{sup_unit_of_header, sup_units}
use Rattle.addr2line_units.specs.UnitsRanged.{RangedUnit, is_type_unit, unit_of_header}

-- what is stored of the ranges of sets, one set after another
abbrev pub stored_aranges_in : List (Result ArangeSet Error) → Costed (List UnitArange)
stored_aranges_in [] = free (Ok [])
stored_aranges_in (set ∷ sets) = do
  s ← free set
  room ← room_if (nat_lt 0 (length (set_aranges s)))
  more ← stored_aranges_in sets
  free (Ok (set_aranges s ++ more))

-- these ranges, with the memory for them
abbrev pub aranges_in_at_cost : List (Result ArangeSet Error) → Costed (List UnitArange)
aranges_in_at_cost sets = by_stored (stored_aranges_in sets) (aranges_in sets)

-- whether a unit's abbreviations begin in their section
abbrev pub has_abbreviations : Sections → UnitHeaderFields → Bool
has_abbreviations d h = is_ok (from_offset h.debug_abbrev_offset d.debug_abbrev)

-- what is stored of the unit of a header: nothing where it is a type unit
unfoldable pub stored_unit_of_header : Sections → UnitHeaderFields → Costed (Unit {0})
stored_unit_of_header d h =
    if is_type_unit h.unit_type then free (Ok tt) else room_if (has_abbreviations d h)

-- that unit, with the memory for it
abbrev pub unit_of_header_at_cost : Sections → List UnitArange → UnitHeaderFields
    → Costed (Option RangedUnit)
unit_of_header_at_cost d aranges h =
    by_stored (stored_unit_of_header d h) (unit_of_header d aranges h)

-- the unit of a header of the supplementary file, with the memory for it
abbrev pub sup_unit_of_header_at_cost : Sections → UnitHeaderFields → Costed (Option UnitRecord)
sup_unit_of_header_at_cost d h =
    by_stored (room_if (has_abbreviations d h)) (sup_unit_of_header d h)

-- what is stored of the units of headers, one after another
abbrev pub stored_units_of : {U : Type 0} → (UnitHeaderFields → Costed (Option U))
    → List (Result UnitHeaderFields Error) → Costed (List U)
stored_units_of read [] = parts_on_the_way (Ok [])
stored_units_of read (header ∷ headers) = parts_on_the_way header >>= read >>= λ unit.
    stored_units_of read headers >>= λ units. free (Ok (option_to_list unit ++ units))

-- these units, with the memory for them
abbrev pub units_of_at_cost : {U : Type 0} → (UnitHeaderFields → Costed (Option U))
    → List (Result UnitHeaderFields Error) → Costed (List U)
units_of_at_cost read headers =
    by_stored (stored_units_of read headers) (units_of (λ header. (read header).given) headers)

-- a unit, if it is one that counts, put to what was read before
abbrev pub put_to : {S U : Type 0} → (S → List U → S) → S → Costed (Option U) → Costed S
put_to put before read = read >>= λ unit. free (Ok (put before (option_to_list unit)))

-- what is stored of the units of the supplementary file
abbrev pub stored_sup_units : Option SupSections → Costed (List UnitRecord)
stored_sup_units None = free (Ok [])
stored_sup_units (Some s) =
    stored_units_of (sup_unit_of_header_at_cost (sup_sections s)) (all_headers s.debug_info)

-- these units, with the memory for them
abbrev pub sup_units_at_cost : Option SupSections → Costed (List UnitRecord)
sup_units_at_cost sup = by_stored (stored_sup_units sup) (sup_units sup)
