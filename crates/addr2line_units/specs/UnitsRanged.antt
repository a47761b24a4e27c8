-- The units of a file with their ranges of addresses (DWARF 5, sections 2.17, 3.1 and 6.1.2).
-- Own: a type unit is passed over, and so is a unit whose record is faulty. A partial unit of
-- version 5 has no range and no language. The first fault counts: of a set's header of
-- .debug_aranges; then, in the order of the units, of a unit's header, of an index of its range
-- attributes, of its range list.
-- Own: a unit without a range list has the ranges that .debug_aranges lists for its offset. One
-- with a range list, or without such ranges, has those of its attributes; where these give none, an
-- empty list too, those of its line sequences. Lines that can't be read give no ranges.
use Rattle.std.specs.Prelude.{ℕ, ◌+◌, Bool, true, false, ◌&&◌, ◌||◌, not, List, [], ◌∷◌, ◌++◌, map, is_some, Option, Some, None, Result, Ok, Err, if◌then◌else◌}
use Rattle.addr2line_units.specs.Common.{Error, DwLang, Range, ◌>>=◌, UnitHeaderFields, Sections, UnitRecord, unit_record_of, all_headers, arange_sets_of, LineTable, sequence_ranges, unit_lines}
use Rattle.gimli.specs.declared.unit.UnitType.{UnitType}
use Rattle.gimli.specs.declared.unit.UnitType.TheVariants.{TypeUnit, Partial, SplitType}
use Rattle.addr2line_lines.specs.declared.function.RangeAttributes.{RangeAttributes}
use Rattle.addr2line_lines.specs.RangeAttributes.{attribute_ranges}
use Rattle.addr2line_units.specs.declared.index.UnitArange.{UnitArange}
use Rattle.addr2line_units.specs.declared.index.UnitRange.{UnitRange}
use Rattle.addr2line_lines.specs.UnitsOfHeaders.{units_of}
use Rattle.addr2line_units.specs.IndexAranges.{aranges_at, aranges_in}
use Rattle.addr2line_units.specs.Attributes.{unit_attributes}

-- a unit and its language
pub record IndexedUnit : Type 0 where
  pub unit : UnitRecord
  pub language : Option DwLang

-- a unit with the ranges that .debug_aranges or its attributes give
pub record RangedUnit : Type 0 where
  pub indexed : IndexedUnit
  pub listed : List Range

-- the units without their languages
abbrev pub unit_records : List IndexedUnit → List UnitRecord
unit_records units = map (λ (u : IndexedUnit). u.unit) units

-- the unit without its ranges
abbrev pub indexed_of : RangedUnit → IndexedUnit
indexed_of u = u.indexed

-- whether a unit describes types alone
abbrev pub is_type_unit : UnitType → Bool
is_type_unit TypeUnit = true
is_type_unit SplitType = true
is_type_unit _ = false

-- whether a unit is one that others import
abbrev pub is_partial : UnitType → Bool
is_partial Partial = true
is_partial _ = false

-- the ranges that are listed, where there are some, else those of the attributes
abbrev pub or_attribute_ranges : Sections → UnitRecord → RangeAttributes → List Range
    → Result (List Range) Error
or_attribute_ranges d u a [] = attribute_ranges d u a
or_attribute_ranges d u a (r ∷ listed) = Ok (r ∷ listed)

-- the ranges that .debug_aranges or the attributes of a unit give
abbrev pub listed_unit_ranges : Sections → List UnitArange → UnitRecord → RangeAttributes
    → Result (List Range) Error
listed_unit_ranges d aranges u a =
    if is_some a.ranges_offset then attribute_ranges d u a
    else or_attribute_ranges d u a (aranges_at u.header.offset.0 aranges)

-- the language of a unit and its listed ranges; a partial unit has none
unfoldable pub listed_in_unit : Sections → List UnitArange → UnitRecord
    → Result (Option DwLang × List Range) Error
listed_in_unit d aranges u =
    if is_partial u.header.unit_type then Ok (None, [])
    else do
      attributes ← unit_attributes d u
      listed ← listed_unit_ranges d aranges u attributes.ranges
      Ok (attributes.language, listed)

-- a unit whose record can be read
abbrev pub ranged_unit : Sections → List UnitArange → UnitRecord → Result RangedUnit Error
ranged_unit d aranges u =
    listed_in_unit d aranges u
    >>= λ x. Ok (record { indexed = record { unit = u; language = x.0 }; listed = x.1 })

-- a unit that is passed over, or whose record can be read
abbrev pub unless_faulty : Sections → List UnitArange → Result UnitRecord Error
    → Result (Option RangedUnit) Error
unless_faulty d aranges (Err e) = Ok None
unless_faulty d aranges (Ok u) = ranged_unit d aranges u >>= λ x. Ok (Some x)

-- the unit of a header, none where it is passed over
unfoldable pub unit_of_header : Sections → List UnitArange → UnitHeaderFields
    → Result (Option RangedUnit) Error
unit_of_header d aranges h =
    if is_type_unit h.unit_type then Ok None
    else unless_faulty d aranges (unit_record_of d h)

-- whether the line sequences of a unit give its ranges
abbrev pub asks_lines : RangedUnit → Bool
asks_lines u = is_empty u.listed && not (is_partial u.indexed.unit.header.unit_type)
  where
    is_empty : List Range → Bool
    is_empty [] = true
    is_empty (r ∷ ranges) = false

-- whether the lines of a unit are parsed when a context is made: where they give its ranges, and
-- where there is no line program
abbrev pub has_lines : RangedUnit → Bool
has_lines u = asks_lines u || not (is_some u.indexed.unit.line_program)

-- the ranges of line sequences, none where the lines can't be read
abbrev pub line_ranges : Result LineTable Error → List Range
line_ranges (Ok table) = sequence_ranges table
line_ranges (Err e) = []

-- the ranges that lead to a unit
abbrev pub unit_ranges : Sections → RangedUnit → List Range
unit_ranges d u = if asks_lines u then line_ranges (unit_lines d u.indexed.unit) else u.listed

-- a range with the number of its unit
abbrev pub range_of_unit : ℕ → Range → UnitRange
range_of_unit n r = record { unit = n; range = r }

-- those of units from a number on
abbrev pub unit_ranges_from : Sections → ℕ → List RangedUnit → List UnitRange
unit_ranges_from d n [] = []
unit_ranges_from d n (u ∷ units) =
    map (range_of_unit n) (unit_ranges d u) ++ unit_ranges_from d (n + 1) units

-- the units of the sections that can be read, or the first fault
abbrev pub ranged_units : Sections → Result (List RangedUnit) Error
ranged_units d = do
  aranges ← aranges_in (arange_sets_of d.debug_aranges)
  units_of (unit_of_header d aranges) (all_headers d.debug_info)
