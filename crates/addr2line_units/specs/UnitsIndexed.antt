-- The units of a context and their ranges as they are read, one after another, as the private
-- functions see them.
use Rattle.std.specs.Prelude.{Bool, List, [], ◌++◌, length, map, nat_lt, Option, Ok}
use Rattle.addr2line_units.specs.Common.{DwLang, Range, Costed, free, Section, UnitHeaderFields, Sections, UnitRecord, all_headers, arange_sets_of}
use Rattle.gimli_read.specs.Costed.{◌>>=◌}
use Rattle.addr2line_units.specs.declared.index.UnitArange.{UnitArange}
use Rattle.addr2line_units.specs.declared.index.UnitRange.{UnitRange}
use Rattle.addr2line_units.specs.EntriesOwn.{CachedUnit}
use Rattle.addr2line_units.specs.UnitLinesCached.{indexed_units, parsed_units}
use Rattle.addr2line_units.specs.UnitsRanged.{IndexedUnit, indexed_of, RangedUnit, has_lines, unit_ranges_from}
use Rattle.addr2line_units.specs.UnitsMemory.{aranges_in_at_cost, put_to, sup_units_at_cost, unit_of_header_at_cost, units_of_at_cost}

-- sections, their units, the ranges that lead to these, and of which units the lines are parsed
pub record IndexState : Type 0 where
  pub sections : Sections
  pub units : List IndexedUnit
  pub ranges : List UnitRange
  pub parsed : List Bool

-- before the first unit
abbrev pub no_index : Sections → IndexState
no_index d = record { sections = d; units = []; ranges = []; parsed = [] }

-- those of units that are read
abbrev pub index_of : Sections → List RangedUnit → IndexState
index_of d units = record {
  sections = d;
  units = map indexed_of units;
  ranges = unit_ranges_from d 0 units;
  parsed = map has_lines units;
}

-- a list as it is, with the memory that putting it in order takes: some where it has something
abbrev pub sorted : {X : Type 0} → List X → Costed (List X)
sorted xs = record { given = Ok xs; takes_memory = λ shares. nat_lt 0 (length xs) }

-- the ranges that a section lists for units, as they are read
abbrev pub aranges_read : Section → Costed (List UnitArange)
aranges_read s = aranges_in_at_cost (arange_sets_of s) >>= sorted

-- the units of the sections with the ranges that .debug_aranges lists, or the first fault
abbrev pub indexed_with : Sections → List UnitArange → Costed IndexState
indexed_with d aranges =
    units_of_at_cost (unit_of_header_at_cost d aranges) (all_headers d.debug_info)
    >>= λ units. free (Ok (index_of d units))

-- the units of the sections, or the first fault
abbrev pub index_read : Sections → Costed IndexState
index_read d = do
  aranges ← aranges_read d.debug_aranges
  index ← indexed_with d aranges
  ranges ← sorted index.ranges
  free (Ok index)

-- units that are read, behind those that were
abbrev pub appended : IndexState → List RangedUnit → IndexState
appended m units = record m {
  units = m.units ++ map indexed_of units;
  ranges = m.ranges ++ unit_ranges_from m.sections (length m.units) units;
  parsed = m.parsed ++ map has_lines units;
}

-- what was read, and the unit of one more header behind it, unless that is passed over
abbrev pub with_header : List UnitArange → IndexState → UnitHeaderFields → Costed IndexState
with_header aranges m h = put_to appended m (unit_of_header_at_cost m.sections aranges h)

-- what was read of sections, by the units, what is cached of them, and the ranges
abbrev pub index_state : {R : Type 0} → Sections → List UnitRecord → List (CachedUnit R)
    → List UnitRange → IndexState
index_state d dw_units caches ranges = record {
  sections = d;
  units = indexed_units dw_units caches;
  ranges = ranges;
  parsed = parsed_units caches;
}

-- a unit with its language, and the ranges that are listed for it
abbrev pub as_ranged_unit : UnitRecord → Option DwLang → List Range → RangedUnit
as_ranged_unit dw_unit lang listed =
    record { indexed = record { unit = dw_unit; language = lang }; listed = listed }

-- whether memory may be taken for all that a context has
abbrev pub context_takes_memory : Bool → Sections → Bool
context_takes_memory shares d =
    (index_read d >>= λ index. sup_units_at_cost d.sup).takes_memory shares
