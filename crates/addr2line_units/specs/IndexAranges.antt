-- The ranges that `.debug_aranges` lists for units (DWARF 5, section 6.1.2).
use Rattle.std.specs.Prelude.{ℕ, ◌==◌, Bool, List, filter, flat_map, map, Result, Ok}
use Rattle.std.specs.Ordering.{is_lt, nat_cmp}
use Rattle.addr2line_units.specs.Common.{Error, Range, ◌>>=◌}
use Rattle.gimli_read.specs.declared.value.DebugInfoOffset.{DebugInfoOffset}
use Rattle.gimli.specs.Aranges.{ArangeSet, aranges_of}
use Rattle.addr2line_lines.specs.Rows.{read_all}
use Rattle.addr2line_units.specs.declared.index.UnitArange.{UnitArange}

-- a range of the unit at an offset
abbrev pub unit_arange : DebugInfoOffset → Range → UnitArange
unit_arange offset r = record { unit_offset = offset; range = r }

-- the ranges of a set, each with the offset of the unit that it belongs to
abbrev pub set_aranges : ArangeSet → List UnitArange
set_aranges s = map (unit_arange s.debug_info_offset) (aranges_of s.address_size s.pairs)

-- the ranges of sets, or the first fault of a set's header
abbrev pub aranges_in : List (Result ArangeSet Error) → Result (List UnitArange) Error
aranges_in sets = read_all sets >>= λ all. Ok (flat_map set_aranges all)

-- whether a range belongs to the unit at an offset
abbrev pub is_arange_of : ℕ → UnitArange → Bool
is_arange_of offset a = a.unit_offset.0 == offset

-- the range without its unit
abbrev pub range_in : UnitArange → Range
range_in a = a.range

-- the ranges of the unit at an offset
abbrev pub aranges_at : ℕ → List UnitArange → List Range
aranges_at offset aranges = map range_in (filter (is_arange_of offset) aranges)

-- by the offset of the unit
abbrev pub offset_sooner : UnitArange → UnitArange → Bool
offset_sooner a b = is_lt (nat_cmp a.unit_offset.0 b.unit_offset.0)
