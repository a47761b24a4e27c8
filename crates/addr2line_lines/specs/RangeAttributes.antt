-- The addresses of an entry (DWARF 5, section 2.17).
-- Own: of low_pc, of high_pc as an address and of high_pc as a size the last that counts is taken;
-- of ranges the last, also where its value is of another class and stands for no list.
-- Own: a range list counts before low_pc, also an empty one, and its fault is the answer; a high_pc
-- address counts before a size, whose sum wraps at 64 bits. Empty and reversed ranges are dropped.
use Rattle.std.specs.Prelude.{ℕ, ◌+◌, ◌%◌, ◌^◌, ◌==◌, nat_lt, Bool, true, false, List, [], ◌∷◌, map, Option, Some, None, Result, Ok, if◌then◌else◌}
use Rattle.std.specs.Option.{option_or}
use Rattle.addr2line_lines.specs.Common.{Error, Range, AttributeValue, DW_AT_low_pc, DW_AT_high_pc, DW_AT_ranges, Section, Reading, ◌>>=◌, NamedValue, constant_of, ranges_at, Sections, taken_after, taken_in, UnitRecord}
use Rattle.gimli_read.specs.declared.value.AttributeValue.TheVariants as values
use Rattle.gimli.specs.RangesOffset.{ranges_offset_of}
use Rattle.gimli.specs.Text.{indexed_number}
use Rattle.addr2line_lines.specs.declared.function.RangeAttributes.{RangeAttributes}
use Rattle.addr2line_lines.specs.Rows.{read_all}

-- the address that a value stands for, none of a value of another class
abbrev pub attr_address : Sections → UnitRecord → AttributeValue Section → Result (Option ℕ) Error
attr_address d u (values.Addr a) = Ok (Some a)
attr_address d u (values.DebugAddrIndex i) =
    indexed_number u.header.encoding.address_size u.addr_base i d.debug_addr >>= λ a. Ok (Some a)
attr_address d u _ = Ok None

-- before the first attribute
abbrev pub no_range_attributes : RangeAttributes
no_range_attributes = record { low_pc = None; high_pc = None; size = None; ranges_offset = None }

-- one more attribute
unfoldable pub with_range_attribute : Sections → UnitRecord → RangeAttributes → NamedValue
    → Result RangeAttributes Error
with_range_attribute d u r a =
    if a.name.0 == DW_AT_low_pc.0 then (attr_address d u a.value >>= λ low.
    Ok (record r { low_pc = option_or low r.low_pc }))
    else if a.name.0 == DW_AT_high_pc.0 then (attr_address d u a.value >>= λ high.
    Ok (record r {
      high_pc = option_or high r.high_pc;
      size = option_or (constant_of a.value) r.size;
    }))
    else if a.name.0 == DW_AT_ranges.0 then (ranges_offset_of d u a.value >>= λ offset.
    Ok (record r { ranges_offset = offset }))
    else Ok r

-- what attributes say, the last of each counting, or the first fault of an index, of an address or
-- a range list
abbrev pub range_attributes_of : Sections → UnitRecord → List NamedValue
    → Result RangeAttributes Error
range_attributes_of d u attributes =
    taken_in (with_range_attribute d u) (Ok no_range_attributes) attributes

-- what attributes that are read say, after those that were read before
abbrev pub range_attributes_after : Sections → UnitRecord → Result RangeAttributes Error
    → Reading (List NamedValue) → Result RangeAttributes Error
range_attributes_after d u r read = taken_after (with_range_attribute d u) r read

-- a range, unless it is empty or reversed
abbrev pub range_between : ℕ → ℕ → List Range
range_between begin end = if nat_lt begin end then record { begin = begin; end = end } ∷ [] else []

-- the range up to an address, else that of a size, else none
abbrev pub range_to : ℕ → Option ℕ → Option ℕ → List Range
range_to low (Some high) size = range_between low high
range_to low None (Some size) = range_between low ((low + size) % 2 ^ 64)
range_to low None None = []

-- the range of low_pc and high_pc, if there is one
abbrev pub ranges_of : RangeAttributes → List Range
ranges_of r = elim r.low_pc [ None ↦ [] | Some low ↦ range_to low r.high_pc r.size ]

-- the ranges of the attributes, and the fault after them, if there is one
abbrev pub range_list_of : Sections → UnitRecord → RangeAttributes
    → Result (List (Result Range Error)) Error
range_list_of d u r = elim r.ranges_offset
    [ None ↦ Ok (map Ok (ranges_of r)) | Some offset ↦ ranges_at d u offset ]

-- all ranges of a list, or its first fault
abbrev pub all_ranges : Result (List (Result Range Error)) Error → Result (List Range) Error
all_ranges list = list >>= read_all

-- the ranges of the attributes, or the first fault of their range list
abbrev pub attribute_ranges : Sections → UnitRecord → RangeAttributes → Result (List Range) Error
attribute_ranges d u r = all_ranges (range_list_of d u r)

-- whether the first of a list can be read
abbrev pub begins_well : {X E : Type 0} → Result (List (Result X E)) E → Bool
begins_well (Ok (Ok x ∷ rest)) = true
begins_well _ = false

-- whether the attributes give a range before any fault
abbrev pub gives_a_range : Sections → UnitRecord → RangeAttributes → Bool
gives_a_range d u r = begins_well (range_list_of d u r)
