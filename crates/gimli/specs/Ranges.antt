-- The ranges of range lists (DWARF 5, sections 2.17.3 and 7.28; DWARF 4, section 2.17.3).
-- Own: sums of addresses are modulo the address size. A range is passed over where it is empty or
-- reversed, or begins at all ones or all ones less one, and so are offsets from such a base.
-- Own: an offset past the section's end is OffsetOutOfBounds. An entry is read whole before the
-- addresses of its indexes are, and each of these is read, also where the range is passed over.
use Rattle.std.specs.Prelude.{ℕ, ◌+◌, ◌%◌, not, nat_lt, List, [], ◌∷◌, Option, Some, None, Result, Ok, Err, if◌then◌else◌}
use Rattle.gimli.specs.Common.{Error, UnsupportedAddressSize, Range, Section, is_before_5, ◌>>=◌, refused_if, is_address_size, address_limit, is_tombstone}
use Rattle.gimli.specs.declared.rnglists.RangeListEntry.{RangeListEntry}
use Rattle.gimli.specs.declared.rnglists.RangeListEntry.TheVariants.{BaseAddressx, StartxEndx, StartxLength, OffsetPair, BaseAddress, StartEnd, StartLength}
use Rattle.gimli.specs.RangeListEntries.{range_list_entries}
use Rattle.gimli.specs.Sections.{Sections}
use Rattle.gimli.specs.Text.{from_offset, indexed_number}
use Rattle.gimli.specs.Unit.{UnitRecord}

-- a sum, as an address of a size
abbrev pub sum_of_size : ℕ → ℕ → ℕ → ℕ
sum_of_size size a b = (a + b) % address_limit size

-- a range of addresses, unless it is passed over
abbrev pub range_of : ℕ → ℕ → ℕ → Option Range
range_of size begin end =
    if is_tombstone size begin then None
    else if nat_lt begin end then Some (record { begin = begin; end = end })
    else None

-- the range of a begin and a length, unless it is passed over
abbrev pub range_of_length : ℕ → ℕ → ℕ → Option Range
range_of_length size begin length = range_of size begin (sum_of_size size begin length)

-- the range of two offsets from a base, unless it is passed over
abbrev pub range_from_base : ℕ → ℕ → ℕ → ℕ → Option Range
range_from_base size base begin end =
    if is_tombstone size base then None
    else range_of size (sum_of_size size base begin) (sum_of_size size base end)

-- the address of an index
abbrev pub indexed_address : Sections → UnitRecord → ℕ → Result ℕ Error
indexed_address d u index =
    indexed_number u.header.encoding.address_size u.addr_base index d.debug_addr

-- the range of an entry, if it gives one, and the base after it
unfoldable pub range_of_entry : Sections → UnitRecord → ℕ → RangeListEntry
    → Result (Option Range × ℕ) Error
range_of_entry d u base (BaseAddressx index) =
    indexed_address d u index >>= λ address. Ok (None, address)
range_of_entry d u base (BaseAddress address) = Ok (None, address)
range_of_entry d u base (OffsetPair begin end) =
    Ok (range_from_base u.header.encoding.address_size base begin end, base)
range_of_entry d u base (StartxEndx begin_index end_index) = do
  begin ← indexed_address d u begin_index
  end ← indexed_address d u end_index
  Ok (range_of u.header.encoding.address_size begin end, base)
range_of_entry d u base (StartxLength begin_index length) = do
  begin ← indexed_address d u begin_index
  Ok (range_of_length u.header.encoding.address_size begin length, base)
range_of_entry d u base (StartEnd begin end) =
    Ok (range_of u.header.encoding.address_size begin end, base)
range_of_entry d u base (StartLength begin length) =
    Ok (range_of_length u.header.encoding.address_size begin length, base)

-- the range of an entry, if it gives one, and then those of the entries after it
abbrev pub with_range_first : Result (Option Range × ℕ) Error
    → (ℕ → List (Result Range Error)) → List (Result Range Error)
with_range_first (Ok (None, base)) others = others base
with_range_first (Ok (Some range, base)) others = Ok range ∷ others base
with_range_first (Err e) others = Err e ∷ []

-- the ranges of entries from a base on, and the fault after them, if there is one
unfoldable pub ranges_of_entries : {Z : Type 0} → Sections → UnitRecord → ℕ
    → List RangeListEntry → Result Z Error → List (Result Range Error)
ranges_of_entries d u base [] (Ok z) = []
ranges_of_entries d u base [] (Err e) = Err e ∷ []
ranges_of_entries d u base (x ∷ xs) end =
    with_range_first (range_of_entry d u base x) (λ b. ranges_of_entries d u b xs end)

-- the ranges of the list that begins here, and the fault after them, if there is one
abbrev pub ranges_from : Sections → UnitRecord → ℕ → Section → List (Result Range Error)
ranges_from d u base s =
    ranges_of_entries d u base (range_list_entries u.header.encoding s).items
    (range_list_entries u.header.encoding s).end

-- the section of a unit's range lists
abbrev pub range_lists_of : Sections → UnitRecord → Section
range_lists_of d u =
    if is_before_5 u.header.encoding.version then d.debug_ranges else d.debug_rnglists

-- the ranges of a unit's list at an offset, and the fault after them, if there is one; the base is
-- at first the unit's low_pc
abbrev pub ranges_at : Sections → UnitRecord → ℕ → Result (List (Result Range Error)) Error
ranges_at d u offset = do
  known ← refused_if (not (is_address_size u.header.encoding.address_size)) UnsupportedAddressSize
  s ← from_offset offset (range_lists_of d u)
  Ok (ranges_from d u u.low_pc s)
