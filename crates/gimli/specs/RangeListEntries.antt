-- The entries of range lists (DWARF 5, sections 2.17.3 and 7.25; DWARF 4, sections 2.17.3 and
-- 7.23).
-- Own: a kind that section 7.25 doesn't list is UnknownRangeListEntry. A list that the section's
-- end cuts is UnexpectedEof.
use Rattle.std.specs.Prelude.{ℕ, ◌==◌, ◌&&◌, Option, Some, None, Ok, Err, if◌then◌else◌}
use Rattle.gimli.specs.Common.{UnknownRangeListEntry, Encoding, Section, is_before_5, Reading, mapped, ◌>>=◌, fixed_at, address_at, Run, run_of, greatest_address}
use Rattle.gimli_read.specs.Leb128.{uleb128_at}
use Rattle.gimli.specs.declared.constants.TheConstants.{DW_RLE_end_of_list, DW_RLE_base_addressx, DW_RLE_startx_endx, DW_RLE_startx_length, DW_RLE_offset_pair, DW_RLE_base_address, DW_RLE_start_end, DW_RLE_start_length}
use Rattle.gimli.specs.declared.rnglists.RangeListEntry.{RangeListEntry}
use Rattle.gimli.specs.declared.rnglists.RangeListEntry.TheVariants.{BaseAddressx, StartxEndx, StartxLength, OffsetPair, BaseAddress, StartEnd, StartLength}

-- an entry of two fields, one after the other
abbrev pub entry_of_two : (ℕ → ℕ → RangeListEntry) → (Section → Reading ℕ)
    → (Section → Reading ℕ) → Section → Reading RangeListEntry
entry_of_two make first second s = first s >>= λ x. mapped (make x.0) (second x.1)

-- the fields of an entry of .debug_rnglists that has this kind
unfoldable pub rnglists_fields_at : ℕ → ℕ → Section → Reading RangeListEntry
rnglists_fields_at size kind s =
    if kind == DW_RLE_base_addressx then mapped BaseAddressx (uleb128_at s)
    else if kind == DW_RLE_startx_endx then entry_of_two StartxEndx uleb128_at uleb128_at s
    else if kind == DW_RLE_startx_length then entry_of_two StartxLength uleb128_at uleb128_at s
    else if kind == DW_RLE_offset_pair then entry_of_two OffsetPair uleb128_at uleb128_at s
    else if kind == DW_RLE_base_address then mapped BaseAddress (address_at size s)
    else if kind == DW_RLE_start_end
    then entry_of_two StartEnd (address_at size) (address_at size) s
    else if kind == DW_RLE_start_length then entry_of_two StartLength (address_at size) uleb128_at s
    else Err UnknownRangeListEntry

-- the next entry of a list of .debug_rnglists, none at the list's end
unfoldable pub rnglists_entry_at : ℕ → Section → Reading (Option RangeListEntry)
rnglists_entry_at size s = do
  kind ← fixed_at 1 s
  if kind.0 == DW_RLE_end_of_list then Ok (None, kind.1)
      else mapped Some (rnglists_fields_at size kind.0 kind.1)

-- what a pair of addresses of .debug_ranges is: the list's end, a base, or offsets from the base
abbrev pub entry_of_pair : ℕ → ℕ → ℕ → Option RangeListEntry
entry_of_pair size begin end =
    if begin == 0 && end == 0 then None
    else if begin == greatest_address size then Some (BaseAddress end)
    else Some (OffsetPair begin end)

-- the next entry of a list of .debug_ranges, none at the list's end
unfoldable pub ranges_entry_at : ℕ → Section → Reading (Option RangeListEntry)
ranges_entry_at size s = do
  begin ← address_at size s
  end ← address_at size begin.1
  Ok (entry_of_pair size begin.0 end.0, end.1)

-- the next entry of a list, none at the list's end
unfoldable pub range_list_entry_at : Encoding → Section → Reading (Option RangeListEntry)
range_list_entry_at encoding s =
    if is_before_5 encoding.version then ranges_entry_at encoding.address_size s
    else rnglists_entry_at encoding.address_size s

-- the entries of a list that can be read, and then its end or the fault
abbrev pub range_list_entries : Encoding → Section → Run RangeListEntry Section
range_list_entries encoding s = run_of (range_list_entry_at encoding) s
