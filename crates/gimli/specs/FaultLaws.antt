-- Nothing that sections give is OutOfMemory: whatever the bytes are, it is a value or another
-- fault.
-- Own: a refused growth alone answers OutOfMemory, so only where a contract allows it beside what
-- is given.
use Rattle.std.specs.Prelude.{ℕ, List, Option, IfOk, ℤ}
use Rattle.gimli.specs.Common.{Encoding, Format, AttributeValue, Abbrev, WasNotRefused, Run, Section}
use Rattle.gimli_read.specs.FaultLaws.{NoneWasRefused}
use Rattle.gimli.specs.declared.record.AddressValue.{AddressValue}
use Rattle.gimli.specs.Aranges.{arange_set_at, arange_sets_of}
use Rattle.gimli.specs.Entries.{entry_bytes_from, root_attributes_of}
use Rattle.gimli.specs.Entry.{EntryUnit, entry_code_at, root_attributes}
use Rattle.gimli.specs.EntryCursor.{EntryCursor, entry_abbreviation_at, next_item_at, entries_from}
use Rattle.gimli.specs.Header.{UnitHeaderFields, unit_header_at, next_header_at}
use Rattle.gimli.specs.Items.{Item, item_at, items_from, items_of, items_at, subtree_of}
use Rattle.gimli.specs.RangeListEntries.{range_list_entry_at, range_list_entries}
use Rattle.gimli.specs.Ranges.{indexed_address, ranges_from, ranges_at}
use Rattle.gimli.specs.RangesOffset.{ranges_offset_of}
use Rattle.gimli.specs.Record.{root_values_of}
use Rattle.gimli.specs.Sections.{Sections}
use Rattle.gimli.specs.Split.{dwo_name_of, dwo_name_fault}
use Rattle.gimli.specs.Text.{from_offset, string_at, string_length_at, indexed_number, string_of}
use Rattle.gimli.specs.Unit.{UnitRecord, address_from, line_program_of, table_from, unit_record_of, attr_string_of}
use Rattle.gimli.specs.UnitsLeft.{headers_left, all_headers}

-- what follows the parts of a run is not OutOfMemory
abbrev pub EndsUnrefused : {X Z : Type 0} → Run X Z → Type 0
EndsUnrefused run = WasNotRefused run.end

-- no header of a unit is, nor a unit, its abbreviations, its line program or its split file's name
pub record UnitsAreNotRefused : Type 0 where
  pub header : (section_length : ℕ) (s : Section) → WasNotRefused (unit_header_at section_length s)
  pub next : (section_length : ℕ) (s : Section) → WasNotRefused (next_header_at section_length s)
  pub left : (section_length : ℕ) (s : Section) → NoneWasRefused (headers_left section_length s)
  pub headers : (s : Section) → NoneWasRefused (all_headers s)
  pub table : (offset : ℕ) (s : Section) → WasNotRefused (table_from offset s)
  pub line_program : (d : Sections) (encoding : Encoding) (offset : Option ℕ)
      → WasNotRefused (line_program_of d encoding offset)
  pub unit : (d : Sections) (header : UnitHeaderFields) → WasNotRefused (unit_record_of d header)
  pub split_name : (u : UnitRecord) → WasNotRefused (dwo_name_of u)
  pub split_name_fault : (d : Sections) (u : UnitRecord) → WasNotRefused (dwo_name_fault d u)

-- no code, attribute or item is, and none ends the items of a unit or of a subtree
pub record EntriesAreNotRefused : Type 0 where
  pub code : (table : List Abbrev) (s : Section) → WasNotRefused (entry_code_at table s)
  pub abbreviation : (table : List Abbrev) (cursor : EntryCursor)
      → WasNotRefused (entry_abbreviation_at table cursor)
  pub root : (encoding : Encoding) (table : List Abbrev) (s : Section)
      → WasNotRefused (root_attributes encoding table s)
  pub root_of : (u : UnitRecord) → WasNotRefused (root_attributes_of u)
  pub root_values : (encoding : Encoding) (table : List Abbrev) (s : Section)
      → WasNotRefused (root_values_of encoding table s)
  pub bytes : (header : UnitHeaderFields) (offset : Option ℕ)
      → WasNotRefused (entry_bytes_from header offset)
  pub from : (u : UnitRecord) (offset : Option ℕ) → WasNotRefused (entries_from u offset)
  pub item : (unit : EntryUnit) (depth : ℤ) (s : Section) → WasNotRefused (item_at unit depth s)
  pub next : (unit : EntryUnit) (cursor : EntryCursor) → WasNotRefused (next_item_at unit cursor)
  pub items : (unit : EntryUnit) (depth : ℤ) (s : Section)
      → EndsUnrefused (items_from unit depth s)
  pub items_in : (u : UnitRecord) → EndsUnrefused (items_of u)
  pub items_after : (u : UnitRecord) (offset : ℕ) → EndsUnrefused (items_at u offset)
  pub subtree : (x : Item) (following : Run Item Section) → EndsUnrefused following
      → EndsUnrefused (subtree_of x following)

-- no string is, nor an address, a number of a table or where a section goes on
pub record StringsAreNotRefused : Type 0 where
  pub from : (offset : ℕ) (s : Section) → WasNotRefused (from_offset offset s)
  pub at : (offset : ℕ) (s : Section) → WasNotRefused (string_at offset s)
  pub length : (offset : ℕ) (s : Section) → WasNotRefused (string_length_at offset s)
  pub number : (size base index : ℕ) (s : Section)
      → WasNotRefused (indexed_number size base index s)
  pub string : (d : Sections) (format : Format) (base : ℕ) (v : AttributeValue Section)
      → WasNotRefused (string_of d format base v)
  pub of_unit : (d : Sections) (u : UnitRecord) (v : AttributeValue Section)
      → WasNotRefused (attr_string_of d u v)
  pub address : (d : Sections) (encoding : Encoding) (base : ℕ) (v : AddressValue)
      → WasNotRefused (address_from d encoding base v)
  pub address_of : (d : Sections) (u : UnitRecord) (index : ℕ)
      → WasNotRefused (indexed_address d u index)

-- no set of address ranges is, nor a range list, where it begins, an entry or a range of it
pub record RangesAreNotRefused : Type 0 where
  pub set : (s : Section) → WasNotRefused (arange_set_at s)
  pub sets : (s : Section) → NoneWasRefused (arange_sets_of s)
  pub entry : (encoding : Encoding) (s : Section) → WasNotRefused (range_list_entry_at encoding s)
  pub entries : (encoding : Encoding) (s : Section) → EndsUnrefused (range_list_entries encoding s)
  pub offset : (d : Sections) (u : UnitRecord) (v : AttributeValue Section)
      → WasNotRefused (ranges_offset_of d u v)
  pub from : (d : Sections) (u : UnitRecord) (base : ℕ) (s : Section)
      → NoneWasRefused (ranges_from d u base s)
  pub list : (d : Sections) (u : UnitRecord) (offset : ℕ) → WasNotRefused (ranges_at d u offset)
  pub list_items : (d : Sections) (u : UnitRecord) (offset : ℕ)
      → IfOk (ranges_at d u offset) (λ ranges. NoneWasRefused ranges)

-- nothing of all that is
pub record SectionsAreNotRefused : Type 0 where
  pub units : UnitsAreNotRefused
  pub entries : EntriesAreNotRefused
  pub strings : StringsAreNotRefused
  pub ranges : RangesAreNotRefused
