-- Nothing that units, entries, strings, addresses and ranges give is OutOfMemory (on the specs of this crate).
use Rattle.gimli.proofs.Common.{ℕ, zero, suc, ◌+◌, ◌-◌, ◌*◌, ◌==◌, not, Bool, true, false, cond, List, [], ◌∷◌, length, Option, Some, None, Result, Ok, Err, nat_lt, ℤ, pos, int_lt, IfOk, Encoding, Format, Error, UnexpectedEof, OffsetOutOfBounds, ExpectedString, NoSupplementary, UnknownVersion, UnknownUnitType, UnknownAbbreviation, MissingUnitDie, UnknownRangeListEntry, UnsupportedAddressSize, UnsupportedSegmentSize, AttributeValue, Section, after, is_unknown, is_before_5, Reading, ◌>>=◌, refused_if, address_at, fits_u64, is_address_size, offset_size, uleb128_at, Run, cons, run_of, NamedValue, Abbrev, with_code, Sections, SupSections, taken_in, from_offset, string_at, string_length_at, indexed_number, indexed_string, sup_string_at, string_of, UnitHeaderFields, unit_type_of, unit_type_at, dwo_id_at, signature_at, type_fields_at, fields_5_at, fields_4_at, header_fields_at, unit_header_at, next_header_at, headers_left, all_headers, EntryUnit, known_abbreviation, entry_code_at, root_specifications, root_attributes, EntryCursor, entry_abbreviation_at, next_item_at, entries_from, Item, depth_after, entry_of_code, entry_at, item_at, items_after, items_within, items_from, items_of, items_at, items_inside, subtree_of, UnitRecord, address_from, low_pc_of, line_program_of, completed_record, program_and_low_pc_of, unit_by, table_from, unit_record_of, attr_string_of, arange_fields_at, arange_set_at, next_set_at, arange_sets_of, next_pair_at, pair_size, indexed_address, range_of_entry, with_range_first, ranges_of_entries, ranges_from, range_lists_of, ranges_at}
use Rattle.gimli_read.specs.declared.constants.TheConstants.{CLOSING_CODE}
use Rattle.gimli_read.specs.declared.range.Range.{Range}
use Rattle.gimli_read.specs.declared.value.AttributeValue.TheVariants as values
use Rattle.gimli_read.specs.FaultLaws.{NoneWasRefused}
use Rattle.gimli_read.proofs.FaultLemmas.{IsByBytes, AreByBytes, step, either, value, fault, test, ends, moved_fault, mapped_is, fault_of_is, fold_is, skipped_is, split_is, fixed_is, address_size_is, address_is, offset_is, null_terminated_is, initial_length_is, uleb128_is, attributes_are, table_is, run_of_is, listed_are, none_refused}
use Rattle.gimli_line.proofs.FaultLemmas.{line_program_is}
use Rattle.gimli.specs.declared.constants.TheConstants.{DW_UT_compile, DW_UT_type, DW_UT_partial, DW_UT_skeleton, DW_UT_split_compile, DW_UT_split_type, ARANGES_VERSION, DW_RLE_end_of_list, DW_RLE_base_addressx, DW_RLE_startx_endx, DW_RLE_startx_length, DW_RLE_offset_pair, DW_RLE_base_address, DW_RLE_start_end, DW_RLE_start_length}
use Rattle.gimli.specs.declared.record.AddressValue.{AddressValue}
use Rattle.gimli.specs.declared.record.AddressValue.TheVariants.{Address, Index}
use Rattle.gimli.specs.declared.rnglists.RangeListEntry.{RangeListEntry}
use Rattle.gimli.specs.declared.rnglists.RangeListEntry.TheVariants.{BaseAddressx, StartxEndx, StartxLength, OffsetPair, BaseAddress, StartEnd, StartLength}
use Rattle.gimli.specs.declared.unit.UnitType.{UnitType}
use Rattle.gimli.specs.declared.unit.UnitType.TheVariants.{Compile, TypeUnit, Partial, Skeleton, SplitCompile, SplitType}
use Rattle.gimli.specs.StringPlaces.{sup_strings, string_place_of}
use Rattle.gimli.specs.Entries.{entry_bytes_from, entry_unit, root_attributes_of, unit_length}
use Rattle.gimli.specs.Record.{RootValues, line_offset, root_values_of}
use Rattle.gimli.specs.Split.{dwo_name_of, string_fault_if, dwo_name_fault}
use Rattle.gimli.specs.RangeListEntries.{entry_of_two, rnglists_fields_at, rnglists_entry_at, ranges_entry_at, range_list_entry_at, range_list_entries}
use Rattle.gimli.specs.RangesOffset.{offset_from_base, ranges_base, rnglists_offset, offset_with_base, ranges_offset_of}

-- an offset past the section's end, or an entry of a table there
outside : {A : Type 0} → IsByBytes {A = A} (Err OffsetOutOfBounds)
outside = fault OffsetOutOfBounds (λ p. cc)

-- ---- strings and addresses
pub from_offset_is : (offset : ℕ) (s : Section) → IsByBytes (from_offset offset s)
from_offset_is offset s = either (nat_lt (length s.bytes) offset) outside value

pub string_is : (offset : ℕ) (s : Section) → IsByBytes (string_at offset s)
unfolding string_at
string_is offset s = step (from_offset_is offset s) (λ rest. step (null_terminated_is rest) (λ string. value))

pub string_length_is : (offset : ℕ) (s : Section) → IsByBytes (string_length_at offset s)
string_length_is offset s = step (string_is offset s) (λ string. value)

pub indexed_number_is : (size base index : ℕ) (s : Section) → IsByBytes (indexed_number size base index s)
unfolding indexed_number
indexed_number_is size base index s = either (nat_lt (length s.bytes) (base + index * size + size)) outside (step (address_is size (after (base + index * size) s)) (λ n. value))

pub indexed_string_is : (d : Sections) (format : Format) (base index : ℕ) → IsByBytes (indexed_string d format base index)
indexed_string_is d format base index = step (indexed_number_is (offset_size format) base index d.debug_str_offsets) (λ offset. string_is offset d.debug_str)

pub sup_string_is : (offset : ℕ) (sup : Option SupSections) → IsByBytes (sup_string_at offset sup)
sup_string_is offset None = fault NoSupplementary (λ p. cc)
sup_string_is offset (Some sup) = string_is offset sup.debug_str

pub string_of_is : (d : Sections) (format : Format) (base : ℕ) (v : AttributeValue Section) → IsByBytes (string_of d format base v)
unfolding string_of
string_of_is d format base (values.String s) = value
string_of_is d format base (values.DebugStrRef offset) = string_is offset d.debug_str
string_of_is d format base (values.DebugLineStrRef offset) = string_is offset d.debug_line_str
string_of_is d format base (values.DebugStrRefSup offset) = sup_string_is offset d.sup
string_of_is d format base (values.DebugStrOffsetsIndex index) = indexed_string_is d format base index
string_of_is d format base _ = fault ExpectedString (λ p. cc)

sup_strings_are : (sup : Option SupSections) → IsByBytes (sup_strings sup)
sup_strings_are None = fault NoSupplementary (λ p. cc)
sup_strings_are (Some sup) = value

pub string_place_is : (d : Sections) (format : Format) (base : ℕ) (v : AttributeValue Section) → IsByBytes (string_place_of d format base v)
unfolding string_place_of
string_place_is d format base (values.String s) = value
string_place_is d format base (values.DebugStrRef offset) = value
string_place_is d format base (values.DebugLineStrRef offset) = value
string_place_is d format base (values.DebugStrRefSup offset) = step (sup_strings_are d.sup) (λ strings. value)
string_place_is d format base (values.DebugStrOffsetsIndex index) = step (indexed_number_is (offset_size format) base index d.debug_str_offsets) (λ offset. value)
string_place_is d format base _ = fault ExpectedString (λ p. cc)

pub indexed_address_is : (d : Sections) (u : UnitRecord) (index : ℕ) → IsByBytes (indexed_address d u index)
indexed_address_is d u index = indexed_number_is u.header.encoding.address_size u.addr_base index d.debug_addr

pub attr_string_is : (d : Sections) (u : UnitRecord) (v : AttributeValue Section) → IsByBytes (attr_string_of d u v)
attr_string_is d u v = string_of_is d u.header.encoding.format u.str_offsets_base v

-- ---- headers
unit_type_of_is : (n : ℕ) → IsByBytes (unit_type_of n)
unit_type_of_is n =
    either (n == DW_UT_compile) value (either (n == DW_UT_type) value (either (n == DW_UT_partial) value
    (either (n == DW_UT_skeleton) value (either (n == DW_UT_split_compile) value (either (n == DW_UT_split_type) value
    (fault UnknownUnitType (λ p. cc)))))))

pub unit_type_is : (s : Section) → IsByBytes (unit_type_at s)
unfolding unit_type_at
unit_type_is s = step (fixed_is 1 s) (λ n. step (unit_type_of_is n.0) (λ kind. value))

signature_is : (format : Format) (s : Section) → IsByBytes (signature_at format s)
signature_is format s = step (skipped_is 8 s) (λ t. step (offset_is format t.1) (λ o. value))

dwo_id_is : (s : Section) → IsByBytes (dwo_id_at s)
dwo_id_is s = step (fixed_is 8 s) (λ id. value)

type_fields_are : (format : Format) (kind : UnitType) (s : Section) → IsByBytes (type_fields_at format kind s)
type_fields_are format Compile s = value
type_fields_are format TypeUnit s = signature_is format s
type_fields_are format Partial s = value
type_fields_are format Skeleton s = dwo_id_is s
type_fields_are format SplitCompile s = dwo_id_is s
type_fields_are format SplitType s = signature_is format s

fields_5_are : (offset n : ℕ) (format : Format) (s : Section) → IsByBytes (fields_5_at offset n format s)
unfolding fields_5_at
fields_5_are offset n format s =
    step (unit_type_is s) (λ kind. step (address_size_is kind.1) (λ size.
    step (offset_is format size.1) (λ table. step (type_fields_are format kind.0 table.1) (λ fields. value))))

fields_4_are : (offset n : ℕ) (format : Format) (version : ℕ) (s : Section) → IsByBytes (fields_4_at offset n format version s)
unfolding fields_4_at
fields_4_are offset n format version s = step (offset_is format s) (λ table. step (address_size_is table.1) (λ size. value))

pub header_fields_are : (offset n : ℕ) (format : Format) (s : Section) → IsByBytes (header_fields_at offset n format s)
unfolding header_fields_at
header_fields_are offset n format s =
    step (fixed_is 2 s) (λ version. step (test (is_unknown version.0) UnknownVersion (λ p. cc)) (λ known.
    either (is_before_5 version.0) (fields_4_are offset n format version.0 version.1) (fields_5_are offset n format version.1)))

pub unit_header_is : (n : ℕ) (s : Section) → IsByBytes (unit_header_at n s)
unfolding unit_header_at
unit_header_is n s = step (initial_length_is s) (λ l. step (split_is l.0.0 l.1) (λ unit. step (header_fields_are (n - length s.bytes) (length s.bytes - length unit.1.bytes) l.0.1 unit.0) (λ header. value)))

pub next_header_is : (n : ℕ) (s : Section) → IsByBytes (next_header_at n s)
unfolding next_header_at
next_header_is n s = either (length s.bytes == 0) value (step (unit_header_is n s) (λ header. value))

pub headers_left_are : (n : ℕ) (s : Section) → AreByBytes (headers_left n s)
headers_left_are n s = listed_are (run_of (next_header_at n) s) (run_of_is (next_header_at n) (next_header_is n) s)

pub all_headers_are : (s : Section) → AreByBytes (all_headers s)
all_headers_are s = headers_left_are (length s.bytes) s

-- ---- entries
known_abbreviation_is : (a : Option Abbrev) (s : Section) → IsByBytes (known_abbreviation a s)
known_abbreviation_is None s = fault UnknownAbbreviation (λ p. cc)
known_abbreviation_is (Some a) s = value

pub entry_code_is : (table : List Abbrev) (s : Section) → IsByBytes (entry_code_at table s)
unfolding entry_code_at
entry_code_is table s = step (uleb128_is s) (λ code. either (code.0 == CLOSING_CODE) value (known_abbreviation_is (with_code code.0 table) code.1))

root_specifications_are : (a : Option Abbrev) → IsByBytes (root_specifications a)
root_specifications_are None = fault MissingUnitDie (λ p. cc)
root_specifications_are (Some a) = value

pub root_attributes_are : (e : Encoding) (table : List Abbrev) (s : Section) → IsByBytes (root_attributes e table s)
unfolding root_attributes
root_attributes_are e table s = step (entry_code_is table s) (λ root. step (root_specifications_are root.0) (λ specifications. step (attributes_are e specifications root.1) (λ attributes. value)))

pub root_attributes_of_are : (u : UnitRecord) → IsByBytes (root_attributes_of u)
root_attributes_of_are u = root_attributes_are u.header.encoding u.abbreviations u.header.entries

pub entry_bytes_is : (header : UnitHeaderFields) (offset : Option ℕ) → IsByBytes (entry_bytes_from header offset)
entry_bytes_is header None = value
entry_bytes_is header (Some offset) = either (nat_lt offset header.header_length) outside (either (nat_lt offset (unit_length header)) value outside)

pub entry_is : (unit : EntryUnit) (s : Section) → IsByBytes (entry_at unit s)
entry_is unit s = step (entry_code_is unit.abbreviations s) (λ code. at code.0 code.1)
  where
    at : (a : Option Abbrev) (t : Section) → IsByBytes (entry_of_code unit (a, t))
    at None t = value
    at (Some a) t = step (attributes_are unit.encoding a.attributes t) (λ x. value)

pub item_is : (unit : EntryUnit) (depth : ℤ) (s : Section) → IsByBytes (item_at unit depth s)
unfolding item_at
item_is unit depth s = either (length s.bytes == 0) value (step (entry_is unit s) (λ x. value))

pub entry_abbreviation_is : (table : List Abbrev) (c : EntryCursor) → IsByBytes (entry_abbreviation_at table c)
unfolding entry_abbreviation_at
entry_abbreviation_is table c = step (entry_code_is table c.left) (λ code. value)

pub next_item_is : (unit : EntryUnit) (c : EntryCursor) → IsByBytes (next_item_at unit c)
unfolding next_item_at
next_item_is unit c = step (item_is unit c.depth c.left) (λ x. value)

pub entries_are : (u : UnitRecord) (offset : Option ℕ) → IsByBytes (entries_from u offset)
entries_are u offset = step (entry_bytes_is u.header offset) (λ left. value)

items_after_end : (following : ℤ → Section → Run Item Section) → ((depth : ℤ) (s : Section) → IsByBytes (following depth s).end) → (r : Reading (Option Item)) → IsByBytes r → IsByBytes (items_after following r).end
items_after_end following h (Err e) k = moved_fault k
items_after_end following h (Ok (None, rest)) k = value
items_after_end following h (Ok (Some x, rest)) k = h (depth_after x) rest

pub items_within_end : (unit : EntryUnit) (n : ℕ) (depth : ℤ) (s : Section) → IsByBytes (items_within unit n depth s).end
unfolding items_within
items_within_end unit zero depth s = ends
items_within_end unit (suc n) depth s = items_after_end (items_within unit n) (items_within_end unit n) (item_at unit depth s) (item_is unit depth s)

pub items_from_end : (unit : EntryUnit) (depth : ℤ) (s : Section) → IsByBytes (items_from unit depth s).end
items_from_end unit depth s = items_within_end unit (length s.bytes + 1) depth s

pub items_of_end : (u : UnitRecord) → IsByBytes (items_of u).end
items_of_end u = items_from_end (entry_unit u.header u.abbreviations) (pos 0) u.header.entries

pub items_at_end : (u : UnitRecord) (offset : ℕ) → IsByBytes (items_at u offset).end
items_at_end u offset = at (entry_bytes_from u.header (Some offset)) (entry_bytes_is u.header (Some offset))
  where
    at : (r : Result Section Error) → IsByBytes r → IsByBytes (elim r as (λ _. Run Item Section) [
      | Ok s ↦ items_from (entry_unit u.header u.abbreviations) (pos 0) s
      | Err e ↦ record { items = []; end = Err e }
    ]).end
    at (Ok s) h = items_from_end (entry_unit u.header u.abbreviations) (pos 0) s
    at (Err e) h = moved_fault h

inside_or_closed : (deeper : Bool) (inside : Run Item (Unit {0})) → IsByBytes inside.end → IsByBytes (cond deeper inside (record { items = []; end = Ok tt })).end
inside_or_closed true inside h = h
inside_or_closed false inside h = value

pub items_inside_end : {Z : Type 0} (depth now : ℤ) (xs : List Item) (end : Result Z Error) → IsByBytes end → IsByBytes (items_inside depth now xs end).end
items_inside_end depth now [] end h = inside_or_closed (int_lt depth now) (record { items = []; end = end >>= λ z. Err UnexpectedEof }) (step h (λ z. ends))
items_inside_end depth now (x ∷ xs) end h = inside_or_closed (int_lt depth now) (cons x (items_inside depth (depth_after x) xs end)) (items_inside_end depth (depth_after x) xs end h)

pub subtree_end : {Z : Type 0} (x : Item) (following : Run Item Z) → IsByBytes following.end → IsByBytes (subtree_of x following).end
subtree_end x following h = items_inside_end x.depth (depth_after x) following.items following.end h

-- ---- units
pub root_values_are : (e : Encoding) (table : List Abbrev) (s : Section) → IsByBytes (root_values_of e table s)
unfolding root_values_of
root_values_are e table s = step (root_attributes_are e table s) (λ attributes. value)

pub address_from_is : (d : Sections) (e : Encoding) (base : ℕ) (v : AddressValue) → IsByBytes (address_from d e base v)
address_from_is d e base (Address a) = value
address_from_is d e base (Index i) = indexed_number_is e.address_size base i d.debug_addr

pub low_pc_is : (d : Sections) (e : Encoding) (base : ℕ) (v : Option AddressValue) → IsByBytes (low_pc_of d e base v)
low_pc_is d e base None = value
low_pc_is d e base (Some v) = address_from_is d e base v

pub line_program_of_is : (d : Sections) (e : Encoding) (offset : Option ℕ) → IsByBytes (line_program_of d e offset)
line_program_of_is d e None = value
line_program_of_is d e (Some offset) = step (from_offset_is offset d.debug_line) (λ rest. step (line_program_is e.address_size rest) (λ program. value))

pub completed_record_is : (d : Sections) (header : UnitHeaderFields) (table : List Abbrev) (root : RootValues) → IsByBytes (completed_record d header table root)
unfolding completed_record program_and_low_pc_of
completed_record_is d header table root = step (step (line_program_of_is d header.encoding root.stmt_list) (λ program. step (low_pc_is d header.encoding _ root.low_pc) (λ low. value))) (λ read. value)

pub unit_by_is : (d : Sections) (header : UnitHeaderFields) (read : Result (List Abbrev) Error) → IsByBytes read → IsByBytes (unit_by d header read)
unfolding unit_by
unit_by_is d header read h = step h (λ table. step (root_values_are header.encoding table header.entries) (λ root. completed_record_is d header table root))

pub table_from_is : (offset : ℕ) (s : Section) → IsByBytes (table_from offset s)
table_from_is offset s = step (from_offset_is offset s) (λ rest. table_is rest)

pub unit_record_is : (d : Sections) (header : UnitHeaderFields) → IsByBytes (unit_record_of d header)
unfolding unit_record_of
unit_record_is d header = unit_by_is d header (table_from header.debug_abbrev_offset d.debug_abbrev) (table_from_is header.debug_abbrev_offset d.debug_abbrev)

-- ---- split files
pub dwo_name_is : (u : UnitRecord) → IsByBytes (dwo_name_of u)
dwo_name_is u = step (root_values_are u.header.encoding u.abbreviations u.header.entries) (λ root. value)

pub string_fault_is : (d : Sections) (u : UnitRecord) (v : Option (AttributeValue Section)) → IsByBytes (string_fault_if d u v)
string_fault_is d u None = value
string_fault_is d u (Some v) = fault_of_is (attr_string_is d u v)

pub dwo_name_fault_is : (d : Sections) (u : UnitRecord) → IsByBytes (dwo_name_fault d u)
dwo_name_fault_is d u = step (dwo_name_is u) (λ v. string_fault_is d u v)

-- ---- address ranges
arange_fields_are : (n : ℕ) (format : Format) (s : Section) → IsByBytes (arange_fields_at n format s)
unfolding arange_fields_at
arange_fields_are n format s =
    step (fixed_is 2 s) (λ version. step (test (not (version.0 == ARANGES_VERSION)) UnknownVersion (λ p. cc)) (λ known.
    step (offset_is format version.1) (λ offset. step (address_size_is offset.1) (λ size. step (fixed_is 1 size.1) (λ segment.
    step (test (not (segment.0 == 0)) UnsupportedSegmentSize (λ p. cc)) (λ flat. step (skipped_is _ segment.1) (λ pairs. value)))))))

pub arange_set_is : (s : Section) → IsByBytes (arange_set_at s)
unfolding arange_set_at
arange_set_is s = step (initial_length_is s) (λ l. step (split_is l.0.0 l.1) (λ set. step (arange_fields_are (length s.bytes - length set.1.bytes) l.0.1 set.0) (λ fields. value)))

pub next_set_is : (s : Section) → IsByBytes (next_set_at s)
unfolding next_set_at
next_set_is s = either (length s.bytes == 0) value (step (arange_set_is s) (λ set. value))

pub arange_sets_are : (s : Section) → AreByBytes (arange_sets_of s)
arange_sets_are s = listed_are (run_of next_set_at s) (run_of_is next_set_at next_set_is s)

pub next_pair_is : (size : ℕ) (s : Section) → IsByBytes (next_pair_at size s)
unfolding next_pair_at
next_pair_is size s = either (nat_lt (length s.bytes) (pair_size size)) value (step (address_is size s) (λ address. step (address_is size address.1) (λ span. value)))

-- ---- range lists
two_are : (make : ℕ → ℕ → RangeListEntry) (one other : Section → Reading ℕ) → ((s : Section) → IsByBytes (one s)) → ((s : Section) → IsByBytes (other s)) → (s : Section) → IsByBytes (entry_of_two make one other s)
two_are make one other h k s = step (h s) (λ x. mapped_is (make x.0) (k x.1))

rnglists_fields_are : (size kind : ℕ) (s : Section) → IsByBytes (rnglists_fields_at size kind s)
unfolding rnglists_fields_at
rnglists_fields_are size kind s =
    either (kind == DW_RLE_base_addressx) (mapped_is BaseAddressx (uleb128_is s))
    (either (kind == DW_RLE_startx_endx) (two_are StartxEndx uleb128_at uleb128_at uleb128_is uleb128_is s)
    (either (kind == DW_RLE_startx_length) (two_are StartxLength uleb128_at uleb128_at uleb128_is uleb128_is s)
    (either (kind == DW_RLE_offset_pair) (two_are OffsetPair uleb128_at uleb128_at uleb128_is uleb128_is s)
    (either (kind == DW_RLE_base_address) (mapped_is BaseAddress (address_is size s))
    (either (kind == DW_RLE_start_end) (two_are StartEnd (address_at size) (address_at size) (address_is size) (address_is size) s)
    (either (kind == DW_RLE_start_length) (two_are StartLength (address_at size) uleb128_at (address_is size) uleb128_is s)
    (fault UnknownRangeListEntry (λ p. cc))))))))

rnglists_entry_is : (size : ℕ) (s : Section) → IsByBytes (rnglists_entry_at size s)
unfolding rnglists_entry_at
rnglists_entry_is size s = step (fixed_is 1 s) (λ kind. either (kind.0 == DW_RLE_end_of_list) value (mapped_is Some (rnglists_fields_are size kind.0 kind.1)))

ranges_entry_is : (size : ℕ) (s : Section) → IsByBytes (ranges_entry_at size s)
unfolding ranges_entry_at
ranges_entry_is size s = step (address_is size s) (λ begin. step (address_is size begin.1) (λ end. value))

pub range_list_entry_is : (e : Encoding) (s : Section) → IsByBytes (range_list_entry_at e s)
unfolding range_list_entry_at
range_list_entry_is e s = either (is_before_5 e.version) (ranges_entry_is e.address_size s) (rnglists_entry_is e.address_size s)

pub range_list_entries_end : (e : Encoding) (s : Section) → IsByBytes (range_list_entries e s).end
range_list_entries_end e s = run_of_is (range_list_entry_at e) (range_list_entry_is e) s

pub range_of_entry_is : (d : Sections) (u : UnitRecord) (base : ℕ) (x : RangeListEntry) → IsByBytes (range_of_entry d u base x)
unfolding range_of_entry
range_of_entry_is d u base (BaseAddressx index) = step (indexed_address_is d u index) (λ address. value)
range_of_entry_is d u base (BaseAddress address) = value
range_of_entry_is d u base (OffsetPair begin end) = value
range_of_entry_is d u base (StartxEndx i j) = step (indexed_address_is d u i) (λ begin. step (indexed_address_is d u j) (λ end. value))
range_of_entry_is d u base (StartxLength i n) = step (indexed_address_is d u i) (λ begin. value)
range_of_entry_is d u base (StartEnd begin end) = value
range_of_entry_is d u base (StartLength begin n) = value

first_range_is : (r : Result (Option Range × ℕ) Error) (others : ℕ → List (Result Range Error)) → IsByBytes r → ((base : ℕ) → AreByBytes (others base)) → AreByBytes (with_range_first r others)
first_range_is (Ok (None, base)) others h k = k base
first_range_is (Ok (Some range, base)) others h k = (value, k base)
first_range_is (Err e) others h k = (moved_fault h, tt)

pub ranges_of_entries_are : {Z : Type 0} (d : Sections) (u : UnitRecord) (base : ℕ) (xs : List RangeListEntry) (end : Result Z Error) → IsByBytes end → AreByBytes (ranges_of_entries d u base xs end)
unfolding ranges_of_entries
ranges_of_entries_are d u base [] (Ok z) h = tt
ranges_of_entries_are d u base [] (Err e) h = (moved_fault h, tt)
ranges_of_entries_are d u base (x ∷ xs) end h = first_range_is (range_of_entry d u base x) (λ b. ranges_of_entries d u b xs end) (range_of_entry_is d u base x) (λ b. ranges_of_entries_are d u b xs end h)

pub ranges_from_are : (d : Sections) (u : UnitRecord) (base : ℕ) (s : Section) → AreByBytes (ranges_from d u base s)
ranges_from_are d u base s = ranges_of_entries_are d u base (range_list_entries u.header.encoding s).items (range_list_entries u.header.encoding s).end (range_list_entries_end u.header.encoding s)

pub ranges_are : (d : Sections) (u : UnitRecord) (offset : ℕ) → IsByBytes (ranges_at d u offset)
ranges_are d u offset = step (test (not (is_address_size u.header.encoding.address_size)) UnsupportedAddressSize (λ p. cc)) (λ known. step (from_offset_is offset (range_lists_of d u)) (λ s. value))

-- each range of a list is by bytes, and the fault after them
pub list_items_are : (d : Sections) (u : UnitRecord) (offset : ℕ) → IfOk (ranges_at d u offset) (λ ranges. AreByBytes ranges)
list_items_are d u offset = known (refused_if (not (is_address_size u.header.encoding.address_size)) UnsupportedAddressSize)
  where
    from : (r : Result Section Error) → IfOk (r >>= λ s. Ok (ranges_from d u u.low_pc s)) (λ ranges. AreByBytes ranges)
    from (Ok s) = ranges_from_are d u u.low_pc s
    from (Err e) = tt

    known : (r : Result (Unit {0}) Error) → IfOk (r >>= λ _. from_offset offset (range_lists_of d u) >>= λ s. Ok (ranges_from d u u.low_pc s)) (λ ranges. AreByBytes ranges)
    known (Ok x) = from (from_offset offset (range_lists_of d u))
    known (Err e) = tt

pub list_items_unrefused : (d : Sections) (u : UnitRecord) (offset : ℕ) → IfOk (ranges_at d u offset) (λ ranges. NoneWasRefused ranges)
list_items_unrefused d u offset = at (ranges_at d u offset) (list_items_are d u offset)
  where
    at : (r : Result (List (Result Range Error)) Error) → IfOk r (λ ranges. AreByBytes ranges) → IfOk r (λ ranges. NoneWasRefused ranges)
    at (Ok ranges) h = none_refused ranges h
    at (Err e) h = tt

-- ---- where range lists begin
from_base_is : (base offset : ℕ) → IsByBytes (offset_from_base base offset)
from_base_is base offset = either (fits_u64 (base + offset)) value outside

rnglists_offset_is : (d : Sections) (u : UnitRecord) (index : ℕ) → IsByBytes (rnglists_offset d u index)
rnglists_offset_is d u index = step (indexed_number_is (offset_size u.header.encoding.format) u.rnglists_base index d.debug_rnglists) (λ offset. from_base_is u.rnglists_base offset)

with_base_is : (d : Sections) (u : UnitRecord) (offset : Option ℕ) → IsByBytes (offset_with_base d u offset)
with_base_is d u None = value
with_base_is d u (Some offset) = from_base_is (ranges_base d.file_type u) offset

pub ranges_offset_is : (d : Sections) (u : UnitRecord) (v : AttributeValue Section) → IsByBytes (ranges_offset_of d u v)
unfolding ranges_offset_of
ranges_offset_is d u (values.DebugRngListsIndex index) = rnglists_offset_is d u index
ranges_offset_is d u v = with_base_is d u (line_offset u.header.encoding v)

-- ---- attributes that are taken in one after another
pub taken_in_is : {Y : Type 0} (more : Y → NamedValue → Result Y Error) → ((y : Y) (a : NamedValue) → IsByBytes (more y a)) → (said : Y) (attributes : List NamedValue) → IsByBytes (taken_in more (Ok said) attributes)
taken_in_is more each said attributes = fold_is (λ y a. y >>= λ x. more x a) (λ r a h. step h (λ x. each x a)) (Ok said) value attributes
