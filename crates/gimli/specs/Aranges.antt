-- The address ranges of units (DWARF 5, section 6.1.2): sets of pairs of an address and a length,
-- one set for one unit.
-- Own: a version other than 2 is UnknownVersion, an address size other than 1, 2, 4 and 8 is
-- UnsupportedAddressSize, and a segment size other than 0 is UnsupportedSegmentSize.
-- Own: pairs of length 0, pairs whose sum passes the greatest address, and a tail that is shorter
-- than a pair are passed over.
use Rattle.std.specs.Prelude.{ℕ, ◌+◌, ◌-◌, ◌*◌, ◌%◌, ◌==◌, ◌||◌, not, nat_lt, List, length, filter_map, Option, Some, None, Result, Ok, if◌then◌else◌}
use Rattle.gimli.specs.Common.{Error, UnknownVersion, UnsupportedSegmentSize, Format, Range, Section, Reading, mapped, ◌>>=◌, refused_if, address_at, address_size_at, fixed_at, offset_at, skipped_at, split_at, initial_length_at, run_of, listed, greatest_address}
use Rattle.gimli_read.specs.declared.value.DebugInfoOffset.{DebugInfoOffset}
use Rattle.gimli.specs.declared.constants.TheConstants.{ARANGES_VERSION}

-- a set: where its unit begins in .debug_info, the size of its addresses, and the bytes of its
-- pairs
pub record ArangeSet : Type 0 where
  pub debug_info_offset : DebugInfoOffset
  pub address_size : ℕ
  pub pairs : Section

-- the bytes of a pair of an address and a length, of this size each
abbrev pub pair_size : ℕ → ℕ
pair_size size = 2 * size

-- how many bytes are missing after n bytes up to a multiple of a size
abbrev pub padding : ℕ → ℕ → ℕ
padding size n = (size - n % size) % size

-- the fields after the length of a set of these many bytes; its pairs begin at a multiple of their
-- size, counted from the set's start
unfoldable pub arange_fields_at : ℕ → Format → Section → Result ArangeSet Error
arange_fields_at set_length format s = do
  version ← fixed_at 2 s
  known ← refused_if (not (version.0 == ARANGES_VERSION)) UnknownVersion
  offset ← offset_at format version.1
  address_size ← address_size_at offset.1
  segment_size ← fixed_at 1 address_size.1
  flat ← refused_if (not (segment_size.0 == 0)) UnsupportedSegmentSize
  pairs ← skipped_at
      (padding (pair_size address_size.0) (set_length - length segment_size.1.bytes)) segment_size.1
  Ok (record {
    debug_info_offset = record { 0 = offset.0 };
    address_size = address_size.0;
    pairs = pairs.1;
  })

-- the set at the front of a section
unfoldable pub arange_set_at : Section → Reading ArangeSet
arange_set_at s = do
  initial_length ← initial_length_at s
  set ← split_at initial_length.0.0 initial_length.1
  fields ← arange_fields_at (length s.bytes - length set.1.bytes) initial_length.0.1 set.0
  Ok (fields, set.1)

-- the next set, or none at the section's end
unfoldable pub next_set_at : Section → Reading (Option ArangeSet)
next_set_at s =
    if length s.bytes == 0 then Ok (None, s)
    else mapped Some (arange_set_at s)

-- the sets of a section: it is its sets, one after another, up to its end or the first fault
abbrev pub arange_sets_of : Section → List (Result ArangeSet Error)
arange_sets_of s = listed (run_of next_set_at s)

-- the next address and length, or none where fewer bytes are left than a pair has
unfoldable pub next_pair_at : ℕ → Section → Reading (Option (ℕ × ℕ))
next_pair_at size s =
    if nat_lt (length s.bytes) (pair_size size) then Ok (None, s)
    else (address_at size s >>= λ address.
    mapped (λ span. Some (address.0, span)) (address_at size address.1))

-- the addresses of a pair of addresses of a size, where it has some and all are of that size
abbrev pub arange_of : ℕ → ℕ × ℕ → Option Range
arange_of size pair =
    if pair.1 == 0 || nat_lt (greatest_address size) (pair.0 + pair.1) then None
    else Some (record { begin = pair.0; end = pair.0 + pair.1 })

-- the ranges of the pairs of a set
abbrev pub aranges_of : ℕ → Section → List Range
aranges_of size s = filter_map (arange_of size) (run_of (next_pair_at size) s).items
