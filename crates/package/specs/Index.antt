-- The index of a package (DWARF 5, section 7.3.5.3): a hash table from identifiers to rows, and for
-- each row which parts of the package's sections belong to its unit. In the GNU form, of version 2,
-- the version has four bytes, and some sections have other numbers.
-- Own: a version that is neither 5 nor, in the GNU form, 2 is UnknownVersion.
-- Own: a number of slots that is neither 0 nor a power of two, or less than that of the units, is
-- OffsetOutOfBounds: a search might not come to each slot, or no slot could lead to some row.
-- Own: a header or a table that isn't wholly in the index is UnexpectedEof.
use Rattle.std.specs.Prelude.{ℕ, ◌+◌, ◌*◌, ◌==◌, ◌&&◌, ◌||◌, not, nat_lt, nat_le, Bool, List, length, map, drop, Result, Ok, Err, if◌then◌else◌}
use Rattle.std.specs.Int.{is_power_of_two}
use Rattle.std.specs.List.{range_with_len}
use Rattle.package.specs.Common.{Error, OffsetOutOfBounds, UnexpectedEof, UnknownVersion, Section, ◌>>=◌, refused_if, fixed_at, number_of, skipped_at}
use Rattle.package.specs.declared.constants.TheConstants.{GNU_INDEX_VERSION, INDEX_HEADER_SIZE, INDEX_VERSION}
use Rattle.package.specs.declared.header.IndexHeader.{IndexHeader}

-- of each slot the identifier and the number of a row, 0 where it is empty; of each column the
-- number of its section; and of each row, by columns, where the parts of its unit begin and how
-- many bytes they have
pub record Index : Type 0 where
  pub version : ℕ
  pub ids : List ℕ
  pub rows : List ℕ
  pub columns : List ℕ
  pub offsets : List (List ℕ)
  pub sizes : List (List ℕ)

-- the version that the first four bytes, or the first two, say
abbrev pub version_of : ℕ → ℕ → Result ℕ Error
version_of word half =
    if word == GNU_INDEX_VERSION then Ok GNU_INDEX_VERSION
    else if half == INDEX_VERSION then Ok INDEX_VERSION
    else Err UnknownVersion

-- the version of an index
unfoldable pub version_at : Section → Result ℕ Error
version_at s = do
  word ← fixed_at 4 s
  half ← fixed_at 2 s
  version_of word.0 half.0

-- whether an index of so many units may have so many slots
abbrev pub is_slot_count : ℕ → ℕ → Bool
is_slot_count unit_count slot_count =
    (slot_count == 0 || is_power_of_two slot_count) && nat_le unit_count slot_count

-- the header: a version, which has four bytes with those that are reserved, and how many columns,
-- rows and slots there are
unfoldable pub index_header_at : Section → Result IndexHeader Error
index_header_at s = do
  version ← version_at s
  counts ← skipped_at 4 s
  section_count ← fixed_at 4 counts.1
  unit_count ← fixed_at 4 section_count.1
  slot_count ← fixed_at 4 unit_count.1
  sound ← refused_if (not (is_slot_count unit_count.0 slot_count.0)) OffsetOutOfBounds
  Ok (record {
    version = version;
    section_count = section_count.0;
    unit_count = unit_count.0;
    slot_count = slot_count.0;
  })

-- where the row numbers of the slots begin, in bytes from the start of the index
abbrev pub rows_place : IndexHeader → ℕ
rows_place h = INDEX_HEADER_SIZE + 8 * h.slot_count

-- where the section numbers of the columns begin
abbrev pub columns_place : IndexHeader → ℕ
columns_place h = rows_place h + 4 * h.slot_count

-- where the offsets begin
abbrev pub offsets_place : IndexHeader → ℕ
offsets_place h = columns_place h + 4 * h.section_count

-- where the sizes begin
abbrev pub sizes_place : IndexHeader → ℕ
sizes_place h = offsets_place h + 4 * (h.section_count * h.unit_count)

-- where the sizes end
abbrev pub tables_end : IndexHeader → ℕ
tables_end h = sizes_place h + 4 * (h.section_count * h.unit_count)

-- the number in so many bytes from a place on
unfoldable pub number_from : ℕ → ℕ → Section → ℕ
number_from width place s = number_of s.endian width (drop place s.bytes)

-- so many numbers of a width, one after another from a place on
abbrev pub numbers_from : ℕ → ℕ → ℕ → Section → List ℕ
numbers_from width count place s =
    map (λ n. number_from width (place + width * n) s) (range_with_len 0 count)

-- so many rows of numbers of four bytes for so many columns, one after another from a place on
abbrev pub number_rows_from : ℕ → ℕ → ℕ → Section → List (List ℕ)
number_rows_from rows columns place s =
    map (λ row. numbers_from 4 columns (place + 4 * (row * columns)) s) (range_with_len 0 rows)

-- the tables that a header announces, one after another
unfoldable pub index_by_header : IndexHeader → Section → Index
index_by_header h s = record {
  version = h.version;
  ids = numbers_from 8 h.slot_count INDEX_HEADER_SIZE s;
  rows = numbers_from 4 h.slot_count (rows_place h) s;
  columns = numbers_from 4 h.section_count (columns_place h) s;
  offsets = number_rows_from h.unit_count h.section_count (offsets_place h) s;
  sizes = number_rows_from h.unit_count h.section_count (sizes_place h) s;
}

-- the index in a section, which may go on after it
unfoldable pub index_at : Section → Result Index Error
index_at s = do
  header ← index_header_at s
  whole ← refused_if (nat_lt (length s.bytes) (tables_end header)) UnexpectedEof
  Ok (index_by_header header s)
