-- The bytes of a file that are a section's, and the texts of a table (System V ABI, Object Files:
-- Sections, String Table).
-- Own: section 0 is no string table (SHN_UNDEF), and a string table outside the file is an empty
-- one.
-- Own: a text outside its table, or without its zero byte, is no text.
use Rattle.std.specs.List.{position}
use Rattle.std.specs.Option.{option_map_or}
use Rattle.std.specs.Prelude.{ℕ, ◌+◌, ◌==◌, Bool, List, [], Option, Some, None, if◌then◌else◌, drop, take, length, nat_le, nat_lt, option_map, option_and_then}
use Rattle.std.specs.List.{slice_get}
use Rattle.elf.specs.declared.constants.TheConstants.{SHN_UNDEF, SHT_NOBITS}
use Rattle.elf.specs.declared.section.SectionHeader.{SectionHeader}

-- whether a section has no bytes in the file
abbrev pub is_nobits : SectionHeader → Bool
is_nobits s = s.kind == SHT_NOBITS

-- whether a section's bytes aren't all within the bytes of the file
abbrev pub is_outside : List ℕ → SectionHeader → Bool
is_outside bytes s = nat_lt (length bytes) (s.offset + s.size)

-- the bytes of the file from the section's offset on, as many as its size
abbrev pub bytes_at : List ℕ → SectionHeader → List ℕ
bytes_at bytes s = take s.size (drop s.offset bytes)

-- the bytes of a section: none for NOBITS, and no answer where they stand outside the file
abbrev pub section_bytes_in : List ℕ → SectionHeader → Option (List ℕ)
section_bytes_in bytes s = if is_nobits s then Some []
    else if is_outside bytes s then None
    else Some (bytes_at bytes s)

-- the string table that a section number names
abbrev pub string_table_in : List ℕ → List SectionHeader → ℕ → List ℕ
string_table_in bytes sections n = if n == SHN_UNDEF then []
    else option_map_or (λ t. t) (option_and_then (section_bytes_in bytes) (slice_get sections n)) []

-- the text at the front, up to its zero byte
abbrev pub front_text : List ℕ → Option (List ℕ)
front_text bytes = option_map (λ n. take n bytes) (position (λ b. b == 0) bytes)

-- the text at a place of a string table
abbrev pub table_text_at : List ℕ → ℕ → Option (List ℕ)
table_text_at table at = front_text (drop at table)

-- the text at a place of a string table, if it has no more bytes than the limit
abbrev pub short_text_at : ℕ → List ℕ → ℕ → Option (List ℕ)
short_text_at limit table at = option_and_then
    (λ text. if nat_le (length text) limit then Some text else None) (table_text_at table at)
