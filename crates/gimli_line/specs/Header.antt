-- What a line program's header and its tables say (DWARF 5, section 6.2.4), and what a program has.
-- Own: OutOfMemory is an answer to a copy of a header only where memory may be taken for it.
use Rattle.std.specs.Prelude.{◌≡◌, ◌++◌, ℕ, ◌-◌, ◌==◌, ◌||◌, not, Bool, false, List, length, slice_get, Option, Some, None, if◌then◌else◌}
use Rattle.gimli_line.specs.Common.{Encoding, Section, is_before_5}
use Rattle.gimli_read.specs.declared.value.AttributeValue.{AttributeValue}
use Rattle.gimli_read.specs.HeldBytes.{holds_bytes}
use Rattle.gimli_line.specs.declared.encoding.LineEncoding.{LineEncoding}

-- a file: its path, a value of a form of strings, and its directory by index
pub record File : Type 0 where
  pub path_name : AttributeValue Section
  pub directory_index : ℕ

-- a header and its tables
pub record Header : Type 0 where
  pub encoding : Encoding
  pub line_encoding : LineEncoding
  pub standard_opcode_lengths : Section
  pub include_directories : List (AttributeValue Section)
  pub file_names : List File

-- a header, and the bytes of the program that follow it
pub record Program : Type 0 where
  pub header : Header
  pub program : Section

-- whether memory may be taken for a copy of a header: for its tables, or where bytes are shared
abbrev pub header_copy_takes_memory : Bool → Header → Bool
header_copy_takes_memory shares h =
    shares || not (length h.include_directories == 0) || not (length h.file_names == 0)

-- an entry of a table, counted from 1 below version 5 and from 0 in it
abbrev pub entry_of : {A : Type 0} → ℕ → ℕ → List A → Option A
entry_of version n entries =
    if is_before_5 version then (if n == 0 then None else slice_get entries (n - 1))
    else slice_get entries n

-- a file by its index
abbrev pub file_of : Header → ℕ → Option File
file_of h n = entry_of h.encoding.version n h.file_names

-- the directory that a file names
abbrev pub directory_of : Header → File → Option (AttributeValue Section)
directory_of h f = entry_of h.encoding.version f.directory_index h.include_directories

-- whether there is a directory that holds bytes of the section
abbrev pub is_in_bytes : Option (AttributeValue Section) → Bool
is_in_bytes None = false
is_in_bytes (Some value) = holds_bytes value

-- the files of two headers, each with those that are still to be defined, are the same, and so is
-- the rest of the headers
abbrev pub KeepsFilesOf : Header → List File → Header → List File → Type 0
KeepsFilesOf old to_define new still_to_define =
    (old.file_names ++ to_define ≡ new.file_names ++ still_to_define)
    × (new ≡ record old { file_names = new.file_names })
