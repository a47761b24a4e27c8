-- Files by their paths, and what becomes of sections of theirs that are compressed.
-- Own: a path has the bytes of one file, or none: no file is there, or it can't be read.
use Rattle.std.specs.Prelude.{◌≡◌, ℕ, List, [], Option, Some, None, find, if◌then◌else◌, option_map, string_bytes, Vec}
use Rattle.std.specs.Str.{bytes_eq}
use Rattle.std.specs.declared.alloc.Global.{Global}
use Rattle.std.specs.declared.string.String.{String}
use Rattle.addr2line.specs.declared.compressed.CompressedSections.{CompressedSections}

-- the bytes at a path, if there are any
abbrev pub Files : Type 0
Files = List ℕ → Option (List ℕ)

-- files, and what becomes of sections of theirs that are compressed
pub record ReadFiles : Type 0 where
  pub files : Files
  pub compressed : CompressedSections

-- files that are read so
abbrev pub as_read : CompressedSections → Files → ReadFiles
as_read compressed files = record { files = files; compressed = compressed }

-- the same where the files are known
abbrev pub as_read_if_known : CompressedSections → Option Files → Option ReadFiles
as_read_if_known compressed files = option_map (as_read compressed) files

-- it is known what files there are, and that none is at a path
abbrev pub HasNoFile : Option Files → List ℕ → Type 0
HasNoFile files path = option_map (λ (held : Files). held path) files ≡ Some None

-- it is known what files there are, and that the one at a path has no byte
abbrev pub HasEmptyFile : Option Files → List ℕ → Type 0
HasEmptyFile files path = option_map (λ (held : Files). held path) files ≡ Some (Some [])

-- the files after one is put at a path, in place of one that was there
abbrev pub with_file : Files → List ℕ → List ℕ → Files
with_file files path bytes = λ other. if bytes_eq other path then Some bytes else files other

-- the files of a list of paths with bytes, in which the first of a path counts
abbrev pub listed_files : List (List ℕ × List ℕ) → Files
listed_files entries = λ path. option_map (λ (e : _). e.1) (find (λ e. bytes_eq path e.0) entries)

-- a path and its bytes, as files in memory hold them
abbrev pub as_named_file : String Global × Vec ℕ Global → List ℕ × List ℕ
as_named_file e = (string_bytes e.0, e.1.items)
