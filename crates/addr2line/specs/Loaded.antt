-- What a loader is made from, by the files that it reads (System V ABI, Object Files; DWARF 5,
-- sections 7.3.6 and 7.5).
-- Own: the first fault in the order of the steps counts: the file can't be read, then what its
-- bytes say, then a section in the order of their names; the same of the supplementary file, if one
-- is named, in its own byte order; then the context's.
use Rattle.std.specs.Prelude.{◌≡◌, ℕ, Bool, List, Option, Some, None, is_some, Ok, Err}
use Rattle.addr2line.specs.Common.{◌>>=◌, Sections, SupSections, Io, Loading, ObjectFile, object_file_of}
use Rattle.gimli.specs.declared.dwarf.DwarfFileType.TheVariants.{Main}
use Rattle.addr2line.specs.declared.compressed.CompressedSections.{CompressedSections}
use Rattle.addr2line.specs.Context.{ContextState, new_context}
use Rattle.addr2line.specs.FileSections.{as_file, main_section, sections_by}
use Rattle.addr2line.specs.Files.{Files, ReadFiles}
use Rattle.addr2line.specs.SplitFiles.{of_file}

-- the file that the bytes of a path are
abbrev pub object_in : Option (List ℕ) → Loading ObjectFile
object_in None = Err Io
object_in (Some bytes) = object_file_of bytes

-- the file at a path
unfoldable pub object_at : Files → List ℕ → Loading ObjectFile
object_at files path = object_in (files path)

-- the sections of a file
abbrev pub sections_of_file : CompressedSections → ObjectFile → Loading SupSections
sections_of_file compressed file = sections_by (main_section compressed file)

-- sections as those of a supplementary file that is there
abbrev pub as_sup : Loading SupSections → Loading (Option SupSections)
as_sup sections = sections >>= λ sup. Ok (Some sup)

-- the sections of a supplementary file, if one is named
unfoldable pub sup_at : ReadFiles → Option (List ℕ) → Loading (Option SupSections)
sup_at read None = Ok None
sup_at read (Some path) =
    as_sup (object_at read.files path >>= sections_of_file read.compressed)

-- the sections of a main file with those of a supplementary one, or none
abbrev pub main_with_sup : SupSections → Loading (Option SupSections) → Loading Sections
main_with_sup main sup = sup >>= λ s. Ok (as_file Main s main)

-- the same, by the main file
abbrev pub dwarf_with : CompressedSections → ObjectFile → Loading (Option SupSections)
    → Loading Sections
dwarf_with compressed file sup =
    sections_of_file compressed file >>= λ main. main_with_sup main sup

-- the sections of a main file and of the supplementary one
unfoldable pub dwarf_at : ReadFiles → ObjectFile → Option (List ℕ) → Loading Sections
dwarf_at read file sup_path = dwarf_with read.compressed file (sup_at read sup_path)

-- the context of sections
abbrev pub context_at : Loading Sections → Loading ContextState
context_at sections = sections >>= λ d. of_file (new_context d)

-- what a loader is made from: the main file, and the context of its sections
unfoldable pub loaded : ReadFiles → List ℕ → Option (List ℕ)
    → Loading (ObjectFile × ContextState)
loaded read path sup_path = do
  file ← object_at read.files path
  context ← context_at (dwarf_at read file sup_path)
  Ok (file, context)

-- the sections of the supplementary file that bytes are, none where there are no bytes
abbrev pub sup_of_bytes : CompressedSections → Option (List ℕ) → Loading (Option SupSections)
sup_of_bytes choice None = Ok None
sup_of_bytes choice (Some bytes) =
    as_sup (object_file_of bytes >>= sections_of_file choice)

-- what bytes are, and those of a supplementary file: the file, and the context of its sections
unfoldable pub loaded_bytes : CompressedSections → List ℕ → Option (List ℕ)
    → Loading (ObjectFile × ContextState)
loaded_bytes compressed bytes sup = do
  file ← object_file_of bytes
  context ← context_at (dwarf_with compressed file (sup_of_bytes compressed sup))
  Ok (file, context)

-- there are bytes that are this file
abbrev pub IsFileOfBytes : ObjectFile → Type 0
IsFileOfBytes file = (bytes : List ℕ) × (object_file_of bytes ≡ Ok file)

-- these are the sections of a supplementary file that some bytes are, or none, as there is such a
-- file or not
abbrev pub AreSupOfBytes : CompressedSections → Bool → Option SupSections → Type 0
AreSupOfBytes compressed has_sup sections = (bytes : Option (List ℕ))
    × (is_some bytes ≡ has_sup) × (sup_of_bytes compressed bytes ≡ Ok sections)

-- these are the sections of a main file with those of such a supplementary file, or with none
abbrev pub AreSectionsOf : CompressedSections → Bool → ObjectFile → Sections → Type 0
AreSectionsOf compressed has_sup file d = (sup : Option SupSections)
    × AreSupOfBytes compressed has_sup sup × (dwarf_with compressed file (Ok sup) ≡ Ok d)

-- this is a main file that some bytes are, and the new context of its sections
pub record IsLoaded (compressed : CompressedSections) (has_sup : Bool) (file : ObjectFile)
    (context : ContextState) : Type 0 where
  pub file_is : IsFileOfBytes file
  pub sections : Sections
  pub sections_are : AreSectionsOf compressed has_sup file sections
  pub context_is : new_context sections ≡ Ok context
