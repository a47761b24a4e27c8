-- What is answered of a file of which only some pieces were read, and what the file's own bytes
-- answer (System V ABI, Object Files).
-- Own: what pieces are, and which parts of a file lookups want.
use Rattle.std.specs.Prelude.{◌≡◌, ℕ, true, List, Ok, Err}
use Rattle.elf.specs.Compressed.{decompression_of}
use Rattle.elf.specs.FileImage.{Image, Shows, image_bytes}
use Rattle.elf.specs.Loading.{Loading}
use Rattle.elf.specs.ObjectFile.{ObjectFile, object_file_of}
use Rattle.elf.specs.Sections.{section_at, section_range_at}
use Rattle.elf.specs.Symbols.{symbol_at}
use Rattle.elf.specs.Wanted.{HasWanted, is_wanted_text}

-- the second file has these bytes, and all else as the first one has it
abbrev pub SameButBytes : List ℕ → ObjectFile → ObjectFile → Type 0
SameButBytes bytes f g = g ≡ record f { bytes = bytes }

-- two files answer alike for the section of a name: as it stands, and decompressed, with whether
-- that takes memory
pub record SectionAlike (name : List ℕ) (f g : ObjectFile) : Type 0 where
  pub contents : section_at name f ≡ section_at name g
  pub decompressed : decompression_of name f ≡ decompression_of name g

-- two files answer alike: for the addresses of a section of any name, for the symbol of any probe,
-- and for each section of debug information that lookups read
pub record AnswersAlike (f g : ObjectFile) : Type 0 where
  pub ranges : (name : List ℕ) → section_range_at name f ≡ section_range_at name g
  pub symbols : (probe : ℕ) → symbol_at probe f ≡ symbol_at probe g
  pub sections : (name : List ℕ) → is_wanted_text name ≡ true → SectionAlike name f g

-- the same refusal twice, or two files that answer alike, the second one of these bytes
abbrev pub LoadAlike : List ℕ → Loading ObjectFile → Loading ObjectFile → Type 0
LoadAlike bytes (Ok f) (Ok g) = SameButBytes bytes f g × AnswersAlike f g
LoadAlike bytes (Err d) (Err e) = d ≡ e
LoadAlike bytes (Ok f) (Err e) = ⊥
LoadAlike bytes (Err d) (Ok g) = ⊥

-- pieces of a file that have all that is wanted of it load as its own bytes do
abbrev pub ImagesLoadAlike : Type 0
ImagesLoadAlike =
    (image : Image) (bytes : List ℕ) → Shows image bytes → HasWanted image
    → LoadAlike bytes (object_file_of (image_bytes image)) (object_file_of bytes)
