-- What is kept of a file beside its bytes, as the private functions see it: its string tables, its
-- symbols, and which sections stand in one piece.
use Rattle.std.specs.List.{starts_with}
use Rattle.std.specs.Option.{option_map_or}
use Rattle.std.specs.Prelude.{◌≡◌, ℕ, ◌||◌, Bool, true, false, not, List, Some, nat_eq, slice_get}
use Rattle.elf.specs.Common.{RunTimeEndian}
use Rattle.gimli_read.specs.Section.{Section}
use Rattle.elf.specs.declared.layout.Class.{Class}
use Rattle.elf.specs.declared.section.SectionHeader.{SectionHeader}
use Rattle.elf.specs.declared.symbol.SymbolEntry.{SymbolEntry}
use Rattle.elf.specs.FileImage.{Image, image_bytes, is_held}
use Rattle.elf.specs.Layout.{layout_of}
use Rattle.elf.specs.SectionBytes.{is_outside, string_table_in, table_text_at}
use Rattle.elf.specs.Sections.{is_compressed, zdebug_prefix}
use Rattle.elf.specs.Symbols.{symbol_bytes, symbol_names_number, usable_in}
use Rattle.elf.specs.SymbolTable.{IsSymbolTable}
use Rattle.elf.specs.Wanted.{is_wanted_section}

-- the names of the sections, those of the symbols, and the sorted symbols
pub record HasTables (bytes : List ℕ) (endian : RunTimeEndian) (class : Class)
    (sections : List SectionHeader) (name_table : ℕ) (section_names symbol_names : Section)
    (table : List SymbolEntry) : Type 0 where
  pub section_names_are : section_names.bytes ≡ string_table_in bytes sections name_table
  pub symbol_names_are : symbol_names.bytes
      ≡ string_table_in bytes sections (symbol_names_number sections)
  pub symbols : IsSymbolTable (usable_in endian (layout_of class) symbol_names.bytes
      (symbol_bytes bytes sections)) table

-- whether a section's name begins with .zdebug_
abbrev pub has_zdebug_name : List ℕ → SectionHeader → Bool
has_zdebug_name names s = option_map_or (λ t. starts_with nat_eq t zdebug_prefix)
    (table_text_at names s.name) false

-- whether a section's bytes are a header and a stream
abbrev pub is_packed : List ℕ → SectionHeader → Bool
is_packed names s = is_compressed s || has_zdebug_name names s

-- whether the bytes of a section, if lookups ask for it, it is packed and they are in the file, stand
-- in one piece
abbrev pub is_readable : Image → List ℕ → SectionHeader → Bool
is_readable image names s = not (is_wanted_section names s) || (not (is_packed names s)
    || (is_outside (image_bytes image) s || is_held s.offset s.size image))

-- the bytes of each packed section in the file that lookups ask for stand in one piece
abbrev pub AreReadable : Image → List ℕ → List SectionHeader → Type 0
AreReadable image names sections = (n : ℕ) (s : SectionHeader) → slice_get sections n ≡ Some s
    → is_readable image names s ≡ true
