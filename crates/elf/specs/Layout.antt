-- Where the fields of an ELF file's headers and symbols stand, for files of 32 and of 64 bits
-- (System V ABI, Object Files: ELF Header, Sections, Symbol Table).
use Rattle.std.specs.Prelude.{ℕ, ◌+◌, ◌≤◌, List, drop}
use Rattle.elf.specs.Common.{RunTimeEndian}
use Rattle.gimli_read.specs.Number.{number_of}
use Rattle.elf.specs.declared.constants.TheConstants.{HALF_SIZE, WORD_SIZE}
use Rattle.elf.specs.declared.layout.Class.{Class}
use Rattle.elf.specs.declared.layout.Class.TheVariants.{Elf32, Elf64}
use Rattle.elf.specs.declared.layout.Layout.{Layout}

-- the number in the n bytes at a place
unfoldable pub layout_number_at : RunTimeEndian → ℕ → ℕ → List ℕ → ℕ
layout_number_at endian at n bytes = number_of endian n (drop at bytes)

-- the offsets and sizes of a class
abbrev pub layout_of : Class → Layout
layout_of Elf32 = record {
  address_size = 4;
  header_size = 52;
  e_type = 16;
  e_shoff = 32;
  e_shentsize = 46;
  e_shnum = 48;
  e_shstrndx = 50;
  section_size = 40;
  sh_name = 0;
  sh_type = 4;
  sh_flags = 8;
  sh_addr = 12;
  sh_offset = 16;
  sh_size = 20;
  sh_link = 24;
  sh_info = 28;
  symbol_size = 16;
  st_name = 0;
  st_info = 12;
  st_shndx = 14;
  st_value = 4;
  st_size = 8;
}
layout_of Elf64 = record {
  address_size = 8;
  header_size = 64;
  e_type = 16;
  e_shoff = 40;
  e_shentsize = 58;
  e_shnum = 60;
  e_shstrndx = 62;
  section_size = 64;
  sh_name = 0;
  sh_type = 4;
  sh_flags = 8;
  sh_addr = 16;
  sh_offset = 24;
  sh_size = 32;
  sh_link = 40;
  sh_info = 44;
  symbol_size = 24;
  st_name = 0;
  st_info = 4;
  st_shndx = 6;
  st_value = 8;
  st_size = 16;
}

-- an address takes no fewer bytes than in a file of 32 bits, and no more than in one of 64
abbrev pub AddressSizeBounds : Layout → Type 0
AddressSizeBounds l = ((layout_of Elf32).address_size ≤ l.address_size)
    × (l.address_size ≤ (layout_of Elf64).address_size)

-- each field of the file's header is within it
abbrev pub FieldsInHeader : Layout → Type 0
FieldsInHeader l = (l.e_type + HALF_SIZE ≤ l.header_size)
    × (l.e_shoff + l.address_size ≤ l.header_size)
    × (l.e_shentsize + HALF_SIZE ≤ l.header_size) × (l.e_shnum + HALF_SIZE ≤ l.header_size)
    × (l.e_shstrndx + HALF_SIZE ≤ l.header_size)

-- each field of a section header is within it
abbrev pub FieldsInSection : Layout → Type 0
FieldsInSection l = ((layout_of Elf32).section_size ≤ l.section_size)
    × (l.section_size ≤ (layout_of Elf64).section_size)
    × (l.sh_name + WORD_SIZE ≤ l.section_size) × (l.sh_type + WORD_SIZE ≤ l.section_size)
    × (l.sh_flags + l.address_size ≤ l.section_size) × (l.sh_addr + l.address_size ≤ l.section_size)
    × (l.sh_offset + l.address_size ≤ l.section_size)
    × (l.sh_size + l.address_size ≤ l.section_size)
    × (l.sh_link + WORD_SIZE ≤ l.section_size) × (l.sh_info + WORD_SIZE ≤ l.section_size)

-- each field of a symbol is within it
abbrev pub FieldsInSymbol : Layout → Type 0
FieldsInSymbol l = ((layout_of Elf32).symbol_size ≤ l.symbol_size)
    × (l.symbol_size ≤ (layout_of Elf64).symbol_size)
    × (l.st_name + WORD_SIZE ≤ l.symbol_size) × (l.st_info + 1 ≤ l.symbol_size)
    × (l.st_shndx + HALF_SIZE ≤ l.symbol_size) × (l.st_value + l.address_size ≤ l.symbol_size)
    × (l.st_size + l.address_size ≤ l.symbol_size)
