-- The symbols of a file, and the one of a probe (System V ABI, Object Files: Symbol Table).
-- Own: the first SYMTAB is the table, else the first DYNSYM. A table or strings outside the file
-- count as none, and a short tail of the table is passed over.
-- Own: a symbol is usable if it has a section, is of type NOTYPE, OBJECT or FUNC, and has a
-- nonempty name in UTF-8.
-- Own: a probe's symbol is the one with the greatest address not above it, if its size is 0 or
-- the probe is below its end. Of several at one address OBJECT and FUNC come before NOTYPE, then
-- the binds GLOBAL and WEAK before others, then the later entry before the earlier.
-- Own: the last address, 2^64 - 1, has no symbol, as no byte stands there whose next address exists.
use Rattle.std.specs.List.{find}
use Rattle.std.specs.Option.{option_map_or, option_or}
use Rattle.std.specs.Prelude.{ℕ, zero, suc, ◌+◌, ◌-◌, ◌^◌, ◌/◌, ◌%◌, ◌==◌, ◌&&◌, ◌||◌, Bool, not, List, [], ◌∷◌, Option, Some, None, if◌then◌else◌, drop, length, filter, slice_index, nat_le, nat_lt, is_some, option_map, option_and_then}
use Rattle.std.specs.Str.{is_utf8}
use Rattle.elf.specs.Common.{RunTimeEndian}
use Rattle.gimli_read.specs.Topmost.{topmost, last}
use Rattle.elf.specs.declared.constants.TheConstants.{HALF_SIZE, WORD_SIZE, SHN_UNDEF, SHT_SYMTAB, SHT_DYNSYM, ST_TYPE_COUNT, STT_NOTYPE, STT_OBJECT, STT_FUNC, STB_GLOBAL, STB_WEAK}
use Rattle.elf.specs.declared.layout.Layout.{Layout}
use Rattle.elf.specs.declared.section.SectionHeader.{SectionHeader}
use Rattle.elf.specs.declared.symbol.SymbolEntry.{SymbolEntry}
use Rattle.elf.specs.declared.symbol.Symbol.{Symbol}
use Rattle.elf.specs.Layout.{layout_number_at, layout_of}
use Rattle.elf.specs.SectionBytes.{section_bytes_in, string_table_in, table_text_at}
use Rattle.elf.specs.ObjectFile.{ObjectFile}

-- a name and the address that has it
pub record NamedAddress : Type 0 where
  pub name : List ℕ
  pub address : ℕ

-- the value of a symbol
abbrev pub named_address : Symbol → NamedAddress
named_address s = record { name = s.name.now; address = s.address }

-- the section that is the symbol table
abbrev pub symbol_table : List SectionHeader → Option SectionHeader
symbol_table sections = option_or (find (λ s. s.kind == SHT_SYMTAB) sections)
    (find (λ s. s.kind == SHT_DYNSYM) sections)

-- the bytes of the symbol table
abbrev pub symbol_bytes : List ℕ → List SectionHeader → List ℕ
symbol_bytes bytes sections = option_map_or (λ t. t)
    (option_and_then (section_bytes_in bytes) (symbol_table sections)) []

-- the number of the section that has the symbols' names
abbrev pub symbol_names_number : List SectionHeader → ℕ
symbol_names_number sections = option_map_or (λ (s : SectionHeader). s.link)
    (symbol_table sections) 0

-- the table of the symbols' names
abbrev pub symbol_names_of : ObjectFile → List ℕ
symbol_names_of file = string_table_in file.bytes file.sections (symbol_names_number file.sections)

-- the entry at the front
abbrev pub symbol_entry_in : RunTimeEndian → Layout → List ℕ → SymbolEntry
symbol_entry_in endian l bytes = record {
  name = layout_number_at endian l.st_name WORD_SIZE bytes;
  info = slice_index bytes l.st_info;
  section = layout_number_at endian l.st_shndx HALF_SIZE bytes;
  address = layout_number_at endian l.st_value l.address_size bytes;
  size = layout_number_at endian l.st_size l.address_size bytes;
}

-- the n entries at the front
abbrev pub entries_in : RunTimeEndian → Layout → ℕ → List ℕ → List SymbolEntry
entries_in endian l zero bytes = []
entries_in endian l (suc n) bytes = symbol_entry_in endian l bytes
    ∷ entries_in endian l n (drop l.symbol_size bytes)

-- the bytes, if they are UTF-8
abbrev pub utf8_from : List ℕ → Option (List ℕ)
utf8_from bytes = if is_utf8 bytes then Some bytes else None

-- a text that may be a symbol's name
abbrev pub name_from : List ℕ → Option (List ℕ)
name_from text = if length text == 0 then None else utf8_from text

-- the name of an entry
abbrev pub symbol_entry_name : List ℕ → SymbolEntry → Option (List ℕ)
symbol_entry_name names e = option_and_then name_from (table_text_at names e.name)

-- the type of a symbol
abbrev pub symbol_type : SymbolEntry → ℕ
symbol_type e = e.info % ST_TYPE_COUNT

-- the bind of a symbol
abbrev pub symbol_bind : SymbolEntry → ℕ
symbol_bind e = e.info / ST_TYPE_COUNT

-- whether the type is one that a usable symbol has
abbrev pub is_usable_type : ℕ → Bool
is_usable_type t = t == STT_NOTYPE || t == STT_OBJECT || t == STT_FUNC

-- whether an entry is a usable symbol
abbrev pub is_usable : List ℕ → SymbolEntry → Bool
is_usable names e = not (e.section == SHN_UNDEF)
    && (is_usable_type (symbol_type e) && is_some (symbol_entry_name names e))

-- the usable symbols of a table
abbrev pub usable_in : RunTimeEndian → Layout → List ℕ → List ℕ → List SymbolEntry
usable_in endian l names bytes = filter (is_usable names)
    (entries_in endian l (length bytes / l.symbol_size) bytes)

-- the usable symbols of a file, in the order of its table
abbrev pub symbols_of : ObjectFile → List SymbolEntry
symbols_of file = usable_in file.endian (layout_of file.class) (symbol_names_of file)
    (symbol_bytes file.bytes file.sections)

-- whether the bind is preferred
abbrev pub is_preferred_bind : ℕ → Bool
is_preferred_bind b = b == STB_GLOBAL || b == STB_WEAK

-- the rank of a symbol among those at its address: by its type, then by its bind
abbrev pub preference : SymbolEntry → ℕ
preference e = (if symbol_type e == STT_NOTYPE then 0 else 2)
    + (if is_preferred_bind (symbol_bind e) then 1 else 0)

-- of the symbols at or below the probe those with the greatest address, of these the preferred
-- ones, of these the last
unfoldable pub nearest_symbol : ℕ → List SymbolEntry → Option SymbolEntry
nearest_symbol probe symbols = last (topmost preference
    (topmost (λ e. e.address) (filter (λ e. nat_le e.address probe) symbols)))

-- whether a symbol at or below the probe covers it: none covers the last address
abbrev pub covers : ℕ → SymbolEntry → Bool
covers probe e = nat_lt probe (2 ^ 64 - 1) && (e.size == 0 || nat_lt probe (e.address + e.size))

-- the name, which each usable symbol has, and the address of a probe's symbol
unfoldable pub symbol_at : ℕ → ObjectFile → Option NamedAddress
symbol_at probe file = option_and_then (λ e.
    if covers probe e
    then option_map (λ name. record { name = name; address = e.address })
    (symbol_entry_name (symbol_names_of file) e)
    else None) (nearest_symbol probe (symbols_of file))
