-- Which parts of an ELF file lookups read, and whether a file of which only some pieces were read
-- has them (System V ABI, Object Files; DWARF 5, section 7.5).
-- Own: they are the file's header, the section headers, the names of the sections, the symbols with
-- their names, and the sections of debug information that lookups know by name, with .debug_ or
-- .zdebug_ before it and perhaps .dwo behind it; and of a file that is refused, what refuses it.
use Rattle.std.specs.List.{list_all, starts_with}
use Rattle.std.specs.Option.{option_map_or}
use Rattle.std.specs.Prelude.{◌≡◌, ◌⊎◌, ℕ, ◌+◌, ◌*◌, ◌&&◌, ◌||◌, Bool, false, true, not, List, ◌==◌, Ok, Err, drop, length, nat_eq, nat_lt, codes, slice_get}
use Rattle.std.specs.Str.{bytes_eq}
use Rattle.elf.specs.declared.constants.TheConstants.{EHDR_SIZE_MAX, HALF_SIZE}
use Rattle.elf.specs.declared.header.FileHeader.{FileHeader}
use Rattle.elf.specs.declared.header.Ident.{Ident}
use Rattle.elf.specs.declared.section.SectionHeader.{SectionHeader}
use Rattle.elf.specs.FileImage.{Image, IsWhole, image_bytes, is_held}
use Rattle.elf.specs.Header.{header_in, ident_in}
use Rattle.elf.specs.Layout.{layout_number_at, layout_of}
use Rattle.elf.specs.Loading.{Loading}
use Rattle.elf.specs.ObjectFile.{ObjectFile, object_file_with}
use Rattle.elf.specs.SectionBytes.{is_nobits, is_outside, table_text_at}
use Rattle.elf.specs.Sections.{debug_prefix, section_names_of, zdebug_prefix}
use Rattle.elf.specs.Symbols.{symbol_names_number, symbol_table}

-- whether a text is a stem, or one with .dwo behind it, as in split files
abbrev pub is_stem_text : List ℕ → List ℕ → Bool
is_stem_text text stem = starts_with nat_eq text stem && (length text == length stem
    || bytes_eq (drop (length stem) text) (codes ".dwo"))

-- whether it is what the name of a section has behind .debug_ that has units or lines
abbrev pub is_unit_stem : List ℕ → Bool
is_unit_stem text = is_stem_text text (codes "abbrev") || (is_stem_text text (codes "info")
    || (is_stem_text text (codes "line") || is_stem_text text (codes "line_str")))

-- the same of one that units name ranges or addresses in, or texts
abbrev pub is_table_stem : List ℕ → Bool
is_table_stem text = is_stem_text text (codes "addr") || (is_stem_text text (codes "aranges")
    || (is_stem_text text (codes "ranges") || (is_stem_text text (codes "rnglists")
    || (is_stem_text text (codes "str") || is_stem_text text (codes "str_offsets")))))

-- whether it is one of both
abbrev pub is_wanted_stem : List ℕ → Bool
is_wanted_stem text = is_unit_stem text || is_table_stem text

-- whether a text is the name of a section of debug information that is wanted: each that lookups
-- read, and with .dwo behind them also addr, aranges, ranges and line_str, which none reads
abbrev pub is_wanted_text : List ℕ → Bool
is_wanted_text text =
    (starts_with nat_eq text debug_prefix && is_wanted_stem (drop (length debug_prefix) text))
    || (starts_with nat_eq text zdebug_prefix && is_wanted_stem (drop (length zdebug_prefix) text))

-- whether a section has such a name
abbrev pub is_wanted_section : List ℕ → SectionHeader → Bool
is_wanted_section names s = option_map_or is_wanted_text (table_text_at names s.name) false

-- whether one piece has the bytes of a section that isn't NOBITS, if they are in the file; where it
-- has no bytes, a piece still has to have its place in it or at its end
abbrev pub shows_section : Image → SectionHeader → Bool
shows_section image s = is_nobits s
    || (is_outside (image_bytes image) s || is_held s.offset s.size image)

-- the same of the section of a number, if there is one
abbrev pub is_shown_at : Image → List SectionHeader → ℕ → Bool
is_shown_at image sections n = option_map_or (shows_section image) (slice_get sections n) true

-- the same of the names of the sections, and of the symbols with their names
abbrev pub shows_tables : Image → ObjectFile → Bool
shows_tables image file = is_shown_at image file.sections file.name_table
    && (is_shown_at image file.sections (symbol_names_number file.sections)
    && option_map_or (shows_section image) (symbol_table file.sections) true)

-- the same of the sections of debug information
abbrev pub shows_sections : Image → ObjectFile → Bool
shows_sections image file = list_all (λ s.
    not (is_wanted_section (section_names_of file) s) || shows_section image s) file.sections

-- whether pieces have the section headers, one at least, and what is wanted of the sections
abbrev pub shows_all : Image → Ident → FileHeader → Bool
shows_all image ident header =
    let size = (layout_of ident.class).section_size in
    let file = object_file_with (image_bytes image) ident header in
    is_held header.start size image && (is_held header.start (header.count * size) image
    && (shows_tables image file && shows_sections image file))

-- whether pieces have the number of section headers, where section 0 has it and the header is whole
abbrev pub shows_count : Image → Ident → Bool
shows_count image ident =
    let bytes = image_bytes image in
    let l = layout_of ident.class in
    let at = layout_number_at ident.endian l.e_shoff l.address_size bytes in
    nat_lt (length bytes) l.header_size
    || (not (layout_number_at ident.endian l.e_shnum HALF_SIZE bytes == 0)
    || (nat_lt (length bytes) (at + l.section_size) || is_held at l.section_size image))

-- whether they have what a header, or its refusal, stands on
abbrev pub shows_header : Image → Ident → Loading FileHeader → Bool
shows_header image ident (Ok header) = shows_all image ident header
shows_header image ident (Err e) = shows_count image ident

-- the same of an identification; its refusal stands on the front alone
abbrev pub shows_ident : Image → Loading Ident → Bool
shows_ident image (Ok ident) = shows_header image ident
    (header_in ident.endian (layout_of ident.class) (image_bytes image))
shows_ident image (Err e) = true

-- whether pieces have all of a file that is wanted: each part of it stands in one of them; of a file
-- that is refused, what refuses it; false of one with fewer bytes than the longest header
unfoldable pub has_wanted : Image → Bool
has_wanted image = is_held 0 EHDR_SIZE_MAX image && shows_ident image (ident_in (image_bytes image))

-- one piece has all of a file, or pieces have all that is wanted of it
abbrev pub HasWanted : Image → Type 0
HasWanted image = IsWhole image ⊎ (has_wanted image ≡ true)
