-- What many proofs of this crate cite, handed on. Declares nothing.
pub use Rattle.std.proofs.Common.{Bool, Bor, Err, Global, List, MatchBool, None, Ok, Option, Result, Some, Vec, [], ap, append-nil, append_assoc, arith, cond, drop, false, filter, get_or, inl, inr, is_some, le_refl, length, ltb-true, map, nat_cmp, nat_eq, nat_le, nat_lt, not, option_map, refl, replicate, reverse, rules, set, slice_index, subst, suc, sym, take, true, zero, ℕ, ◌&&◌, ◌*◌, ◌++◌, ◌+◌, ◌-◌, ◌/◌, ◌<◌, ◌==◌, ◌||◌, ◌∙◌, ◌∷◌, ◌≡◌, ◌≢◌, ◌≤◌, ◌⊎◌}
pub use Rattle.std.proofs.lemmas.Bool.{and_left, and_parts, and_right, cases_lt, eq-eqb, eqb-true, le-ltb, lt-ltb, ne_eqb, or_right}
pub use Rattle.std.proofs.lemmas.Bool.Decides.{nat_tests}
pub use Rattle.std.proofs.lemmas.List.{drop-append-le, drop-drop, drop-take, drop_more, get_or-append_right, get_or-drop, get_or-take, get_or_append_left, get_or_default, length-append, length-drop, length-replicate, length-set, length-take-le, reverse-append, take-append-drop, take-append-le, take-take, take_all, take_more, take_more_set}
pub use Rattle.std.specs.List.{All, AllWithin, find, list_all, list_any, position, position_or_len, starts_with}
pub use Rattle.std.specs.Option.{option_map_or}
pub use Rattle.std.specs.Prelude.{IfOk, IfSome, codes, option_and_then, slice_get}
pub use Rattle.std.specs.Str.{IsAscii, IsNotAscii, IsUtf8, bytes_eq, encode_utf8_all, is_utf8}
pub use Rattle.gimli_read.specs.declared.endian.RunTimeEndian.{RunTimeEndian}
pub use Rattle.elf.specs.Compressed.{PackedSection, first_zdebug, shared_contents}
unfoldable pub use Rattle.elf.specs.Compressed.{decompressed_of, decompression_of, missing_decompressed, packed_in, unpacked_contents, unpacked_section, zdebug_of, zdebug_packed_in}
pub use Rattle.elf.specs.FileImage.{ArePiecesInOrder, ArePiecesOf, AreRangesOf, HasPart, Image, IsPieceOf, IsWhole, Shows, bytes_from, image_in, is_held, is_range_of, piece_end, piece_holds, piece_in, pieces_at}
unfoldable pub use Rattle.elf.specs.FileImage.{image_bytes}
pub use Rattle.elf.specs.FileTables.{AreReadable, HasTables, has_zdebug_name, is_packed, is_readable}
pub use Rattle.elf.specs.Header.{class_of, endian_of, has_magic, headers_in, magic, section_in, sections_in}
unfoldable pub use Rattle.elf.specs.Header.{header_in, ident_in}
pub use Rattle.elf.specs.Layout.{FieldsInHeader, FieldsInSection, layout_of}
unfoldable pub use Rattle.elf.specs.Layout.{layout_number_at}
pub use Rattle.elf.specs.Loading.{CostedLoading, Loading, LoadsAtCost, LoadsUnlessOomFor}
pub use Rattle.elf.specs.ObjectFile.{ObjectFile, gives_sections, name_table_of, object_file_with}
unfoldable pub use Rattle.elf.specs.ObjectFile.{object_file_of}
pub use Rattle.elf.specs.SectionBytes.{bytes_at, front_text, is_nobits, is_outside, section_bytes_in, short_text_at, string_table_in, table_text_at}
pub use Rattle.elf.specs.Sections.{addresses_of, debug_prefix, empty_contents, first_named, gives_bytes_of_file, is_compressed, is_named, is_zdebug, is_zdebug_text, missing_section, relocates, section_names_of, section_range_at, zdebug_prefix}
unfoldable pub use Rattle.elf.specs.Sections.{contents_of, section_at}
pub use Rattle.elf.specs.SymbolTable.{IsAbove, IsBelow, IsSymbolTable, precedes}
pub use Rattle.elf.specs.Symbols.{NamedAddress, covers, entries_in, is_usable, name_from, preference, symbol_bytes, symbol_entry_in, symbol_entry_name, symbol_names_number, symbol_names_of, symbol_table, symbols_of, usable_in, utf8_from}
unfoldable pub use Rattle.elf.specs.Symbols.{nearest_symbol, symbol_at}
pub use Rattle.elf.specs.TextStarts.{AreStarts, IsTextDistance, TextAfter, begins_text, is_ascii_table, text_starts}
pub use Rattle.elf.specs.Wanted.{is_shown_at, is_wanted_section, is_wanted_stem, is_wanted_text, shows_all, shows_count, shows_header, shows_ident, shows_section, shows_sections, shows_tables}
unfoldable pub use Rattle.elf.specs.Wanted.{has_wanted}
pub use Rattle.elf.specs.declared.image.Piece.{Piece}
pub use Rattle.elf.specs.declared.section.SectionHeader.{SectionHeader}
pub use Rattle.elf.specs.declared.symbol.SymbolEntry.{SymbolEntry}
