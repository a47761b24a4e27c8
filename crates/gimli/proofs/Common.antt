-- What many proofs of this crate cite, handed on. Declares nothing.
pub use Rattle.std.proofs.Common.{Bool, Bor, Err, FitsSigned, IfOk, IfSome, List, None, Ok, Option, Result, Some, [], add-one, ap, append-nil, append_assoc, arith, bit_and, cond, drop, false, filter_map, fold, get_or, int_lt, is_ok, is_some, length, length-append, length-drop, length-take, ltb, nat_lt, negsuc, not, option_copied, pos, refl, slice_index_or, subst, suc, sym, take, true, w64, zero, ℕ, ℤ, ◌%◌, ◌*◌, ◌++◌, ◌+ℤ◌, ◌+◌, ◌-◌, ◌<◌, ◌==◌, ◌^◌, ◌||◌, ◌∙◌, ◌∷◌, ◌≡◌, ◌≢◌, ◌≤◌}
pub use Rattle.std.proofs.lemmas.Bool.{eqb-false, eqb-true, ne_eqb, or_from, or_parts, or_right}
pub use Rattle.std.proofs.lemmas.Bool.Decides.{nat_tests}
pub use Rattle.std.proofs.lemmas.List.{at_drop_all, at_drop_more, drop-drop, drop-take, drop_more, get_or-take, length-take-le, nil_from_length, take-append-drop, take_all, take_min}
pub use Rattle.std.proofs.lemmas.Result.{IfOk-at_ok, err_from_is_err_and}
pub use Rattle.std.specs.List.{All, AllByRecursion, flat_map, list_any, position, position_or_len}
pub use Rattle.std.specs.Prelude.{IsOk, unsigned_abs, ◌<ℤ◌}
pub use Rattle.gimli_read.proofs.Shorter.{Shorter, TakesBytes, address-shorter, fixed-shorter, initial_length-shorter, shorter_at, shorter_bind, shorter_by, shorter_err, shorter_if, shorter_ok, shorter_then, split-shorter, takes_by, uleb128-shorter}
pub use Rattle.gimli_read.proofs.Steps.{bind_ok, done, end_is_none, given_as, guard_ok, same_rest, same_value}
pub use Rattle.gimli_read.specs.Abbreviations.{Abbrev, Specification, with_code}
pub use Rattle.gimli_read.specs.Form.{NamedValue, constant_of, implicit_of, named_value, rest_of}
unfoldable pub use Rattle.gimli_read.specs.Form.{attribute_at, attributes_at, value_at}
pub use Rattle.gimli_read.specs.Leb128.{IsUleb128, uleb128_at}
unfoldable pub use Rattle.gimli_read.specs.Leb128.{uleb128_in}
pub use Rattle.gimli_read.specs.Number.{address_at, ended_at, fits_u64, fixed_at, is_address_size, null_terminated_at, number_of, offset_at, offset_size, skipped_at, split_at}
unfoldable pub use Rattle.gimli_read.specs.Number.{address_size_at, initial_length_at, long_length_at}
pub use Rattle.gimli_read.specs.Reading.{Exactly, ExactlyUnlessOomIf, Reading, fault_of, mapped, refused_if, ◌>>=◌}
pub use Rattle.gimli_read.specs.Run.{Run, cons, continued, listed, next_of, run_of}
unfoldable pub use Rattle.gimli_read.specs.Run.{listed_with, run_within}
pub use Rattle.gimli_read.specs.Section.{Section, after, first}
pub use Rattle.gimli_read.specs.Version.{is_before_5, is_unknown}
pub use Rattle.gimli_read.specs.declared.endian.Encoding.{Encoding}
pub use Rattle.gimli_read.specs.declared.endian.Format.{Format}
pub use Rattle.gimli_read.specs.declared.error.Error.{Error}
pub use Rattle.gimli_read.specs.declared.error.Error.TheVariants.{ExpectedString, MissingUnitDie, NoSupplementary, OffsetOutOfBounds, OutOfMemory, UnexpectedEof, UnknownAbbreviation, UnknownRangeListEntry, UnknownUnitType, UnknownVersion, UnsupportedAddressSize, UnsupportedSegmentSize}
pub use Rattle.gimli_read.specs.declared.value.AttributeValue.{AttributeValue}
pub use Rattle.gimli.specs.Aranges.{ArangeSet, arange_of, arange_sets_of, aranges_of, pair_size}
unfoldable pub use Rattle.gimli.specs.Aranges.{arange_fields_at, arange_set_at, next_pair_at, next_set_at}
pub use Rattle.gimli.specs.AttributeSinks.{IsTakenIn, SaysNothingElse, or_fault}
pub use Rattle.gimli.specs.CachedTables.{CachedTables, cached_unit_takes_memory, is_cached}
pub use Rattle.gimli.specs.Entry.{EntryUnit, depth_after_closing, depth_after_entry, known_abbreviation, root_specifications}
unfoldable pub use Rattle.gimli.specs.Entry.{entry_code_at, root_attributes}
pub use Rattle.gimli.specs.EntryCursor.{EntryCursor, IsInUnit, depth_after_code, depth_after_next, entries_from, items_left}
unfoldable pub use Rattle.gimli.specs.EntryCursor.{entry_abbreviation_at, next_item_at}
pub use Rattle.gimli.specs.Header.{UnitHeaderFields, dwo_id_at, signature_at, type_fields_at, unit_type_of}
unfoldable pub use Rattle.gimli.specs.Header.{fields_4_at, fields_5_at, header_fields_at, next_header_at, unit_header_at, unit_type_at}
pub use Rattle.gimli.specs.ItemLaws.{AreAttributes, AreItems, Closes, EntriesFollowHeaders, IsEntryText, ItemsAlone, ItemsCover, SubtreesClose, SubtreesLieDeeper, UnitsCover, unit_text}
pub use Rattle.gimli.specs.Items.{Entry, Item, depth_after, depth_behind, entry_at, entry_of_code, items_after, items_at, items_from, items_inside, items_of, offset_of, subtree_of}
unfoldable pub use Rattle.gimli.specs.Items.{item_at, items_within}
pub use Rattle.gimli.specs.Ranges.{indexed_address, range_lists_of, ranges_at, ranges_from, sum_of_size, with_range_first}
unfoldable pub use Rattle.gimli.specs.Ranges.{range_of_entry, ranges_of_entries}
pub use Rattle.gimli.specs.Sections.{Sections, SupSections}
pub use Rattle.gimli.specs.TakenAttributes.{taken_after, taken_in}
pub use Rattle.gimli.specs.Text.{from_offset, indexed_string, string_length_at, string_takes_memory, sup_string_at}
unfoldable pub use Rattle.gimli.specs.Text.{indexed_number, string_at, string_of}
pub use Rattle.gimli.specs.Unit.{UnitRecord, address_from, attr_string_of, line_program_of, low_pc_of, readable_string, table_from}
unfoldable pub use Rattle.gimli.specs.Unit.{completed_record, program_and_low_pc_of, unit_by, unit_record_of}
pub use Rattle.gimli.specs.UnitsLeft.{all_headers, gives_header, headers_left}
