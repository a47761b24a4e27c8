-- What many proofs of this crate cite, handed on. Declares nothing.
pub use Rattle.std.proofs.Common.{Bool, Box, Err, Global, IfOk, IfSome, List, None, Ok, Option, Result, Some, [], add-one, ap, append-nil, append_assoc, arith, box_value, cond, drop, eqb-true, false, filter, filter_map, find, get_or, if◌then◌else◌, inl, inr, is_none, is_ok, is_some, le-leb, leb, leb-true, length, length-append, length-drop, length-take, lt-ltb, ltb, ltb-false, ltb-true, map, min, nat_cmp, nat_le, nat_lt, not, option_and_then, option_map, option_to_list, pos, position, refl, reverse, rules, slice_get, slice_set, subst, suc, sym, take, take-append-drop, true, unwrap_or, zero, ℕ, ⊎_elim, ◌&&◌, ◌*◌, ◌++◌, ◌+◌, ◌-◌, ◌<◌, ◌==◌, ◌||◌, ◌∙◌, ◌∷◌, ◌≡◌, ◌≢◌, ◌≤◌, ◌⊎◌}
pub use Rattle.std.proofs.Math.ListN.{drop_of_length-le, set}
pub use Rattle.std.proofs.lemmas.Bool.{cases_eq, eq-eqb, false≢true, or_left, or_parts, or_right}
pub use Rattle.std.proofs.lemmas.Bool.Decides.{Decides-eqb, eqb_tells, nat_tests}
pub use Rattle.std.proofs.lemmas.List.{drop_all, length-map, length-reverse, map-append, reverse-append, set-get_or, take_all}
pub use Rattle.std.proofs.lemmas.List.Elements.{All-contains, filter_agree}
pub use Rattle.std.proofs.lemmas.List.Sorted.{IsPartitionPoint-from_clause, IsPartitionedBy-leb, IsPartitionedBy-ltb, answers_always, ranks_by}
pub use Rattle.std.proofs.lemmas.Option.{get_or_from_slice_get, same_Some, slice_get-get_or, slice_get-map, slice_get_past, slice_get_read, slice_get_within}
pub use Rattle.std.proofs.lemmas.Result.{err_from_is_err_and, on_ok_weaker}
pub use Rattle.std.specs.Char.{IsScalar, digit_value, is_ascii, is_ascii_digit, is_control}
pub use Rattle.std.specs.Cmp.{first_so, second_so}
pub use Rattle.std.specs.List.{AllByRecursion, AllZip, Contains, list_all, position_or_len, prefix_len, starts_with}
pub use Rattle.std.specs.List.Sorted.{IsNonDecreasingBy, IsPartitionPoint, IsSortedBy, IsSortedByKey, ties}
pub use Rattle.std.specs.Option.{option_or}
pub use Rattle.std.specs.Prelude.{IfErr, OnOk, codes, encode_utf8, nat_eq, slice_index_or, string_bytes, ⊤}
pub use Rattle.std.specs.Str.{byte, bytes_eq}
pub use Rattle.std.specs.Str.Parse.{digits_value}
pub use Rattle.gimli_read.proofs.FaultLemmas.{AreByBytes, IsByBytes, are_joined, either, fault, fault_of_is, memory_or_not, moved_fault, none_refused, not_refused, step, value}
pub use Rattle.gimli_read.specs.Costed.{Costed, free, takes_memory_after}
pub use Rattle.gimli_read.specs.Reading.{Exactly, ExactlyUnlessOom, ExactlyUnlessOomIf, Reading, WasNotRefused, fault_of, result_map, ◌>>=◌}
pub use Rattle.gimli_read.specs.Section.{Section, after}
pub use Rattle.gimli_read.specs.declared.constants.DwLang.{DwLang}
pub use Rattle.gimli_read.specs.declared.error.Error.{Error}
pub use Rattle.gimli_read.specs.declared.error.Error.TheVariants.{OffsetOutOfBounds, OutOfMemory, UnknownToken}
pub use Rattle.gimli_read.specs.declared.range.Range.{Range}
pub use Rattle.gimli.specs.Aranges.{arange_sets_of}
pub use Rattle.gimli.specs.Header.{UnitHeaderFields}
pub use Rattle.gimli.specs.Sections.{Sections, SupSections, sup_sections}
pub use Rattle.gimli.specs.Unit.{UnitRecord, attr_string_of}
unfoldable pub use Rattle.gimli.specs.Unit.{unit_by, unit_record_of}
pub use Rattle.gimli.specs.UnitsLeft.{all_headers}
pub use Rattle.addr2line_lines.proofs.OrderLemmas.{in_order_ordered, in_order_ties, one_order, sorted_is}
pub use Rattle.addr2line_lines.proofs.ReadLemmas.{HasDetail, all_read_once, badly_read, functions_same, read_fault, read_more, read_right, table_same, unread_right, well_read}
pub use Rattle.addr2line_lines.specs.Details.{Detail, detail_at}
pub use Rattle.addr2line_lines.specs.FunctionDetails.{AreCachedToFault, AreDetailsOf, AreUnread, IsCachedToFault, IsDetailOf, IsFunctionMore, IsReadAt, IsReadOf, IsReadOnce, IsTableMore, IsWithDetail, details_at}
pub use Rattle.addr2line_lines.specs.FunctionTable.{AreListed, CachedFunction, FunctionTable, cached_detail, cached_inlined, cached_name, cached_offset_at, function_place_at, inlined_of_detail, name_of_detail}
pub use Rattle.addr2line_lines.specs.Functions.{FunctionRange, entries_of, function_begin, function_end, function_offset, function_offset_at, functions_of, functions_take_memory, once_before}
pub use Rattle.addr2line_lines.specs.InOrder.{IsInOrder, in_order}
pub use Rattle.addr2line_lines.specs.InlineRoom.{exceeds_inline_room}
pub use Rattle.addr2line_lines.specs.InlinedEntries.{InlinedEntry, InlinedRange}
pub use Rattle.addr2line_lines.specs.Location.{LineTable, Location, line_table_of, location_at, location_of_row}
pub use Rattle.addr2line_lines.specs.References.{AreInOrder, FileRecord, IsFileInOrder, IsScope, Scope}
pub use Rattle.addr2line_lines.specs.Rows.{read_all}
pub use Rattle.addr2line_lines.specs.Scopes.{as_scope}
pub use Rattle.addr2line_lines.specs.UnitLines.{IsFaultAtOnce, lines_in, unit_lines}
unfoldable pub use Rattle.addr2line_lines.specs.UnitLines.{program_lines}
pub use Rattle.addr2line_units.proofs.EntriesFunctionMemory.{cached_detail_takes_memory, cached_takes_memory, find_takes_memory, place_takes_memory, reading_takes_memory, table_takes_memory}
pub use Rattle.addr2line_units.specs.EntriesMemory.{any_program_takes_memory, is_fault_at_once, lines_of_take_memory, view_takes_memory}
unfoldable pub use Rattle.addr2line_units.specs.EntriesMemory.{functions_in_take_memory, lines_take_memory}
pub use Rattle.addr2line_units.specs.UnitsAsked.{AfterAsk, AfterCachingAt, CountsUnits, found_stop, stop_at, row_stop}
pub use Rattle.addr2line_units.specs.EntriesCached.{AreFramesIn, AreRead, AsksNoMemoryIn, ReadsEntriesOf, StayEntries, frames_of_place, has_answered, has_entries, has_entries_by}
pub use Rattle.addr2line_units.specs.EntriesOwn.{AreEntriesOf, AreFresh, first_answer_of}
pub use Rattle.addr2line_units.specs.FramesCached.{IsLendable, found_after_fault, frames_at_place, functions_at, language_at, as_stop, stop_of_found}
pub use Rattle.addr2line_units.specs.EntriesFunctions.{AreFunctionsOf, ArePlacesIn, IsTableOf, ReadsNoDetail, ReadsNoOther, StayFunctions, cached_fault, cached_functions, cached_has_function, function_of_place, functions_fault, has_detail, has_place, has_table, is_cached_fault, no_functions, were_read}
pub use Rattle.addr2line_units.specs.EntriesKnownCached.{known_answer, known_by, known_detail, known_fault, known_function, known_functions, known_in, known_table}
pub use Rattle.addr2line_units.specs.UnitLinesCached.{AreLinesOf, HaveLinesOf, StayLines, cached_files, cached_lines, cached_lines_result, cached_ranges, cached_spans, indexed_unit, indexed_units, is_parsed, is_uncached, lines_at, lines_in_cache, lines_result, lines_result_at, no_lines, parsed_units}
pub use Rattle.addr2line_units.specs.UnitsCached.{AreFreshOf, HaveCachesOf, HaveNewCaches, IsCacheOf, answers_in, waits_at}
pub use Rattle.addr2line_units.specs.UnitViewCached.{IsViewOf, answer_in, is_decided, parts_or_fault, answer_of_view, as_sections, split_file_by, split_file_in, split_unit, unboxed, verdict_in, view_by, waits, was_checked}
pub use Rattle.addr2line_units.specs.Frames.{FoundFunction, FrameRecord, call_location, found_frames, found_function, frames_from, function_frame, function_from, location_frames}
unfoldable pub use Rattle.addr2line_units.specs.Frames.{function_at}
pub use Rattle.addr2line_units.specs.FramesLookup.{Finds, FindsNothing, LookupAsks, LookupStop, Waits, after_fault, answer_of, asked_frames, asks_lines_of, ends_lookup, frames_of_number, function_offset_of, functions_of_take_memory, holds_along, inlined_at_number, main_scope, or_stop, readable_view, stop_along, unit_found, view_of_number, with_answer, asked_of_unit, first_frame_location, found_in_unit, has_stopped, located_frames, location_found}
pub use Rattle.addr2line_units.specs.Parses.{AreKnownToFault, AreReadBefore, AreReadyFor, IsKnownToFault, IsReadyFor, IsReadyOf, ReadsNoMemory, answers_after_parse, first_decided, parse_of_takes_memory, parse_takes_memory, read_of_functions, read_of_number, read_of_unit, read_of_units, read_of_view, unless_fault}
pub use Rattle.addr2line_units.specs.UnitsMemory.{aranges_in_at_cost, has_abbreviations, put_to, stored_aranges_in, stored_units_of, unit_of_header_at_cost, units_of_at_cost}
pub use Rattle.addr2line_lines.specs.UnitsOfHeaders.{first_unit_of, units_of}
pub use Rattle.addr2line_units.specs.EntriesKnown.{AllKnown, FunctionsKnown, HasFault, HasNoFunctions, IsRead, KnownEntries, KnownFunction, LearnsDetailsAt, LearnsNoDetails, LearnsNoFunctions, NotRead, NothingKnown, is_detail_known, is_known_at, known_function_at, knows_at, knows_detail, knows_detail_at}
pub use Rattle.addr2line_units.specs.LegacyText.{after_first, ascii_front, elements_by, elements_within, escape_text, joint_text, numbered_char, plain_from, shown_char, without_hash, without_llvm}
unfoldable pub use Rattle.addr2line_units.specs.LegacyText.{demangled, element_at, element_text, elements_at, elements_text, escape_char, escape_in, legacy_text, spelled_text, suffix_at, without_prefix}
pub use Rattle.addr2line_units.specs.Loads.{NoneOpen, before_others, forget_result, forgotten, is_of_other, is_open_at, load_of_number, load_result, loads_along, unit_of_token, view_fault}
pub use Rattle.addr2line_units.specs.Locations.{LocationResult, all_lines, all_read, first_location, is_found, lines_of_unit, location_in, location_of, steps_along, steps_in, or_first_location, spans_along, spans_in, spans_of, spans_or_fault}
pub use Rattle.addr2line_units.specs.LocationsParsed.{AllAskFor, AreAllParsed, AreParsed, AreReadyForAll, AsksFor, LeadTo, ParsesOnly, StaysParsed, TakeNone, TakeNoneForAll, can_be_read, has_parsed, parses_no_memory, ready_along}
pub use Rattle.addr2line_units.specs.UnitsRanged.{IndexedUnit, RangedUnit, has_lines, indexed_of, is_partial, is_type_unit, listed_unit_ranges, or_attribute_ranges, range_of_unit, ranged_unit, ranged_units, unit_ranges, unit_ranges_from, unit_records, unless_faulty}
unfoldable pub use Rattle.addr2line_units.specs.UnitsRanged.{listed_in_unit, unit_of_header}
pub use Rattle.addr2line_units.specs.UnitsStored.{AreUnits, as_units_state}
pub use Rattle.addr2line_units.specs.IndexAranges.{aranges_at, aranges_in, is_arange_of, offset_sooner, range_in, set_aranges, unit_arange}
pub use Rattle.addr2line_units.specs.EntriesFrames.{FramesResult, frames_in, frames_by, function_by, function_in, function_offset_among, function_offset_by, inlined_of_found}
unfoldable pub use Rattle.addr2line_units.specs.EntriesFrames.{asks_lines_in, frames_by_lines, function_offset_in, inlined_of_unit}
pub use Rattle.addr2line_units.specs.RangeIterLeft.{ranges_left}
pub use Rattle.addr2line_units.specs.UnitsState.{IsFaultAt, UnitsState, asked_by, asks_no_memory_at, first_state, has_all_at, has_few_at, new_units, reads_no_memory_at, stop_of, has_asked_at, has_asked_few_at, takes_none_at}
pub use Rattle.addr2line_units.specs.UnitView.{FirstAnswers, SplitLoad, View, answered_view, awaited_by, awaited_load, decided_answer, first_unit, first_view, is_open, load_by, main_view, parts_of, verdict, verdict_by, view_scope}
unfoldable pub use Rattle.addr2line_units.specs.UnitView.{load_of_unit, split_name_of}
pub use Rattle.addr2line_units.specs.declared.entries.LazyFunctions.{LazyFunctions}
pub use Rattle.addr2line_units.specs.EntriesOwn.{CachedUnit}
pub use Rattle.addr2line_units.specs.declared.entries.EntriesCache.{EntriesCache}
pub use Rattle.addr2line_units.specs.declared.frames.Asks.{Asks}
pub use Rattle.addr2line_units.specs.declared.frames.FramesStop.{FramesStop}
pub use Rattle.addr2line_units.specs.declared.frames.OnFault.{OnFault}
pub use Rattle.addr2line_units.specs.declared.frames.OnFault.TheVariants.{Skip, Stop}
pub use Rattle.addr2line_units.specs.declared.index.UnitArange.{UnitArange}
pub use Rattle.addr2line_units.specs.declared.index.UnitRange.{UnitRange}
pub use Rattle.addr2line_units.specs.declared.parses.ReadingDepth.{ReadingDepth}
pub use Rattle.addr2line_units.specs.declared.unit.LazyLines.{LazyLines}
pub use Rattle.addr2line_units.specs.declared.unit.LinesCache.{LinesCache}
pub use Rattle.addr2line_units.specs.declared.unit.UnitView.{UnitView}
pub use Rattle.addr2line_units.specs.declared.unit.ViewState.{ViewState}
pub use Rattle.addr2line_units.proofs.UnitsCaches.{HaveEntriesOf}
pub use Rattle.addr2line_lines.proofs.Facts.{all_at, get_set_other, get_set_same, some_at}
