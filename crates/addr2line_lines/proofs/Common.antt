-- What many proofs of this crate cite, handed on. Declares nothing.
pub use Rattle.std.proofs.Common.{Bool, Bor, Equal, Err, Global, Greater, IfOk, IfSome, Less, List, None, Ok, OnErr, OnOk, Option, Ordering, Result, Some, String, [], add-one, ap, append-nil, append_assoc, arith, cond, count_by, drop, false, filter, flat_map, fold, get_or, heap_items, inl, inr, is_ok, is_some, leb, length, length-append, length-drop, map, max, min, nat_cmp, nat_le, nat_lt, negsuc, not, option_and_then, option_map, pos, refl, reverse, rules, set, slice_get, slice_index, slice_index_or, slice_set, string_bytes, subst, suc, sum_by, sym, take, true, zero, ℕ, ℤ, ◌%◌, ◌&&◌, ◌*◌, ◌++◌, ◌+◌, ◌-◌, ◌/◌, ◌<◌, ◌==◌, ◌^◌, ◌||◌, ◌↔◌, ◌∙◌, ◌∷◌, ◌≡◌, ◌≢◌, ◌≤◌, ◌⊎◌}
pub use Rattle.std.proofs.Math.Seq.{drop-append_seam, drop-length, map-set_same, take-append_seam, take-length}
pub use Rattle.std.proofs.lemmas.Bool.{and_parts, cases_eq, cases_lt, eqb-true, le-leb, le-ltb, lt-ltb, ne_eqb, or_left, or_parts, or_right}
pub use Rattle.std.proofs.lemmas.Bool.Decides.{nat_tests}
pub use Rattle.std.proofs.lemmas.Grind.{common_steps}
pub use Rattle.std.proofs.lemmas.List.{at_drop_all, at_drop_more, drop-append-le, drop-map, drop-take, drop_all, drop_more, get_or-drop, get_or-map, get_or-take, get_or_append_left, get_or_default, get_or_push, get_or_read, length-map, length-take-le, length_push, map-append, map-id, map-set, map_push, reverse-append, set_split, take-append-le, take-map, take-take, take_at}
pub use Rattle.std.proofs.lemmas.List.Elements.{All-append, All-cons, All-contains, All-contains_itself, All-from_recursion, All-get_or, All-head, All-map, All-push, All-tail, All-weaker, Contains-get_or, filter_agree, length_all_zip, recursion_from_All}
pub use Rattle.std.proofs.lemmas.List.Sorted.{All-permutation, Contains-permutation, IsNonDecreasingBy-from_sort_by_key, IsPartitionPoint-from_clause, IsPartitionedBy-leb, IsPermutation-map, IsPermutation-sym, answers_always, length_permutation, ranks_by, sorted_far, sum_by-IsPermutation}
pub use Rattle.std.proofs.lemmas.List.Sums.{count_by-le-length, length-filter, position_or_len_is, sum_by-cons, sum_by-set, sum_by_push}
pub use Rattle.std.proofs.lemmas.Option.{get_or_from_slice_get, gets, slice_get-get_or, slice_get-map, slice_get_past, slice_get_read, slice_get_within}
pub use Rattle.std.proofs.lemmas.Result.{err_from_is_err_and, on_err_weaker, on_ok_weaker}
pub use Rattle.std.specs.List.{All, AllByRecursion, AllWithin, AllZip, Contains, cons_option, filter_map, find, list_any, position_or_len}
pub use Rattle.std.specs.List.Sorted.{IsNonDecreasingBy, IsPartitionPoint, IsPartitionedBy, IsPermutation, IsSortedBy, IsSortedByKey, IsStableBy, ties}
pub use Rattle.std.specs.Option.{IsSome, option_copied, option_or, option_to_list}
pub use Rattle.std.specs.Ordering.{is_lt, ordering_then}
pub use Rattle.std.specs.Prelude.{int_lt, position, unwrap_or, ◌+ℤ◌}
pub use Rattle.gimli_read.proofs.TopmostLemmas.{All-passing, In, In-filter, In-last, In-passes, filter-filter, greatest_is, last-cond}
pub use Rattle.gimli_read.specs.Abbreviations.{Abbrev, Specification, with_code}
pub use Rattle.gimli_read.specs.Costed.{Costed, ExactlyAtCost, free, takes_memory_after}
pub use Rattle.gimli_read.specs.Form.{NamedValue, constant_of, rest_of, as_value}
unfoldable pub use Rattle.gimli_read.specs.Form.{attribute_at}
pub use Rattle.gimli_read.specs.Reading.{Exactly, ExactlyUnlessOomIf, Reading, fault_of, result_map, ◌>>=◌}
pub use Rattle.gimli_read.specs.Run.{Run, cons, fold_of}
unfoldable pub use Rattle.gimli_read.specs.Run.{fold_run}
pub use Rattle.gimli_read.specs.Section.{Section, after}
pub use Rattle.gimli_read.specs.Topmost.{greatest, last, topmost}
pub use Rattle.gimli_read.specs.declared.constants.TheConstants.DwAt.{DW_AT_abstract_origin, DW_AT_call_column, DW_AT_call_file, DW_AT_call_line, DW_AT_high_pc, DW_AT_low_pc, DW_AT_name, DW_AT_ranges, DW_AT_specification}
pub use Rattle.gimli_read.specs.declared.error.Error.{Error}
pub use Rattle.gimli_read.specs.declared.error.Error.TheVariants.{NoEntryAtGivenOffset, OffsetOutOfBounds, OutOfMemory, UnexpectedEof}
pub use Rattle.gimli_read.specs.declared.range.Range.{Range}
pub use Rattle.gimli_read.specs.declared.value.AttributeValue.{AttributeValue}
pub use Rattle.gimli_read.specs.declared.value.UnitOffset.{UnitOffset}
pub use Rattle.gimli_line.specs.Header.{File, Header, Program}
pub use Rattle.gimli_line.specs.Rises.{NeverFalls, rows_before}
pub use Rattle.gimli_line.specs.declared.row.LineRow.{LineRow}
pub use Rattle.gimli.proofs.ItemReads.{items_end, items_fault, items_more, text_some}
pub use Rattle.gimli.specs.Entries.{entry_bytes_from, entry_unit, unit_length}
pub use Rattle.gimli.specs.Entry.{EntryUnit, depth_after_closing}
unfoldable pub use Rattle.gimli.specs.Entry.{attributes_at, entry_code_at}
pub use Rattle.gimli.specs.EntryCursor.{EntriesLeft, EntryCursor, depth_after_code, entries_at, entries_from, items_left}
unfoldable pub use Rattle.gimli.specs.EntryCursor.{entry_abbreviation_at, next_item_at}
pub use Rattle.gimli.specs.Items.{Entry, Item, depth_after, depth_behind, items_after, items_at, items_from, items_inside, items_of, offset_of, subtree_of}
unfoldable pub use Rattle.gimli.specs.Items.{item_at, items_within}
pub use Rattle.gimli.specs.Ranges.{ranges_at}
pub use Rattle.gimli.specs.Sections.{Sections}
pub use Rattle.gimli.specs.Unit.{UnitRecord, attr_string_of, program_and_low_pc_of, table_from}
unfoldable pub use Rattle.gimli.specs.Unit.{completed_record, unit_by, unit_record_of}
pub use Rattle.addr2line_lines.specs.CachedDetails.{AreDetailsMore, CachedDetails, IsDetailPlace, IsNextPlace, IsOfEntryBetween, IsRefusedThen, between, detail_of, listed_ranges, as_details}
pub use Rattle.addr2line_lines.specs.CachedNames.{AreNamesIn, AreNamesMore, AreNamesOf, CachedName, GrowNames, IsKnownAs, IsNameOf, IsOneMoreAtMost, KnownNames, as_cached_name, as_names, as_shared, no_names}
pub use Rattle.addr2line_lines.specs.Details.{Detail, PlacedItem, WholeEntry, first_whole, inlined_in, is_in_function, open_after, placed_items, whole_entry_at, with_inlined, with_inlined_entry}
unfoldable pub use Rattle.addr2line_lines.specs.Details.{detail_at}
pub use Rattle.addr2line_lines.specs.FoundFunctions.{AreFoundUnread, AreFunctions, FoundFunctions, IsPlaceIn, IsUnread, found_in, found_more, function_address, function_offsets, function_range_of, item_has_function, item_takes_memory, next_found_at, none_found, as_functions, with_attributes, with_found, with_ranges}
pub use Rattle.addr2line_lines.specs.FoundInlined.{FoundInlined, IsFoundMore, entry_among, first_found, inlined_address, inlined_more, named_lists, no_inlined, none_inlined, range_among, as_lists, with_inlined_found, with_inlined_ranges}
pub use Rattle.addr2line_lines.specs.FoundNames.{BeginsAbove, BeginsBy, found_name, is_name_attribute, name_after, as_name_or_origin, as_place, unit_begins_by, with_linkage}
pub use Rattle.addr2line_lines.specs.FunctionCache.{AreCachedFunctions, AreDetailsApart, AreRuns, HasPlace, inlined_size, name_size, place_read, ranges_size, read_at, as_function, as_lazy, size_of}
pub use Rattle.addr2line_lines.specs.FunctionTable.{AreListed, CachedFunction, FunctionTable, cached_inlined, cached_name, cached_offset_at, function_place_at, inlined_of_detail, name_of_detail}
pub use Rattle.addr2line_lines.specs.Functions.{FunctionRange, entries_of, entry_ranges, function_at_cost, function_begin, function_end, function_offset, function_offset_at, functions_at_cost, functions_of, functions_take_memory, has_function, is_subprogram, once_before, with_function}
pub use Rattle.addr2line_lines.specs.InOrder.{IsInOrder, OrderIsFree, begins_sooner, in_order, put}
pub use Rattle.addr2line_lines.specs.InlinedEntries.{InlinedAttributes, InlinedEntry, InlinedRange, inlined_attributes_of, inlined_entry, inlined_ranges, is_inlined, no_inlined_attributes, with_call, with_call_constant}
unfoldable pub use Rattle.addr2line_lines.specs.InlinedEntries.{with_inlined_attribute}
pub use Rattle.addr2line_lines.specs.InlinedOrder.{inlined_place, inlined_range_of, inlined_sooner, place_at, place_begin, place_end, places_chain, places_of_depth, places_within}
pub use Rattle.addr2line_lines.specs.Names.{NameOrOrigin, entry_specifications, is_linkage_name, is_origin, linkage_name_of, most_visited, name_of, no_name, or_referred_name, readable, referred_name, with_name_or_origin}
unfoldable pub use Rattle.addr2line_lines.specs.Names.{name_within, named_at, visited, with_name}
pub use Rattle.addr2line_lines.specs.Packed.{ArePastFrom, IsAmong, IsTable, Packed, RowsEndBy, packed_end, packed_rows_in, packed_sooner, packed_start, row_address_at, unpacked}
pub use Rattle.addr2line_lines.specs.Pick.{IsDisjoint, LoneIsPicked, at_or_below, candidate, if_past, pick}
pub use Rattle.addr2line_lines.specs.RangeAttributes.{all_ranges, attr_address, attribute_ranges, begins_well, gives_a_range, no_range_attributes, range_attributes_after, range_attributes_of, range_list_of, ranges_of}
unfoldable pub use Rattle.addr2line_lines.specs.RangeAttributes.{with_range_attribute}
pub use Rattle.addr2line_lines.specs.References.{AreInOrder, EntryPlace, FileRecord, IsBefore, IsFileInOrder, IsScope, Scope, UnitInScope, entry_in, entry_in_sup, in_scope, referred, sup_scope, unit_at}
pub use Rattle.addr2line_lines.specs.Rows.{read_all}
pub use Rattle.addr2line_lines.specs.Scopes.{as_scope}
pub use Rattle.addr2line_lines.specs.Segments.{AreApart, AreDisjoint, AreSegments, AreSegmentsBelow, IsSegment, RunningRange, address_begin, address_end, address_function, address_holds, as_running, first_end, running_end, segment_to, shortest_function_at}
pub use Rattle.addr2line_lines.specs.Sequences.{RowGroup, Sequence, end_of, latest, put_first, row_groups, sequence_in, sequence_of, sequences_of, start_of, stored_row}
pub use Rattle.addr2line_lines.specs.StoredDetails.{inlined_in_at_cost, with_inlined_at_cost, detail_at_cost}
unfoldable pub use Rattle.addr2line_lines.specs.StoredDetails.{stored_detail_at}
pub use Rattle.addr2line_lines.specs.declared.details.FunctionDetail.{FunctionDetail}
pub use Rattle.addr2line_lines.specs.declared.function.RangeAttributes.{RangeAttributes}
pub use Rattle.addr2line_lines.specs.declared.functions.LazyFunction.{LazyFunction}
pub use Rattle.addr2line_lines.specs.declared.nesting.Kind.{Kind}
pub use Rattle.addr2line_lines.specs.declared.picks.InlinedFunctionAddress.{InlinedFunctionAddress}
pub use Rattle.addr2line_lines.specs.declared.row.Row.{Row}
pub use Rattle.addr2line_lines.specs.declared.segments.FunctionAddress.{FunctionAddress}
pub use Rattle.addr2line_lines.specs.declared.sequence.LineSequence.{LineSequence}
