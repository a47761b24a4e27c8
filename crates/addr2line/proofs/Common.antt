-- What many proofs of this crate cite, handed on. Declares nothing.
pub use Rattle.std.proofs.Common.{Bool, Err, List, None, Ok, Option, Result, Some, [], add-one, ap, append_assoc, arith, drop, false, filter, get_or, if◌then◌else◌, inl, inr, is_ok, is_some, length, map, not, option_and_then, option_map, refl, reverse, rules, slice_get, string_bytes, subst, suc, sym, take, true, unwrap_or, zero, ℕ, ◌&&◌, ◌++◌, ◌+◌, ◌-◌, ◌<◌, ◌==◌, ◌||◌, ◌∙◌, ◌∷◌, ◌≡◌, ◌≢◌, ◌≤◌, ◌⊎◌}
pub use Rattle.std.proofs.Math.ListN.{drop_of_length-le, set}
pub use Rattle.std.proofs.lemmas.Bool.Decides.{Decides-and, Decides-eqb, Decides-int_eq, eqb_tells}
pub use Rattle.std.proofs.lemmas.List.{append-nil, get_or-map, length-map, length-reverse, length-set, map-append, take-append-drop, take_all, take_more}
pub use Rattle.std.proofs.lemmas.Option.{IfSome_then, slice_get-map}
pub use Rattle.std.proofs.lemmas.Result.{IfOk-at_ok, err_from_is_err_and}
pub use Rattle.std.specs.Prelude.{IfErr, IfOk, IfSome, IsOk, IsOkAnd, OnOk, is_none, vec_len}
pub use Rattle.gimli_read.specs.Reading.{Exactly, ExactlyUnlessOom, WasNotRefused, fault_of, result_map, ◌>>=◌}
pub use Rattle.gimli_read.specs.Section.{Section}
pub use Rattle.gimli_read.specs.declared.error.Error.{Error}
pub use Rattle.gimli.specs.Sections.{Sections, SupSections}
pub use Rattle.gimli.specs.Unit.{UnitRecord}
pub use Rattle.elf.specs.Loading.{Loading, LoadsUnlessOom, LoadsUnlessOomFor}
pub use Rattle.elf.specs.ObjectFile.{ObjectFile, gives_sections}
unfoldable pub use Rattle.elf.specs.ObjectFile.{object_file_of}
pub use Rattle.elf.specs.declared.error.LoaderError.{LoaderError}
pub use Rattle.elf.specs.declared.error.LoaderError.TheVariants.{NotElf, OutOfMemory, PathNotUtf8}
pub use Rattle.addr2line_lines.specs.References.{Scope}
pub use Rattle.addr2line_lines.proofs.Facts.{get_set_other}
pub use Rattle.addr2line_units.proofs.LoadsLawLemmas.{answered_load, fewer_left, listed_there, load_gone, load_others, load_own, never_waits_alone, others_left, waits_listed}
pub use Rattle.addr2line_units.specs.IndexCover.{cover, cover_range, holds_until}
pub use Rattle.addr2line_units.specs.Frames.{FoundFunction, FrameRecord, found_frames, frames_from}
pub use Rattle.addr2line_units.specs.FramesLeft.{frames_left}
pub use Rattle.addr2line_units.specs.FramesLookup.{Finds, FindsNothing, LookupAsks, LookupStop, Waits, after_fault, answer_of, asked_frames, asks_lines_of, ends_lookup, frames_of_number, function_offset_of, holds_along, inlined_at_number, is_waiting, main_scope, or_stop, readable_view, stop_along, unit_found, view_of_number, with_answer, has_stopped, located_frames, location_found}
pub use Rattle.addr2line_units.specs.EntriesKnown.{KnownEntries, LearnsDetailsAt, LearnsNoDetails, NothingKnown, knows_at}
pub use Rattle.addr2line_units.specs.Loads.{NoneOpen, before_others, forget_result, forgotten, is_of_other, is_open_at, load_of_number, load_result, loads_along}
pub use Rattle.addr2line_units.specs.Locations.{LocationResult, all_lines, first_location, is_found, lines_of_unit, location_in, location_of, steps_along, or_first_location, spans_along, spans_of}
pub use Rattle.addr2line_units.specs.LocationsParsed.{AllAskFor, AreAllParsed, AreParsed, AreReadyForAll, AsksFor, LeadTo, ParsesOnly, StaysParsed, TakeNone, TakeNoneForAll, has_parsed, ready_along}
pub use Rattle.addr2line_units.specs.UnitsRanged.{IndexedUnit, RangedUnit, has_lines, indexed_of, ranged_units, unit_ranges_from, unit_records}
pub use Rattle.addr2line_units.specs.EntriesStayKnown.{IsReadyAt, StaysKnown, StaysKnownOf}
pub use Rattle.addr2line_units.specs.Continuation.{IfLoad, IfOutput, IsOkOutput, SkipsTo}
pub use Rattle.addr2line_units.specs.EntriesFrames.{FramesResult, frames_by, frames_in, function_by, function_in, function_offset_by}
unfoldable pub use Rattle.addr2line_units.specs.EntriesFrames.{asks_lines_in, frames_by_lines, function_offset_in}
pub use Rattle.addr2line_units.specs.UnitsIndex.{UnitIndex, index_units, sup_units}
pub use Rattle.addr2line_units.specs.UnitsState.{UnitsState, asked_by, asks_no_memory_at, first_state, has_all_at, has_few_at, new_units, stop_of, waiting_unit, takes_none_at}
pub use Rattle.addr2line_units.specs.UnitView.{FirstAnswers, SplitLoad, View, awaited_by, awaited_load, decided_answer, first_unit, is_open, load_by, parts_of, verdict, verdict_by}
unfoldable pub use Rattle.addr2line_units.specs.UnitView.{load_of_unit, split_name_of}
pub use Rattle.addr2line_units.specs.declared.continuation.LookupResult.{LookupResult}
pub use Rattle.addr2line_units.specs.declared.continuation.LookupResult.TheVariants.{Load, Output}
pub use Rattle.addr2line_units.specs.declared.frames.OnFault.{OnFault}
pub use Rattle.addr2line_units.specs.declared.frames.OnFault.TheVariants.{Skip, Stop}
pub use Rattle.addr2line_units.specs.declared.index.UnitRange.{UnitRange}
pub use Rattle.addr2line.specs.AfterLookups.{AfterFrames, AfterFramesOver, IsKnown, IsKnownFew, IsLent, IsStored, NeedsNoMemory, ReadsAsked, Suspends, TakesMemory, has_few_of}
pub use Rattle.addr2line.specs.AfterAnswering.{AfterAnswering, AfterResume, SuspendsAgain}
pub use Rattle.addr2line.specs.Answers.{answered, load_reply}
pub use Rattle.addr2line.specs.Context.{AfterLookup, AfterRangeLookup, ContextState, IsContext, IsReady, IsReadyForRange, IsUncovered, LocatesNoMemory, Stays, lines_of_all, new_context, as_context, location_stop}
pub use Rattle.addr2line.specs.Files.{Files, ReadFiles, as_read, as_read_if_known, listed_files, as_named_file}
pub use Rattle.addr2line.specs.History.{Abandoned, AfterCall, AfterCalls, Answered, AnswersLoad, AsksFrames, AsksLoads, AsksLocation, AsksRange, AsksUnit, Forgets, Given, HasBegun, HistoryCall, IsCutShort, Leaves, ParsesFunctions, ParsesLines, answers_after, answers_given, answers_left, frames_replied, replies_to, reply_to, unit_replied, where_waiting}
pub use Rattle.addr2line.specs.Loads.{AfterForgetting, AfterLoading, AfterParse, AfterPreload, IsAllKnown, IsNotOpen, NoneOpenAt, ReachesAllOf, ReadsFunctionsNoMemory, StaysRead, forget_reply, parse_reply, parsed_answers}
pub use Rattle.addr2line.specs.Lookups.{IsFaultOfAsked, IsLoadOf, UnitResult, asked_of, ended_with, found_at, frames_of, frames_value, loads_at, lookup_stop, stop_in, unit_of, unit_value, view_found, waits_for, with_none}
pub use Rattle.addr2line.specs.Replies.{CopiedReply, SuspendedAt, copied_frame, copied_load, reply_of_frames, reply_of_range, reply_of_unit}
pub use Rattle.addr2line.specs.RecordedCalls.{given_by, as_call, as_given}
pub use Rattle.addr2line.specs.OwnedReplies.{as_owned_frame, as_owned_load, as_owned_span, as_reply}
pub use Rattle.addr2line.specs.SplitFiles.{id_of_unit, is_same_id, of_file, or_none, split_at_path}
unfoldable pub use Rattle.addr2line.specs.SplitFiles.{first_id_by, given_by_files, split_by, split_of}
pub use Rattle.addr2line.specs.WaitingLookups.{count_loads, found_of_context}
