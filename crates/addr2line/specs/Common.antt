-- What specs and contracts of this crate cite of the crates below, handed on. Declares nothing.
pub use Rattle.gimli_read.specs.Reading.{Exactly, ExactlyUnless, ExactlyUnlessOom, ExactlyUnlessOomIf, IsUnlessOom, WasNotRefused, fault_of, result_map, ◌>>=◌}
pub use Rattle.gimli_read.specs.Section.{Section}
pub use Rattle.gimli_read.specs.declared.error.Error.{Error}
pub use Rattle.gimli_read.specs.declared.error.Error.TheVariants.{OutOfMemory}
pub use Rattle.gimli.specs.Sections.{Sections, SupSections, sup_sections}
pub use Rattle.gimli.specs.Unit.{UnitRecord}
pub use Rattle.elf.specs.Loading.{Loading, LoadsUnlessOom}
pub use Rattle.elf.specs.ObjectFile.{ObjectFile}
unfoldable pub use Rattle.elf.specs.ObjectFile.{object_file_of}
pub use Rattle.elf.specs.declared.error.LoaderError.TheVariants.{Io, NotElf, PathNotUtf8}
pub use Rattle.addr2line_lines.specs.LastAddress.{last_address}
pub use Rattle.addr2line_units.specs.IndexCover.{cover, cover_range}
pub use Rattle.addr2line_units.specs.Frames.{FoundFunction, FrameRecord, NameRecord}
pub use Rattle.addr2line_units.specs.FramesLeft.{frames_left}
pub use Rattle.addr2line_units.specs.FramesLookup.{Finds, FindsNothing, LookupAsks, LookupStop, Waits, answer_of, asked_frames, asks_lines_of, frames_found, frames_of_number, function_offset_of, holds_along, inlined_at_number, is_waiting, located_frames, main_scope, readable_view, stop_along, view_of_number, with_answer}
pub use Rattle.addr2line_units.specs.EntriesKnown.{KnownEntries, LearnsDetailsAt, LearnsNoDetails, LearnsNoFunctions, NothingKnown, knows_at}
pub use Rattle.addr2line_units.specs.Loads.{NoneOpen, forget_result, forgotten, is_open_at, load_result, token_number}
pub use Rattle.addr2line_units.specs.Locations.{LocationResult, all_lines, is_found, location_of, steps_along, spans_of}
pub use Rattle.addr2line_units.specs.LocationsParsed.{AllAskFor, AreAllParsed, AreParsed, AreReadyForAll, AsksFor, LeadTo, ParsesOnly, StaysParsed, TakeNone, TakeNoneForAll, parses_no_memory, ready_along}
pub use Rattle.addr2line_units.specs.UnitsRanged.{IndexedUnit, has_lines, ranged_units, unit_records}
pub use Rattle.addr2line_units.specs.EntriesStayKnown.{IsReadBy, IsReadyAt, StaysKnown, StaysKnownOf}
pub use Rattle.addr2line_units.specs.Continuation.{Resumes, IfLoad, IfOutput, IsOkOutput, rests}
pub use Rattle.addr2line_units.specs.EntriesFrames.{FramesResult, frames_in, function_in}
unfoldable pub use Rattle.addr2line_units.specs.EntriesFrames.{frames_by_lines}
pub use Rattle.addr2line_units.specs.UnitsIndex.{UnitIndex, index_units, sup_units}
pub use Rattle.addr2line_units.specs.UnitsState.{UnitsState, asks_no_memory_at, has_all_at, has_few_at, waiting_unit}
pub use Rattle.addr2line_units.specs.UnitView.{FirstAnswers, SplitLoad, View, awaited_load, first_unit, parts_of}
unfoldable pub use Rattle.addr2line_units.specs.UnitView.{load_of_unit}
pub use Rattle.addr2line_units.specs.declared.frames.OnFault.{OnFault}
pub use Rattle.addr2line_units.specs.declared.frames.OnFault.TheVariants.{Skip, Stop}
