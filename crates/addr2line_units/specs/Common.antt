-- What specs and contracts of this crate cite of the crates below, handed on. Declares nothing.
pub use Rattle.gimli_read.specs.Costed.{Costed, ExactlyAtCost, free, parts_on_the_way}
pub use Rattle.gimli_read.specs.Reading.{Exactly, ExactlyUnlessOom, ExactlyUnlessOomIf, IsUnlessOom, WasNotRefused, fault_of, result_map, ◌>>=◌}
pub use Rattle.gimli_read.specs.Section.{Section}
pub use Rattle.gimli_read.specs.declared.constants.DwLang.{DwLang}
pub use Rattle.gimli_read.specs.declared.error.Error.{Error}
pub use Rattle.gimli_read.specs.declared.error.Error.TheVariants.{OutOfMemory, UnknownToken}
pub use Rattle.gimli_read.specs.declared.range.Range.{Range}
pub use Rattle.gimli.specs.Aranges.{arange_sets_of}
pub use Rattle.gimli.specs.Header.{UnitHeaderFields}
pub use Rattle.gimli.specs.Sections.{Sections, SupSections, sup_sections}
pub use Rattle.gimli.specs.Unit.{UnitRecord}
unfoldable pub use Rattle.gimli.specs.Unit.{unit_record_of}
pub use Rattle.gimli.specs.UnitsLeft.{all_headers}
pub use Rattle.addr2line_lines.specs.FunctionTable.{AreListed, CachedFunction, FunctionTable, cached_detail, cached_inlined, cached_name, cached_offset_at, function_place_at, inlined_of_detail}
pub use Rattle.addr2line_lines.specs.Functions.{FunctionRange, entries_of, function_offset_at, functions_of, functions_take_memory}
pub use Rattle.addr2line_lines.specs.InlineRoom.{exceeds_inline_room}
pub use Rattle.addr2line_lines.specs.InlinedEntries.{InlinedEntry}
pub use Rattle.addr2line_lines.specs.Location.{LineTable, Location, location_at, location_of_row}
pub use Rattle.addr2line_lines.specs.RangeLocations.{LocatedSpan, locations_in_range, sequence_ranges}
pub use Rattle.addr2line_lines.specs.References.{AreInOrder, FileRecord, IsScope, Scope}
pub use Rattle.addr2line_lines.specs.LentLocation.{as_location}
pub use Rattle.addr2line_lines.specs.Scopes.{as_file_record, as_scope}
pub use Rattle.addr2line_lines.specs.UnitLines.{unit_lines}
