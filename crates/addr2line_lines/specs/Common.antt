-- What specs and contracts of this crate cite of the crates below, handed on. Declares nothing.
pub use Rattle.gimli_read.specs.Abbreviations.{Abbrev, Specification}
pub use Rattle.gimli_read.specs.Costed.{Costed, ExactlyAtCost, free, takes_memory_after}
pub use Rattle.gimli_read.specs.Form.{NamedValue, constant_of, rest_of, as_value}
unfoldable pub use Rattle.gimli_read.specs.Form.{attribute_at}
pub use Rattle.gimli_read.specs.Reading.{Exactly, ExactlyUnlessOom, ExactlyUnlessOomIf, IsUnlessOom, Reading, WasNotRefused, fault_of, result_map, ◌>>=◌}
pub use Rattle.gimli_read.specs.Run.{Run, fold_of}
unfoldable pub use Rattle.gimli_read.specs.Run.{fold_run}
pub use Rattle.gimli_read.specs.Section.{Section}
pub use Rattle.gimli_read.specs.Topmost.{last, topmost}
pub use Rattle.gimli_read.specs.declared.constants.DwAt.{DwAt}
pub use Rattle.gimli_read.specs.declared.constants.TheConstants.DwAt.{DW_AT_MIPS_linkage_name, DW_AT_abstract_origin, DW_AT_call_column, DW_AT_call_file, DW_AT_call_line, DW_AT_high_pc, DW_AT_linkage_name, DW_AT_low_pc, DW_AT_name, DW_AT_ranges, DW_AT_specification}
pub use Rattle.gimli_read.specs.declared.error.Error.{Error}
pub use Rattle.gimli_read.specs.declared.error.Error.TheVariants.{NoEntryAtGivenOffset, OutOfMemory, UnexpectedEof}
pub use Rattle.gimli_read.specs.declared.range.Range.{Range}
pub use Rattle.gimli_read.specs.declared.value.AttributeValue.{AttributeValue}
pub use Rattle.gimli_line.specs.Header.{File, Header, Program, directory_of, header_copy_takes_memory}
pub use Rattle.gimli_line.specs.declared.row.LineRow.{LineRow}
pub use Rattle.gimli.specs.Entry.{EntryUnit}
unfoldable pub use Rattle.gimli.specs.Entry.{attributes_at, entry_code_at}
pub use Rattle.gimli.specs.Items.{Entry, Item, items_at, items_inside, items_of, subtree_of}
pub use Rattle.gimli.specs.Ranges.{ranges_at}
pub use Rattle.gimli.specs.Sections.{Sections}
pub use Rattle.gimli.specs.TakenAttributes.{taken_after, taken_in}
pub use Rattle.gimli.specs.Unit.{UnitRecord, attr_string_of}
