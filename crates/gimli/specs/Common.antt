-- What specs and contracts of this crate cite of the crates below, handed on. Declares nothing.
pub use Rattle.gimli_read.specs.Abbreviations.{Abbrev, Specification, with_code}
pub use Rattle.gimli_read.specs.Form.{NamedValue, constant_of, rest_of, as_value}
unfoldable pub use Rattle.gimli_read.specs.Form.{attribute_at, attributes_at}
pub use Rattle.gimli_read.specs.Number.{address_at, fits_u64, fixed_at, is_address_size, null_terminated_at, offset_at, offset_size, skipped_at, split_at}
unfoldable pub use Rattle.gimli_read.specs.Number.{address_size_at, initial_length_at}
pub use Rattle.gimli_read.specs.Reading.{Exactly, ExactlyUnlessOomFor, ExactlyUnlessOomIf, Reading, Reads, ReadsUnlessOomIf, WasNotRefused, fault_of, mapped, refused_if, ◌>>=◌}
pub use Rattle.gimli_read.specs.Run.{Run, cons, listed, run_of}
pub use Rattle.gimli_read.specs.Section.{Section, after}
pub use Rattle.gimli_read.specs.Version.{is_5, is_before_4, is_before_5, is_unknown}
pub use Rattle.gimli_read.specs.declared.constants.DwAt.{DwAt}
pub use Rattle.gimli_read.specs.declared.endian.Encoding.{Encoding}
pub use Rattle.gimli_read.specs.declared.endian.Format.{Format}
pub use Rattle.gimli_read.specs.declared.error.Error.{Error}
pub use Rattle.gimli_read.specs.declared.error.Error.TheVariants.{ExpectedString, MissingUnitDie, NoSupplementary, OffsetOutOfBounds, OutOfMemory, UnexpectedEof, UnknownAbbreviation, UnknownRangeListEntry, UnknownUnitType, UnknownVersion, UnsupportedAddressSize, UnsupportedSegmentSize}
pub use Rattle.gimli_read.specs.declared.range.Range.{Range}
pub use Rattle.gimli_read.specs.declared.value.AttributeValue.{AttributeValue}
pub use Rattle.gimli_line.specs.AddressSize.{address_limit, greatest_address, is_tombstone}
