-- What specs and contracts of this crate cite of the crates below, handed on. Declares nothing.
pub use Rattle.gimli_read.specs.Costed.{Costed, CostedReading, ExactlyAtCost, ReadsAtCost, by_stored, free, parts, room_if}
pub use Rattle.gimli_read.specs.Form.{constant_of, as_value}
unfoldable pub use Rattle.gimli_read.specs.Form.{value_at}
pub use Rattle.gimli_read.specs.Leb128.{sleb128_at, uleb128_at}
unfoldable pub use Rattle.gimli_read.specs.Leb128.{sleb128_in, uleb128_in}
pub use Rattle.gimli_read.specs.Number.{address_at, fixed_at, is_address_size, null_terminated_at, offset_at, signed_byte_at, split_at}
unfoldable pub use Rattle.gimli_read.specs.Number.{address_size_at, initial_length_at}
pub use Rattle.gimli_read.specs.Reading.{Exactly, ExactlyUnlessOom, ExactlyUnlessOomFor, ExactlyUnlessOomIf, Reading, Reads, ReadsUnlessOomIf, WasNotRefused, fault_of, mapped, refused_if, ◌>>=◌}
pub use Rattle.gimli_read.specs.Run.{Run, collected, run_of}
pub use Rattle.gimli_read.specs.Section.{Section}
pub use Rattle.gimli_read.specs.Version.{is_before_4, is_before_5, is_unknown}
pub use Rattle.gimli_read.specs.declared.endian.Encoding.{Encoding}
pub use Rattle.gimli_read.specs.declared.error.Error.{Error}
pub use Rattle.gimli_read.specs.declared.error.Error.TheVariants.{AddressOverflow, BadLineHeader, OutOfMemory, UnknownVersion, UnsupportedAddressSize, UnsupportedSegmentSize}
