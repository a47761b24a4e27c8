-- What specs and contracts of this crate cite of the crates below, handed on. Declares nothing.
pub use Rattle.gimli_read.specs.Number.{fixed_at, number_of, skipped_at}
pub use Rattle.gimli_read.specs.Reading.{Exactly, ExactlyUnlessOomFor, ExactlyUnlessOomIf, refused_if, ◌>>=◌}
pub use Rattle.gimli_read.specs.Section.{Section, after, first}
pub use Rattle.gimli_read.specs.declared.error.Error.{Error}
pub use Rattle.gimli_read.specs.declared.error.Error.TheVariants.{OffsetOutOfBounds, UnexpectedEof, UnknownVersion}
pub use Rattle.gimli.specs.Sections.{Sections}
pub use Rattle.gimli.specs.UnitMemory.{gives_some}
pub use Rattle.gimli.specs.declared.dwarf.DwarfFileType.TheVariants.{Dwo}
