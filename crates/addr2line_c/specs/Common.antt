-- What specs and contracts of this crate cite of the crates below, handed on. Declares nothing.
pub use Rattle.gimli_read.specs.Reading.{ExactlyUnlessOom, IsUnlessOom, WasNotRefused, result_map, ◌>>=◌}
pub use Rattle.gimli_read.specs.declared.error.Error.{Error}
pub use Rattle.gimli_read.specs.declared.error.Error.TheVariants.{UnknownToken}
pub use Rattle.gimli.specs.Sections.{Sections}
pub use Rattle.elf.specs.Loading.{Loading, LoadsUnlessOom}
pub use Rattle.elf.specs.declared.error.LoaderError.TheVariants.{OutOfMemory}
pub use Rattle.addr2line_units.specs.Locations.{LocationResult, location_of, spans_of}
pub use Rattle.addr2line_units.specs.UnitView.{SplitLoad}
pub use Rattle.addr2line.specs.Context.{AfterLookup, AfterRangeLookup, ContextState, IsReady, IsReadyForAll, IsReadyForRange, ParsesToFault, Stays, lines_of_all}
pub use Rattle.addr2line.specs.SplitFiles.{of_file, or_none}
unfoldable pub use Rattle.addr2line.specs.SplitFiles.{split_of}
