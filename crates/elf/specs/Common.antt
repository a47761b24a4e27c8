-- What specs and contracts of this crate cite of the crates below, handed on. Declares nothing.
pub use Rattle.gimli_read.specs.Reading.{Exactly, ExactlyUnless, ExactlyUnlessFor, ExactlyWhere, result_map, ◌>>=◌}
pub use Rattle.gimli_read.specs.declared.endian.RunTimeEndian.{RunTimeEndian}
