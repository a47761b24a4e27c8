-- What specs and contracts of this crate cite of the crates below, handed on. Declares nothing.
pub use Rattle.clap.specs.Words.{App, IsAmong, Kinds, Row, Rule, Text, all_of, app_of, fault_of, first_of, found_of, kind_of, matches_of, new_app, new_rule, rows_of, rule_of, takes, with_rule}
pub use Rattle.gimli_read.specs.Reading.{Exactly, result_map}
pub use Rattle.elf.specs.Loading.{Loading, LoadsUnlessOom}
pub use Rattle.addr2line_lines.specs.Location.{Location}
pub use Rattle.addr2line_lines.specs.LentLocation.{as_location}
pub use Rattle.addr2line_units.specs.Frames.{FrameRecord, NameRecord}
