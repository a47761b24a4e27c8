-- A location as contracts see it: its text as bytes.
use Rattle.std.specs.Option.{option_copied}
use Rattle.addr2line_lines.specs.declared.location.Location.{Location as SourceLocation}
use Rattle.addr2line_lines.specs.Location.{Location}

-- the file, line and column of a location
abbrev pub as_location : SourceLocation → Location
as_location l = record { file = option_copied l.file; line = l.line; column = l.column }
