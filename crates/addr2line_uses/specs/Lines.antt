-- Lines alone of what lookups give. Own.
use Rattle.std.specs.Prelude.{ℕ, Option, option_and_then}
use Rattle.gimli_read.specs.Reading.{result_map}
use Rattle.gimli_read.specs.declared.error.Error.{Error}
use Rattle.std.specs.Prelude.{Result}
use Rattle.gimli.specs.Sections.{Sections}
use Rattle.addr2line_lines.specs.Location.{Location}
use Rattle.addr2line_units.specs.Locations.{location_of}

-- the line of an address, if it is known, or the first fault
abbrev pub line_of : Sections → ℕ → Result (Option ℕ) Error
line_of d address =
    result_map (option_and_then (λ (l : Location). l.line)) (location_of d address)
