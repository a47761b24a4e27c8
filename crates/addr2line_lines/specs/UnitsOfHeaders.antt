-- The units of headers: all of them, and the first (DWARF 5, section 7.5.1).
-- Own: the first fault counts, of a header or of its unit, in the order of the headers.
use Rattle.std.specs.Prelude.{List, [], ◌∷◌, filter_map, map, Option, Some, None, Result, Ok}
use Rattle.addr2line_lines.specs.Common.{Error, ◌>>=◌}
use Rattle.gimli.specs.Header.{UnitHeaderFields}
use Rattle.addr2line_lines.specs.Rows.{read_all}

-- the units of headers, of which some may be passed over, or the first fault
abbrev pub units_of : {U : Type 0} → (UnitHeaderFields → Result (Option U) Error)
    → List (Result UnitHeaderFields Error) → Result (List U) Error
units_of read headers =
    read_all (map (λ header. header >>= read) headers) >>= λ units. Ok (filter_map (λ u. u) units)

-- the first unit of headers, none where there is no header, or the fault
abbrev pub first_unit_of : {U : Type 0} → (UnitHeaderFields → Result U Error)
    → List (Result UnitHeaderFields Error) → Result (Option U) Error
first_unit_of read [] = Ok None
first_unit_of read (header ∷ headers) = header >>= read >>= λ unit. Ok (Some unit)
