-- What is left of a section's units (DWARF 5, section 7.5).
use Rattle.std.specs.Prelude.{ℕ, Bool, false, List, Option, is_some, Result, Ok, Err}
use Rattle.gimli.specs.Common.{Error, Section, listed, run_of}
use Rattle.gimli.specs.Header.{UnitHeaderFields, next_header_at, headers_of}

-- the headers that are left of a section of this length, and the fault after them, if there is one
abbrev pub headers_left : ℕ → Section → List (Result UnitHeaderFields Error)
headers_left section_length s = listed (run_of (next_header_at section_length) s)

-- all headers of a section
abbrev pub all_headers : Section → List (Result UnitHeaderFields Error)
all_headers s = listed (headers_of s)

-- whether a call of the iterator gives a header, and not the end or a fault
abbrev pub gives_header : {L : Type 0} → Result (Option UnitHeaderFields × L) Error → Bool
gives_header (Ok x) = is_some x.0
gives_header (Err e) = false
