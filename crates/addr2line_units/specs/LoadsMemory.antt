-- When an answer to the load of a unit takes memory (DWARF 5, section 7.3.2).
use Rattle.std.specs.Prelude.{Bool, false, List, [], ◌∷◌, Option, Some, None, Result, Ok}
use Rattle.addr2line_units.specs.Common.{Costed, Error, free, parts_on_the_way, Sections, UnitHeaderFields, UnitRecord, unit_record_of, all_headers}
use Rattle.gimli.specs.UnitMemory.{unit_takes_memory}
use Rattle.gimli_read.specs.Costed.{◌>>=◌}

-- the unit of a header, and whether memory may be taken for it
abbrev pub unit_read : Sections → UnitHeaderFields → Costed UnitRecord
unit_read d header = record {
  given = unit_record_of d header;
  takes_memory = λ shares. unit_takes_memory shares d header;
}

-- what is stored on the way to the first unit of headers
abbrev pub stored_first_unit_of : {U : Type 0} → (UnitHeaderFields → Costed U)
    → List (Result UnitHeaderFields Error) → Costed (Option U)
stored_first_unit_of read [] = parts_on_the_way (Ok None)
stored_first_unit_of read (header ∷ headers) =
    parts_on_the_way header >>= read >>= λ unit. free (Ok (Some unit))

-- whether memory may be taken for the first unit of sections: where readers share their bytes, or
-- for the unit of the first header, where that can be read
abbrev pub first_unit_takes_memory : Bool → Sections → Bool
first_unit_takes_memory shares d =
    (stored_first_unit_of (unit_read d) (all_headers d.debug_info)).takes_memory shares

-- whether memory may be taken for an answer: for the first unit of its sections, which is stored,
-- or to look for one where readers share their bytes
abbrev pub answer_takes_memory : Bool → Option Sections → Bool
answer_takes_memory shares None = false
answer_takes_memory shares (Some d) = first_unit_takes_memory shares d
