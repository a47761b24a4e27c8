-- Where memory may be taken for a unit: as `Dwarf::unit` reads it, with its abbreviations
-- (`unit_takes_memory`), and where these are read already (`unit_by_at_cost`). `stored_x` is what is
-- stored on the way to the reading x, and only its memory counts; with it x is `x_at_cost`.
-- Own: OutOfMemory is an answer only there.
use Rattle.std.specs.Prelude.{ℕ, ◌||◌, Bool, false, true, List, Option, Some, None, is_some, unwrap_or, Result, Ok, Err}
use Rattle.std.specs.Option.{option_map_or}
use Rattle.gimli.specs.Common.{Error, Encoding, AttributeValue, Section, Abbrev}
use Rattle.gimli_read.specs.Costed.{Costed, ◌>>=◌, by_stored, free, parts, parts_on_the_way, room_if}
use Rattle.gimli_read.specs.HeldBytes.{holds_bytes}
use Rattle.gimli_read.specs.Abbrev.{has_front}
use Rattle.gimli_line.specs.Header.{Program}
use Rattle.gimli_line.specs.Stored.{line_program_at_cost}
use Rattle.gimli.specs.Header.{UnitHeaderFields}
use Rattle.gimli.specs.Sections.{Sections}
use Rattle.gimli.specs.Record.{RootValues, root_values_of}
use Rattle.gimli.specs.Text.{from_offset}
use Rattle.gimli.specs.Unit.{UnitRecord, completed_record, line_program_of, program_and_low_pc_of, unit_by}

-- whether something is given
abbrev pub gives_some : {X : Type 0} → Result (Option X) Error → Bool
gives_some (Ok given) = is_some given
gives_some (Err e) = false

-- whether a value is given that holds bytes
abbrev pub gives_bytes_if : Result (Option (AttributeValue Section)) Error → Bool
gives_bytes_if (Ok given) = option_map_or holds_bytes given false
gives_bytes_if (Err e) = false

-- whether memory may be taken for the abbreviations from an offset on: for the table's own entries,
-- or where readers share their bytes; none past the section's end
abbrev pub abbreviations_take_memory : Bool → Result Section Error → Bool
abbreviations_take_memory shares (Ok rest) = shares || has_front rest
abbreviations_take_memory shares (Err e) = false

-- whether memory may be taken for the unit of a header: without abbreviations it has no root entry,
-- so nothing that follows takes any
abbrev pub unit_takes_memory : Bool → Sections → UnitHeaderFields → Bool
unit_takes_memory shares d header =
    abbreviations_take_memory shares (from_offset header.debug_abbrev_offset d.debug_abbrev)

-- what is stored of the line program at the offset that stmt_list gives: the bytes from there on,
-- the program, and a box
unfoldable pub stored_line_program_of : Sections → Encoding → Option ℕ → Costed (Unit {0})
stored_line_program_of d encoding None = free (Ok tt)
stored_line_program_of d encoding (Some offset) =
    parts (from_offset offset d.debug_line) >>= λ rest.
    line_program_at_cost encoding.address_size rest >>= λ program. room_if true

-- that line program, with the memory for it
abbrev pub line_program_of_at_cost : Sections → Encoding → Option ℕ → Costed (Option Program)
line_program_of_at_cost d encoding offset =
    by_stored (stored_line_program_of d encoding offset) (line_program_of d encoding offset)

-- the line program and the low_pc of a root entry, with the memory for the program
abbrev pub program_and_low_pc_of_at_cost : Sections → Encoding → ℕ → RootValues
    → Costed (Option Program × ℕ)
program_and_low_pc_of_at_cost d encoding addr_base root =
    by_stored (stored_line_program_of d encoding root.stmt_list)
    (program_and_low_pc_of d encoding addr_base root)

-- what is stored of the unit of a header, whose root entry has these values: its line program, then
-- one more user of its abbreviations, and texts in shared bytes
unfoldable pub stored_completed_record : Sections → UnitHeaderFields → RootValues
    → Costed (Unit {0})
stored_completed_record d header root =
    program_and_low_pc_of_at_cost d header.encoding (unwrap_or root.addr_base 0) root
    >>= λ read. room_if true

-- that unit, with the memory for it
abbrev pub completed_record_at_cost : Sections → UnitHeaderFields → List Abbrev → RootValues
    → Costed UnitRecord
completed_record_at_cost d header table root =
    by_stored (stored_completed_record d header root) (completed_record d header table root)

-- what is stored of the unit of a header, whose table is read: its root entry, and the rest
unfoldable pub stored_unit_by : Sections → UnitHeaderFields → Result (List Abbrev) Error
    → Costed UnitRecord
stored_unit_by d header read = free read >>= λ table.
    parts_on_the_way (root_values_of header.encoding table header.entries) >>= λ root.
    completed_record_at_cost d header table root

-- that unit, with the memory for it
abbrev pub unit_by_at_cost : Sections → UnitHeaderFields → Result (List Abbrev) Error
    → Costed UnitRecord
unit_by_at_cost d header read = by_stored (stored_unit_by d header read) (unit_by d header read)
