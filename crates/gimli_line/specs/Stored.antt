-- Where memory may be taken for the tables of a line program's header, and for a line program. Of
-- a table, tables or a program, `stored_x` is what is stored on the way to the reading x, and only its
-- memory counts; with it x is `x_at_cost`.
-- Own: a table takes memory where something of it can be read: a directory, a file, or what an
-- entry's values are. Where readers share their bytes, so does each part that may have some.
use Rattle.std.specs.Prelude.{ℕ, ◌==◌, ◌&&◌, ◌||◌, not, Bool, true, false, is_ok, is_some, List, length, Option, Ok, Err, if◌then◌else◌}
use Rattle.gimli_line.specs.Common.{Encoding, Section, is_before_5, Reading, fixed_at, run_of, collected, Costed, CostedReading, by_stored, free, parts, room_if}
use Rattle.gimli_line.specs.declared.entry_tables.EntryFormat.{EntryFormat}
use Rattle.gimli_read.specs.Costed.{◌>>=◌}
use Rattle.gimli_line.specs.EntryTables.{EntryFront, times, format_at, formats_at, formatted_entry_at, entry_front_at, entry_table_at}
use Rattle.gimli_line.specs.Header.{File, Program}
use Rattle.gimli_line.specs.Program.{line_header_fields_at, line_program_at}
use Rattle.gimli_line.specs.Tables.{Tables, directory_at, file_at, new_tables_at, old_tables_at, tables_at}

-- whether a reading gives a value before its end
abbrev pub gives_one : {A : Type 0} → Reading (Option A) → Bool
gives_one (Ok x) = is_some x.0
gives_one (Err e) = false

-- whether the first of n things can be read
abbrev pub gives_first : {A : Type 0} → (Section → Reading A) → ℕ → Section → Bool
gives_first part n s = not (n == 0) && is_ok (part s)

-- n things, each of which is stored, and holds bytes or not
abbrev pub stored_times : {A : Type 0} → Bool → (Section → Reading A) → ℕ → Section
    → CostedReading (List A)
stored_times holds part n s = record {
  given = times part n s;
  takes_memory = λ shares. holds && shares || gives_first part n s;
}

-- things up to the end, each of which is stored and holds bytes
abbrev pub stored_run : {A : Type 0} → (Section → Reading (Option A)) → Section
    → CostedReading (List A)
stored_run part s = record {
  given = collected (run_of part s);
  takes_memory = λ shares. shares || gives_one (part s);
}

-- what is stored of formats: as many as their count says
unfoldable pub stored_formats_at : Section → CostedReading (List EntryFormat)
stored_formats_at s =
    free (fixed_at 1 s) >>= λ count. stored_times false format_at count.0 count.1

-- formats, with the memory for them
abbrev pub formats_at_cost : Section → CostedReading (List EntryFormat)
formats_at_cost s = by_stored (stored_formats_at s) (formats_at s)

-- what stands before the entries of a table, with the memory for its formats
abbrev pub entry_front_at_cost : Section → CostedReading EntryFront
entry_front_at_cost s = by_stored (stored_formats_at s) (entry_front_at s)

-- what is stored of a table of version 5: what stands before its entries, and these
unfoldable pub stored_entry_table_at : Encoding → Section → CostedReading (List File)
stored_entry_table_at e s = entry_front_at_cost s >>= λ front.
    stored_times true (formatted_entry_at e front.0.formats) front.0.count front.1

-- such a table, with the memory for it
abbrev pub entry_table_at_cost : Encoding → Section → CostedReading (List File)
entry_table_at_cost e s = by_stored (stored_entry_table_at e s) (entry_table_at e s)

-- what is stored of the tables of versions 2 to 4: directories and files
unfoldable pub stored_old_tables_at : Section → CostedReading (List File)
stored_old_tables_at s =
    stored_run directory_at s >>= λ directories. stored_run file_at directories.1

-- these tables, with the memory for them
abbrev pub old_tables_at_cost : Section → CostedReading Tables
old_tables_at_cost s = by_stored (stored_old_tables_at s) (old_tables_at s)

-- what is stored of the tables of version 5: directories, files, and the paths of the directories
-- once more
unfoldable pub stored_new_tables_at : Encoding → Section → CostedReading (List File)
stored_new_tables_at e s = entry_table_at_cost e s >>= λ directories.
    entry_table_at_cost e directories.1 >>= λ files.
    room_if (not (length directories.0 == 0)) >>= λ paths. free (Ok files)

-- these tables, with the memory for them
abbrev pub new_tables_at_cost : Encoding → Section → CostedReading Tables
new_tables_at_cost e s = by_stored (stored_new_tables_at e s) (new_tables_at e s)

-- what is stored of the tables of a version
unfoldable pub stored_tables_at : Encoding → Section → CostedReading (List File)
stored_tables_at e s =
    if is_before_5 e.version then stored_old_tables_at s else stored_new_tables_at e s

-- the tables of a version, with the memory for them
abbrev pub tables_at_cost : Encoding → Section → CostedReading Tables
tables_at_cost e s = by_stored (stored_tables_at e s) (tables_at e s)

-- what is stored of a line program: the parts of its header that hold bytes, and its tables
unfoldable pub stored_line_program_at : ℕ → Section → CostedReading Tables
stored_line_program_at unit_size s = parts (line_header_fields_at unit_size s) >>= λ fields.
    tables_at_cost fields.encoding fields.tables

-- a line program, with the memory for it
abbrev pub line_program_at_cost : ℕ → Section → Costed Program
line_program_at_cost unit_size s =
    by_stored (stored_line_program_at unit_size s) (line_program_at unit_size s)
