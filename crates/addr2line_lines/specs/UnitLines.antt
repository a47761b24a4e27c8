-- The lines of a unit: its files and its sequences, or their fault (DWARF 5, section 6.2).
-- Own: the program's fault comes before that of the files' texts. A unit without a line program has
-- no lines.
use Rattle.std.specs.Prelude.{◌≡◌, ◌++◌, [], ◌∷◌, Option, Some, None, Result, Ok, Err}
use Rattle.addr2line_lines.specs.Common.{Error, ◌>>=◌, Program, Sections, UnitRecord}
use Rattle.gimli_line.specs.Lines.{Lines, lines_of}
use Rattle.addr2line_lines.specs.Rows.{read_all}
use Rattle.addr2line_lines.specs.Location.{LineTable, line_table_of}
use Rattle.addr2line_lines.specs.FileTexts.{file_texts}

-- the lines of a program: its rows, and the texts of its files with those that it defines
unfoldable pub program_lines : Sections → UnitRecord → Program → Result LineTable Error
program_lines d u p = do
  rows ← read_all (lines_of p).left
  files ← file_texts d u p.header (p.header.file_names ++ (lines_of p).to_define)
  Ok (line_table_of files rows)

-- the lines of a program, none where there is no program
abbrev pub lines_in : Sections → UnitRecord → Option Program → Result LineTable Error
lines_in d u None = Ok (record { files = []; sequences = [] })
lines_in d u (Some p) = program_lines d u p

-- the lines of a unit, by its program
abbrev pub unit_lines : Sections → UnitRecord → Result LineTable Error
unit_lines d u = lines_in d u u.line_program

-- where a program has a fault before its first row, and before any file that it defines, that fault
-- is the answer
abbrev pub IsFaultAtOnce : {X : Type 0} → Lines → Result X Error → Type 0
IsFaultAtOnce {X} lines result = (e : Error) → lines.ahead ≡ [] → lines.left ≡ Err e ∷ []
    → ◌≡◌ {A = Result X Error} result (Err e)
