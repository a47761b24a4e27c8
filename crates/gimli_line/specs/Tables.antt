-- What the tables of a line program's header have (DWARF 5, section 6.2.4; DWARF 2 to 4, section
-- 6.2.4).
use Rattle.std.specs.Prelude.{◌==◌, List, length, map, Option, Some, None, Ok, if◌then◌else◌}
use Rattle.gimli_line.specs.Common.{Encoding, Section, is_before_5, Reading, ◌>>=◌, null_terminated_at, run_of, collected}
use Rattle.gimli_read.specs.declared.value.AttributeValue.{AttributeValue}
use Rattle.gimli_read.specs.declared.value.AttributeValue.TheVariants.{String}
use Rattle.gimli_line.specs.EntryTables.{entry_table_at}
use Rattle.gimli_line.specs.Header.{File}
use Rattle.gimli_line.specs.Opcode.{file_with_path_at}

-- a directory of versions 2 to 4, none at an empty text
unfoldable pub directory_at : Section → Reading (Option (AttributeValue Section))
directory_at s = do
  path ← null_terminated_at s
  if length path.0.bytes == 0 then Ok (None, path.1) else Ok (Some (String path.0), path.1)

-- a file of the table of versions 2 to 4, none at an empty text
unfoldable pub file_at : Section → Reading (Option File)
file_at s = do
  path ← null_terminated_at s
  if length path.0.bytes == 0 then Ok (None, path.1) else do
    file ← file_with_path_at path.0 path.1
    Ok (Some file.0, file.1)

-- directories and files
pub record Tables : Type 0 where
  pub include_directories : List (AttributeValue Section)
  pub file_names : List File

-- the tables of versions 2 to 4: directories and files, each list up to an empty text
unfoldable pub old_tables_at : Section → Reading Tables
old_tables_at s = do
  directories ← collected (run_of directory_at s)
  files ← collected (run_of file_at directories.1)
  Ok (record { include_directories = directories.0; file_names = files.0 }, files.1)

-- the tables of version 5
unfoldable pub new_tables_at : Encoding → Section → Reading Tables
new_tables_at e s = do
  directories ← entry_table_at e s
  files ← entry_table_at e directories.1
  Ok (
    record {
      include_directories = map (λ (f : File). f.path_name) directories.0;
      file_names = files.0;
    },
    files.1,
  )

-- the tables of a version
unfoldable pub tables_at : Encoding → Section → Reading Tables
tables_at e s = if is_before_5 e.version then old_tables_at s else new_tables_at e s
