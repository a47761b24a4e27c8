-- The entries of the tables of version 5 (DWARF 5, section 6.2.4.1), whose values a format lists.
-- Own: where a table has entries, its format has exactly one path, of a form of strings; else it is
-- BadLineHeader, right after the count of the entries.
-- Own: a directory index of no constant form is 0; of several the last counts.
use Rattle.std.specs.Option.{unwrap_or}
use Rattle.std.specs.Prelude.{ℕ, zero, suc, ◌==◌, ◌&&◌, not, Bool, List, [], ◌∷◌, count_by, Option, Some, None, Result, Ok, Err, if◌then◌else◌}
use Rattle.gimli_line.specs.Common.{Error, BadLineHeader, Encoding, Section, Reading, ◌>>=◌, refused_if, fixed_at, uleb128_at, value_at, constant_of}
use Rattle.gimli_read.specs.declared.value.AttributeValue.{AttributeValue}
use Rattle.gimli_read.specs.StringForm.{is_string_form}
use Rattle.gimli_line.specs.declared.constants.TheConstants.{DW_LNCT_path, DW_LNCT_directory_index}
use Rattle.gimli_line.specs.declared.entry_tables.EntryFormat.{EntryFormat}
use Rattle.gimli_line.specs.Header.{File}

-- n things, one after another
unfoldable pub times : {A : Type 0} → (Section → Reading A) → ℕ → Section → Reading (List A)
times part zero s = Ok ([], s)
times part (suc n) s = do
  first ← part s
  others ← times part n first.1
  Ok (first.0 ∷ others.0, others.1)

-- what a value of the entries is, and its form
unfoldable pub format_at : Section → Reading EntryFormat
format_at s = do
  type ← uleb128_at s
  form ← uleb128_at type.1
  Ok (record { content_type = type.0; form = record { 0 = form.0 } }, form.1)

-- whether a value is the path
abbrev pub is_path : EntryFormat → Bool
is_path f = f.content_type == DW_LNCT_path

-- whether it is a path of another form
abbrev pub is_bad_path : EntryFormat → Bool
is_bad_path f = is_path f && not (is_string_form f.form.0)

-- exactly one path, and of a form of strings
abbrev pub is_sound_format : List EntryFormat → Bool
is_sound_format formats = count_by is_path formats == 1 && count_by is_bad_path formats == 0

-- what is read of an entry
pub record EntryValues : Type 0 where
  pub path_name : Option (AttributeValue Section)
  pub directory_index : ℕ

-- an entry with one more value
abbrev pub with_value : ℕ → AttributeValue Section → EntryValues → EntryValues
with_value type value entry =
    if type == DW_LNCT_path then record entry { path_name = Some value }
    else if type == DW_LNCT_directory_index
    then record entry { directory_index = unwrap_or (constant_of value) 0 }
    else entry

-- an entry of which nothing is read
abbrev pub no_entry : EntryValues
no_entry = record { path_name = None; directory_index = 0 }

-- the values of an entry, of which those that aren't known are dropped
unfoldable pub values_at : Encoding → List EntryFormat → EntryValues → Section → Reading EntryValues
values_at e [] entry s = Ok (entry, s)
values_at e (f ∷ formats) entry s =
    value_at e f.form.0 s >>= λ x. values_at e formats (with_value f.content_type x.0 entry) x.1

-- a file with this path, which each format has
abbrev pub filed : Option (AttributeValue Section) → ℕ → Result File Error
filed None index = Err BadLineHeader
filed (Some path) index = Ok (record { path_name = path; directory_index = index })

-- an entry of a table
unfoldable pub formatted_entry_at : Encoding → List EntryFormat → Section → Reading File
formatted_entry_at e formats s = do
  entry ← values_at e formats no_entry s
  file ← filed entry.0.path_name entry.0.directory_index
  Ok (file, entry.1)

-- what stands before the entries of a table: what the values of each are, and how many there are
pub record EntryFront : Type 0 where
  pub formats : List EntryFormat
  pub count : ℕ

-- a count of one byte, and as many formats
unfoldable pub formats_at : Section → Reading (List EntryFormat)
formats_at s = fixed_at 1 s >>= λ count. times format_at count.0 count.1

-- what stands before the entries of a table
unfoldable pub entry_front_at : Section → Reading EntryFront
entry_front_at s = do
  formats ← formats_at s
  count ← uleb128_at formats.1
  sound ← refused_if (not (count.0 == 0) && not (is_sound_format formats.0)) BadLineHeader
  Ok (record { formats = formats.0; count = count.0 }, count.1)

-- formats, a count, and as many entries
unfoldable pub entry_table_at : Encoding → Section → Reading (List File)
entry_table_at e s = do
  front ← entry_front_at s
  times (formatted_entry_at e front.0.formats) front.0.count front.1
