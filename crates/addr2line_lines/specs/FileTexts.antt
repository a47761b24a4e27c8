-- The texts of a unit's files by index (DWARF 5, section 6.2.4).
-- Own: below version 5 index 0 is the unit's own name; where there is none the text is empty. A
-- file's directory counts unless its index is 0 or has no entry. The fault of the texts is the
-- first one by index.
use Rattle.std.specs.Prelude.{ℕ, ◌==◌, List, [], ◌∷◌, ◌++◌, Option, Some, None, option_map, Result, Ok, if◌then◌else◌}
use Rattle.addr2line_lines.specs.Common.{Error, AttributeValue, Section, ◌>>=◌, File, Header, directory_of, Sections, UnitRecord, attr_string_of}
use Rattle.gimli_read.specs.Version.{is_before_5}
use Rattle.addr2line_lines.specs.Files.{file_text, own_text}

-- the bytes of a section, where there is one
abbrev pub bytes_if_some : Option Section → Option (List ℕ)
bytes_if_some s = option_map (λ (t : Section). t.bytes) s

-- the string of a value, where there is one
abbrev pub optional_string : Sections → UnitRecord → Option (AttributeValue Section)
    → Result (Option Section) Error
optional_string d u None = Ok None
optional_string d u (Some value) = attr_string_of d u value >>= λ text. Ok (Some text)

-- the directory that counts for a file
abbrev pub file_directory : Header → File → Option (AttributeValue Section)
file_directory h f = if f.directory_index == 0 then None else directory_of h f

-- the text of a file
unfoldable pub text_of_file : Sections → UnitRecord → Header → File → Result (List ℕ) Error
text_of_file d u h f = do
  directory ← optional_string d u (file_directory h f)
  path ← attr_string_of d u f.path_name
  Ok (file_text (bytes_if_some u.comp_dir) (bytes_if_some directory) path.bytes)

-- the texts of files, one after another
unfoldable pub texts_of : Sections → UnitRecord → Header → List File → Result (List (List ℕ)) Error
texts_of d u h [] = Ok []
texts_of d u h (f ∷ files) =
    text_of_file d u h f >>= λ text. texts_of d u h files >>= λ more. Ok (text ∷ more)

-- texts after others
abbrev pub texts_after : List (List ℕ) → Result (List (List ℕ)) Error → Result (List (List ℕ)) Error
texts_after front texts = texts >>= λ more. Ok (front ++ more)

-- an empty text where there is none
abbrev pub at_least_one : List (List ℕ) → List (List ℕ)
at_least_one [] = [] ∷ []
at_least_one (text ∷ texts) = text ∷ texts

-- the texts below version 5: first the unit's own name
abbrev pub own_name_first : Sections → UnitRecord → Header → List File
    → Result (List (List ℕ)) Error
own_name_first d u h files =
    texts_after (own_text (bytes_if_some u.comp_dir) (bytes_if_some u.name) ∷ [])
    (texts_of d u h files)

-- the texts by index, from 0 on
abbrev pub file_texts : Sections → UnitRecord → Header → List File → Result (List (List ℕ)) Error
file_texts d u h files =
    if is_before_5 h.encoding.version then own_name_first d u h files
    else (texts_of d u h files >>= λ texts. Ok (at_least_one texts))
