-- The texts of files (DWARF 5, section 6.2.4: a file's path is below its directory, and that below
-- the unit's).
-- Own: bytes are decoded lossily, and each text is pushed onto the path so far.
use Rattle.std.specs.Prelude.{ℕ, List, [], Option, Some, None}
use Rattle.gimli_read.specs.Text.{lossy_text}
use Rattle.addr2line_lines.specs.Paths.{pushed_path}

-- the unit's directory as text, empty where there is none
abbrev pub base_text : Option (List ℕ) → List ℕ
base_text None = []
base_text (Some bytes) = lossy_text bytes

-- the file's directory below it, if it has one
abbrev pub directory_text : List ℕ → Option (List ℕ) → List ℕ
directory_text base None = base
directory_text base (Some bytes) = pushed_path base (lossy_text bytes)

-- a file's text, of the unit's directory, the file's directory and its path
abbrev pub file_text : Option (List ℕ) → Option (List ℕ) → List ℕ → List ℕ
file_text unit directory path =
    pushed_path (directory_text (base_text unit) directory) (lossy_text path)

-- the text of the file that is the unit's own name, empty where it has none
abbrev pub own_text : Option (List ℕ) → Option (List ℕ) → List ℕ
own_text unit None = []
own_text unit (Some name) = file_text unit None name
