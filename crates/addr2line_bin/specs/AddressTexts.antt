-- The texts of addresses and of locations, and the lines of faults.
-- Own: an address has 16 digits, in the texts of LLVM as many as it needs; a word that is no
-- address is printed as 0.
-- Own: a file that isn't known is `??`, a line `?`; in the texts of LLVM a line or a column that
-- isn't known is 0. The last part of a path is what follows its last `/`, without a `/` or `/.` at
-- its end; a path without one, or one that ends in `.` or `..`, is printed whole.
use Rattle.std.specs.Prelude.{ℕ, ◌-◌, List, [], ◌++◌, Option, Some, None, codes, length, replicate, unwrap_or, if◌then◌else◌, false}
use Rattle.std.specs.Fmt.{decimal, radix_digits}
use Rattle.std.specs.Path.{path_file_name}
use Rattle.std.specs.Str.{byte}
use Rattle.elf.specs.declared.error.LoaderError.{LoaderError}
use Rattle.elf.specs.Text.{loader_text_of}
use Rattle.addr2line_bin.specs.Common.{Location}
use Rattle.addr2line_bin.specs.Address.{hex_radix}
use Rattle.addr2line_bin.specs.declared.options.Style.{Style}

-- lower case hexadecimal digits
abbrev pub hex_digits : ℕ → List ℕ
hex_digits n = radix_digits hex_radix false n

-- how many digits an address has: two of each byte of 64 bits
abbrev pub address_digits : ℕ
address_digits = 16

-- the digits after zeros, as many in all as an address has
abbrev pub wide_hex : ℕ → List ℕ
wide_hex n = replicate (address_digits - length (hex_digits n)) (byte "0") ++ hex_digits n

-- the digits of an address
abbrev pub digits_text : Style → ℕ → List ℕ
digits_text style n = if style.llvm then hex_digits n else wide_hex n

-- what follows an address
abbrev pub address_ending : Style → List ℕ
address_ending style = if style.pretty then codes ": " else codes "\n"

-- the address that is asked for, 0 for none, where addresses are printed
abbrev pub address_text : Style → Option ℕ → List ℕ
address_text style probe = if style.addresses
    then codes "0x" ++ (digits_text style (unwrap_or probe 0) ++ address_ending style) else []

-- the last part of a path, or the path whole
abbrev pub basename_of : List ℕ → List ℕ
basename_of path = unwrap_or (path_file_name path) path

-- a path
abbrev pub shown_path : Style → List ℕ → List ℕ
shown_path style path = if style.basenames then basename_of path else path

-- a file
abbrev pub shown_file : Style → Option (List ℕ) → List ℕ
shown_file style None = codes "??"
shown_file style (Some path) = shown_path style path

-- a line, or `?`
abbrev pub line_text : Option ℕ → List ℕ
line_text None = codes "?"
line_text (Some n) = decimal n

-- a line, in the texts of LLVM with its column
abbrev pub place_text : Style → Option ℕ → Option ℕ → List ℕ
place_text style line column = if style.llvm
    then decimal (unwrap_or line 0) ++ (codes ":" ++ decimal (unwrap_or column 0))
    else line_text line

-- the text of no location
abbrev pub nowhere_text : Style → List ℕ
nowhere_text style = if style.llvm then codes "??:0:0\n" else codes "??:0\n"

-- a location on a line of its own
abbrev pub location_text : Style → Option Location → List ℕ
location_text style None = nowhere_text style
location_text style (Some p) =
    shown_file style p.file ++ (codes ":" ++ (place_text style p.line p.column ++ codes "\n"))

-- what ends the text of an address
abbrev pub probe_end : Style → List ℕ
probe_end style = if style.llvm then codes "\n" else []

-- what can't be found
abbrev pub fault_topic : List ℕ → List ℕ → List ℕ
fault_topic name what = name ++ (codes ": failed to find " ++ what)

-- the address that it can't be found for
abbrev pub fault_subject : ℕ → List ℕ
fault_subject address = codes " for 0x" ++ hex_digits address

-- why it can't be found
abbrev pub fault_reason : LoaderError → List ℕ
fault_reason e = codes ": " ++ (loader_text_of e ++ codes "\n")

-- the line that says why something can't be found for an address
abbrev pub fault_line : List ℕ → List ℕ → ℕ → LoaderError → List ℕ
fault_line name what address e =
    fault_topic name what ++ (fault_subject address ++ fault_reason e)
