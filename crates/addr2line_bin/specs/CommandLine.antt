-- What the words of the command line ask for, by the matches of the command that takes them.
-- Own: `-e` has a value; `--all` stands beside no address word; where neither `--all` nor an
-- address word stands, the lines of standard input are asked for.
-- Own: a style is asked for by its name, or LLVM's by `--llvm`; a style of names stands after `=`.
-- How deep names are read is fixed, so the options with which other programs set it are refused.
use Rattle.std.specs.Prelude.{◌≡◌, ◌≢◌, ◌⊎◌, Bool, true, false, ◌&&◌, ◌||◌, not, List, [], map}
use Rattle.std.specs.Prelude.{Option, Some, None, Result, Ok, Err, if◌then◌else◌, is_ok, is_some, nat_eq, option_map, codes, string_bytes}
use Rattle.std.specs.Option.{option_map_or}
use Rattle.std.specs.List.{starts_with}
use Rattle.std.specs.Str.{bytes_eq}
use Rattle.std.specs.declared.string.String.{String}
use Rattle.std.specs.declared.alloc.Global.{Global}
use Rattle.addr2line_bin.specs.Common.{Text, Row, all_of, first_of, matches_of, takes, IsAmong, Kinds, fault_of, kind_of}
use Rattle.clap.specs.declared.error.Error.{Error}
use Rattle.clap.specs.declared.error.kind.ErrorKind.TheVariants as kind
use Rattle.addr2line.specs.declared.compressed.CompressedSections.{CompressedSections}
use Rattle.addr2line.specs.declared.compressed.CompressedSections.TheVariants.{Decompressed, Refused}
use Rattle.addr2line.specs.declared.names.Style.{Style as NameStyle}
use Rattle.addr2line.specs.declared.names.Style.TheVariants as names
use Rattle.addr2line_bin.specs.Command.{whole_command}
use Rattle.addr2line_bin.specs.ProgramName.{program_name}
use Rattle.addr2line_bin.specs.declared.command_line.Request.{Request}
use Rattle.addr2line_bin.specs.declared.command_line.Misuse.{Misuse}
use Rattle.addr2line_bin.specs.declared.command_line.Misuse.TheVariants as misuse
use Rattle.addr2line_bin.specs.declared.command_line.OutputStyle.{OutputStyle}
use Rattle.addr2line_bin.specs.declared.command_line.OutputStyle.TheVariants as output
use Rattle.addr2line_bin.specs.declared.command_line.WordFault.{WordFault}
use Rattle.addr2line_bin.specs.declared.command_line.WordFault.TheVariants as fault
use Rattle.addr2line_bin.specs.declared.options.Probes.{Probes}
use Rattle.addr2line_bin.specs.declared.options.Probes.TheVariants as probes
use Rattle.addr2line_bin.specs.declared.options.Style.{Style}

-- the words of a command line as texts
abbrev pub texts_in : List (String Global) → List Text
texts_in = map string_bytes

-- a word; in place of `--demangle=STYLE` the switch by which the command takes that style
abbrev pub styled_word : Text → Text
styled_word word = if bytes_eq word (codes "--demangle=none") then codes "--demangle-none"
    else (if bytes_eq word (codes "--demangle=rust") then codes "--demangle-rust"
    else (if bytes_eq word (codes "--demangle=auto") then codes "--demangle-auto"
    else (if starts_with nat_eq word (codes "--demangle=") then codes "--demangle-other"
    else word)))

-- the matches of the words
unfoldable pub matches_in : List Text → List Row
matches_in words = matches_of whole_command (map styled_word words)

-- whether the command takes the words
unfoldable pub are_taken : List Text → Bool
are_taken words = takes whole_command (map styled_word words)

-- the kinds of the first fault of the words, none where there are matches
unfoldable pub faults_in : List Text → Kinds
faults_in words = fault_of whole_command (map styled_word words)

-- whether a switch is on
abbrev pub is_on : Text → List Row → Bool
is_on id rows = option_map_or (λ text. bytes_eq text (codes "true")) (first_of id rows) false

-- the style that a name stands for, if there is one
abbrev pub named_output : Text → Option OutputStyle
named_output name = if bytes_eq name (codes "GNU") then Some output.Gnu
    else (if bytes_eq name (codes "LLVM") then Some output.Llvm
    else (if bytes_eq name (codes "JSON") then Some output.Json else None))

-- the style that is asked for, if there is one of that name; without a name by `--llvm`
abbrev pub output_of : List Row → Option OutputStyle
output_of rows = option_map_or named_output (first_of (codes "output-style") rows)
    (Some (if is_on (codes "llvm") rows then output.Llvm else output.Gnu))

-- whether the depth of names is asked for
abbrev pub asks_recursion : List Row → Bool
asks_recursion rows = is_on (codes "recurse-limit") rows || is_on (codes "no-recurse-limit") rows

-- which names are demangled, if any are: `none` before `rust` and `auto`, and these before an option
-- without a style
abbrev pub asked_names : List Row → Option NameStyle
asked_names rows = if is_on (codes "demangle-none") rows then None
    else (if is_on (codes "demangle-rust") rows || is_on (codes "demangle-auto") rows
    then Some names.Rust
    else (if is_on (codes "demangle") rows then Some names.Legacy else None))

-- the path that a value of `-e` is, unless `--all` stands beside an address word
abbrev pub exe_beside : Bool → Option Text → Result Text Misuse
exe_beside all_and_addresses None = Err misuse.NoFile
exe_beside all_and_addresses (Some path) =
    if all_and_addresses then Err misuse.AllAndAddresses else Ok path

-- the path of the file that matches ask something of, or why they ask for nothing
unfoldable pub exe_in : List Row → Result Text Misuse
exe_in rows = if asks_recursion rows then Err misuse.RecursionLimit
    else (if not (is_some (output_of rows)) then Err misuse.OutputStyle
    else (if is_on (codes "demangle-other") rows then Err misuse.NameStyle
    else exe_beside (is_on (codes "all") rows && is_some (all_of (codes "probes") rows))
    (first_of (codes "exe") rows)))

-- whether matches ask for something
abbrev pub is_complete : List Row → Bool
is_complete rows = is_ok (exe_in rows)

-- whether a style is LLVM's
abbrev pub is_llvm : Option OutputStyle → Bool
is_llvm (Some output.Llvm) = true
is_llvm _ = false

-- whether a style is that of JSON
abbrev pub is_json : Option OutputStyle → Bool
is_json (Some output.Json) = true
is_json _ = false

-- the probes are all, the address words in order, or lines
abbrev pub AreProbes : List Row → Probes → Type 0
AreProbes rows probes.All =
    (is_on (codes "all") rows ≡ true) × (all_of (codes "probes") rows ≡ None)
AreProbes rows (probes.Words v) =
    (is_on (codes "all") rows ≡ false) × (all_of (codes "probes") rows ≡ Some (texts_in v.items))
AreProbes rows probes.Lines =
    (is_on (codes "all") rows ≡ false) × (all_of (codes "probes") rows ≡ None)

-- how addresses are printed: each switch by its own name
abbrev pub asked_style : List Row → Style
asked_style rows = record {
  functions = is_on (codes "functions") rows;
  pretty = is_on (codes "pretty-print") rows;
  inlines = is_on (codes "inlines") rows;
  addresses = is_on (codes "addresses") rows;
  basenames = is_on (codes "basenames") rows;
  names = asked_names rows;
  llvm = is_llvm (output_of rows);
  json = is_json (output_of rows);
}

-- what becomes of sections that are compressed
abbrev pub asked_compressed : List Row → CompressedSections
asked_compressed rows = if is_on (codes "decompress") rows then Decompressed else Refused

-- the request is what matches ask for
pub record IsAsked (rows : List Row) (r : Request) : Type 0 where
  pub exe : exe_in rows ≡ Ok (string_bytes r.exe)
  pub sup : first_of (codes "sup") rows ≡ option_map string_bytes r.sup
  pub compressed : r.compressed ≡ asked_compressed rows
  pub section : first_of (codes "section") rows ≡ option_map string_bytes r.options.section
  pub probes : AreProbes rows r.options.probes
  pub style : r.options.style ≡ asked_style rows

-- a fault of the parse as a fault of the words
abbrev pub IsFaultOf : Error → WordFault → Type 0
IsFaultOf x e = ((kind_of x ≡ kind.OutOfMemory) × (e ≡ fault.OutOfMemory))
    ⊎ ((kind_of x ≢ kind.OutOfMemory) × (e ≡ fault.Clap x))

-- why matches ask for nothing, or memory was refused
abbrev pub IsUnasked : List Row → WordFault → Type 0
IsUnasked rows e = (e ≡ fault.OutOfMemory)
    ⊎ ((why : Misuse) × (e ≡ fault.Misuse why) × (exe_in rows ≡ Err why))

-- the request is what the words ask for; the matches are those of words without a fault
pub record IsRequest (words : List (String Global)) (r : Request) : Type 0 where
  pub taken : faults_in (texts_in words) ≡ []
  pub name : string_bytes r.options.name ≡ program_name words
  pub asked : IsAsked (matches_in (texts_in words)) r

-- a fault of the words, no fault but incomplete words, or refused memory
abbrev pub IsWordFault : List Text → WordFault → Type 0
IsWordFault words (fault.Clap e) = IsAmong (kind_of e) (faults_in words)
IsWordFault words (fault.Misuse why) =
    (faults_in words ≡ []) × (exe_in (matches_in words) ≡ Err why)
IsWordFault words fault.OutOfMemory = Unit {0}

-- complete words that the command takes want memory alone
abbrev pub WantsMemoryAlone : List Text → WordFault → Type 0
WantsMemoryAlone words e =
    are_taken words ≡ true → is_complete (matches_in words) ≡ true → e ≡ fault.OutOfMemory
