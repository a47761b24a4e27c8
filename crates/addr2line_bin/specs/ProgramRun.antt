-- A run over a file: what goes to the two streams, and how it ends.
-- Own: a section that isn't there, addresses that can't be collected, and debug information that
-- can't be loaded are told on a line of standard error, and nothing is printed.
use Rattle.std.specs.Prelude.{◌≡◌, ◌⊎◌, ℕ, List, length, map, Option, Some, None, option_map, Result, Ok, Err, string_bytes}
use Rattle.gimli_read.specs.declared.range.Range.{Range}
use Rattle.addr2line_bin.specs.Common.{Loading}
use Rattle.elf.specs.declared.error.LoaderError.TheVariants.{OutOfMemory}
use Rattle.addr2line_bin.specs.Put.{OnlyReports, StreamState}
use Rattle.addr2line_bin.specs.AllAddresses.{AreAllAddresses}
use Rattle.addr2line_bin.specs.FileAnswers.{FileAnswers}
use Rattle.addr2line_bin.specs.InputLines.{AreFirstLines, AreLines, AreLinesToRefusal, InputState, line_probes}
use Rattle.addr2line_bin.specs.Printing.{IsCutAtRead, IsCutOff, PrintsOf, PrintsRun}
use Rattle.addr2line_bin.specs.ProbeTexts.{IsText}
use Rattle.addr2line_bin.specs.Address.{probes_in}
use Rattle.addr2line_bin.specs.Told.{addresses_fault_text, load_fault_text, section_fault_text}
use Rattle.addr2line_bin.specs.declared.exit.TheConstants.{DONE_STATUS, FAILED_STATUS}
use Rattle.addr2line_bin.specs.declared.exit.Exit.{Exit}
use Rattle.addr2line_bin.specs.declared.exit.Exit.TheVariants as exit
use Rattle.addr2line_bin.specs.declared.options.Options.{Options}
use Rattle.addr2line_bin.specs.declared.options.Probes.{Probes}
use Rattle.addr2line_bin.specs.declared.options.Probes.TheVariants as probes
use Rattle.addr2line_bin.specs.declared.options.RunContext.{RunContext}

-- the status that the program ends with
abbrev pub status_at : Exit → ℕ
status_at exit.Done = DONE_STATUS
status_at exit.Failed = FAILED_STATUS

-- a run failed, and reports only why
abbrev pub OnlyFails : StreamState → StreamState → StreamState → StreamState → List ℕ → Exit
    → Type 0
OnlyFails oo on eo en line e = OnlyReports oo on eo en line × (e ≡ exit.Failed)

-- what the lines of an input ask for is printed: of all; or of the first ones where the run ended
-- early, at the last that was read or where memory was refused for one. No line was read before the
-- text of the one before it was written
abbrev pub PrintsLines : FileAnswers → RunContext → InputState → InputState → StreamState
    → StreamState → StreamState → StreamState → Exit → Type 0
PrintsLines answers c io inn oo on eo en e = (lines : List (List ℕ))
    × ((AreLines io inn lines × PrintsOf (IsText answers c) oo on eo en (line_probes lines)
    × (e ≡ exit.Done))
    ⊎ (((cut : IsCutOff (IsText answers c) c.name.now oo on eo en (line_probes lines) e)
    × AreFirstLines io inn lines × (length cut.prints.later ≡ 1))
    ⊎ (AreLinesToRefusal io inn lines
    × IsCutAtRead (IsText answers c) c.name.now oo on eo en (line_probes lines) e)))

-- what the addresses of all rows ask for is printed; or memory was refused for them
abbrev pub PrintsAllRows : FileAnswers → RunContext → StreamState → StreamState → StreamState
    → StreamState → Exit → Type 0
PrintsAllRows answers c oo on eo en e =
    ((addresses : List ℕ) × AreAllAddresses answers addresses
    × PrintsRun (IsText answers c) c.name.now oo on eo en (map Some addresses) e)
    ⊎ OnlyFails oo on eo en (addresses_fault_text c.name.now OutOfMemory) e

-- what is asked for is printed; the input is read for its lines alone
abbrev pub PrintsAsked : FileAnswers → RunContext → Probes → InputState → InputState → StreamState
    → StreamState → StreamState → StreamState → Exit → Type 0
PrintsAsked answers c probes.All io inn oo on eo en e =
    PrintsAllRows answers c oo on eo en e × (inn ≡ io)
PrintsAsked answers c (probes.Words v) io inn oo on eo en e =
    PrintsRun (IsText answers c) c.name.now oo on eo en (probes_in v.items) e × (inn ≡ io)
PrintsAsked answers c probes.Lines io inn oo on eo en e =
    PrintsLines answers c io inn oo on eo en e

-- the addresses of a section, or its name where it isn't there
abbrev pub section_or_name : List ℕ → Option Range → Result (Option Range) (List ℕ)
section_or_name name None = Err name
section_or_name name (Some range) = Ok (Some range)

-- the same of the section that is named, and no addresses where none is named
abbrev pub section_asked : FileAnswers → Option (List ℕ) → Result (Option Range) (List ℕ)
section_asked answers None = Ok None
section_asked answers (Some name) = section_or_name name (answers.section_at name)

-- what is the same for each address: the name and the style that options have, and the section's
-- addresses
pub record IsRunContext (o : Options) (section : Option Range) (c : RunContext) : Type 0 where
  pub name : c.name.now ≡ string_bytes o.name
  pub style : c.style ≡ o.style
  pub range : c.section ≡ section

-- a run by the section that is named, if it is there
abbrev pub RunsBy : Result (Option Range) (List ℕ) → FileAnswers → Options → InputState → InputState
    → StreamState → StreamState → StreamState → StreamState → Exit → Type 0
RunsBy (Err name) answers o io inn oo on eo en e =
    OnlyFails oo on eo en (section_fault_text (string_bytes o.name) name) e × (inn ≡ io)
RunsBy (Ok section) answers o io inn oo on eo en e = (c : RunContext)
    × IsRunContext o section c × PrintsAsked answers c o.probes io inn oo on eo en e

-- a run over a file, or the fault of its loading is told
abbrev pub IsRun : {L : Type 0} → (L → FileAnswers) → Loading L → Options → InputState → InputState
    → StreamState → StreamState → StreamState → StreamState → Exit → Type 0
IsRun answers (Ok file) o io inn oo on eo en e =
    RunsBy (section_asked (answers file) (option_map string_bytes o.section)) (answers file) o
    io inn oo on eo en e
IsRun answers (Err fault) o io inn oo on eo en e =
    OnlyFails oo on eo en (load_fault_text (string_bytes o.name) fault) e × (inn ≡ io)
