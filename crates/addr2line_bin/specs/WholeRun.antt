-- The whole run: from the words of the command line to the status of the program.
-- Own: where the words can't be had, the program has the name that it has without any, and they are
-- misuse unless memory was refused for them.
use Rattle.std.specs.Prelude.{◌≡◌, ◌≢◌, ◌⊎◌, ℕ, true, false, List, [], Option, IfOk, IfSome, Result, Ok, Err, Vec}
use Rattle.std.specs.Prelude.{is_some, option_map, string_bytes}
use Rattle.std.specs.declared.string.String.{String}
use Rattle.std.specs.declared.alloc.Global.{Global}
use Rattle.std.specs.declared.alloc.AllocError.{AllocError}
use Rattle.std.specs.declared.io.ErrorKind.{ErrorKind}
use Rattle.std.specs.declared.io.ErrorKind.TheVariants as kind
use Rattle.addr2line_bin.specs.Common.{Loading, LoadsUnlessOom}
use Rattle.addr2line.specs.Files.{Files, as_read}
use Rattle.addr2line.specs.Loaded.{IsLoaded, loaded}
use Rattle.addr2line.specs.Loader.{as_loader}
use Rattle.addr2line.specs.declared.loader.LoaderOver.{LoaderOver}
use Rattle.addr2line_bin.specs.CommandLine.{IsRequest, IsWordFault, WantsMemoryAlone, texts_in}
use Rattle.addr2line_bin.specs.InputLines.{InputState}
use Rattle.addr2line_bin.specs.LoaderAnswers.{loader_answers}
use Rattle.addr2line_bin.specs.Print.{last_text}
use Rattle.addr2line_bin.specs.ProgramName.{program_name}
use Rattle.addr2line_bin.specs.ProgramRun.{IsRun, OnlyFails, status_at}
use Rattle.addr2line_bin.specs.Put.{OnlyReports, StreamState}
use Rattle.addr2line_bin.specs.ResponseFiles.{expanded, has_response}
use Rattle.addr2line_bin.specs.Told.{usage_text}
use Rattle.addr2line_bin.specs.WordAnswers.{AnswersFault, TellsNoMemory}
use Rattle.addr2line_bin.specs.declared.command_line.Request.{Request}
use Rattle.addr2line_bin.specs.declared.command_line.WordFault.{WordFault}
use Rattle.addr2line_bin.specs.declared.exit.Exit.{Exit}
use Rattle.addr2line_bin.specs.declared.exit.TheConstants.{USAGE_STATUS}
use Rattle.addr2line_bin.specs.declared.stream.StopReason.TheVariants as stop

-- a loader over the files, or the fault of its loading: what they say, where they are known, as
-- they are read for the request; whatever they hold, a loader has a main file that some bytes are,
-- and the new context of its sections, with those of a supplementary file where one is named
abbrev pub IsLoadedFor : {F : Type 0} → (F → Option Files) → F → Request → Loading (LoaderOver F)
    → Type 0
IsLoadedFor known files request loader =
    IfSome (known files) (λ held. LoadsUnlessOom (λ l. (l.object, l.context)) loader
    (loaded (as_read request.compressed held) (string_bytes request.exe)
    (option_map string_bytes request.sup)))
    × IfOk loader (λ l. l.files ≡ files)
    × IfOk loader (λ l. l.compressed ≡ request.compressed)
    × IfOk loader (λ l. IsLoaded request.compressed (is_some request.sup) l.object l.context)

-- what is asked of the files that a request names is printed, where there is memory for an input,
-- which isn't seen afterwards; where there is none, that is told
abbrev pub RunsWith : {F I : Type 0} → (F → Option Files) → F → Request → (I → InputState)
    → Result I AllocError → StreamState → StreamState → StreamState → StreamState → Exit → Type 0
RunsWith {F} known files request state (Ok input) oo on eo en e = (inn : InputState)
    × ((loader : Loading (LoaderOver F)) × IsLoadedFor known files request loader
    × IsRun (λ l. loader_answers (as_loader known l)) loader request.options (state input) inn
    oo on eo en e)
RunsWith known files request state (Err _) oo on eo en e =
    OnlyFails oo on eo en (last_text (string_bytes request.options.name) stop.OutOfMemory) e

-- words are answered: what they ask for is printed, or why there is nothing that they ask for
abbrev pub AnswersTaken : {F I : Type 0} → (F → Option Files) → F → List (String Global)
    → (I → InputState) → Result I AllocError → StreamState → StreamState → StreamState
    → StreamState → ℕ → Type 0
AnswersTaken known files words state input oo on eo en status =
    ((request : Request) × IsRequest words request
    × ((e : Exit) × RunsWith known files request state input oo on eo en e
    × (status ≡ status_at e)))
    ⊎ ((fault : WordFault) × IsWordFault (texts_in words) fault
    × WantsMemoryAlone (texts_in words) fault
    × AnswersFault (program_name words) fault oo on eo en status)

-- the words with those of files: as these are, where they are known; where no word names such a
-- file, the words themselves
pub record AreExpanded {F : Type 0}
    (known : F → Option Files) (files : F) (words taken : List (String Global)) : Type 0 where
  pub gives : IfSome (known files) (λ held. texts_in taken ≡ expanded held (texts_in words))
  pub none : has_response (texts_in words) ≡ false → taken ≡ words

-- words are answered with those of files, or memory was refused for these
abbrev pub AnswersGiven : {F I : Type 0} → (F → Option Files) → F → List (String Global)
    → (I → InputState) → Result I AllocError → StreamState → StreamState → StreamState
    → StreamState → ℕ → Type 0
AnswersGiven known files words state input oo on eo en status =
    ((taken : List (String Global)) × AreExpanded known files words taken
    × AnswersTaken known files taken state input oo on eo en status)
    ⊎ ((has_response (texts_in words) ≡ true)
    × TellsNoMemory (program_name words) oo on eo en status)

-- words are answered, or it is told that there are none
abbrev pub IsWholeRun : {F I : Type 0} → (F → Option Files) → F
    → Result (Vec (String Global) Global) ErrorKind → (I → InputState) → Result I AllocError
    → StreamState → StreamState → StreamState → StreamState → ℕ → Type 0
IsWholeRun known files (Ok words) state input oo on eo en status =
    AnswersGiven known files words.items state input oo on eo en status
IsWholeRun known files (Err fault) state input oo on eo en status =
    ((fault ≡ kind.OutOfMemory) × TellsNoMemory (program_name []) oo on eo en status)
    ⊎ ((fault ≢ kind.OutOfMemory)
    × OnlyReports oo on eo en (usage_text (program_name [])) × (status ≡ USAGE_STATUS))
