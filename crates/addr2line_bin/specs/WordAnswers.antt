-- What goes to the two streams for words that ask for nothing of a file, and the status then.
-- Own: the help and the version go to the output; what the command doesn't take is told on standard
-- error, and so is a refused growth.
use Rattle.std.specs.Prelude.{◌≡◌, ◌⊎◌, ℕ, Bool, true, false, List}
use Rattle.clap.specs.declared.error.kind.ErrorKind.{ErrorKind}
use Rattle.clap.specs.declared.error.kind.ErrorKind.TheVariants as kind
use Rattle.clap.specs.Values.{kind_of}
use Rattle.std.specs.Io.KnownBytes.{Appends}
use Rattle.addr2line_bin.specs.Put.{OnlyReports, Reports, StreamState, WritesPrefix, plus}
use Rattle.addr2line_bin.specs.Print.{exit_at, last_text}
use Rattle.addr2line_bin.specs.ProgramRun.{status_at}
use Rattle.addr2line_bin.specs.Stopped.{IsFault}
use Rattle.addr2line_bin.specs.Told.{misuse_text}
use Rattle.addr2line_bin.specs.declared.exit.TheConstants.{DONE_STATUS, FAILED_STATUS, USAGE_STATUS}
use Rattle.addr2line_bin.specs.declared.command_line.WordFault.{WordFault}
use Rattle.addr2line_bin.specs.declared.command_line.WordFault.TheVariants as fault
use Rattle.addr2line_bin.specs.declared.stream.StopReason.{StopReason}
use Rattle.addr2line_bin.specs.declared.stream.StopReason.TheVariants as stop

-- memory was refused for a text
abbrev pub TellsNoMemory : List ℕ → StreamState → StreamState → StreamState → StreamState → ℕ
    → Type 0
TellsNoMemory name oo on eo en status =
    OnlyReports oo on eo en (last_text name stop.OutOfMemory) × (status ≡ FAILED_STATUS)

-- a text goes out, all of it, and is flushed, or a beginning of it before a fault, which is told as
-- that of a run
abbrev pub ShowsText : List ℕ → List ℕ → StreamState → StreamState → StreamState → StreamState → ℕ
    → Type 0
ShowsText name text oo on eo en status =
    (Appends oo.contents on.contents text × (on.flushes ≡ plus oo.flushes 1)
    × (on.is_flushed ≡ true) × (en ≡ eo) × (status ≡ DONE_STATUS))
    ⊎ ((why : StopReason) × IsFault on why × WritesPrefix oo.contents on.contents text
    × Reports eo en (last_text name why) × (status ≡ status_at (exit_at why)))

-- whether the text of a kind of fault is the help or the version
abbrev pub is_help_or_version : ErrorKind → Bool
is_help_or_version kind.DisplayHelp = true
is_help_or_version kind.DisplayVersion = true
is_help_or_version _ = false

-- a text that is shown goes out, another is told
abbrev pub AnswersText : List ℕ → Bool → List ℕ → StreamState → StreamState → StreamState
    → StreamState → ℕ → Type 0
AnswersText name true text oo on eo en status = ShowsText name text oo on eo en status
AnswersText name false text oo on eo en status =
    OnlyReports oo on eo en text × (status ≡ USAGE_STATUS)

-- some text is shown or told so, or memory was refused for it
abbrev pub AnswersWords : List ℕ → Bool → StreamState → StreamState → StreamState → StreamState → ℕ
    → Type 0
AnswersWords name is_help_or_version oo on eo en status =
    ((text : List ℕ) × AnswersText name is_help_or_version text oo on eo en status)
    ⊎ TellsNoMemory name oo on eo en status

-- what is told of words that ask for nothing, or the help or the version that they ask for
abbrev pub AnswersFault : List ℕ → WordFault → StreamState → StreamState → StreamState
    → StreamState → ℕ → Type 0
AnswersFault name (fault.Clap e) oo on eo en status =
    AnswersWords name (is_help_or_version (kind_of e)) oo on eo en status
AnswersFault name (fault.Misuse why) oo on eo en status =
    OnlyReports oo on eo en (misuse_text name why) × (status ≡ USAGE_STATUS)
AnswersFault name fault.OutOfMemory oo on eo en status = TellsNoMemory name oo on eo en status
