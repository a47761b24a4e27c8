-- What a run writes to its two streams for addresses that are asked for one after another.
-- Own: a failed write or flush of the output ends the run; so does a refused growth that no line of
-- a lookup's fault tells. All texts before are whole, and of the one at which it ended a beginning
-- went out where the output failed, and nothing where a growth was refused.
use Rattle.std.specs.Prelude.{◌≡◌, ◌⊎◌, ℕ, List, [], ◌∷◌, ◌++◌, length, Option, Result, Ok, Err}
use Rattle.std.specs.Io.KnownBytes.{Appends}
use Rattle.addr2line_bin.specs.InputLines.{AreFirstLines, AreLines, AreLinesToRefusal, InputState, line_probes}
use Rattle.addr2line_bin.specs.Put.{StreamState, Reports, plus}
use Rattle.addr2line_bin.specs.Stopped.{Stops}
use Rattle.addr2line_bin.specs.Print.{ProbeText, AllTexts, Prints, errs, exit_at, last_text, outs}
use Rattle.addr2line_bin.specs.declared.exit.Exit.{Exit}
use Rattle.addr2line_bin.specs.declared.exit.Exit.TheVariants as exit
use Rattle.addr2line_bin.specs.declared.stream.StopReason.{StopReason}
use Rattle.addr2line_bin.specs.declared.stream.StopReason.TheVariants as stop

-- which texts may be printed for what is asked for
abbrev pub TextOf : Type 1
TextOf = Option ℕ → ProbeText → Type 0

-- what went out of the text at which a run ended, and what was reported for it
abbrev pub EndsAt : TextOf → StopReason → List (Option ℕ) → List ℕ → List ℕ → Type 0
EndsAt IsText stop.OutOfMemory [] written told = ⊥
EndsAt IsText stop.OutOfMemory (p ∷ later) written told = (written ≡ []) × (told ≡ [])
EndsAt IsText (stop.Output b) [] written told = ⊥
EndsAt IsText (stop.Output b) (p ∷ later) written told = (text : ProbeText) × IsText p text
    × (told ≡ text.err) × ((left : List ℕ) × (text.out ≡ written ++ left))

-- the texts of what is asked for go out, each with a flush, and their faults are reported
pub record PrintsOf (IsText : TextOf) (oo on eo en : StreamState) (probes : List (Option ℕ))
    : Type 0 where
  pub texts : List ProbeText
  pub each : AllTexts IsText probes texts
  pub prints : Prints oo on eo en texts

-- a run ended early: the texts of the first go out, each with a flush, and a beginning of the next
-- one; their faults are reported, and then more
pub record EndsEarly
    (IsText : TextOf) (oo on eo en : StreamState) (probes : List (Option ℕ)) (why : StopReason)
    (more : List ℕ)
    : Type 0 where
  pub done : List (Option ℕ)
  pub later : List (Option ℕ)
  pub joins : probes ≡ done ++ later
  pub texts : List ProbeText
  pub each : AllTexts IsText done texts
  pub written : List ℕ
  pub told : List ℕ
  pub ends : EndsAt IsText why later written told
  pub out : Appends oo.contents on.contents (outs texts ++ written)
  pub flushes : on.flushes ≡ plus oo.flushes (length texts)
  pub stops : Stops oo on why
  pub err : Reports eo en ((errs texts ++ told) ++ more)

-- the same by the answer of the function that prints
abbrev pub PrintsUnlessStopped : TextOf → StreamState → StreamState → StreamState → StreamState
    → List (Option ℕ) → Result (Unit {0}) StopReason → Type 0
PrintsUnlessStopped IsText oo on eo en probes (Ok _) = PrintsOf IsText oo on eo en probes
PrintsUnlessStopped IsText oo on eo en probes (Err why) =
    EndsEarly IsText oo on eo en probes why []

-- the same for the lines that are read from an input, each answered before the next is read; a run
-- that ended early did so at the last line that was read, or where memory was refused for a line
abbrev pub PrintsReadUnlessStopped : TextOf → InputState → InputState → List (List ℕ)
    → StreamState → StreamState → StreamState → StreamState → Result (Unit {0}) StopReason → Type 0
PrintsReadUnlessStopped IsText io inn lines oo on eo en (Ok _) =
    AreLines io inn lines × PrintsOf IsText oo on eo en (line_probes lines)
PrintsReadUnlessStopped IsText io inn lines oo on eo en (Err why) =
    ((p : EndsEarly IsText oo on eo en (line_probes lines) why [])
    × AreFirstLines io inn lines × (length p.later ≡ 1))
    ⊎ ((why ≡ stop.OutOfMemory) × AreLinesToRefusal io inn lines
    × PrintsOf IsText oo on eo en (line_probes lines))

-- a run ended early, with a last line
pub record IsCutOff
    (IsText : TextOf) (name : List ℕ) (oo on eo en : StreamState) (probes : List (Option ℕ))
    (e : Exit)
    : Type 0 where
  pub why : StopReason
  pub prints : EndsEarly IsText oo on eo en probes why (last_text name why)
  pub exit : e ≡ exit_at why

-- a run printed all that was asked for until memory was refused for a line, with a last line
pub record IsCutAtRead
    (IsText : TextOf) (name : List ℕ) (oo on eo en : StreamState) (probes : List (Option ℕ))
    (e : Exit)
    : Type 0 where
  pub texts : List ProbeText
  pub each : AllTexts IsText probes texts
  pub out : Appends oo.contents on.contents (outs texts)
  pub flushes : on.flushes ≡ plus oo.flushes (length texts)
  pub stops : Stops oo on stop.OutOfMemory
  pub err : Reports eo en (errs texts ++ last_text name stop.OutOfMemory)
  pub exit : e ≡ exit.Failed

-- a run wrote all texts to both streams, or ended early
abbrev pub PrintsRun : TextOf → List ℕ → StreamState → StreamState → StreamState → StreamState
    → List (Option ℕ) → Exit → Type 0
PrintsRun IsText name oo on eo en probes e =
    (PrintsOf IsText oo on eo en probes × (e ≡ exit.Done))
    ⊎ IsCutOff IsText name oo on eo en probes e
