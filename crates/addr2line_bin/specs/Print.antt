-- What a run writes to its two streams for one probe after another.
-- Own: a failed write or flush of the output ends the run, without a text for a broken pipe; so
-- does a refused growth that no line of a lookup's fault tells.
use Rattle.std.specs.Prelude.{◌≡◌, ℕ, true, false, List, [], ◌∷◌, ◌++◌, length, Result, Ok, Err, codes, flat_map}
use Rattle.std.specs.Io.KnownBytes.{Appends}
use Rattle.addr2line_bin.specs.Put.{StreamState, Reports, plus}
use Rattle.addr2line_bin.specs.declared.exit.Exit.{Exit}
use Rattle.addr2line_bin.specs.declared.exit.Exit.TheVariants as exit
use Rattle.addr2line_bin.specs.declared.stream.StopReason.{StopReason}
use Rattle.addr2line_bin.specs.declared.stream.StopReason.TheVariants as stop

-- what goes to the output and to standard error for a probe
pub record ProbeText : Type 0 where
  pub out : List ℕ
  pub err : List ℕ

-- what goes to the output for all of them
abbrev pub outs : List ProbeText → List ℕ
outs = flat_map (λ t. t.out)

-- what goes to standard error for all of them
abbrev pub errs : List ProbeText → List ℕ
errs = flat_map (λ t. t.err)

-- each text is one of its probe's
abbrev pub AllTexts : {P : Type 0} → (P → ProbeText → Type 0) → List P → List ProbeText → Type 0
AllTexts IsText [] [] = Unit {0}
AllTexts IsText (p ∷ ps) (t ∷ texts) = IsText p t × AllTexts IsText ps texts
AllTexts IsText _ _ = ⊥

-- the last line of a run that stopped early
abbrev pub last_text : List ℕ → StopReason → List ℕ
last_text name stop.OutOfMemory = name ++ codes ": out of memory\n"
last_text name (stop.Output true) = []
last_text name (stop.Output false) = name ++ codes ": error writing output\n"

-- how a run ends that stopped early
abbrev pub exit_at : StopReason → Exit
exit_at stop.OutOfMemory = exit.Failed
exit_at (stop.Output true) = exit.Done
exit_at (stop.Output false) = exit.Failed

-- a run ends that printed all, or stopped early, which is told
abbrev pub EndsRun : List ℕ → StreamState → StreamState → Result (Unit {0}) StopReason → Exit
    → Type 0
EndsRun name eo en (Ok _) e = (en ≡ eo) × (e ≡ exit.Done)
EndsRun name eo en (Err why) e = Reports eo en (last_text name why) × (e ≡ exit_at why)

-- these texts go out, each with a flush, and their faults are reported
pub record Prints (oo on eo en : StreamState) (texts : List ProbeText) : Type 0 where
  pub out : Appends oo.contents on.contents (outs texts)
  pub flushes : on.flushes ≡ plus oo.flushes (length texts)
  pub flushed : oo.is_flushed ≡ true → on.is_flushed ≡ true
  pub fault : on.fault ≡ oo.fault
  pub err : Reports eo en (errs texts)
