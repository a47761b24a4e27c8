-- What the calls of an open file answer, write and leave, and what C gets of them by a handle.
-- Own: a handle that isn't open answers so, and stays as it is, and nothing is written.
use Rattle.std.specs.Prelude.{◌≡◌, ◌≢◌, ◌⊎◌, ◌==◌, ◌∷◌, ℕ, true, List, [], length, nat_le, Option, Some, None, Ok, Err, IfErr, if◌then◌else◌}
use Rattle.elf.specs.declared.error.LoaderError.{LoaderError}
use Rattle.addr2line.specs.declared.names.Style.{Style}
use Rattle.addr2line_c.specs.Common.{OutOfMemory, location_of, IsReady, IsReadyForAll, IsReadyForRange, of_file}
use Rattle.elf.specs.ObjectFile.{object_file_of}
use Rattle.elf.specs.Sections.{section_range_at}
use Rattle.elf.specs.Symbols.{symbol_at}
use Rattle.addr2line_units.specs.declared.frames.OnFault.TheVariants.{Stop}
use Rattle.addr2line_units.specs.declared.parses.ReadingDepth.TheVariants.{Details}
use Rattle.addr2line.specs.declared.compressed.CompressedSections.{CompressedSections}
use Rattle.addr2line.specs.AfterLookups.{IsKnownFew}
use Rattle.addr2line.specs.Loaded.{loaded_bytes}
use Rattle.addr2line.specs.Loads.{AfterPreload, IsReadyToRead, NoneOpenAt}
use Rattle.addr2line.specs.LoadsByFiles.{WaitsForNone}
use Rattle.addr2line.specs.WaitingLookups.{frames_of_context}
use Rattle.addr2line.specs.WarmUp.{IsWarm}
use Rattle.addr2line_c.specs.declared.file.OpenFile.{OpenFile}
use Rattle.addr2line_c.specs.declared.frames.WrittenFrame.{WrittenFrame}
use Rattle.addr2line_c.specs.declared.loads.WrittenLoad.{WrittenLoad}
use Rattle.addr2line_c.specs.declared.location.WrittenLocation.{WrittenLocation}
use Rattle.addr2line_c.specs.declared.spans.WrittenSpan.{WrittenSpan}
use Rattle.addr2line_c.specs.declared.status.Status.{Status}
use Rattle.addr2line_c.specs.declared.status.Status.TheVariants.{Done, Closed, Nothing, BadFlags, Refused}
use Rattle.addr2line_c.specs.declared.symbols.WrittenSymbol.{WrittenSymbol}
use Rattle.addr2line_c.specs.Answered.{HasMemory, IfNothing, SaysWhatIsThere, done_if}
use Rattle.addr2line_c.specs.AskedLoads.{waiting_load}
use Rattle.addr2line_c.specs.Filled.{IsFilled}
use Rattle.addr2line_c.specs.Left.{AsksIfWaiting, LeavesFrames, LeavesLocation, LeavesRange}
use Rattle.addr2line_c.specs.LoadCalls.{AnswersTokenAs, ForgetsToken, ParsesAllAs, PreloadsAs, SaysAnsweredNone, status_of_all}
use Rattle.addr2line_c.specs.Loads.{IsWrittenLoad}
use Rattle.addr2line_c.specs.PlainNames.{AreNamedPlain}
use Rattle.addr2line_c.specs.Status.{status_number, status_text}
use Rattle.addr2line_c.specs.Texts.{zero_ended}
use Rattle.addr2line_c.specs.Written.{IsWrittenLocation, SaysFrames, frames_fit}
use Rattle.addr2line_c.specs.WrittenSpans.{SaysSpans, spans_from}
use Rattle.addr2line_c.specs.WrittenSymbols.{IsWrittenRange, IsWrittenSymbol}

-- what a handle owns before and after a call, and the number that it answers: those of a call of
-- the open file; or nothing, that it is closed, and what the call could write is untouched
abbrev pub CallsFile : {F : Type 0} → Option F → Option F → ℕ → Type 0
    → (F → F → Status → Type 0) → Type 0
CallsFile None new number untouched says =
    (new ≡ None) × (number ≡ status_number Closed) × untouched
CallsFile {F} (Some old) new number untouched says = (left : F) × (s : Status)
    × (new ≡ Some left) × (number ≡ status_number s) × says old left s

-- a call has no places to write into
abbrev pub NoPlaces : Type 0
NoPlaces = Unit {0}

-- nothing but the context is another one
abbrev pub ChangesContext : OpenFile → OpenFile → Type 0
ChangesContext old new = new ≡ record old { context = new.context }

-- nothing but the context, and the loads that were asked for, are others
abbrev pub ChangesLoads : OpenFile → OpenFile → Type 0
ChangesLoads old new = new ≡ record old { context = new.context; loads = new.loads }

-- the location at the probe was looked up
pub record LocatesAt (probe : ℕ) (out : WrittenLocation) (buffer : List ℕ) (needed : ℕ)
    (old new : OpenFile) (s : Status) : Type 0 where
  pub gives : SaysWhatIsThere (of_file (location_of old.context.sections probe))
      (IsWrittenLocation out buffer needed) (nat_le needed (length buffer)) s
  pub none : IfNothing s (needed ≡ 0)
  pub left : LeavesLocation probe (nat_le needed (length buffer)) s old.context new.context
  pub memory : IsReady old.context probe → s ≢ Refused OutOfMemory
  pub others : ChangesContext old new

-- the frames at the probe were looked up, with names in a style or as the file has them
pub record FramesAt (probe : ℕ) (names : Option Style) (out : List WrittenFrame) (count : ℕ)
    (buffer : List ℕ) (needed : ℕ) (old new : OpenFile) (s : Status) : Type 0 where
  pub gives : SaysFrames names (frames_of_context old.context probe) out count buffer needed s
  pub none : IfNothing s ((count ≡ 0) × (needed ≡ 0))
  pub left : LeavesFrames probe names (frames_fit out count buffer needed) s
      old.loads.loads.items old.context new.context
  pub asks : AsksIfWaiting probe old.context old.loads.loads.items new.loads.loads.items s
  pub memory : names ≡ None → WaitsForNone old.context probe
      → IsKnownFew Stop old.context probe → s ≢ Refused OutOfMemory
  pub plain : AreNamedPlain (frames_of_context old.context probe)
      → WaitsForNone old.context probe → IsKnownFew Stop old.context probe
      → s ≢ Refused OutOfMemory
  pub others : ChangesLoads old new

-- the same by flags: where one isn't known nothing is there, and nothing is done
abbrev pub FramesBy : ℕ → Option (Option Style) → List WrittenFrame → ℕ → List ℕ → ℕ
    → OpenFile → OpenFile → Status → Type 0
FramesBy probe (Some names) out count buffer needed old new s =
    FramesAt probe names out count buffer needed old new s
FramesBy probe None out count buffer needed old new s =
    (s ≡ BadFlags) × (count ≡ 0) × (needed ≡ 0) × (new ≡ old)

-- the rows that a range of addresses meets were looked up, from a place on, so many at most
pub record SpansFrom (low high first most : ℕ) (out : List WrittenSpan) (count : ℕ)
    (buffer : List ℕ) (needed : ℕ) (old new : OpenFile) (s : Status) : Type 0 where
  pub gives : SaysSpans (spans_from old.context.sections low high first most) out count buffer
      needed s
  pub none : IfNothing s ((count ≡ 0) × (needed ≡ 0))
  pub left : LeavesRange low high (nat_le needed (length buffer)) s old.context new.context
  pub memory : IsReadyForRange old.context low high → s ≢ Refused OutOfMemory
  pub others : ChangesContext old new

-- the first load that waits was told
pub record TellsLoad (out : WrittenLoad) (buffer : List ℕ) (needed : ℕ) (old new : OpenFile)
    (s : Status) : Type 0 where
  pub gives : SaysWhatIsThere (Ok (waiting_load old.loads.loads.items))
      (IsWrittenLoad out buffer needed) (nat_le needed (length buffer)) s
  pub none : IfNothing s (needed ≡ 0)
  pub memory : HasMemory s
  pub others : new ≡ old

-- the load of a token was answered by the file that bytes are, by none where there are no bytes,
-- which takes no memory
pub record AnswersToken (token : ℕ) (bytes : List ℕ) (old new : OpenFile) (s : Status)
    : Type 0 where
  pub gives : AnswersTokenAs old.compressed token bytes s old.context new.context
      old.loads.loads.items new.loads.loads.items
  pub none : bytes ≡ [] → SaysAnsweredNone token s old.context old.loads.loads.items
  pub others : ChangesLoads old new

-- the answer to the load of a token was taken back
pub record ForgetsAnswer (token : ℕ) (old new : OpenFile) (s : Status) : Type 0 where
  pub gives : ForgetsToken token s old.context new.context old.loads.loads.items
      new.loads.loads.items
  pub others : ChangesLoads old new

-- the loads of an address were asked for; where no unit that covers it is open there are none, and
-- no memory is taken
pub record PreloadsAt (probe : ℕ) (old new : OpenFile) (s : Status) : Type 0 where
  pub gives : PreloadsAs probe old.context old.loads.loads.items new.loads.loads.items s
  pub none : NoneOpenAt old.context probe → s ≡ Done
  pub after : AfterPreload probe old.context new.context
  pub others : ChangesLoads old new

-- the lines and the functions of all units were read; where they are read already, up to the first
-- faults, no memory is taken
pub record ParsesAll (old new : OpenFile) (s : Status) : Type 0 where
  pub gives : ParsesAllAs s old.context new.context
  pub ready : s ≡ Done → IsWarm new.context
  pub exact : IsReadyForAll old.context → IsReadyToRead Details old.context
      → s ≡ status_of_all old.context
  pub others : ChangesContext old new

-- the symbol at the probe was looked up
pub record SymbolAt (probe : ℕ) (out : WrittenSymbol) (buffer : List ℕ) (needed : ℕ)
    (old new : OpenFile) (s : Status) : Type 0 where
  pub gives : SaysWhatIsThere (Ok (symbol_at probe old.object))
      (IsWrittenSymbol out buffer needed) (nat_le needed (length buffer)) s
  pub none : IfNothing s (needed ≡ 0)
  pub memory : HasMemory s
  pub others : new ≡ old

-- the section of a name was looked up
pub record SectionNamed (name : List ℕ) (begin end : ℕ) (old new : OpenFile) (s : Status)
    : Type 0 where
  pub gives : SaysWhatIsThere (Ok (section_range_at name old.object))
      (IsWrittenRange begin end) true s
  pub memory : HasMemory s
  pub others : new ≡ old

-- the bytes of a supplementary file, if there are any
abbrev pub given_sup : List ℕ → Option (List ℕ)
given_sup sup = if length sup == 0 then None else Some sup

-- a new file of these bytes: its sections are read, by what becomes of compressed ones, and nothing
-- was asked for
pub record IsOpened (compressed : CompressedSections) (bytes sup : List ℕ) (file : OpenFile)
    : Type 0 where
  pub loaded : loaded_bytes compressed bytes (given_sup sup) ≡ Ok (file.object, file.context)
  pub by : file.compressed ≡ compressed
  pub loads : file.loads.loads.items ≡ []

-- a handle has the file of these bytes, or nothing, and the number says why; where the bytes are no
-- ELF file no memory is taken
abbrev pub OpensFile : CompressedSections → List ℕ → List ℕ → Option OpenFile → ℕ → Type 0
OpensFile compressed bytes sup (Some file) number =
    (number ≡ status_number Done) × IsOpened compressed bytes sup file
OpensFile compressed bytes sup None number = (e : LoaderError)
    × (number ≡ status_number (Refused e))
    × (e ≢ OutOfMemory → loaded_bytes compressed bytes (given_sup sup) ≡ Err e)
    × IfErr (object_file_of bytes) (λ fault. e ≡ fault)

-- the same by flags: where one isn't known it has nothing
abbrev pub OpensFileBy : Option CompressedSections → List ℕ → List ℕ → Option OpenFile → ℕ → Type 0
OpensFileBy (Some compressed) bytes sup value number = OpensFile compressed bytes sup value number
OpensFileBy None bytes sup value number = (value ≡ None) × (number ≡ status_number BadFlags)

-- the text of a status of this number was written, and the answer says whether it had room
pub record TellsStatus (number : ℕ) (buffer : List ℕ) (needed answer : ℕ) : Type 0 where
  pub status : Status
  pub number_is : number ≡ status_number status
  pub texts : IsFilled needed buffer (zero_ended (status_text status ∷ []))
  pub answer_is : answer ≡ status_number (done_if (nat_le needed (length buffer)))

-- no status has this number, and the answer says so
pub record TellsNothing (number needed answer : ℕ) : Type 0 where
  pub unknown : (s : Status) → number ≢ status_number s
  pub answer_is : answer ≡ status_number Nothing
  pub needed_is : needed ≡ 0

-- the status of a number was told, or there is none
abbrev pub TellsStatusIfAny : ℕ → List ℕ → ℕ → ℕ → Type 0
TellsStatusIfAny number buffer needed answer =
    TellsStatus number buffer needed answer ⊎ TellsNothing number needed answer
