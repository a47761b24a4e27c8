-- What lookups of frames leave of a context where files answer the loads of units (DWARF 5, section
-- 7.3.2).
-- Own: the first answer of a unit stays, so a file counts that was there when its unit was first
-- looked up.
use Rattle.std.specs.Prelude.{◌≡◌, ◌≢◌, ◌≤◌, ◌⊎◌, ℕ, false, true, List, Option, Some, IfErr, IfSome, Result, Ok, Err}
use Rattle.addr2line.specs.Common.{◌>>=◌, Error, last_address, result_map, Sections, PathNotUtf8, Loading, Stop, FrameRecord, Waits, answer_of, frames_found, is_waiting, StaysParsed, FirstAnswers, SplitLoad, StaysKnownOf}
use Rattle.elf.specs.declared.error.LoaderError.{LoaderError}
use Rattle.elf.specs.declared.error.LoaderError.TheVariants.{OutOfMemory}
use Rattle.addr2line.specs.declared.compressed.CompressedSections.{CompressedSections}
use Rattle.addr2line.specs.Context.{ContextState, IsUncovered}
use Rattle.addr2line.specs.Files.{ReadFiles}
use Rattle.addr2line.specs.FramesByFiles.{ended_frames_of, frames_by_files}
use Rattle.addr2line.specs.History.{Given, answers_given}
use Rattle.addr2line.specs.Lookups.{IsLoadOf, lookup_stop}
use Rattle.addr2line.specs.AfterLookups.{IsKnown, IsKnownFew, ReadsAsked, TakesMemory}
use Rattle.addr2line.specs.SplitFiles.{AreOfSomeFile, HasPathNotUtf8, RefusesAnswer, given_by_files, of_file}

-- first answers stay
abbrev pub StayAnswered : FirstAnswers → FirstAnswers → Type 0
StayAnswered old new = (n : ℕ) (answer : Option Sections) → answer_of old n ≡ Some answer
    → answer_of new n ≡ Some answer

-- each first answer with sections was there before, or has those of some file for its unit's load
abbrev pub AnswersAreOfFiles : CompressedSections → ContextState → ContextState → Type 0
AnswersAreOfFiles compressed old new = (n : ℕ) (sections : Sections)
    → answer_of new.answers n ≡ Some (Some sections)
    → (answer_of old.answers n ≡ Some (Some sections))
    ⊎ ((load : SplitLoad) × IsLoadOf old.sections n load × AreOfSomeFile compressed load sections)

-- each first answer was there before, or is the one that these files, as they are at the call, give
-- to its unit's load
abbrev pub AnswersAreByFiles : ReadFiles → ContextState → ContextState → Type 0
AnswersAreByFiles files old new = (n : ℕ) (answer : Option Sections)
    → answer_of new.answers n ≡ Some answer
    → (answer_of old.answers n ≡ Some answer)
    ⊎ ((load : SplitLoad) × IsLoadOf old.sections n load
    × (given_by_files files load ≡ Ok answer))

-- where files answer loads, all lookups of frames give the same
abbrev pub GivesSameFrames : ReadFiles → ContextState → ContextState → Type 0
GivesSameFrames files old new = (probe : ℕ) → frames_by_files files new.sections new.answers probe
    ≡ frames_by_files files old.sections old.answers probe

-- a lookup of the probe waits for no answer
abbrev pub WaitsForNone : ContextState → ℕ → Type 0
WaitsForNone c probe = is_waiting (lookup_stop Stop c.sections c.answers probe) ≡ false

-- a lookup of the probe waits for an answer
abbrev pub WaitsForOne : ContextState → ℕ → Type 0
WaitsForOne c probe = is_waiting (lookup_stop Stop c.sections c.answers probe) ≡ true

-- a lookup of the probe waits for an answer to a load of which this holds
pub record WaitsForLoad (Holds : SplitLoad → Type 0) (c : ContextState) (probe : ℕ)
    : Type 0 where
  pub number : ℕ
  pub load : SplitLoad
  pub waits : lookup_stop Stop c.sections c.answers probe ≡ Ok (Waits number)
  pub own : IsLoadOf c.sections number load
  pub so : Holds load

-- a lookup of the probe waits for an answer; or it waits for none, and takes memory itself
abbrev pub MayLackMemory : ContextState → ℕ → Type 0
MayLackMemory c probe = WaitsForOne c probe ⊎ (WaitsForNone c probe × TakesMemory Stop c probe)

-- a lookup that waits for no answer comes to the same later
abbrev pub StayEnded : ContextState → ContextState → Type 0
StayEnded old new = (probe : ℕ) → WaitsForNone old probe
    → lookup_stop Stop new.sections new.answers probe
    ≡ lookup_stop Stop old.sections old.answers probe

-- loads of a context were answered by files: the sections are the same, first answers stay, and
-- each new one is none or of some file, and where the files are known the one that they give. By
-- known files all lookups of frames give the same; whatever the files are, those come to the same
-- that wait for none. What was parsed of lines stays parsed, what was known of the units that
-- weren't answered stays known, and the steps don't get fewer
pub record AfterAnswers (compressed : CompressedSections) (files : Option ReadFiles)
    (old new : ContextState) : Type 0 where
  pub sections : new.sections ≡ old.sections
  pub answers : StayAnswered old.answers new.answers
  pub made : AnswersAreOfFiles compressed old new
  pub given : IfSome files (λ held. AnswersAreByFiles held old new)
  pub frames : IfSome files (λ held. GivesSameFrames held old new)
  pub ended : StayEnded old new
  pub parsed : StaysParsed old.parsed new.parsed
  pub known : (n : ℕ) → answer_of new.answers n ≡ answer_of old.answers n
      → StaysKnownOf n old.known new.known
  pub raised : old.steps ≤ new.steps

-- a lookup of the probe was given answers in turn, each for the unit that it waited for by then; no
-- other unit was answered
abbrev pub AnswersInTurn : ℕ → ContextState → ContextState → Type 0
AnswersInTurn probe old new = (given : List Given)
    × (new.answers ≡ answers_given Stop old.sections probe old.answers given)

-- a refusal that ends a lookup: the fault of a unit, and none of these
abbrev pub IsUnitFault : LoaderError → Type 0
IsUnitFault e = (e ≢ OutOfMemory) × (e ≢ PathNotUtf8)

-- any answer that ends a lookup: frames, or the fault of a unit
abbrev pub HasEnded : {X : Type 0} → Loading X → Type 0
HasEnded (Ok x) = Unit {0}
HasEnded (Err e) = IsUnitFault e

-- where the files are known, the refusal is the fault of the frames by them, or OutOfMemory
abbrev pub IsFaultByFiles : Option ReadFiles → ContextState → ℕ → LoaderError → Type 0
IsFaultByFiles files c probe e = IfSome files (λ held. e ≢ OutOfMemory
    → frames_by_files held c.sections c.answers probe ≡ Err e)

-- a lookup of frames at the probe that gives these has answered the loads that it came to by files:
-- no other unit was answered, and nothing was read but what it asks for; once it has ended, at a
-- fault too, each unit that it came to is decided, all is known that it asks for, and what it gives
-- is by the first answers which are left, whatever the files are. It is refused for a path that
-- isn't UTF-8 only where it waits for the answer to a load with such a one. Memory is refused only
-- where it waits still, or asks a unit of which something is left to read, or in which more than 16
-- inlined functions stand there
pub record AfterFramesByFiles (probe : ℕ) (given : Loading (List FrameRecord))
    (old new : ContextState) : Type 0 where
  pub in_turn : AnswersInTurn probe old new
  pub only : ReadsAsked Stop probe old new
  pub ended : HasEnded given → WaitsForNone new probe
  pub ready : HasEnded given → IsKnown Stop new probe
  pub told : HasEnded given → ended_frames_of new probe ≡ given
  pub waits : IfErr given (λ e. e ≡ PathNotUtf8 → WaitsForLoad HasPathNotUtf8 new probe)
  pub memory : WaitsForNone new probe → IsKnownFew Stop new probe
      → IfErr given (λ e. e ≢ OutOfMemory)
  pub refused : IfErr given (λ e. e ≡ OutOfMemory → MayLackMemory new probe)

-- how a lookup ends whose loads are answered: by its own refusal, or by that of an answer
abbrev pub outcome : Loading (Result (Unit {0}) Error) → Loading (Unit {0})
outcome ended = ended >>= of_file

-- the loads of a lookup of frames were answered by files, and what it came to is stored, as the
-- private functions see it
pub record AnswersByFiles (compressed : CompressedSections) (files : Option ReadFiles) (probe : ℕ)
    (result : Loading (Unit {0})) (old new : ContextState) : Type 0 where
  pub answers : AfterAnswers compressed files old new
  pub lookup : AfterFramesByFiles probe (result_map (λ _. frames_found new.stop) result) old new
  pub refused : IfErr result (IsFaultByFiles files old probe)

-- the same, where the lookup's own refusal stands inside. Outside stands why an answer is refused:
-- memory for it, or its path; the lookup waits for that load still. No unit covers 2^64 - 1
pub record AfterAnsweringLoads (compressed : CompressedSections) (files : Option ReadFiles)
    (probe : ℕ) (result : Loading (Result (Unit {0}) Error)) (old new : ContextState)
    : Type 0 where
  pub by_files : AnswersByFiles compressed files probe (outcome result) old new
  pub waits : IfErr result (λ e. WaitsForLoad (λ load. RefusesAnswer load e) new probe)
  pub last : probe ≡ last_address → IsUncovered old probe
