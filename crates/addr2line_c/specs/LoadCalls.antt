-- What answers to loads come to, and what forgets them, asks for them and reads all units: the
-- status, the context that is left, and which loads wait then (DWARF 5, sections 3.1.2 and 7.3.2).
-- Own: a file that is refused and one of another unit are answered none, and the status says why.
-- Where memory is refused the load goes on waiting.
use Rattle.std.specs.Prelude.{◌≡◌, ◌≢◌, ◌⊎◌, ◌==◌, ◌++◌, ◌∷◌, ℕ, Bool, true, false, not, List, [], length, Option, Some, None, Result, Ok, Err, IfSome, if◌then◌else◌}
use Rattle.addr2line_c.specs.Common.{Error, UnknownToken, IsUnlessOom, WasNotRefused, Sections, Loading, SplitLoad, ContextState, IsReadyForAll, ParsesToFault, Stays, lines_of_all, or_none, split_of}
use Rattle.elf.specs.declared.error.LoaderError.TheVariants as loading
use Rattle.addr2line_units.specs.declared.parses.ReadingDepth.TheVariants.{Details}
use Rattle.addr2line.specs.declared.compressed.CompressedSections.{CompressedSections}
use Rattle.addr2line.specs.Loads.{AfterForgetting, AfterLoading, AfterParse, forget_reply, load_reply, parse_reply}
use Rattle.addr2line.specs.Lookups.{loads_at}
use Rattle.addr2line_c.specs.declared.loads.AskedLoad.{AskedLoad}
use Rattle.addr2line_c.specs.declared.status.Status.{Status}
use Rattle.addr2line_c.specs.declared.status.Status.TheVariants.{Done, Waits, OtherUnit, Refused}
use Rattle.addr2line_c.specs.AskedLoads.{load_of_token, place_of_load, with_loads, with_waits}
use Rattle.addr2line_c.specs.Status.{after_reply, status_of_error}

-- what the file that bytes are has for a load, nothing where there are no bytes
abbrev pub answer_of_bytes : CompressedSections → SplitLoad → List ℕ → Loading (Option Sections)
answer_of_bytes compressed load bytes = if length bytes == 0
    then Ok None
    else split_of compressed load bytes

-- what a status says of the file that was to answer: that it was taken, or that there was none,
-- that it is another unit's, or its refusal
abbrev pub status_of_answer : Bool → Loading (Option Sections) → Status
status_of_answer has_file (Ok None) = if has_file then OtherUnit else Done
status_of_answer has_file (Ok (Some d)) = Done
status_of_answer has_file (Err e) = Refused e

-- whether a status says that memory was refused
abbrev pub is_out_of_memory : Status → Bool
is_out_of_memory (Refused loading.OutOfMemory) = true
is_out_of_memory s = false

-- the status of an answer none to the load of the unit of a number
abbrev pub status_of_none : ContextState → ℕ → Status
status_of_none c n = after_reply (load_reply c.sections c.answers n None) Done

-- the load of the unit of a number was answered by what its file has, by none where that is refused
pub record AnswersLoadAs (has_file : Bool) (given : Loading (Option Sections)) (n : ℕ) (s : Status)
    (old new : ContextState) : Type 0 where
  pub reply : Result (Unit {0}) Error
  pub gives : IsUnlessOom reply (load_reply old.sections old.answers n (or_none given))
  pub status : s ≡ after_reply reply (status_of_answer has_file given)
  pub after : AfterLoading n (or_none given) reply old new

module _ {R : Type 0} where
  -- nothing was done, since no load has this token
  pub record RefusesToken (s : Status) (old new : ContextState) (asked left : List (AskedLoad R))
      : Type 0 where
    pub status : s ≡ status_of_error UnknownToken
    pub context : new ≡ old
    pub loads : left ≡ asked

  -- the loads after one was answered: it waits no more, unless memory was refused
  abbrev pub loads_answered : Status → List (AskedLoad R) → ℕ → List (AskedLoad R)
  loads_answered s asked token =
      if is_out_of_memory s then asked else with_waits false asked token

  -- the load of a token was answered by the file that bytes are, or there is no such load
  abbrev pub AnswersTokenAs : CompressedSections → ℕ → List ℕ → Status → ContextState
      → ContextState → List (AskedLoad R) → List (AskedLoad R) → Type 0
  AnswersTokenAs compressed token bytes s old new asked left = elim (load_of_token asked token) [
    | None ↦ RefusesToken s old new asked left
    | Some load ↦ AnswersLoadAs (not (length bytes == 0)) (answer_of_bytes compressed load bytes)
        load.unit s old new × (left ≡ loads_answered s asked token)
  ]

  -- the status is that of an answer none to the load of a token, if there is such a load
  abbrev pub SaysAnsweredNone : ℕ → Status → ContextState → List (AskedLoad R) → Type 0
  SaysAnsweredNone token s c asked =
      IfSome (load_of_token asked token) (λ load. s ≡ status_of_none c load.unit)

  -- the answer to the load of a token was taken back, or there is no such load
  abbrev pub ForgetsToken : ℕ → Status → ContextState → ContextState → List (AskedLoad R)
      → List (AskedLoad R) → Type 0
  ForgetsToken token s old new asked left = elim (load_of_token asked token) [
    | None ↦ RefusesToken s old new asked left
    | Some load ↦ (s ≡ after_reply (forget_reply old.sections load.unit) Done)
        × AfterForgetting load.unit old new × (left ≡ with_waits false asked token)
  ]

  -- the first of the loads were asked for, up to one that isn't among those that are left, so that
  -- it has to be added
  abbrev pub AsksUpToNew : List SplitLoad → List (AskedLoad R) → List (AskedLoad R) → Type 0
  AsksUpToNew loads asked left = (first rest : List SplitLoad) × (load : SplitLoad)
      × (first ++ load ∷ rest ≡ loads) × (left ≡ with_loads asked first)
      × (place_of_load left load.unit ≡ None)

  -- none of the loads was asked for, or the first ones up to a new one
  abbrev pub AsksForSome : List SplitLoad → List (AskedLoad R) → List (AskedLoad R) → Type 0
  AsksForSome loads asked left = (left ≡ asked) ⊎ AsksUpToNew loads asked left

  -- these loads were asked for, none were wanted, or memory was refused for their list or for a new
  -- one
  abbrev pub AsksForAll : List SplitLoad → List (AskedLoad R) → List (AskedLoad R) → Status → Type 0
  AsksForAll loads asked left Done = (loads ≡ []) × (left ≡ asked)
  AsksForAll loads asked left Waits = (loads ≢ []) × (left ≡ with_loads asked loads)
  AsksForAll loads asked left (Refused e) =
      (e ≡ loading.OutOfMemory) × AsksForSome loads asked left
  AsksForAll loads asked left s = ⊥

  -- the loads of an address were asked for
  abbrev pub PreloadsAs : ℕ → ContextState → List (AskedLoad R) → List (AskedLoad R) → Status
      → Type 0
  PreloadsAs probe c asked left s =
      AsksForAll (loads_at c.sections c.answers probe) asked left s

-- the lines of all units were read, up to the first fault; memory was refused only where some are
-- left
pub record AfterLinesCall (result : Result (Unit {0}) Error) (old new : ContextState) : Type 0 where
  pub stays : Stays old new
  pub only : ParsesToFault old new
  pub ready : WasNotRefused result → IsReadyForAll new
  pub memory : IsReadyForAll new → WasNotRefused result

-- the lines of all units were read and then the functions, each up to the first fault; the status
-- says the first of these faults
pub record ParsesAllAs (s : Status) (old new : ContextState) : Type 0 where
  pub lines : Result (Unit {0}) Error
  pub functions : Result (Unit {0}) Error
  pub status : s ≡ after_reply lines (after_reply functions Done)
  pub lines_are : IsUnlessOom lines (lines_of_all old.sections)
  pub functions_are : IsUnlessOom functions (parse_reply Details old.sections old.answers)
  pub between : ContextState
  pub after_lines : AfterLinesCall lines old between
  pub after_functions : AfterParse Details functions between new

-- the status of what the lines and the functions of all units give, up to the first fault of each
abbrev pub status_of_all : ContextState → Status
status_of_all c = after_reply (lines_of_all c.sections)
    (after_reply (parse_reply Details c.sections c.answers) Done)
