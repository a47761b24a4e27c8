-- The context that a lookup leaves, by the status that it answers (on specs/Context.antt and
-- specs/AfterLookups.antt of addr2line).
-- Own: a status says what a lookup came to, but where memory was refused for the names of frames, or
-- for a load that is to be added to those that were asked for.
use Rattle.std.specs.Prelude.{◌≡◌, ◌≢◌, ◌⊎◌, ℕ, Bool, List, Option, Some, None, Result, Ok, Err}
use Rattle.addr2line_c.specs.Common.{Error, result_map, OutOfMemory, SplitLoad, AfterLookup, AfterRangeLookup, ContextState}
use Rattle.addr2line_units.specs.declared.frames.OnFault.TheVariants.{Stop}
use Rattle.addr2line_units.specs.FramesLookup.{Waits as WaitsFor}
use Rattle.addr2line.specs.AfterLookups.{AfterFrames}
use Rattle.addr2line.specs.Lookups.{IsLoadOf, lookup_stop}
use Rattle.addr2line.specs.WaitingLookups.{frames_of_context}
use Rattle.addr2line.specs.declared.names.Style.{Style}
use Rattle.addr2line_c.specs.declared.loads.AskedLoad.{AskedLoad}
use Rattle.addr2line_c.specs.declared.status.Status.{Status}
use Rattle.addr2line_c.specs.declared.status.Status.TheVariants.{Nothing, Refused, Waits}
use Rattle.addr2line_c.specs.Answered.{done_if}
use Rattle.addr2line_c.specs.AskedLoads.{place_of_load, with_load}
use Rattle.addr2line_c.specs.PlainNames.{AreNamedPlain}
use Rattle.addr2line_c.specs.Status.{after_reply, status_of_error}

-- the status of what a lookup came to: whether what it found had room, what it says of none, or the
-- fault
abbrev pub status_by : {X : Type 0} → Status → Bool → Result (Option X) Error → Status
status_by missing fits (Ok (Some x)) = done_if fits
status_by missing fits (Ok None) = missing
status_by missing fits (Err e) = status_of_error e

-- that something was found, or the fault
abbrev pub found_some : {X : Type 0} → Result X Error → Result (Option (Unit {0})) Error
found_some r = result_map (λ _. Some (tt {0})) r

-- that a lookup was made, or its fault
abbrev pub was_made : {X : Type 0} → Result X Error → Result (Unit {0}) Error
was_made r = result_map (λ _. tt {0}) r

-- a lookup of the location at the probe has left a context
pub record LeavesLocation (probe : ℕ) (fits : Bool) (s : Status) (old new : ContextState)
    : Type 0 where
  pub came : Result (Option (Unit {0})) Error
  pub status : s ≡ status_by Nothing fits came
  pub after : AfterLookup probe came old new

-- a lookup of the rows that a range of addresses meets has left a context
pub record LeavesRange (low high : ℕ) (fits : Bool) (s : Status) (old new : ContextState)
    : Type 0 where
  pub came : Result (Unit {0}) Error
  pub status : s ≡ after_reply came (done_if fits)
  pub after : AfterRangeLookup low high came old new

module _ {R : Type 0} where
  -- a lookup of the frames at the probe waits for a load that wasn't asked for yet
  abbrev pub WaitsForNew : ℕ → ContextState → List (AskedLoad R) → Type 0
  WaitsForNew probe c asked = (n : ℕ) × (load : SplitLoad)
      × (lookup_stop Stop c.sections c.answers probe ≡ Ok (WaitsFor n)) × IsLoadOf c.sections n load
      × (place_of_load asked load.unit ≡ None)

  -- memory may be refused for what a lookup of the frames at the probe came to: for names that are
  -- demangled and of which one isn't plain, or for a load that wasn't asked for yet
  abbrev pub MayBeRefused : Option Style → ℕ → ContextState → List (AskedLoad R)
      → Result (Option (Unit {0})) Error → Type 0
  MayBeRefused names probe c asked (Ok (Some x)) =
      (names ≢ None) × (AreNamedPlain (frames_of_context c probe) → ⊥)
  MayBeRefused names probe c asked (Ok None) = WaitsForNew probe c asked
  MayBeRefused names probe c asked (Err e) = ⊥

  -- a lookup of the frames at the probe has left a context; one that waits comes to none. Its status
  -- says what it came to, unless memory was refused for that
  pub record LeavesFrames (probe : ℕ) (names : Option Style) (fits : Bool) (s : Status)
      (asked : List (AskedLoad R)) (old new : ContextState) : Type 0 where
    pub came : Result (Option (Unit {0})) Error
    pub status : (s ≡ status_by Waits fits came)
        ⊎ ((s ≡ Refused OutOfMemory) × MayBeRefused names probe old asked came)
    pub after : AfterFrames Stop probe came old new

  -- a lookup of the frames at the probe that waits has asked for the load of the unit that it waits
  -- for, and any other has asked for none
  abbrev pub AsksIfWaiting : ℕ → ContextState → List (AskedLoad R) → List (AskedLoad R) → Status
      → Type 0
  AsksIfWaiting probe c asked left Waits = (n : ℕ) × (load : SplitLoad)
      × (lookup_stop Stop c.sections c.answers probe ≡ Ok (WaitsFor n)) × IsLoadOf c.sections n load
      × (left ≡ with_load asked load)
  AsksIfWaiting probe c asked left s = left ≡ asked
