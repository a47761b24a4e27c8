-- What a lookup comes to in one unit after another, as the private functions see it.
use Rattle.std.specs.Prelude.{◌≡◌, ℕ, Bool, true, false, List, length, slice_get, Option, Some, None, unwrap_or, IfErr, OnOk, Result, Ok}
use Rattle.addr2line_units.specs.Common.{Error, OutOfMemory, ◌>>=◌, WasNotRefused}
use Rattle.addr2line_lines.specs.declared.row.Row.{Row}
use Rattle.addr2line_units.specs.declared.frames.Asks.{Asks}
use Rattle.addr2line_units.specs.declared.frames.FramesStop.{FramesStop}
use Rattle.addr2line_units.specs.declared.frames.FramesStop.TheVariants as stops
use Rattle.addr2line_units.specs.declared.entries.UnitFrames.{UnitFrames}
use Rattle.addr2line_units.specs.UnitsAfter.{AfterAsking, AfterLines, AfterListing, WereAskedFor}
use Rattle.addr2line_units.specs.FramesCached.{stop_of_found}
use Rattle.addr2line_units.specs.FramesLookup.{FindsNothing, LookupStop, or_stop}
use Rattle.addr2line_units.specs.Loads.{is_open_at, load_of_number}
use Rattle.addr2line_units.specs.LoadsListed.{MarksLoad}
use Rattle.addr2line_units.specs.Locations.{steps_in}
use Rattle.addr2line_units.specs.LocationsParsed.{has_parsed, parses_no_memory}
use Rattle.addr2line_units.specs.UnitsRanged.{unit_records}
use Rattle.addr2line_units.specs.UnitsState.{IsFaultAt, UnitsState, asked_by, has_asked_at, has_asked_few_at, takes_none_at}

-- the units are those of the scope, and so many, as their first answers are, and what is listed of
-- their lines and entries
pub record CountsUnits (count : ℕ) (s : UnitsState) : Type 0 where
  pub are : unit_records s.units ≡ s.scope.file.units
  pub units : count ≡ length s.units
  pub answers : count ≡ length s.answers
  pub parsed : count ≡ length s.parsed
  pub known : count ≡ length s.known

-- what a lookup comes to in the unit of a number alone
abbrev pub stop_at : Asks → ℕ → UnitsState → ℕ → Result LookupStop Error
stop_at asks probe s n = asked_by asks probe s n >>= or_stop n (Ok FindsNothing)

-- what a lookup comes to in the unit of a number, by what was found there
abbrev pub found_stop : ℕ → UnitFrames → FramesStop
found_stop n found = unwrap_or (stop_of_found n found) stops.FindsNothing

-- the same by the row that was found
abbrev pub row_stop : ℕ → Option Row → FramesStop
row_stop n None = stops.FindsNothing
row_stop n (Some row) = stops.Finds (record { unit = n; function = None; row = Some row })

-- after the lines of the unit of a number were parsed, or after OutOfMemory, where they aren't, and
-- take memory, over readers that share their bytes or don't
pub record AfterCachingAt {X : Type 0} (shares : Bool) (number : ℕ) (result : Result X Error)
    (old new : UnitsState) : Type 0 where
  pub lines : AfterLines (λ n. n ≡ number) old new
  pub stop : new.stop ≡ FindsNothing
  pub steps : new.steps ≡ old.steps
  pub ready : WasNotRefused result → has_parsed new.parsed number ≡ true
  pub memory : parses_no_memory shares old.units new.parsed number ≡ true → WasNotRefused result

-- after the unit of a number was asked, over readers that share their bytes or don't
abbrev pub AfterAsk : {X : Type 0} → Bool → Asks → ℕ → ℕ → Result X Error → UnitsState → UnitsState
    → Type 0
AfterAsk shares asks number probe result old = AfterAsking
    (WereAskedFor asks (λ n. n ≡ number)
    (steps_in old.scope.file.sections (slice_get old.units number)) probe)
    (λ s. has_asked_at asks probe s number) (λ s. has_asked_few_at asks probe s number)
    (λ s. takes_none_at shares asks probe s number) (IsFaultAt asks probe old number) result old

-- after the load of the unit of a number was looked for, if it waits for one and isn't marked,
-- which it is then; memory alone is refused, and none where it doesn't wait
pub record AfterNewLoad {X : Type 0} (number : ℕ) (marks marked : List ℕ)
    (result : Result (Option X) Error) (old new : UnitsState) : Type 0 where
  pub listing : AfterListing (λ n. n ≡ number) old new
  pub marks_load : OnOk result (MarksLoad (load_of_number old.scope.file.sections
      old.scope.file.units old.answers number) marks marked)
  pub none : is_open_at old.scope.file.sections old.scope.file.units old.answers number ≡ false
      → result ≡ Ok None
  pub refused : IfErr result (λ e. e ≡ OutOfMemory)
