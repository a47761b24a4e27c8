-- The frames that lookups find in what is cached of units, as the private functions see them.
use Rattle.std.specs.Prelude.{◌≡◌, ◌<◌, ℕ, true, length, List, Option, Some, None, IfSome, option_map, slice_get, Result, Ok, Err}
use Rattle.addr2line_units.specs.Common.{DwLang, Error, OutOfMemory, FunctionTable, location_of_row}
use Rattle.addr2line_units.specs.declared.frames.OnFault.{OnFault}
use Rattle.addr2line_units.specs.declared.frames.OnFault.TheVariants.{Skip}
use Rattle.addr2line_units.specs.declared.frames.FramePlace.{FramePlace}
use Rattle.addr2line_units.specs.declared.frames.FramesStop.{FramesStop}
use Rattle.addr2line_units.specs.declared.frames.FramesStop.TheVariants as stops
use Rattle.addr2line_units.specs.EntriesOwn.{CachedUnit}
use Rattle.addr2line_units.specs.declared.entries.UnitFrames.{UnitFrames}
use Rattle.addr2line_units.specs.declared.entries.UnitFrames.TheVariants as found
use Rattle.addr2line_units.specs.UnitLinesCached.{cached_files, lines_at}
use Rattle.addr2line_units.specs.Frames.{FrameRecord, found_frames}
use Rattle.addr2line_units.specs.FramesLookup.{LookupStop, Waits, Finds, FindsNothing}
use Rattle.addr2line_units.specs.EntriesFunctions.{ArePlacesIn, function_of_place, cached_functions, no_functions}
use Rattle.addr2line_units.specs.EntriesCached.{AreRead}
use Rattle.addr2line_units.specs.UnitsCached.{waits_at}

-- the functions that are cached of the unit of a number, none where there is no such unit
abbrev pub functions_at : {R : Type 0} → List (CachedUnit R) → ℕ → FunctionTable
functions_at caches n = elim (slice_get caches n)
    [ None ↦ no_functions | Some c ↦ cached_functions c.entries.functions ]

-- the language of the unit of a number
abbrev pub language_at : {R : Type 0} → List (CachedUnit R) → ℕ → Option DwLang
language_at caches n = elim (slice_get caches n) [ None ↦ None | Some c ↦ c.lines.lang ]

-- the frames of a place, by what is cached
abbrev pub frames_at_place : {R : Type 0} → List (CachedUnit R) → FramePlace → List FrameRecord
frames_at_place caches p =
    found_frames (cached_files (lines_at caches p.unit)) (language_at caches p.unit)
    (option_map (function_of_place (functions_at caches p.unit)) p.function)
    (option_map (location_of_row (cached_files (lines_at caches p.unit))) p.row)

-- what a lookup comes to, by what is cached
abbrev pub as_stop : {R : Type 0} → List (CachedUnit R) → FramesStop → LookupStop
as_stop caches (stops.Waits n) = Waits n
as_stop caches (stops.Finds p) = Finds p.unit (frames_at_place caches p)
as_stop caches stops.FindsNothing = FindsNothing

-- the places of a function and its inlined ones are among those that are cached of the unit, whose
-- lines are read
pub record IsFramePlaceIn {R : Type 0} (caches : List (CachedUnit R)) (p : FramePlace)
    : Type 0 where
  pub unit : p.unit < length caches
  pub function : IfSome p.function (ArePlacesIn (functions_at caches p.unit))
  pub lines : AreRead (lines_at caches p.unit)

-- what a lookup comes to can be lent: the unit waits that it waits for, or the places of what it
-- has found are among what is cached
abbrev pub IsLendable : {R : Type 0} → List (CachedUnit R) → FramesStop → Type 0
IsLendable caches (stops.Waits n) = waits_at caches n ≡ true
IsLendable caches (stops.Finds p) = IsFramePlaceIn caches p
IsLendable caches stops.FindsNothing = Unit {0}

-- a fault as it is, or nothing in its place where a lookup passes over it
abbrev pub found_after_fault : OnFault → Result UnitFrames Error → Result UnitFrames Error
found_after_fault Skip (Err e) = elim e [ OutOfMemory ↦ Err OutOfMemory | _ ↦ nothing ]
  where
    nothing : Result UnitFrames Error
    nothing = Ok (found.Here None None)
found_after_fault _ found = found

-- what a lookup comes to in the unit of a number, none where it goes on
abbrev pub stop_of_found : ℕ → UnitFrames → Option FramesStop
stop_of_found n found.Open = Some (stops.Waits n)
stop_of_found n (found.Here None None) = None
stop_of_found n (found.Here function row) =
    Some (stops.Finds (record { unit = n; function = function; row = row }))
