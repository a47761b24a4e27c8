-- What calls leave of the units of a context (DWARF 5, sections 3.1.2, 3.3, 6.2 and 7.3.2).
-- Own: a lookup parses only lines that it asks for, and reads nothing of a unit that it doesn't
-- ask; what is known stays known. The first answer to a unit's load counts until the unit is
-- forgotten.
use Rattle.std.specs.Prelude.{◌≡◌, ◌≢◌, ◌⊎◌, ◌+◌, ◌<◌, ◌≤◌, ◌&&◌, ℕ, Bool, true, false, not, List, length, IfErr, IfSome, IsOk, OnOk, is_some, slice_get, Option, Some, None, Result, Ok, Err}
use Rattle.std.specs.List.{AllByRecursion, list_all}
use Rattle.addr2line_units.specs.Common.{Error, OutOfMemory, WasNotRefused, Sections, UnitRecord, Scope, fault_of}
use Rattle.addr2line_units.specs.declared.frames.Asks.{Asks}
use Rattle.addr2line_units.specs.declared.frames.Asks.TheVariants.{Location, Frames}
use Rattle.addr2line_units.specs.declared.frames.OnFault.{OnFault}
use Rattle.addr2line_units.specs.declared.index.UnitRange.{UnitRange}
use Rattle.addr2line_units.specs.IndexCover.{before_place}
use Rattle.addr2line_units.specs.declared.parses.ReadingDepth.{ReadingDepth}
use Rattle.addr2line_units.specs.declared.parses.ReadingDepth.TheVariants as depths
use Rattle.addr2line_units.specs.FramesLookup.{FindsNothing, LookupAsks, answer_of, asks_lines_of, ends_lookup, has_stopped, holds_along, function_offset_of, with_answer}
use Rattle.addr2line_units.specs.Parses.{AreReadyFor, IsDecidedTo, IsReadyOf, ReadsNoMemory, answers_after_parse, read_of_units}
use Rattle.addr2line_units.specs.EntriesKnown.{KnownEntries, LearnsDetailsAt, LearnsNoDetails, LearnsNoFunctions, knows_at}
use Rattle.addr2line_units.specs.Loads.{NoneOpen, forgotten, is_open_at, load_result}
use Rattle.addr2line_units.specs.LoadsMemory.{answer_takes_memory}
use Rattle.addr2line_units.specs.LoadsLaws.{IsListed, loads_of}
use Rattle.addr2line_units.specs.Locations.{all_lines, steps_along}
use Rattle.addr2line_units.specs.ParsesLaws.{IsReached}
use Rattle.addr2line_units.specs.LocationsParsed.{AllAskFor, AreAllParsed, AreParsed, AreReadyForAll, LeadTo, ParsesOnly, StaysParsed, TakeNone, TakeNoneForAll, has_parsed}
use Rattle.addr2line_units.specs.EntriesStayKnown.{IsReadBy, IsReadyAt, StaysKnown}
use Rattle.addr2line_units.specs.UnitsState.{IsFaultAt, UnitsState, asked_by, has_asked_at, has_asked_few_at, stop_of, takes_none_at}
use Rattle.addr2line_units.specs.UnitView.{FirstAnswers}

-- nothing is changed but which lines are parsed, how often they were looked at, and what is stored
-- of the last lookup: those stay parsed that were, and no others are but those that are asked for;
-- where all that are asked for were parsed before, the same are after
pub record AfterLines (asks : ℕ → Type 0) (old new : UnitsState) : Type 0 where
  pub same : new ≡ record old { parsed = new.parsed; steps = new.steps; stop = new.stop }
  pub parsed : StaysParsed old.parsed new.parsed
  pub only : ParsesOnly asks old.parsed new.parsed
  pub kept : ((n : ℕ) → asks n → has_parsed old.parsed n ≡ true) → new.parsed ≡ old.parsed

-- after the lines of units along ranges were parsed, or after OutOfMemory, where those of a unit
-- are left that take memory, over readers that share their bytes or don't
pub record AfterCaching {X : Type 0} (shares : Bool) (ranges : List UnitRange)
    (result : Result X Error) (old new : UnitsState) : Type 0 where
  pub lines : AfterLines (LeadTo ranges) old new
  pub stop : new.stop ≡ FindsNothing
  pub steps : new.steps ≡ old.steps
  pub parsed : OnOk result (AreParsed new.parsed ranges)
  pub memory : TakeNone shares old.units new.parsed ranges → WasNotRefused result
  pub refused : IfErr result (λ e. e ≡ OutOfMemory)

-- after the lines of all units were parsed, up to the first fault, or after OutOfMemory, where
-- those of a unit are left that take memory, over readers that share their bytes or don't
pub record AfterLineParse (shares : Bool) (result : Result (Unit {0}) Error) (old new : UnitsState)
    : Type 0 where
  pub lines : AfterLines (AllAskFor old.scope.file.sections old.units) old new
  pub stop : new.stop ≡ FindsNothing
  pub steps : new.steps ≡ old.steps
  pub ready : WasNotRefused result → AreReadyForAll old.scope.file.sections old.units new.parsed
  pub memory : TakeNoneForAll shares old.scope.file.sections old.units new.parsed
      → WasNotRefused result
  pub parsed : OnOk result (AreAllParsed new.parsed)

-- units were asked for a location in their lines: these were looked at so often at most, and once
-- at least where one was found
pub record LinesWereAsked (asks : ℕ → Type 0) (most : ℕ) (old new : UnitsState) : Type 0 where
  pub lines : AfterLines asks old new
  pub raised : old.steps ≤ new.steps
  pub counted : has_stopped new.stop ≡ true → old.steps < new.steps
  pub cost : new.steps ≤ old.steps + most

-- units were asked for frames at the probe: what was read stays, nothing is read of others, and no
-- detail of a function but that of the one at the probe
pub record WereAsked (asks : ℕ → Type 0) (probe : ℕ) (old new : UnitsState) : Type 0 where
  pub scope : new.scope ≡ old.scope
  pub units : new.units ≡ old.units
  pub answers : new.answers ≡ old.answers
  pub parsed : StaysParsed old.parsed new.parsed
  pub known : StaysKnown old.known new.known
  pub only : ParsesOnly (λ n. asks n
      × (asks_lines_of old.scope old.units old.answers probe n ≡ true)) old.parsed new.parsed
  pub learns : (n : ℕ) → (slice_get new.known n ≡ slice_get old.known n) ⊎ asks n
  pub details : LearnsDetailsAt (function_offset_of old.scope old.units old.answers probe) old.known
      new.known
  pub raised : old.steps ≤ new.steps

-- units were asked for what a lookup asks for, and lines looked at so often at most, where it asks
-- for a location
abbrev pub WereAskedFor : Asks → (ℕ → Type 0) → ℕ → ℕ → UnitsState → UnitsState → Type 0
WereAskedFor Location asked most probe = LinesWereAsked asked most
WereAskedFor (Frames faults) asked most probe = WereAsked asked probe

-- after units were asked; the same lookup reads nothing more, but after OutOfMemory, which comes
-- only where something is left to read, or more than 16 functions are inlined; where nothing that
-- it asks for takes memory a refusal is a fault that they have; no lookup is stored where this one
-- was refused
pub record AfterAsking {X : Type 0} (Leaves : UnitsState → UnitsState → Type 0)
    (all few none : UnitsState → Bool) (IsFault : Error → Type 0) (result : Result X Error)
    (old new : UnitsState) : Type 0 where
  pub asked : Leaves old new
  pub ready : WasNotRefused result → all new ≡ true
  pub memory : few new ≡ true → WasNotRefused result
  pub no_memory : none new ≡ true → IfErr result IsFault
  pub stop : IfErr result (λ _. new.stop ≡ FindsNothing)

-- a unit that a lookup asks along ranges has this fault
abbrev pub IsFaultAlong : Asks → ℕ → UnitsState → List UnitRange → Error → Type 0
IsFaultAlong asks probe s ranges e =
    (n : ℕ) × LookupAsks (asked_by asks probe s) ranges n × IsFaultAt asks probe s n e

-- after a lookup along ranges, over readers that share their bytes or don't
abbrev pub AfterWalkAlong : {X : Type 0} → Bool → Asks → ℕ → List UnitRange → Result X Error
    → UnitsState → UnitsState → Type 0
AfterWalkAlong shares asks probe ranges result old = AfterAsking
    (WereAskedFor asks (LookupAsks (asked_by asks probe old) ranges)
    (steps_along old.scope.file.sections old.units ranges) probe)
    (λ s. holds_along (has_asked_at asks probe s) (asked_by asks probe old) ranges)
    (λ s. holds_along (has_asked_few_at asks probe s) (asked_by asks probe old) ranges)
    (λ s. holds_along (takes_none_at shares asks probe s) (asked_by asks probe old) ranges)
    (IsFaultAlong asks probe old ranges) result old

-- whether a lookup has passed over the unit of a number: it doesn't end there, and all is known
-- that it asks the unit for
abbrev pub is_passed : Asks → ℕ → UnitsState → ℕ → Bool
is_passed asks probe s n =
    not (ends_lookup (asked_by asks probe s n)) && has_asked_at asks probe s n

-- a lookup along ranges has passed over those before a place
abbrev pub HasPassedTo : Asks → ℕ → UnitsState → List UnitRange → Option UnitRange → Type 0
HasPassedTo asks probe s ranges place =
    list_all (λ (r : UnitRange). is_passed asks probe s r.unit) (before_place place ranges) ≡ true

-- nothing is changed but first answers, what is known of units' entries, and that no lookup is
-- stored
abbrev pub StayRead : UnitsState → UnitsState → Type 0
StayRead old new = new
    ≡ record old { answers = new.answers; known = new.known; stop = FindsNothing }

-- after an answer to the load of the unit of a number nothing is changed but of that unit, of which
-- what was known stays unless it was open, and nothing is changed where it had an answer; no
-- function becomes known; after OutOfMemory in the place of given sections all first answers are as
-- before, and what was known stays known; where the answer takes no memory, over readers that share
-- their bytes or don't, there is none; along ranges where its load is left fewer are left then
pub record AfterAnswer (shares : Bool) (n : ℕ) (given : Option Sections)
    (result : Result (Unit {0}) Error) (old new : UnitsState) : Type 0 where
  pub stays : StayRead old new
  pub answers : OnOk result (new.answers
      ≡ with_answer old.scope.file.sections old.scope.file.units old.answers n given)
  pub refused : IfErr result (λ e. (e ≡ OutOfMemory) × (new.answers ≡ old.answers)
      × StaysKnown old.known new.known × (is_some given ≡ true))
  pub others : (k : ℕ) → k ≢ n → slice_get new.known k ≡ slice_get old.known k
  pub functions : LearnsNoFunctions old.known new.known
  pub known : is_open_at old.scope.file.sections old.scope.file.units old.answers n ≡ false
      → StaysKnown old.known new.known
  pub same : (first : Option Sections) → answer_of old.answers n ≡ Some first
      → new.known ≡ old.known
  pub not_open : is_open_at old.scope.file.sections old.scope.file.units old.answers n ≡ false
      → result ≡ Ok tt
  pub no_memory : answer_takes_memory shares given ≡ false → IfErr result (λ e.
      load_result old.scope.file.sections old.scope.file.units old.answers n given ≡ Err e)
  pub shorter : (ranges : List UnitRange)
      → IsListed n (loads_of old.scope.file.sections old.scope.file.units old.answers ranges)
      → OnOk result
      (length (loads_of new.scope.file.sections new.scope.file.units new.answers ranges)
      < length (loads_of old.scope.file.sections old.scope.file.units old.answers ranges))

-- the same outside a lookup, where the fault of the unit's view refuses too: nothing is changed of
-- a unit that had an answer, and of one that wasn't open what was known stays; where the unit isn't
-- open, or the answer takes no memory, the result is exactly that fault, or none
pub record AfterLoad (shares : Bool) (n : ℕ) (given : Option Sections)
    (result : Result (Unit {0}) Error) (old new : UnitsState) : Type 0 where
  pub stays : StayRead old new
  pub answers : WasNotRefused result → new.answers
      ≡ with_answer old.scope.file.sections old.scope.file.units old.answers n given
  pub begun : (new.answers ≡ old.answers) ⊎ (new.answers
      ≡ with_answer old.scope.file.sections old.scope.file.units old.answers n given)
  pub refused : result
      ≢ load_result old.scope.file.sections old.scope.file.units old.answers n given
      → (new.answers ≡ old.answers) × StaysKnown old.known new.known
  pub known : is_open_at old.scope.file.sections old.scope.file.units old.answers n ≡ false
      → StaysKnown old.known new.known
  pub same : (first : Option Sections) → answer_of old.answers n ≡ Some first
      → new.known ≡ old.known
  pub others : (k : ℕ) → k ≢ n → slice_get new.known k ≡ slice_get old.known k
  pub functions : LearnsNoFunctions old.known new.known
  pub not_open : is_open_at old.scope.file.sections old.scope.file.units old.answers n ≡ false
      → result ≡ load_result old.scope.file.sections old.scope.file.units old.answers n given
  pub exact : answer_takes_memory shares given ≡ false
      → result ≡ load_result old.scope.file.sections old.scope.file.units old.answers n given

-- after the unit of a number is forgotten nothing is changed but of that unit, and that no lookup
-- is stored; of the unit nothing where it had no answer; no function becomes known
pub record AfterForget (n : ℕ) (old new : UnitsState) : Type 0 where
  pub stays : StayRead old new
  pub answers : new.answers ≡ forgotten old.answers n
  pub same : answer_of old.answers n ≡ None → new.known ≡ old.known
  pub others : (k : ℕ) → k ≢ n → slice_get new.known k ≡ slice_get old.known k
  pub functions : LearnsNoFunctions old.known new.known

-- after the loads of units were looked for nothing is changed but that more may be known of those
-- units, and no function of them, and that no lookup is stored
pub record AfterListing (asks : ℕ → Type 0) (old new : UnitsState) : Type 0 where
  pub stays : StayRead old new
  pub answers : new.answers ≡ old.answers
  pub known : StaysKnown old.known new.known
  pub learns : (n : ℕ) → (slice_get new.known n ≡ slice_get old.known n) ⊎ asks n
  pub functions : LearnsNoFunctions old.known new.known

-- after the loads of the units that ranges lead to were listed; memory alone is refused, and none
-- where none of these is open
pub record AfterPreloadAlong {X : Type 0} (ranges : List UnitRange) (result : Result X Error)
    (old new : UnitsState) : Type 0 where
  pub listing : AfterListing (LeadTo ranges) old new
  pub memory : NoneOpen old.scope.file.sections old.scope.file.units old.answers ranges
      → IsOk result
  pub refused : IfErr result (λ e. e ≡ OutOfMemory)

-- a parse of functions has come to the unit of a number: those before it can be read, are decided,
-- by none where they were open, and all that the parse reads of them is known. That unit may be
-- decided by none too, and no other; of those behind it nothing is changed. Where memory was
-- refused, that unit is open, or not all is known that the parse reads of it
pub record HasComeTo (depth : ReadingDepth) (result : Result (Unit {0}) Error) (scope : Scope)
    (us : List UnitRecord) (answers : FirstAnswers) (known : List KnownEntries)
    (new_answers : FirstAnswers) (new_known : List KnownEntries) (n : ℕ) : Type 0 where
  pub decided : IsDecidedTo depth scope us answers new_answers n
  pub read : (m : ℕ) → m < n → IfSome (slice_get new_known m) (IsReadBy depth)
  pub behind : (m : ℕ) → n < m → slice_get new_known m ≡ slice_get known m
  pub memory : IsReadyOf depth scope us new_answers new_known n → WasNotRefused result

-- after a parse of all functions open units are decided by none, up to the first fault. The parse
-- has come to some unit, and where memory was refused something is left to read of that one. What
-- was known of the others stays, and where functions alone are read no detail becomes known. Unless
-- memory was refused all is known that the parse reads, and where it is, none was refused; where it
-- was before, the result is that of the reading, and nothing is changed of what is known and
-- answered; where nothing that is read takes memory, over readers that share their bytes or don't,
-- a refusal is the first fault. Without a fault all is read, and where details are read and all
-- lines can be, no lookup of frames waits or has a fault
pub record AfterReading (shares : Bool) (depth : ReadingDepth) (result : Result (Unit {0}) Error)
    (old new : UnitsState) : Type 0 where
  pub stays : StayRead old new
  pub answers : WasNotRefused result → new.answers
      ≡ answers_after_parse depth old.scope old.scope.file.units old.answers
  pub begun : (n : ℕ) × HasComeTo depth result old.scope old.scope.file.units old.answers
      old.known new.answers new.known n
  pub known : (probe n : ℕ)
      → is_open_at old.scope.file.sections old.scope.file.units old.answers n ≡ false
      → knows_at old.known probe n ≡ true → knows_at new.known probe n ≡ true
  pub whole : (needed : ReadingDepth) (n : ℕ)
      → is_open_at old.scope.file.sections old.scope.file.units old.answers n ≡ false
      → IsReadyAt needed old.known n → IsReadyAt needed new.known n
  pub details : depth ≡ depths.Functions → LearnsNoDetails old.known new.known
  pub read : OnOk result (AllByRecursion (IsReadBy depth) new.known)
  pub whole_known : AllByRecursion (IsReadBy depth) old.known → result ≡ Ok tt
  pub ready : WasNotRefused result
      → AreReadyFor depth old.scope old.scope.file.units new.answers new.known
  pub memory : AreReadyFor depth old.scope old.scope.file.units new.answers new.known
      → WasNotRefused result
  pub no_memory : ReadsNoMemory shares depth old.scope old.scope.file.units new.answers new.known
      → IfErr result
      (λ e. read_of_units depth old.scope old.scope.file.units old.answers ≡ Err e)
  pub exact : AreReadyFor depth old.scope old.scope.file.units old.answers old.known
      → result ≡ read_of_units depth old.scope old.scope.file.units old.answers
  pub same : AreReadyFor depth old.scope old.scope.file.units old.answers old.known
      → (new.answers ≡ old.answers) × (new.known ≡ old.known)
  pub all : depth ≡ depths.Details → OnOk result
      ((probe n : ℕ) → knows_at new.known probe n ≡ true)
  pub reached : depth ≡ depths.Details
      → fault_of (all_lines old.scope.file.sections old.units) ≡ Ok tt → OnOk result
      ((faults : OnFault) (probe : ℕ) (ranges : List UnitRange)
      → IsReached (stop_of (Frames faults) probe new ranges))
