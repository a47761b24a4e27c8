-- What lookups of frames and of units leave of a context: the lines and the functions that are
-- parsed for them (DWARF 5, sections 3.1.2, 3.3 and 7.3.2).
-- Own: a lookup parses only lines that it asks for, and reads nothing of a unit that it doesn't
-- ask; what is parsed or known stays so.
use Rattle.std.specs.Prelude.{◌≡◌, ◌⊎◌, ℕ, ◌≤◌, Bool, true, false, Option, slice_get, IfErr, Result, Ok, Err}
use Rattle.addr2line.specs.Common.{Error, OutOfMemory, ExactlyUnlessOom, WasNotRefused, OnFault, cover, LookupStop, Waits, LookupAsks, asks_lines_of, function_offset_of, holds_along, is_waiting, main_scope, LearnsDetailsAt, ParsesOnly, StaysParsed, StaysKnown, UnitIndex, index_units, UnitsState, asks_no_memory_at, has_all_at, has_few_at, SplitLoad, Skip}
use Rattle.addr2line.specs.Context.{ContextState, IsUncovered}
use Rattle.addr2line.specs.Lookups.{IsFaultOfAsked, asked_of, lookup_stop, IsLoadOf}
use Rattle.addr2line_lines.specs.LastAddress.{last_address}
use Rattle.addr2line_units.specs.declared.frames.Asks.TheVariants.{Frames}
use Rattle.addr2line_units.specs.declared.index.UnitRange.{UnitRange}
use Rattle.addr2line_units.specs.UnitsAfter.{HasPassedTo}

-- the units of a context
abbrev pub units_in : ContextState → UnitIndex → UnitsState
units_in c m = record {
  scope = main_scope c.sections m;
  units = m.units;
  answers = c.answers;
  parsed = c.parsed;
  known = c.known;
  steps = c.steps;
  stop = c.stop;
}

-- whether all is known that a lookup asks the unit of a number for, and at most 16 inlined
-- functions stand there
abbrev pub has_few_of : ContextState → ℕ → UnitIndex → ℕ → Bool
has_few_of c probe m n = has_few_at probe (units_in c m) n

-- all is known that a lookup of the probe asks for
abbrev pub IsKnown : OnFault → ContextState → ℕ → Type 0
IsKnown faults c probe = (m : UnitIndex) → index_units c.sections ≡ Ok m
    → holds_along (has_all_at probe (units_in c m)) (asked_of faults c.sections c.answers probe m)
    (cover probe m.ranges) ≡ true

-- the same, and at most 16 inlined functions stand in each unit that it asks
abbrev pub IsKnownFew : OnFault → ContextState → ℕ → Type 0
IsKnownFew faults c probe = (m : UnitIndex) → index_units c.sections ≡ Ok m
    → holds_along (has_few_of c probe m) (asked_of faults c.sections c.answers probe m)
    (cover probe m.ranges) ≡ true

-- a lookup of the probe takes no memory: of each unit that it asks all is known that it asks for,
-- or read without memory, and at most 16 inlined functions stand there
abbrev pub NeedsNoMemory : Bool → OnFault → ContextState → ℕ → Type 0
NeedsNoMemory shares faults c probe = (m : UnitIndex) → index_units c.sections ≡ Ok m
    → holds_along (asks_no_memory_at shares probe (units_in c m))
    (asked_of faults c.sections c.answers probe m) (cover probe m.ranges) ≡ true

-- a lookup of the probe asks the unit of a number
abbrev pub AsksOneUnit : OnFault → ContextState → ℕ → UnitIndex → ℕ → Type 0
AsksOneUnit faults c probe m n =
    LookupAsks (asked_of faults c.sections c.answers probe m) (cover probe m.ranges) n

-- a lookup of the probe asks a unit of which not all is known that it asks for, or in which more
-- than 16 inlined functions stand there
abbrev pub TakesMemory : OnFault → ContextState → ℕ → Type 0
TakesMemory faults c probe = (m : UnitIndex) × (index_units c.sections ≡ Ok m)
    × ((n : ℕ) × AsksOneUnit faults c probe m n × (has_few_of c probe m n ≡ false))

-- no lines are parsed but those that a lookup asks for in this context
abbrev pub ParsesAsked : OnFault → ℕ → ContextState → ContextState → ContextState → Type 0
ParsesAsked faults probe c old new = (m : UnitIndex) → index_units c.sections ≡ Ok m
    → ParsesOnly (λ n. AsksOneUnit faults c probe m n
    × (asks_lines_of (main_scope c.sections m) m.units c.answers probe n ≡ true))
    old.parsed new.parsed

-- nothing is read of the entries of a unit that a lookup doesn't ask in this context
abbrev pub LearnsAsked : OnFault → ℕ → ContextState → ContextState → ContextState → Type 0
LearnsAsked faults probe c old new = (m : UnitIndex) → index_units c.sections ≡ Ok m
    → (n : ℕ) → (slice_get new.known n ≡ slice_get old.known n) ⊎ AsksOneUnit faults c probe m n

-- no detail of a function becomes known but that of the one at the probe, in this context
abbrev pub LearnsDetails : ℕ → ContextState → ContextState → ContextState → Type 0
LearnsDetails probe c old new = (m : UnitIndex) → index_units c.sections ≡ Ok m
    → LearnsDetailsAt (function_offset_of (main_scope c.sections m) m.units c.answers probe)
    old.known new.known

-- nothing was read but what a lookup of the probe asks for by the first answers that are left:
-- lines of units, their entries, and details of functions
pub record ReadsAsked (faults : OnFault) (probe : ℕ) (old new : ContextState) : Type 0 where
  pub lines : ParsesAsked faults probe new old new
  pub entries : LearnsAsked faults probe new old new
  pub details : LearnsDetails probe new old new

-- a lookup of the probe has passed over the units that cover it before a place: they have nothing,
-- and all is known that it asks them for
abbrev pub HasPassed : OnFault → ContextState → ℕ → Option UnitRange → Type 0
HasPassed faults c probe place = (m : UnitIndex) → index_units c.sections ≡ Ok m
    → HasPassedTo (Frames faults) probe (units_in c m) (cover probe m.ranges) place

-- after a lookup of the probe: the sections and the first answers are the same, what was parsed or
-- known stays so, and the steps don't get fewer; no lines were parsed but those that it asks for,
-- and nothing was read of units that it doesn't ask, nor a detail but that of the function at the
-- probe; unless memory was refused, all is known that it asks for; memory is refused only where
-- something of that isn't known, a load is wanted, or more than 16 inlined functions stand there
pub record AfterFrames {X : Type 0} (faults : OnFault) (probe : ℕ) (result : Result X Error)
    (old new : ContextState) : Type 0 where
  pub sections : new.sections ≡ old.sections
  pub answers : new.answers ≡ old.answers
  pub parsed : StaysParsed old.parsed new.parsed
  pub known : StaysKnown old.known new.known
  pub only : ParsesAsked faults probe old old new
  pub learns : LearnsAsked faults probe old old new
  pub details : LearnsDetails probe old old new
  pub raised : old.steps ≤ new.steps
  pub ready : WasNotRefused result → IsKnown faults new probe
  pub memory : IsKnownFew faults new probe
      → is_waiting (lookup_stop faults old.sections old.answers probe) ≡ false
      → WasNotRefused result

-- after a walk along the units that cover the probe, over readers that share their bytes or don't:
-- where all is known that it asks for, and at most 16 inlined functions stand there, memory isn't
-- refused, nor where nothing of it takes memory; a lookup that passes over faults is refused for
-- memory alone; no unit covers 2^64 - 1
pub record AfterWalk {X : Type 0} (shares : Bool) (faults : OnFault) (probe : ℕ)
    (result : Result X Error) (old new : ContextState) : Type 0 where
  pub frames : AfterFrames faults probe result old new
  pub refused : faults ≡ Skip → IfErr result (λ e. e ≡ OutOfMemory)
  pub memory : IsKnownFew faults new probe → WasNotRefused result
  pub no_memory : NeedsNoMemory shares faults new probe
      → IfErr result (IsFaultOfAsked faults old.sections old.answers probe)
  pub last : probe ≡ last_address → IsUncovered old probe

-- a context has stored what a lookup of the probe comes to, or the lookup was refused
abbrev pub IsStored : {X : Type 0} → OnFault → ℕ → Result X Error → ContextState → Type 0
IsStored faults probe result c =
    ExactlyUnlessOom (λ _. c.stop) result (lookup_stop faults c.sections c.answers probe)

-- the same over readers that share their bytes or don't, of a lookup that has ended: the context
-- has stored what it came to; where the lookup takes no memory and waits for nothing, a refusal is
-- the fault of a unit that it asks
pub record AfterFramesOver {X : Type 0} (shares : Bool) (faults : OnFault) (probe : ℕ)
    (result : Result X Error) (old new : ContextState) : Type 0 where
  pub after : AfterFrames faults probe result old new
  pub stored : IsStored faults probe result new
  pub ended : WasNotRefused result
      → is_waiting (lookup_stop faults new.sections new.answers probe) ≡ false
  pub no_memory : NeedsNoMemory shares faults new probe
      → is_waiting (lookup_stop faults old.sections old.answers probe) ≡ false
      → IfErr result (IsFaultOfAsked faults old.sections old.answers probe)

-- what is lent after a lookup: what it has found where it waits for nothing; else its refusal, or
-- OutOfMemory in the place of a load
abbrev pub IsLent : {X : Type 0} → Result (Unit {0}) Error → LookupStop → Result X Error → Type 0
IsLent walked stop (Ok x) = (walked ≡ Ok tt) × (is_waiting (Ok stop) ≡ false)
IsLent walked stop (Err e) = (walked ≡ Err e)
    ⊎ ((e ≡ OutOfMemory) × (walked ≡ Ok tt) × (is_waiting (Ok stop) ≡ true))

-- a lookup that waits for the unit of a number has this load
pub record Suspends (faults : OnFault) (probe number : ℕ) (wanted : SplitLoad)
    (old new : ContextState) : Type 0 where
  pub waits : lookup_stop faults old.sections old.answers probe ≡ Ok (Waits number)
  pub load : IsLoadOf old.sections number wanted
  pub after : AfterFrames {X = Unit {0}} faults probe (Ok tt) old new
