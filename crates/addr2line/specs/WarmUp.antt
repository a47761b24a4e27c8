-- What a context has read once it has parsed all lines and all functions, and what lookups do then.
-- Own: at most 16 functions that are inlined at an address take no memory.
use Rattle.std.specs.Prelude.{◌≡◌, ℕ, true, not, Option, Result, Ok}
use Rattle.addr2line.specs.Common.{Error, WasNotRefused, OnFault, cover, inlined_at_number, holds_along, main_scope, AreAllParsed, UnitIndex, index_units}
use Rattle.addr2line_lines.specs.InlineRoom.{exceeds_inline_room}
use Rattle.addr2line_units.specs.ParsesLaws.{IsReached}
use Rattle.addr2line.specs.AfterLookups.{AfterFrames}
use Rattle.addr2line.specs.Context.{AfterLookup, ContextState, IsReady, lines_of_all}
use Rattle.addr2line.specs.Loads.{IsAllKnown, ReachesAllOf}
use Rattle.addr2line.specs.Lookups.{asked_of, lookup_stop}

-- all that a lookup asks for is read: lines and functions without a fault, and no unit waits
pub record IsWarm (c : ContextState) : Type 0 where
  pub lines : lines_of_all c.sections ≡ Ok tt
  pub parsed : AreAllParsed c.parsed
  pub known : IsAllKnown c
  pub reaches : ReachesAllOf c

-- at most 16 functions are inlined at the probe in each unit that a lookup asks
abbrev pub IsFewInlined : OnFault → ContextState → ℕ → Type 0
IsFewInlined faults c probe = (m : UnitIndex) → index_units c.sections ≡ Ok m
    → holds_along (λ n. not (exceeds_inline_room
    (inlined_at_number (main_scope c.sections m) m.units c.answers probe n)))
    (asked_of faults c.sections c.answers probe m) (cover probe m.ranges) ≡ true

-- in a warm context a lookup of frames or of a unit waits for nothing and has no fault; it leaves
-- the context warm, and is refused no memory where few functions are inlined
pub record FindsAll (faults : OnFault) (probe : ℕ) (result : Result (Unit {0}) Error)
    (old new : ContextState) : Type 0 where
  pub reached : IsReached (lookup_stop faults old.sections old.answers probe)
  pub warm : IsWarm new
  pub memory : IsFewInlined faults old probe → WasNotRefused result

-- the same of every such lookup
abbrev pub FindsAllWhenWarm : Type 0
FindsAllWhenWarm = (faults : OnFault) (probe : ℕ) (result : Result (Unit {0}) Error)
    (old new : ContextState) → IsWarm old → AfterFrames faults probe result old new
    → FindsAll faults probe result old new

-- a lookup of a location parses nothing in a warm context, and leaves it warm
abbrev pub LocatesWhenWarm : Type 0
LocatesWhenWarm = (probe : ℕ) (result : Result (Option (Unit {0})) Error)
    (old new : ContextState) → IsWarm old → AfterLookup probe result old new
    → IsReady old probe × IsWarm new

-- lookups of frames and of locations
pub record WarmUpLaws : Type 0 where
  pub found : FindsAllWhenWarm
  pub located : LocatesWhenWarm
