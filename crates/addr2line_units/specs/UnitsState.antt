-- The units of a context as callers see them (DWARF 5, sections 3.1, 3.1.2 and 7.3.2): where
-- references lead from them, their languages, the first answers to their loads, of which units the
-- lines are parsed, what is known of the entries of each, how often lines were looked at, and what
-- the last lookup has come to.
use Rattle.std.specs.Prelude.{◌≡◌, ℕ, Bool, ◌&&◌, ◌||◌, not, List, map, Option, Some, None, Result, Ok, Err}
use Rattle.addr2line_units.specs.Common.{Error, ◌>>=◌, Sections, UnitRecord, exceeds_inline_room, Scope}
use Rattle.addr2line_units.specs.declared.frames.Asks.{Asks}
use Rattle.addr2line_units.specs.declared.frames.Asks.TheVariants.{Location, Frames}
use Rattle.addr2line_units.specs.declared.index.UnitRange.{UnitRange}
use Rattle.addr2line_units.specs.EntriesMemory.{lines_of_take_memory}
use Rattle.addr2line_units.specs.FramesLookup.{FindsNothing, LookupStop, Waits, asked_of_unit, asks_lines_of, found_in_unit, functions_of_take_memory, inlined_at_number, main_scope, stop_along}
use Rattle.addr2line_units.specs.EntriesKnown.{KnownEntries, NothingKnown, knows_at}
use Rattle.addr2line_units.specs.LocationsParsed.{has_parsed, parses_no_memory}
use Rattle.addr2line_units.specs.UnitsRanged.{IndexedUnit, RangedUnit, has_lines, indexed_of, ranged_units, unit_ranges_from}
use Rattle.addr2line_units.specs.EntriesFrames.{FramesResult}
use Rattle.addr2line_units.specs.UnitsIndex.{sup_units}
use Rattle.addr2line_units.specs.UnitView.{FirstAnswers}

pub record UnitsState : Type 0 where
  pub scope : Scope
  pub units : List IndexedUnit
  pub answers : FirstAnswers
  pub parsed : List Bool
  pub known : List KnownEntries
  pub steps : ℕ
  pub stop : LookupStop

-- units as they are read, and those of the supplementary file: nothing is answered, and nothing
-- known
abbrev pub first_state : Sections → List RangedUnit → List UnitRecord → UnitsState
first_state d units sup = record {
  scope = main_scope d (record {
    units = map indexed_of units;
    ranges = unit_ranges_from d 0 units;
    sup_units = sup;
  });
  units = map indexed_of units;
  answers = map (λ _. None) units;
  parsed = map has_lines units;
  known = map (λ _. NothingKnown) units;
  steps = 0;
  stop = FindsNothing;
}

-- the units of sections and the ranges that lead to them, or the first fault
abbrev pub new_units : Sections → Result (UnitsState × List UnitRange) Error
new_units d = do
  units ← ranged_units d
  sup ← sup_units d.sup
  Ok (first_state d units sup, unit_ranges_from d 0 units)

-- what a lookup asks the unit of a number for
abbrev pub asked_by : Asks → ℕ → UnitsState → ℕ → FramesResult
asked_by asks probe s = asked_of_unit asks s.scope s.units s.answers probe

-- the unit of a number has this fault at the probe, in what a lookup asks it for
abbrev pub IsFaultAt : Asks → ℕ → UnitsState → ℕ → Error → Type 0
IsFaultAt asks probe s n e = found_in_unit asks s.scope s.units s.answers probe n ≡ Err e

-- what a lookup comes to along ranges
abbrev pub stop_of : Asks → ℕ → UnitsState → List UnitRange → Result LookupStop Error
stop_of asks probe s ranges = stop_along (asked_by asks probe s) ranges

-- the unit that a lookup waits for, if it waits for one
abbrev pub waiting_unit : LookupStop → Option ℕ
waiting_unit (Waits n) = Some n
waiting_unit stop = None

-- whether all is known that a lookup of frames asks the unit of a number for
abbrev pub has_all_at : ℕ → UnitsState → ℕ → Bool
has_all_at probe s n = knows_at s.known probe n
    && (not (asks_lines_of s.scope s.units s.answers probe n) || has_parsed s.parsed n)

-- the same, and at most 16 inlined functions stand there
abbrev pub has_few_at : ℕ → UnitsState → ℕ → Bool
has_few_at probe s n =
    has_all_at probe s n
    && not (exceeds_inline_room (inlined_at_number s.scope s.units s.answers probe n))

-- whether a lookup of frames reads nothing in the unit of a number that may take memory: what it
-- asks for is known, or reading it takes none
abbrev pub reads_no_memory_at : Bool → ℕ → UnitsState → ℕ → Bool
reads_no_memory_at shares probe s n = (knows_at s.known probe n
    || not (functions_of_take_memory shares s.scope s.units s.answers n))
    && (not (asks_lines_of s.scope s.units s.answers probe n)
    || (has_parsed s.parsed n || not (lines_of_take_memory shares s.units n)))

-- the same, and at most 16 inlined functions stand there
abbrev pub asks_no_memory_at : Bool → ℕ → UnitsState → ℕ → Bool
asks_no_memory_at shares probe s n = reads_no_memory_at shares probe s n
    && not (exceeds_inline_room (inlined_at_number s.scope s.units s.answers probe n))

-- whether all is known that a lookup asks the unit of a number for: its lines, where it asks for a
-- location
abbrev pub has_asked_at : Asks → ℕ → UnitsState → ℕ → Bool
has_asked_at Location probe s = has_parsed s.parsed
has_asked_at (Frames faults) probe s = has_all_at probe s

-- the same, and at most 16 inlined functions stand there, where it asks for frames
abbrev pub has_asked_few_at : Asks → ℕ → UnitsState → ℕ → Bool
has_asked_few_at Location probe s = has_parsed s.parsed
has_asked_few_at (Frames faults) probe s = has_few_at probe s

-- whether a lookup takes no memory in the unit of a number
abbrev pub takes_none_at : Bool → Asks → ℕ → UnitsState → ℕ → Bool
takes_none_at shares Location probe s = parses_no_memory shares s.units s.parsed
takes_none_at shares (Frames faults) probe s = asks_no_memory_at shares probe s
