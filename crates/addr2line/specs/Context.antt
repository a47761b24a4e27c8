-- A context as callers see it: the sections that it was made from (DWARF 5, section 7.5), the first
-- answers to the loads of its units, of which units it has parsed the lines, what it knows of the
-- entries of units, how often it looked at lines, and what its last lookup has come to.
-- Own: the lines of a unit, or their fault, are parsed when a lookup first asks for them, and stay
-- parsed; a context that is made has parsed them only where they give a unit its ranges, and a unit
-- without a line program has its lines, which are none.
-- Own: of a unit the first answer to its load counts: the sections of a split file, or none.
use Rattle.std.specs.Prelude.{◌≡◌, ℕ, ◌+◌, ◌<◌, ◌≤◌, Bool, true, List, [], map, Option, None, option_map, IfErr, IfOk, IsOk, Result, Ok, Err, OnOk, is_ok}
use Rattle.addr2line.specs.Common.{Error, ◌>>=◌, ExactlyUnless, ExactlyUnlessOom, fault_of, WasNotRefused, Section, Sections, FindsNothing, LookupStop, located_frames, main_scope, stop_along, KnownEntries, NothingKnown, all_lines, is_found, location_of, steps_along, UnitIndex, index_units, sup_units, has_lines, ranged_units, AllAskFor, AreParsed, AreReadyForAll, AsksFor, LeadTo, ParsesOnly, StaysParsed, TakeNone, TakeNoneForAll, holds_along, parses_no_memory, ready_along, cover, cover_range, UnitsState, FirstAnswers, Exactly, AreAllParsed, last_address, spans_of}
use Rattle.gimli.specs.declared.dwarf.DwarfFileType.TheVariants.{Main}
use Rattle.addr2line_lines.specs.RangeLocations.{LocatedSpan}
use Rattle.addr2line_units.specs.declared.index.UnitRange.{UnitRange}

-- the sections, the first answer of each unit, none before it has one, of which units the lines are
-- parsed, what is known of each unit's entries, how often lines were looked at, and what the last
-- lookup has come to
pub record ContextState : Type 0 where
  pub sections : Sections
  pub answers : FirstAnswers
  pub parsed : List Bool
  pub known : List KnownEntries
  pub steps : ℕ
  pub stop : LookupStop

-- the sections of a main file, each by itself, without a supplementary file
abbrev pub main_sections : {R : Type 0} → (R → Section) → R → R → R → R → R → R → R → R → R → R
    → Sections
main_sections see abbrevs addr aranges info line line_str ranges rnglists str str_offsets =
    record {
      debug_abbrev = see abbrevs;
      debug_addr = see addr;
      debug_aranges = see aranges;
      debug_info = see info;
      debug_line = see line;
      debug_line_str = see line_str;
      debug_ranges = see ranges;
      debug_rnglists = see rnglists;
      debug_str = see str;
      debug_str_offsets = see str_offsets;
      file_type = Main;
      sup = None;
    }

-- a context of sections as it is made, or the fault that refuses it
abbrev pub new_context : Sections → Result ContextState Error
new_context d = do
  units ← ranged_units d
  sup ← sup_units d.sup
  Ok (record {
    sections = d;
    answers = map (λ _. None) units;
    parsed = map has_lines units;
    known = map (λ _. NothingKnown) units;
    steps = 0;
    stop = FindsNothing;
  })

-- a lookup of the probe parses nothing: no unit covers it, or the lines that it asks for are parsed
abbrev pub IsReady : ContextState → ℕ → Type 0
IsReady c probe = (m : UnitIndex) → index_units c.sections ≡ Ok m
    → ready_along c.sections m.units c.parsed probe (cover probe m.ranges) ≡ true

-- a lookup of the probe takes no memory: the lines that it asks for are parsed, or take none
abbrev pub LocatesNoMemory : Bool → ContextState → ℕ → Type 0
LocatesNoMemory shares c probe = (m : UnitIndex) → index_units c.sections ≡ Ok m
    → holds_along (parses_no_memory shares m.units c.parsed)
    (located_frames c.sections m.units probe) (cover probe m.ranges) ≡ true

-- no unit covers the probe
abbrev pub IsUncovered : ContextState → ℕ → Type 0
IsUncovered c probe = (m : UnitIndex)
    × (index_units c.sections ≡ Ok m) × (cover probe m.ranges ≡ [])

-- a lookup of the location at the probe gives what is given: a location, none, or a fault; or the
-- fault of a refused growth in its place, where lines that it asks for aren't parsed. Where no unit
-- covers the probe, as at 2^64 - 1, it gives none
pub record Locates {E X Y : Type 0} (oom : E) (see : X → Y) (c : ContextState) (probe : ℕ)
    (result : Result (Option X) E) (given : Result (Option Y) E) : Type 0 where
  pub found : ExactlyUnless oom (option_map see) result given
  pub exact : IsReady c probe → Exactly (option_map see) result given
  pub none : IsUncovered c probe → result ≡ Ok None
  pub last : probe ≡ last_address → IsUncovered c probe

-- a lookup of a range parses nothing
abbrev pub IsReadyForRange : ContextState → ℕ → ℕ → Type 0
IsReadyForRange c low high = (m : UnitIndex) → index_units c.sections ≡ Ok m
    → AreParsed c.parsed (cover_range low high m.ranges)

-- a lookup of a range takes no memory: the lines of the units that are met are parsed, or take none
abbrev pub LocatesRangeNoMemory : Bool → ContextState → ℕ → ℕ → Type 0
LocatesRangeNoMemory shares c low high = (m : UnitIndex) → index_units c.sections ≡ Ok m
    → TakeNone shares m.units c.parsed (cover_range low high m.ranges)

-- a lookup of a range gives the rows that its addresses meet, with the faults of units in their
-- places; a refused growth alone refuses it, and not where it takes no memory
pub record LocatesRange {E X : Type 0} (oom : E) (shares : Bool)
    (left : X → List (Result LocatedSpan Error)) (c : ContextState) (low high : ℕ)
    (result : Result X E) : Type 0 where
  pub found : IfOk result (λ rows. spans_of c.sections low high ≡ Ok (left rows))
  pub refused : IfErr result (λ e. e ≡ oom)
  pub exact : LocatesRangeNoMemory shares c low high → IsOk result

-- a parse of all lines parses nothing: they are parsed, up to the first fault
abbrev pub IsReadyForAll : ContextState → Type 0
IsReadyForAll c = (m : UnitIndex) → index_units c.sections ≡ Ok m
    → AreReadyForAll c.sections m.units c.parsed

-- a parse of all lines takes no memory: they are parsed, or take none, up to the first fault
abbrev pub ParsesNoMemory : Bool → ContextState → Type 0
ParsesNoMemory shares c = (m : UnitIndex) → index_units c.sections ≡ Ok m
    → TakeNoneForAll shares c.sections m.units c.parsed

-- no lines are parsed behind the first fault
abbrev pub ParsesToFault : ContextState → ContextState → Type 0
ParsesToFault old new = (m : UnitIndex) → index_units old.sections ≡ Ok m
    → ParsesOnly (AllAskFor old.sections m.units) old.parsed new.parsed

-- a lookup of the probe looks at lines at most as often as lookups in the units that cover it do
abbrev pub StepsWithin : ℕ → ContextState → ContextState → Type 0
StepsWithin probe old new = (m : UnitIndex) → index_units old.sections ≡ Ok m
    → new.steps ≤ old.steps + steps_along old.sections m.units (cover probe m.ranges)

-- the sections, the first answers and what is known of entries are the same, and what was parsed
-- stays parsed
pub record Stays (old new : ContextState) : Type 0 where
  pub sections : new.sections ≡ old.sections
  pub answers : new.answers ≡ old.answers
  pub known : new.known ≡ old.known
  pub parsed : StaysParsed old.parsed new.parsed

-- after a lookup of the probe the same lookup parses nothing more, but after OutOfMemory, where
-- something is left to parse; no lines are parsed by it but those of the units that it asks for,
-- and none where it was ready
pub record AfterLookup {X : Type 0} (probe : ℕ) (result : Result (Option X) Error)
    (old new : ContextState) : Type 0 where
  pub stays : Stays old new
  pub ready : WasNotRefused result → IsReady new probe
  pub memory : IsReady new probe → WasNotRefused result
  pub only : (m : UnitIndex) → index_units old.sections ≡ Ok m
      → ParsesOnly (AsksFor old.sections m.units probe (cover probe m.ranges)) old.parsed
      new.parsed
  pub same : IsReady old probe → new.parsed ≡ old.parsed
  pub raised : old.steps ≤ new.steps
  pub counted : is_found result ≡ true → old.steps < new.steps
  pub cost : StepsWithin probe old new

-- what a lookup of a location comes to
abbrev pub location_stop : Sections → ℕ → Result LookupStop Error
location_stop d probe =
    index_units d >>= λ m. stop_along (located_frames d m.units probe) (cover probe m.ranges)

-- the same over readers that share their bytes or don't: the context has stored what the lookup
-- came to, nothing where it was refused; where the lookup takes no memory, a refusal is the fault
-- of lines
pub record AfterLookupOver {X : Type 0} (shares : Bool) (probe : ℕ)
    (result : Result (Option X) Error) (old new : ContextState) : Type 0 where
  pub after : AfterLookup probe result old new
  pub stored : ExactlyUnlessOom (λ _. new.stop) result (location_stop new.sections probe)
  pub refused : IfErr result (λ _. new.stop ≡ FindsNothing)
  pub no_memory : LocatesNoMemory shares new probe
      → IfErr result (λ e. location_of old.sections probe ≡ Err e)

-- after a lookup of a range the same lookup parses nothing more, but after OutOfMemory, where
-- something is left to parse; no lines are parsed by it but those of the units that the range
-- meets, and none where it was ready
pub record AfterRangeLookup {X : Type 0} (low high : ℕ) (result : Result X Error)
    (old new : ContextState) : Type 0 where
  pub stays : Stays old new
  pub ready : WasNotRefused result → IsReadyForRange new low high
  pub memory : IsReadyForRange new low high → WasNotRefused result
  pub only : (m : UnitIndex) → index_units old.sections ≡ Ok m
      → ParsesOnly (LeadTo (cover_range low high m.ranges)) old.parsed new.parsed
  pub same : IsReadyForRange old low high → new.parsed ≡ old.parsed
  pub steps : new.steps ≡ old.steps

-- whether the lines of all units can be read, or the first fault
abbrev pub lines_of_all : Sections → Result (Unit {0}) Error
lines_of_all d = index_units d >>= λ m. fault_of (all_lines d m.units)

-- a context by its units
abbrev pub as_context : UnitsState → ContextState
as_context u = record {
  sections = u.scope.file.sections;
  answers = u.answers;
  parsed = u.parsed;
  known = u.known;
  steps = u.steps;
  stop = u.stop;
}

-- the units of a context, and the ranges that lead to them, are what its sections give
pub record IsContext (listed : List UnitRange) (u : UnitsState) : Type 0 where
  pub made : UnitIndex
  pub indexed : index_units u.scope.file.sections ≡ Ok made
  pub scope : u.scope ≡ main_scope u.scope.file.sections made
  pub units : u.units ≡ made.units
  pub ranges : listed ≡ made.ranges

-- after a parse of all lines: they are parsed up to the first fault, unless memory was refused, and
-- none are behind it, nor any where they were; memory is refused only where some are left that take
-- it, over readers that share their bytes or don't; without a fault all are parsed, lookups of
-- locations and ranges parse nothing more, and those of locations have no fault
pub record AfterParsingLines (shares : Bool) (result : Result (Unit {0}) Error)
    (old new : ContextState) : Type 0 where
  pub stays : Stays old new
  pub steps : new.steps ≡ old.steps
  pub only : ParsesToFault old new
  pub same : IsReadyForAll old → new.parsed ≡ old.parsed
  pub ready : WasNotRefused result → IsReadyForAll new
  pub memory : ParsesNoMemory shares new → WasNotRefused result
  pub exact : ParsesNoMemory shares old
      → Exactly (λ x. x) result (lines_of_all old.sections)
  pub parsed : OnOk result (AreAllParsed new.parsed)
  pub reads : OnOk result (((probe : ℕ) → IsReady new probe)
      × ((low high : ℕ) → IsReadyForRange new low high))
  pub found : OnOk result ((probe : ℕ) → is_ok (location_of new.sections probe) ≡ true)
