-- Answers to loads outside a lookup, what forgets them, and the parse of all functions, in a
-- context (DWARF 5, sections 3.1.2, 3.3 and 7.3.2).
-- Own: an answer to a unit that is decided changes nothing; a parse of all functions answers none
-- to each load.
use Rattle.std.specs.Prelude.{◌≡◌, ◌≢◌, ◌⊎◌, ℕ, Bool, false, true, slice_get, Option, Some, None, OnOk, Result, Ok, Err, List, [], IfErr, IsOk}
use Rattle.std.specs.List.{AllByRecursion}
use Rattle.addr2line.specs.Common.{Error, ◌>>=◌, WasNotRefused, Sections, OnFault, cover, answer_of, main_scope, LearnsNoDetails, LearnsNoFunctions, knows_at, NoneOpen, forget_result, forgotten, is_open_at, LeadTo, UnitIndex, index_units, unit_records, IsReadBy, IsReadyAt, StaysKnown, FirstAnswers, OutOfMemory, SplitLoad}
use Rattle.addr2line_units.specs.declared.parses.ReadingDepth.{ReadingDepth}
use Rattle.addr2line_units.specs.declared.parses.ReadingDepth.TheVariants as depths
use Rattle.addr2line_units.specs.ParsesLaws.{IsReached}
use Rattle.addr2line_units.specs.Parses.{AreReadyFor, ReadsNoMemory, answers_after_parse, read_of_units}
use Rattle.addr2line.specs.Answers.{answered}
pub use Rattle.addr2line.specs.Answers.{load_reply}
use Rattle.addr2line.specs.Context.{ContextState, lines_of_all, IsUncovered}
use Rattle.addr2line.specs.Lookups.{lookup_stop}
use Rattle.addr2line_lines.specs.LastAddress.{last_address}
use Rattle.addr2line_units.specs.LoadsMemory.{answer_takes_memory}
use Rattle.addr2line_units.specs.UnitsAfter.{HasComeTo}

-- what it gives to forget the answer of the unit of a number
abbrev pub forget_reply : Sections → ℕ → Result (Unit {0}) Error
forget_reply d n = index_units d >>= λ m. forget_result (unit_records m.units) n

-- what a parse of all functions gives
abbrev pub parse_reply : ReadingDepth → Sections → FirstAnswers → Result (Unit {0}) Error
parse_reply depth d answers =
    index_units d >>= λ m. read_of_units depth (main_scope d m) (unit_records m.units) answers

-- the first answers after a parse of all functions
abbrev pub parsed_answers : ReadingDepth → Sections → FirstAnswers → FirstAnswers
parsed_answers depth d answers = elim (index_units d) [
  | Err e ↦ answers
  | Ok m ↦ answers_after_parse depth (main_scope d m) (unit_records m.units) answers
]

-- the unit of a number isn't open, or there is none
abbrev pub IsNotOpen : ContextState → ℕ → Type 0
IsNotOpen c n = (m : UnitIndex) → index_units c.sections ≡ Ok m
    → is_open_at c.sections (unit_records m.units) c.answers n ≡ false

-- none of the units that cover the probe is open
abbrev pub NoneOpenAt : ContextState → ℕ → Type 0
NoneOpenAt c probe = (m : UnitIndex) → index_units c.sections ≡ Ok m
    → NoneOpen c.sections (unit_records m.units) c.answers (cover probe m.ranges)

-- nothing is changed but what is known of units' entries, first answers, and what is stored of the
-- last lookup
pub record StaysRead (old new : ContextState) : Type 0 where
  pub sections : new.sections ≡ old.sections
  pub parsed : new.parsed ≡ old.parsed
  pub steps : new.steps ≡ old.steps

-- after an answer to the load of the unit of a number nothing is changed but of that unit, of which
-- what was known stays unless it was open, and of what is stored of the last lookup; nothing is
-- changed of a unit that had an answer; no function becomes known; where memory was refused in
-- place of it, all first answers are as before, and what was known stays
pub record AfterLoading (n : ℕ) (given : Option Sections) (result : Result (Unit {0}) Error)
    (old new : ContextState) : Type 0 where
  pub stays : StaysRead old new
  pub answers : WasNotRefused result → new.answers ≡ answered old.sections old.answers n given
  pub begun : (new.answers ≡ old.answers)
      ⊎ (new.answers ≡ answered old.sections old.answers n given)
  pub refused : result ≢ load_reply old.sections old.answers n given
      → (new.answers ≡ old.answers) × StaysKnown old.known new.known
  pub known : (m : UnitIndex) → index_units old.sections ≡ Ok m
      → is_open_at old.sections (unit_records m.units) old.answers n ≡ false
      → StaysKnown old.known new.known
  pub same : (first : Option Sections) → answer_of old.answers n ≡ Some first
      → new.known ≡ old.known
  pub others : (k : ℕ) → k ≢ n → slice_get new.known k ≡ slice_get old.known k
  pub functions : LearnsNoFunctions old.known new.known

-- the same over readers that share their bytes or don't: memory is refused only where the unit is
-- open and the answer takes memory
pub record AfterLoadingOver (shares : Bool) (n : ℕ) (given : Option Sections)
    (result : Result (Unit {0}) Error) (old new : ContextState) : Type 0 where
  pub after : AfterLoading n given result old new
  pub not_open : IsNotOpen old n → result ≡ load_reply old.sections old.answers n given
  pub exact : answer_takes_memory shares given ≡ false
      → result ≡ load_reply old.sections old.answers n given

-- after the unit of a number is forgotten nothing is changed but of that unit, and of what is
-- stored of the last lookup; nothing of the unit where it had no answer; no function becomes known
pub record AfterForgetting (n : ℕ) (old new : ContextState) : Type 0 where
  pub stays : StaysRead old new
  pub answers : new.answers ≡ forgotten old.answers n
  pub same : answer_of old.answers n ≡ None → new.known ≡ old.known
  pub others : (k : ℕ) → k ≢ n → slice_get new.known k ≡ slice_get old.known k
  pub functions : LearnsNoFunctions old.known new.known

-- after the loads of an address were listed nothing is changed but that more may be known of units
-- that cover it, and no function of them, and what is stored of the last lookup
pub record AfterPreload (probe : ℕ) (old new : ContextState) : Type 0 where
  pub stays : StaysRead old new
  pub answers : new.answers ≡ old.answers
  pub known : StaysKnown old.known new.known
  pub learns : (m : UnitIndex) → index_units old.sections ≡ Ok m → (n : ℕ)
      → (slice_get new.known n ≡ slice_get old.known n) ⊎ LeadTo (cover probe m.ranges) n
  pub functions : LearnsNoFunctions old.known new.known

-- the same with what the listing gives: none where no unit covers the probe, as at 2^64 - 1; memory
-- alone is refused, and only where a unit that covers it is open
pub record AfterPreloadCall (probe : ℕ) (loads : Result (List SplitLoad) Error)
    (old new : ContextState) : Type 0 where
  pub after : AfterPreload probe old new
  pub refused : IfErr loads (λ e. e ≡ OutOfMemory)
  pub memory : NoneOpenAt old probe → IsOk loads
  pub none : IsUncovered old probe → loads ≡ Ok []
  pub last : probe ≡ last_address → loads ≡ Ok []

-- all is known that a parse of functions reads of all units
abbrev pub AreReadBy : ReadingDepth → ContextState → Type 0
AreReadBy depth c = AllByRecursion (IsReadBy depth) c.known

-- all is known that a parse of functions reads of the units, up to the first fault, and that fault
-- too, and no unit up to there is open
abbrev pub IsReadyToRead : ReadingDepth → ContextState → Type 0
IsReadyToRead depth c = (m : UnitIndex) → index_units c.sections ≡ Ok m
    → AreReadyFor depth (main_scope c.sections m) (unit_records m.units) c.answers c.known

-- after a parse of all functions open units are decided by none, up to the first fault. The parse
-- has come to some unit, and where memory was refused something is left to read of that one. What
-- was known of the others stays, of those behind it nothing becomes known, and where functions
-- alone are read no detail does. Unless memory was refused all is known that the parse reads, and
-- where it is, none was refused; where it was before, nothing is changed of what is known and
-- answered
pub record AfterParse (depth : ReadingDepth) (result : Result (Unit {0}) Error)
    (old new : ContextState) : Type 0 where
  pub stays : StaysRead old new
  pub answers : WasNotRefused result → new.answers ≡ parsed_answers depth old.sections old.answers
  pub begun : (m : UnitIndex) → index_units old.sections ≡ Ok m
      → (n : ℕ) × HasComeTo depth result (main_scope old.sections m) (unit_records m.units)
      old.answers old.known new.answers new.known n
  pub known : (m : UnitIndex) → index_units old.sections ≡ Ok m → (probe n : ℕ)
      → is_open_at old.sections (unit_records m.units) old.answers n ≡ false
      → knows_at old.known probe n ≡ true → knows_at new.known probe n ≡ true
  pub whole : (m : UnitIndex) → index_units old.sections ≡ Ok m → (needed : ReadingDepth) (n : ℕ)
      → is_open_at old.sections (unit_records m.units) old.answers n ≡ false
      → IsReadyAt needed old.known n → IsReadyAt needed new.known n
  pub details : depth ≡ depths.Functions → LearnsNoDetails old.known new.known
  pub read : OnOk result (AreReadBy depth new)
  pub whole_known : AreReadBy depth old → result ≡ Ok tt
  pub ready : WasNotRefused result → IsReadyToRead depth new
  pub memory : IsReadyToRead depth new → WasNotRefused result
  pub exact : IsReadyToRead depth old → result ≡ parse_reply depth old.sections old.answers
  pub same : IsReadyToRead depth old → (new.answers ≡ old.answers) × (new.known ≡ old.known)

-- a parse of functions takes no memory: of each unit up to the first fault what it reads is known,
-- or the functions take none
abbrev pub ReadsFunctionsNoMemory : Bool → ReadingDepth → ContextState → Type 0
ReadsFunctionsNoMemory shares depth c = (m : UnitIndex) → index_units c.sections ≡ Ok m
    → ReadsNoMemory shares depth (main_scope c.sections m) (unit_records m.units) c.answers c.known

-- what every lookup asks of units' entries is known
abbrev pub IsAllKnown : ContextState → Type 0
IsAllKnown c = (probe n : ℕ) → knows_at c.known probe n ≡ true

-- no lookup waits or has a fault, if all lines can be read
abbrev pub ReachesAllOf : ContextState → Type 0
ReachesAllOf c = lines_of_all c.sections ≡ Ok tt → (faults : OnFault) (probe : ℕ)
    → IsReached (lookup_stop faults c.sections c.answers probe)

-- after a parse of all functions over readers that share their bytes or don't: where nothing that
-- is read takes memory a refusal is the first fault; without a fault, where the details were read
-- too, all is known that lookups ask of units' entries, and none waits or has a fault, if all lines
-- can be read
pub record AfterParseOver (shares : Bool) (depth : ReadingDepth) (result : Result (Unit {0}) Error)
    (old new : ContextState) : Type 0 where
  pub after : AfterParse depth result old new
  pub no_memory : ReadsFunctionsNoMemory shares depth new
      → IfErr result (λ e. parse_reply depth old.sections old.answers ≡ Err e)
  pub known : depth ≡ depths.Details → OnOk result (IsAllKnown new)
  pub reached : depth ≡ depths.Details → OnOk result (ReachesAllOf new)
