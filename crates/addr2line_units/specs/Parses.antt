-- Parses of the functions of all units (DWARF 5, section 3.3: entries of subprograms and of inlined
-- functions).
-- Own: units are read in their order, up to the first that has a fault; one that waits for an
-- answer is decided by none first. The first fault counts of the view of a unit, of its functions,
-- and, where they are asked for, of their details in the order of the entries.
use Rattle.std.specs.Prelude.{ℕ, zero, suc, ◌≡◌, ◌⊎◌, ◌<◌, Bool, false, List, [], ◌∷◌, slice_get, Option, Some, None, IfSome, Result, Ok, Err}
use Rattle.addr2line_units.specs.Common.{Error, ◌>>=◌, fault_of, Sections, UnitRecord, functions_of, Scope}
use Rattle.addr2line_units.specs.declared.parses.ReadingDepth.{ReadingDepth}
use Rattle.addr2line_units.specs.declared.parses.ReadingDepth.TheVariants as depths
use Rattle.addr2line_units.specs.EntriesMemory.{functions_in_take_memory}
use Rattle.addr2line_units.specs.FramesLookup.{answer_of}
use Rattle.addr2line_units.specs.EntriesFunctions.{functions_fault}
use Rattle.addr2line_units.specs.EntriesKnown.{KnownDetail, NotRead, IsRead, HasFault, KnownFunction, KnownEntries, NothingKnown, AllKnown, FunctionsKnown}
use Rattle.addr2line_units.specs.Loads.{is_open_at}
use Rattle.addr2line_units.specs.UnitView.{FirstAnswers, View, decided_answer, verdict, view_scope}

-- the first fault of the functions of a view, and of their details where these are read
abbrev pub read_of_functions : ReadingDepth → Scope → UnitRecord → Result (Unit {0}) Error
read_of_functions depths.Functions scope view = fault_of (functions_of scope.file.sections view)
read_of_functions depths.Details scope view = functions_fault scope view

-- the first fault of a view and of what is read of it; nothing is read of a unit that is open
abbrev pub read_of_view : ReadingDepth → Scope → Option (Result View Error)
    → Result (Unit {0}) Error
read_of_view depth scope None = Ok tt
read_of_view depth scope (Some view) =
    view >>= λ v. read_of_functions depth (view_scope scope v) v.unit

-- the first fault of what is read of a unit with this first answer, which is decided by none where
-- it is open
abbrev pub read_of_unit : ReadingDepth → Scope → UnitRecord → Option (Option Sections)
    → Result (Unit {0}) Error
read_of_unit depth scope u answer = read_of_view depth scope
    (verdict scope.file.sections u (decided_answer scope.file.sections u answer None))

-- the same of the unit of a number; where there is no such unit nothing is read
abbrev pub read_of_number : ReadingDepth → Scope → List UnitRecord → FirstAnswers → ℕ
    → Result (Unit {0}) Error
read_of_number depth scope us answers n = elim (slice_get us n)
    [ None ↦ Ok tt | Some u ↦ read_of_unit depth scope u (answer_of answers n) ]

-- the first fault of what is read of units with these first answers, in their order
abbrev pub read_of_units : ReadingDepth → Scope → List UnitRecord → FirstAnswers
    → Result (Unit {0}) Error
read_of_units depth scope (u ∷ us) (answer ∷ answers) =
    read_of_unit depth scope u answer >>= λ _. read_of_units depth scope us answers
read_of_units depth scope _ _ = Ok tt

-- all units before the one of a number can be read
abbrev pub AreReadBefore : ReadingDepth → Scope → List UnitRecord → FirstAnswers → ℕ → Type 0
AreReadBefore depth scope us answers n =
    (m : ℕ) → m < n → read_of_number depth scope us answers m ≡ Ok tt

-- a detail is known, and where it has no fault, so is what follows
abbrev pub IsKnownToFault : KnownDetail → Type 0 → Type 0
IsKnownToFault NotRead rest = ⊥
IsKnownToFault IsRead rest = rest
IsKnownToFault HasFault rest = Unit {0}

-- the details of functions are known in their order, up to the first that has a fault, and that
-- fault too
abbrev pub AreKnownToFault : List KnownFunction → Type 0
AreKnownToFault [] = Unit {0}
AreKnownToFault (f ∷ functions) = IsKnownToFault f.detail (AreKnownToFault functions)

-- what a parse reads of a unit that isn't open is known, up to the first fault, and that fault too
abbrev pub IsReadyFor : ReadingDepth → KnownEntries → Type 0
IsReadyFor depth NothingKnown = ⊥
IsReadyFor depth AllKnown = Unit {0}
IsReadyFor depths.Functions (FunctionsKnown ranges functions) = Unit {0}
IsReadyFor depths.Details (FunctionsKnown ranges functions) = AreKnownToFault functions

-- the same of the unit of a number, which isn't open
abbrev pub IsReadyOf : ReadingDepth → Scope → List UnitRecord → FirstAnswers → List KnownEntries
    → ℕ → Type 0
IsReadyOf depth scope us answers known n =
    (is_open_at scope.file.sections us answers n ≡ false)
    × IfSome (slice_get known n) (IsReadyFor depth)

-- the same of each unit before which all can be read
abbrev pub AreReadyFor : ReadingDepth → Scope → List UnitRecord → FirstAnswers
    → List KnownEntries → Type 0
AreReadyFor depth scope us answers known = (n : ℕ) → AreReadBefore depth scope us answers n
    → IsReadyOf depth scope us answers known n

-- whether memory may be taken for the functions of a unit with this first answer, which is decided
-- by none where it is open; where it takes none it has no details either
abbrev pub parse_takes_memory : Bool → Scope → UnitRecord → Option (Option Sections) → Bool
parse_takes_memory shares scope u answer =
    functions_in_take_memory shares scope u (decided_answer scope.file.sections u answer None)

-- the same of the unit of a number; where there is no such unit nothing is read
abbrev pub parse_of_takes_memory : Bool → Scope → List UnitRecord → FirstAnswers → ℕ → Bool
parse_of_takes_memory shares scope us answers n = elim (slice_get us n)
    [ None ↦ false | Some u ↦ parse_takes_memory shares scope u (answer_of answers n) ]

-- a parse takes no memory: of each unit before which all can be read what it reads is known, or its
-- functions take none
abbrev pub ReadsNoMemory : Bool → ReadingDepth → Scope → List UnitRecord → FirstAnswers
    → List KnownEntries → Type 0
ReadsNoMemory shares depth scope us answers known = (n : ℕ)
    → AreReadBefore depth scope us answers n → IsReadyOf depth scope us answers known n
    ⊎ (parse_of_takes_memory shares scope us answers n ≡ false)

-- the first answers of units after one that was read, or as they were where it had a fault
abbrev pub unless_fault : Result (Unit {0}) Error → FirstAnswers → FirstAnswers → FirstAnswers
unless_fault (Ok x) after before = after
unless_fault (Err e) after before = before

-- the first answers after a parse: each unit that was open is decided by none, up to the first unit
-- with a fault, and that one too
abbrev pub answers_after_parse : ReadingDepth → Scope → List UnitRecord → FirstAnswers
    → FirstAnswers
answers_after_parse depth scope (u ∷ us) (answer ∷ answers) =
    decided_answer scope.file.sections u answer None
    ∷ unless_fault (read_of_unit depth scope u answer)
    (answers_after_parse depth scope us answers) answers
answers_after_parse depth scope _ answers = answers

-- the first answers once each of the first units, so many, that was open is decided by none
abbrev pub first_decided : Sections → ℕ → List UnitRecord → FirstAnswers → FirstAnswers
first_decided d zero us answers = answers
first_decided d (suc n) (u ∷ us) (answer ∷ answers) =
    decided_answer d u answer None ∷ first_decided d n us answers
first_decided d (suc n) _ answers = answers

-- all units before the one of a number can be read, and those that were open are decided by none;
-- that unit may be decided too, and no other
abbrev pub IsDecidedTo : ReadingDepth → Scope → List UnitRecord → FirstAnswers → FirstAnswers
    → ℕ → Type 0
IsDecidedTo depth scope us old new n = AreReadBefore depth scope us old n
    × ((new ≡ first_decided scope.file.sections n us old)
    ⊎ (new ≡ first_decided scope.file.sections (suc n) us old))

-- the same of some unit
abbrev pub AreFirstDecided : ReadingDepth → Scope → List UnitRecord → FirstAnswers
    → FirstAnswers → Type 0
AreFirstDecided depth scope us old new = (n : ℕ) × IsDecidedTo depth scope us old new n
