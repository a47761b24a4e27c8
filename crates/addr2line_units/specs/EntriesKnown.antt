-- What is known of the entries of a unit.
-- Own: nothing before they are read; all of a unit that waits for an answer, or has a fault; else
-- the functions of its view, and of each its detail, or the fault of that, once it is read.
use Rattle.std.specs.Prelude.{◌≡◌, ◌⊎◌, ℕ, ◌==◌, Bool, true, false, List, slice_get, Option, Some, IfSome, option_and_then, option_map, unwrap_or}
use Rattle.std.specs.List.{find}
use Rattle.addr2line_units.specs.Common.{FunctionRange, function_offset_at}

-- what is known of the detail of a function
pub data KnownDetail : Type 0 where
  NotRead : KnownDetail
  IsRead : KnownDetail
  HasFault : KnownDetail

-- a function: where its entry begins, in bytes from the start of the unit's length, and what is
-- known of its detail
pub record KnownFunction : Type 0 where
  pub offset : ℕ
  pub detail : KnownDetail

-- what is known of a unit's entries: nothing, all, or the ranges of its functions and the functions
-- that have a range, in the order of their entries
pub data KnownEntries : Type 0 where
  NothingKnown : KnownEntries
  AllKnown : KnownEntries
  FunctionsKnown : List FunctionRange → List KnownFunction → KnownEntries

-- whether a detail is known, or its fault
abbrev pub is_detail_known : KnownDetail → Bool
is_detail_known NotRead = false
is_detail_known IsRead = true
is_detail_known HasFault = true

-- the function whose entry begins at an offset
abbrev pub known_function_at : List KnownFunction → ℕ → Option KnownFunction
known_function_at functions offset = find (λ (f : KnownFunction). f.offset == offset) functions

-- the function at the probe, by the ranges of functions
abbrev pub known_at : ℕ → List FunctionRange → List KnownFunction → Option KnownFunction
known_at probe ranges functions =
    option_and_then (known_function_at functions) (function_offset_at probe ranges)

-- whether what the entries have at the probe is known; of functions, whether the detail of the one
-- there is, if there is one
abbrev pub is_known_at : ℕ → KnownEntries → Bool
is_known_at probe NothingKnown = false
is_known_at probe AllKnown = true
is_known_at probe (FunctionsKnown ranges functions) = unwrap_or
    (option_map (λ (f : KnownFunction). is_detail_known f.detail)
    (known_at probe ranges functions)) true

-- whether what the entries of the unit of a number have at the probe is known; a number of no unit
-- asks for none
abbrev pub knows_at : List KnownEntries → ℕ → ℕ → Bool
knows_at known probe n = unwrap_or (option_map (is_known_at probe) (slice_get known n)) true

-- whether the detail of the function whose entry begins at an offset is known, or its fault; a unit
-- that waits, or has a fault, has no functions
abbrev pub knows_detail : ℕ → KnownEntries → Bool
knows_detail offset NothingKnown = false
knows_detail offset AllKnown = false
knows_detail offset (FunctionsKnown ranges functions) = unwrap_or
    (option_map (λ (f : KnownFunction). is_detail_known f.detail)
    (known_function_at functions offset)) false

-- the same in the unit of a number
abbrev pub knows_detail_at : List KnownEntries → ℕ → ℕ → Bool
knows_detail_at known offset n =
    unwrap_or (option_map (knows_detail offset) (slice_get known n)) false

-- no detail becomes known but, in the unit of each number, that of the function whose entry begins
-- where this says
abbrev pub LearnsDetailsAt : (ℕ → Option ℕ) → List KnownEntries → List KnownEntries → Type 0
LearnsDetailsAt at old new = (n offset : ℕ) → knows_detail_at new offset n ≡ true
    → (knows_detail_at old offset n ≡ true) ⊎ (at n ≡ Some offset)

-- the functions of a unit weren't read, or it waits, or has a fault
abbrev pub HasNoFunctions : KnownEntries → Type 0
HasNoFunctions NothingKnown = Unit {0}
HasNoFunctions AllKnown = Unit {0}
HasNoFunctions (FunctionsKnown ranges functions) = ⊥

-- no function becomes known: what is known of each unit is what was, or its functions weren't read,
-- or it waits, or has a fault
abbrev pub LearnsNoFunctions : List KnownEntries → List KnownEntries → Type 0
LearnsNoFunctions old new =
    (n : ℕ) → (slice_get new n ≡ slice_get old n) ⊎ IfSome (slice_get new n) HasNoFunctions

-- no detail becomes known
abbrev pub LearnsNoDetails : List KnownEntries → List KnownEntries → Type 0
LearnsNoDetails old new = (n offset : ℕ) → knows_detail_at new offset n ≡ true
    → knows_detail_at old offset n ≡ true
