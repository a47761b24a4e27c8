-- Of which units the lines are parsed, and which lookups parse nothing then.
-- Own: a lookup asks for the lines of the units that cover its address one after another, up to the
-- first that has a location or a fault; a parse of all lines asks for those of the units in their
-- order, up to the first that has a fault.
use Rattle.std.specs.Prelude.{ℕ, ◌≡◌, ◌<◌, ◌⊎◌, ◌||◌, not, Bool, true, List, [], ◌∷◌, slice_get, Option, Some, None, unwrap_or, is_ok}
use Rattle.std.specs.List.{AllByRecursion}
use Rattle.addr2line_units.specs.Common.{Sections}
use Rattle.addr2line_units.specs.declared.index.UnitRange.{UnitRange}
use Rattle.addr2line_units.specs.EntriesMemory.{lines_of_take_memory}
use Rattle.addr2line_units.specs.FramesLookup.{LookupAsks, holds_along, located_frames}
use Rattle.addr2line_units.specs.UnitsRanged.{IndexedUnit}
use Rattle.addr2line_units.specs.Locations.{lines_of_unit}

-- whether the lines of a unit are parsed, by what is so of each unit; a number of no unit asks for
-- none
abbrev pub has_parsed : List Bool → ℕ → Bool
has_parsed parsed n = unwrap_or (slice_get parsed n) true

-- whether along these ranges the lines of each unit are parsed, up to the one that ends a lookup of
-- a location
abbrev pub ready_along : Sections → List IndexedUnit → List Bool → ℕ → List UnitRange → Bool
ready_along d units parsed probe ranges =
    holds_along (has_parsed parsed) (located_frames d units probe) ranges

-- whether the lines of the unit of a number are parsed, or no memory is taken for them
abbrev pub parses_no_memory : Bool → List IndexedUnit → List Bool → ℕ → Bool
parses_no_memory shares units parsed n =
    has_parsed parsed n || not (lines_of_take_memory shares units n)

-- along these ranges the lines of each unit are parsed
abbrev pub AreParsed : List Bool → List UnitRange → Type 0
AreParsed parsed ranges = AllByRecursion (λ (r : UnitRange). has_parsed parsed r.unit ≡ true) ranges

-- along these ranges the lines of each unit are parsed, or no memory is taken for them
abbrev pub TakeNone : Bool → List IndexedUnit → List Bool → List UnitRange → Type 0
TakeNone shares units parsed ranges =
    AllByRecursion (λ (r : UnitRange). parses_no_memory shares units parsed r.unit ≡ true) ranges

-- the lines of all units are parsed
abbrev pub AreAllParsed : List Bool → Type 0
AreAllParsed parsed = (n : ℕ) → has_parsed parsed n ≡ true

-- whether the lines of a unit can be read; without a unit there is nothing to read
abbrev pub can_be_read : Sections → Option IndexedUnit → Bool
can_be_read d None = true
can_be_read d (Some u) = is_ok (lines_of_unit d u)

-- a parse of all lines asks for those of a unit: those of each unit before it can be read
abbrev pub AllAskFor : Sections → List IndexedUnit → ℕ → Type 0
AllAskFor d units n = (m : ℕ) → m < n → can_be_read d (slice_get units m) ≡ true

-- the lines of all units are parsed, up to and with the first that has a fault
abbrev pub AreReadyForAll : Sections → List IndexedUnit → List Bool → Type 0
AreReadyForAll d units parsed = (n : ℕ) → AllAskFor d units n → has_parsed parsed n ≡ true

-- the lines of all units are parsed, or no memory is taken for them, up to the first that has a
-- fault, and of that one too
abbrev pub TakeNoneForAll : Bool → Sections → List IndexedUnit → List Bool → Type 0
TakeNoneForAll shares d units parsed =
    (n : ℕ) → AllAskFor d units n → parses_no_memory shares units parsed n ≡ true

-- a lookup of a location asks for the lines of a unit: a range leads to it, and no unit before it
-- ends the lookup
abbrev pub AsksFor : Sections → List IndexedUnit → ℕ → List UnitRange → ℕ → Type 0
AsksFor d units probe ranges n = LookupAsks (located_frames d units probe) ranges n

-- one of these ranges leads to a unit
abbrev pub LeadTo : List UnitRange → ℕ → Type 0
LeadTo [] n = ⊥
LeadTo (r ∷ ranges) n = (n ≡ r.unit) ⊎ LeadTo ranges n

-- no lines are parsed but those that are asked for
abbrev pub ParsesOnly : (ℕ → Type 0) → List Bool → List Bool → Type 0
ParsesOnly IsAsked old new =
    (n : ℕ) → has_parsed new n ≡ true → (has_parsed old n ≡ true) ⊎ IsAsked n

-- what was parsed stays parsed
abbrev pub StaysParsed : List Bool → List Bool → Type 0
StaysParsed old new = (n : ℕ) → has_parsed old n ≡ true → has_parsed new n ≡ true
