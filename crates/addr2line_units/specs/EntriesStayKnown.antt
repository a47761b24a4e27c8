-- What stays known of the entries of units, and what a parse of functions has read of them.
use Rattle.std.specs.Prelude.{◌≡◌, ℕ, true, List, IfSome, slice_get}
use Rattle.std.specs.List.{AllByRecursion}
use Rattle.addr2line_units.specs.declared.parses.ReadingDepth.{ReadingDepth}
use Rattle.addr2line_units.specs.declared.parses.ReadingDepth.TheVariants as depths
use Rattle.addr2line_units.specs.Parses.{IsReadyFor}
use Rattle.addr2line_units.specs.EntriesKnown.{AllKnown, FunctionsKnown, IsRead, KnownEntries, KnownFunction, NothingKnown, knows_at}

-- all is known that a parse of functions reads of the unit of a number that isn't open, up to the
-- first fault, and that fault too
abbrev pub IsReadyAt : ReadingDepth → List KnownEntries → ℕ → Type 0
IsReadyAt depth known n = IfSome (slice_get known n) (IsReadyFor depth)

-- what was known of the unit of a number stays known: what a lookup asks, and all that a parse of
-- functions reads
pub record StaysKnownOf (n : ℕ) (old new : List KnownEntries) : Type 0 where
  pub at : (probe : ℕ) → knows_at old probe n ≡ true → knows_at new probe n ≡ true
  pub whole : (depth : ReadingDepth) → IsReadyAt depth old n → IsReadyAt depth new n

-- the same of all units
abbrev pub StaysKnown : List KnownEntries → List KnownEntries → Type 0
StaysKnown old new = (n : ℕ) → StaysKnownOf n old new

-- all is known that a parse of functions reads of a unit, and none of it has a fault
abbrev pub IsReadBy : ReadingDepth → KnownEntries → Type 0
IsReadBy depth NothingKnown = ⊥
IsReadBy depth AllKnown = ⊥
IsReadBy depths.Functions (FunctionsKnown ranges functions) = Unit {0}
IsReadBy depths.Details (FunctionsKnown ranges functions) =
    AllByRecursion (λ (f : KnownFunction). f.detail ≡ IsRead) functions
