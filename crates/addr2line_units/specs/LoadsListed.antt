-- Which loads are listed so far, as the private functions see it.
use Rattle.std.specs.Prelude.{◌≡◌, ℕ, ◌==◌, ◌||◌, Bool, not, List, Option, Some, None, if◌then◌else◌}
use Rattle.std.specs.BTreeMap.{is_at}
use Rattle.std.specs.List.{list_any}
use Rattle.std.specs.Ordering.{nat_cmp}
use Rattle.addr2line_units.specs.UnitView.{SplitLoad}

-- whether the unit of a number is among those that are marked
abbrev pub is_marked : List ℕ → ℕ → Bool
is_marked marks n = list_any (is_at (nat_cmp n)) marks

-- the unit of one more number is marked, and no other
abbrev pub MarksUnit : ℕ → List ℕ → List ℕ → Type 0
MarksUnit number old new = (n : ℕ) → is_marked new n ≡ ((n == number) || is_marked old n)

-- the unit of a load is marked, if there is one
abbrev pub MarksLoad : Option SplitLoad → List ℕ → List ℕ → Type 0
MarksLoad None old new = new ≡ old
MarksLoad (Some load) old new = MarksUnit load.unit old new

-- whether the unit of a load isn't marked
abbrev pub is_new : List ℕ → SplitLoad → Bool
is_new marks load = not (is_marked marks load.unit)

-- a load, unless its unit is marked
abbrev pub if_new : List ℕ → Option SplitLoad → Option SplitLoad
if_new marks None = None
if_new marks (Some load) = if is_new marks load then Some load else None
