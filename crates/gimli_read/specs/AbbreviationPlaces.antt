-- Where the abbreviations of a table stand, as the private functions see it.
use Rattle.std.specs.List.{slice_get}
use Rattle.std.specs.Prelude.{◌≡◌, ◌≢◌, ℕ, ◌==◌, List, [], ◌∷◌, Option, Some, None, if◌then◌else◌}
use Rattle.std.specs.Int.{abs_diff}
use Rattle.std.specs.Ordering.{nat_cmp}
use Rattle.std.specs.BTreeMap.{BTreeMap, get}
use Rattle.gimli_read.specs.Abbreviations.{Abbrev}

-- an abbreviation, where it has this code
abbrev pub if_coded : ℕ → Option Abbrev → Option Abbrev
if_coded code None = None
if_coded code (Some a) = if a.code == code then Some a else None

-- the first code of a table with one code more: that code where the table is empty, else `first`
abbrev pub first_code_with : List Abbrev → ℕ → ℕ → ℕ
first_code_with [] first code = code
first_code_with (a ∷ table) first code = first

-- each abbreviation whose index is not how far its code is from `first` has its index under its
-- code in the map
abbrev pub IsPlaced : List Abbrev → ℕ → BTreeMap ℕ ℕ → Type 0
IsPlaced table first displaced =
    (index : ℕ) (a : Abbrev) → slice_get table index ≡ Some a → abs_diff first a.code ≢ index
    → get nat_cmp displaced a.code ≡ Some index

-- the maps lead to the same places from each other code
abbrev pub IsSameApart : ℕ → BTreeMap ℕ ℕ → BTreeMap ℕ ℕ → Type 0
IsSameApart code old new =
    (other : ℕ) → other ≢ code → get nat_cmp new other ≡ get nat_cmp old other
