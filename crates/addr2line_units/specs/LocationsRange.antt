-- What one call gives of the rows and faults that a range lookup has left.
-- Own: a fault ends nothing: the next call goes on after it. As an iterator the lookup gives none
-- in the place of a fault.
use Rattle.std.specs.Prelude.{◌≡◌, ℕ, List, [], ◌∷◌, flat_map, Option, Some, None, Result, Ok, Err}
use Rattle.addr2line_units.specs.Common.{Error, LocatedSpan}
use Rattle.addr2line_units.specs.declared.index.UnitRange.{UnitRange}
use Rattle.addr2line_units.specs.EntriesOwn.{CachedUnit}
use Rattle.addr2line_units.specs.UnitLinesCached.{cached_spans, lines_at}
use Rattle.addr2line_units.specs.Locations.{all_read}

-- the call gave the first row or fault that was left, and the others are left
abbrev pub YieldsOn : {X : Type 0} → List (Result X Error) → Result (Option X) Error
    → List (Result X Error) → Type 0
YieldsOn [] r left = (r ≡ Ok None) × (left ≡ [])
YieldsOn (Ok x ∷ rest) r left = (r ≡ Ok (Some x)) × (left ≡ rest)
YieldsOn (Err e ∷ rest) r left = (r ≡ Err e) × (left ≡ rest)

-- the same, with none in the place of a fault
abbrev pub YieldsRow : {X : Type 0} → List (Result X Error) → Option X → List (Result X Error)
    → Type 0
YieldsRow [] r left = (r ≡ None) × (left ≡ [])
YieldsRow (Ok x ∷ rest) r left = (r ≡ Some x) × (left ≡ rest)
YieldsRow (Err e ∷ rest) r left = (r ≡ None) × (left ≡ rest)

-- what is left of the rows of a unit
abbrev pub unit_rows_left : Option (List LocatedSpan) → List (Result LocatedSpan Error)
unit_rows_left None = []
unit_rows_left (Some spans) = all_read spans

-- the rows of a unit, or its fault
abbrev pub rows_or_fault : Result (Option (List LocatedSpan)) Error
    → List (Result LocatedSpan Error)
rows_or_fault (Ok rows) = unit_rows_left rows
rows_or_fault (Err e) = Err e ∷ []

-- what cached lines have in the ranges that are left
abbrev pub cached_along : {R : Type 0} → List (CachedUnit R) → ℕ → ℕ → List UnitRange
    → List (Result LocatedSpan Error)
cached_along caches low high ranges =
    flat_map (λ (r : UnitRange). cached_spans r.range low high (lines_at caches r.unit)) ranges
