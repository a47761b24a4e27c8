-- The location of an address (DWARF 5, section 6.2): that of the first unit among those that cover
-- it which has one; and those of a range of addresses.
-- Own: the first unit whose lines have a fault gives that fault, and the first that has a location
-- gives it, whichever comes first. A range lookup gives the fault of a unit in its place and goes
-- on with the next one.
use Rattle.std.specs.Prelude.{ℕ, Bool, true, false, List, [], ◌∷◌, flat_map, map, slice_get, sum_by, Option, Some, None, Result, Ok, Err}
use Rattle.addr2line_units.specs.Common.{Error, Range, ◌>>=◌, Sections, LineTable, Location, location_at, LocatedSpan, locations_in_range, unit_lines}
use Rattle.addr2line_lines.specs.Counts.{most_steps_in}
use Rattle.addr2line_lines.specs.Rows.{read_all}
use Rattle.addr2line_units.specs.declared.index.UnitRange.{UnitRange}
use Rattle.addr2line_units.specs.UnitsIndex.{index_units}
use Rattle.addr2line_units.specs.UnitsRanged.{IndexedUnit}
use Rattle.addr2line_units.specs.IndexCover.{cover, cover_range}

-- the lines of a unit, or their fault
abbrev pub lines_of_unit : Sections → IndexedUnit → Result LineTable Error
lines_of_unit d u = unit_lines d u.unit

-- the location of an address, if it has one, or the first fault
abbrev pub LocationResult : Type 0
LocationResult = Result (Option Location) Error

-- the location of the probe in a unit, or the fault of its lines
abbrev pub location_in : Sections → ℕ → Option IndexedUnit → LocationResult
location_in d probe None = Ok None
location_in d probe (Some u) = lines_of_unit d u >>= λ lines. Ok (location_at probe lines)

-- whether something was found
abbrev pub is_found : {X : Type 0} → Result (Option X) Error → Bool
is_found (Ok None) = false
is_found (Ok (Some x)) = true
is_found (Err e) = false

-- the location that was found, else the one that is found further on
abbrev pub or_first_location : LocationResult → Option Location → LocationResult
or_first_location rest None = rest
or_first_location rest (Some location) = Ok (Some location)

-- the location of the probe along ranges
abbrev pub first_location : Sections → List IndexedUnit → ℕ → List UnitRange → LocationResult
first_location d units probe [] = Ok None
first_location d units probe (r ∷ ranges) =
    location_in d probe (slice_get units r.unit)
    >>= λ location. or_first_location (first_location d units probe ranges) location

-- the location of an address, or the fault
abbrev pub location_of : Sections → ℕ → LocationResult
location_of d probe = index_units d >>= λ m. first_location d m.units probe (cover probe m.ranges)

-- each of them as one that was read
abbrev pub all_read : {X : Type 0} → List X → List (Result X Error)
all_read xs = map (λ x. Ok x) xs

-- what lines have in a range, or their fault
abbrev pub spans_or_fault : Range → ℕ → ℕ → Result LineTable Error
    → List (Result LocatedSpan Error)
spans_or_fault range low high (Ok lines) = all_read (locations_in_range lines range low high)
spans_or_fault range low high (Err e) = Err e ∷ []

-- the rows of a unit's range that the addresses from low up to high meet, or the fault of its lines
abbrev pub spans_in : Sections → ℕ → ℕ → Range → Option IndexedUnit
    → List (Result LocatedSpan Error)
spans_in d low high range None = []
spans_in d low high range (Some u) = spans_or_fault range low high (lines_of_unit d u)

-- those along ranges
abbrev pub spans_along : Sections → List IndexedUnit → ℕ → ℕ → List UnitRange
    → List (Result LocatedSpan Error)
spans_along d units low high ranges =
    flat_map (λ (r : UnitRange). spans_in d low high r.range (slice_get units r.unit)) ranges

-- the rows that a range of addresses meets, with the faults of units in their places
abbrev pub spans_of : Sections → ℕ → ℕ → Result (List (Result LocatedSpan Error)) Error
spans_of d low high =
    index_units d >>= λ m. Ok (spans_along d m.units low high (cover_range low high m.ranges))

-- the lines of all units, or the first fault
abbrev pub all_lines : Sections → List IndexedUnit → Result (List LineTable) Error
all_lines d units = read_all (map (lines_of_unit d) units)

-- the most steps in the lines of a unit
abbrev pub steps_in : Sections → Option IndexedUnit → ℕ
steps_in d None = 0
steps_in d (Some u) = of_lines (lines_of_unit d u)
  where
    of_lines : Result LineTable Error → ℕ
    of_lines (Ok lines) = most_steps_in lines
    of_lines (Err e) = 0

-- the most steps in the lines of the units that ranges lead to
abbrev pub steps_along : Sections → List IndexedUnit → List UnitRange → ℕ
steps_along d units ranges =
    sum_by (λ (r : UnitRange). steps_in d (slice_get units r.unit)) ranges
