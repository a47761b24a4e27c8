-- Which units hold an address: the ranges that lead to them, as they are listed, and those of them
-- that hold an address or meet a range (DWARF 5, sections 2.17 and 6.1.2).
-- Own: by end, then by unit, then by begin. A unit is met once for each such range.
use Rattle.std.specs.Prelude.{◌≡◌, ◌⊎◌, ℕ, nat_lt, Bool, true, false, ◌&&◌, ◌||◌, not, List, [], ◌∷◌, filter, Option, Some, None}
use Rattle.std.specs.Ordering.{is_lt, nat_cmp, ordering_then}
use Rattle.addr2line_lines.specs.InOrder.{in_order}
use Rattle.addr2line_lines.specs.Shortest.{holds}
use Rattle.addr2line_units.specs.declared.index.UnitRange.{UnitRange}

-- by end, then by unit, then by begin
abbrev pub ends_sooner : UnitRange → UnitRange → Bool
ends_sooner a b = is_lt (ordering_then (nat_cmp a.range.end b.range.end)
    (ordering_then (nat_cmp a.unit b.unit) (nat_cmp a.range.begin b.range.begin)))

-- the range holds the probe
abbrev pub range_covers : ℕ → UnitRange → Bool
range_covers probe r =
    holds (λ (x : UnitRange). x.range.begin) (λ (x : UnitRange). x.range.end) probe r

-- the ranges that hold the probe, in order
abbrev pub cover : ℕ → List UnitRange → List UnitRange
cover probe ranges = in_order ends_sooner (filter (range_covers probe) ranges)

-- whether a range stands before a place, and whether it doesn't
abbrev pub is_before : UnitRange → UnitRange → Bool
is_before place r = ends_sooner r place

abbrev pub is_from : UnitRange → UnitRange → Bool
is_from place r = not (is_before place r)

-- the ranges before a place, none without one
abbrev pub before_place : Option UnitRange → List UnitRange → List UnitRange
before_place None ranges = []
before_place (Some place) ranges = filter (is_before place) ranges

-- the ranges from a place on, all without one
abbrev pub from_place : Option UnitRange → List UnitRange → List UnitRange
from_place None ranges = ranges
from_place (Some place) ranges = filter (is_from place) ranges

-- the range ends past low and begins below high
abbrev pub range_overlaps : ℕ → ℕ → UnitRange → Bool
range_overlaps low high r = nat_lt low r.range.end && nat_lt r.range.begin high

-- the ranges that end past low and begin below high, in order; low may be above high
abbrev pub cover_range : ℕ → ℕ → List UnitRange → List UnitRange
cover_range low high ranges = in_order ends_sooner (filter (range_overlaps low high) ranges)

-- whether this is so of each unit along ranges, up to and with the first that ends the lookup
abbrev pub holds_until : (ℕ → Bool) → (ℕ → Bool) → List UnitRange → Bool
holds_until ends such [] = true
holds_until ends such (r ∷ ranges) = such r.unit && (ends r.unit || holds_until ends such ranges)

-- a lookup comes to a unit: a range leads to it, and no unit before it ends the lookup
abbrev pub ComesTo : (ℕ → Bool) → List UnitRange → ℕ → Type 0
ComesTo ends [] n = ⊥
ComesTo ends (r ∷ ranges) n =
    (n ≡ r.unit) ⊎ ((ends r.unit ≡ false) × ComesTo ends ranges n)
