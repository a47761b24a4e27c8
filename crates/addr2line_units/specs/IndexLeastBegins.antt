-- The least begins beside ranges in order, as the private functions see them.
use Rattle.std.specs.Prelude.{ℕ, ◌≡◌, ◌≤◌, Bool, ◌&&◌, nat_le, nat_lt, min, List, [], ◌∷◌, map}
use Rattle.std.specs.List.{AllByRecursion}
use Rattle.addr2line_lines.specs.InOrder.{IsInOrder, in_order}
use Rattle.addr2line_lines.specs.LastAddress.{last_address}
use Rattle.addr2line_units.specs.declared.index.IndexedRange.{IndexedRange}
use Rattle.addr2line_units.specs.declared.index.UnitRange.{UnitRange}
use Rattle.addr2line_units.specs.IndexCover.{ends_sooner}

-- the least begin of ranges, the last address where there is none
abbrev pub least_begin : List UnitRange → ℕ
least_begin [] = last_address
least_begin (r ∷ ranges) = min (least_begin ranges) r.range.begin

-- each range beside the least begin of it and of all after it
abbrev pub with_least_begins : List UnitRange → List IndexedRange
with_least_begins [] = []
with_least_begins (r ∷ ranges) =
    record { unit_range = r; least_begin = least_begin (r ∷ ranges) } ∷ with_least_begins ranges

-- the range that stands beside a least begin
abbrev pub unit_range_of : IndexedRange → UnitRange
unit_range_of r = r.unit_range

-- the least begins are right
abbrev pub AreLeastBegins : List IndexedRange → Type 0
AreLeastBegins ranges = ranges ≡ with_least_begins (map unit_range_of ranges)

-- the ranges stand in order
abbrev pub AreOrdered : List IndexedRange → Type 0
AreOrdered ranges = in_order ends_sooner (map unit_range_of ranges) ≡ map unit_range_of ranges

-- the range ends at or below the last address
abbrev pub EndFits : UnitRange → Type 0
EndFits r = r.range.end ≤ last_address

-- the ranges are those that are listed, in order, and their least begins are right
pub record AreIndexed (listed : List UnitRange) (ranges : List IndexedRange) : Type 0 where
  pub sorted : map unit_range_of ranges ≡ in_order ends_sooner listed
  pub ordered : IsInOrder ends_sooner (map unit_range_of ranges)
  pub least : AreLeastBegins ranges
  pub fit : AllByRecursion EndFits (map unit_range_of ranges)

-- the range begins at or below last
abbrev pub range_begins_by : ℕ → UnitRange → Bool
range_begins_by last r = nat_le r.range.begin last

-- the range ends past low and begins at or below last
abbrev pub is_between : ℕ → ℕ → UnitRange → Bool
is_between low last r = nat_lt low r.range.end && range_begins_by last r
