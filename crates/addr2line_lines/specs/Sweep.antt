-- A walk over addresses that cuts ranges into segments, as the private functions see it.
use Rattle.std.specs.Prelude.{ℕ, ◌≡◌, ◌<◌, ◌≤◌, ◌&&◌, Bool, true, false, nat_le, List, [], ◌∷◌, length, slice_index_or}
use Rattle.std.specs.BinaryHeap.{IsHeap, IsUpperBound, heap_items}
use Rattle.std.specs.List.{All, Contains}
use Rattle.std.specs.Ordering.{is_ge, nat_cmp, ordering_then}
use Rattle.std.specs.declared.cmp.Ordering.{Ordering}
use Rattle.addr2line_lines.specs.declared.segments.FunctionAddress.{FunctionAddress}
use Rattle.addr2line_lines.specs.declared.segments.Sweep.{Sweep}
use Rattle.addr2line_lines.specs.Segments.{RunningRange, address_begin, address_end, address_function, address_holds, as_running, running_end, AreSegmentsBelow}
use Rattle.addr2line_lines.specs.Shortest.{IsNoLonger}

-- running ranges in the order of the heap: the shorter is greater, of equal lengths the one of the
-- lesser place, of these the one that ends sooner
abbrev pub running_cmp : RunningRange → RunningRange → Ordering
running_cmp x y =
    ordering_then (ordering_then (nat_cmp y.0.0 x.0.0) (nat_cmp y.0.1 x.0.1))
    (nat_cmp y.0.2 x.0.2)

-- whether the first running range is shorter than another range, or as long and of no greater
-- place, and ends no sooner
abbrev pub is_outdone : RunningRange → List RunningRange → Bool
is_outdone range [] = false
is_outdone range (o ∷ running) =
    is_ge (running_cmp o range) && nat_le (running_end range) (running_end o)

-- where the running ranges are a heap, the first is the greatest
abbrev pub IsGreatestFirst : List RunningRange → Type 0
IsGreatestFirst [] = Unit {0}
IsGreatestFirst (o ∷ running) =
    IsHeap running_cmp (o ∷ running) → IsUpperBound running_cmp o (o ∷ running)

-- from a place on the ranges begin at or past an address
abbrev pub IsBegunFrom : List FunctionAddress → ℕ → ℕ → Type 0
IsBegunFrom addresses next at = (j : ℕ) (d : FunctionAddress) → next ≤ j → j < length addresses
    → at ≤ (slice_index_or addresses j d).range.begin

-- a running range is one of the ranges, and has begun
pub record IsRunningRange (addresses : List FunctionAddress) (at : ℕ) (running : RunningRange)
    : Type 0 where
  pub address : FunctionAddress
  pub listed : Contains addresses address
  pub begun : address.range.begin ≤ at
  pub is : running ≡ as_running address

-- a running range that ends past the probe is shorter than a range, or as long and of no greater
-- place
pub record SomeIsNoLonger (running : List RunningRange) (probe : ℕ) (address : FunctionAddress)
    : Type 0 where
  pub other : FunctionAddress
  pub runs : Contains running (as_running other)
  pub ends_past : probe < other.range.end
  pub no_longer : IsNoLonger address_begin address_end address_function other address

-- all below an address is cut into segments; the running ranges are a heap, each of a range that
-- has begun; where a range before a place holds an address from there on, one runs that ends past
-- it and is no longer
pub record IsSwept (addresses : List FunctionAddress) (next at : ℕ) (running : List RunningRange)
    (segments : List FunctionAddress) : Type 0 where
  pub heap : IsHeap running_cmp running
  pub cut : AreSegmentsBelow addresses segments at
  pub only : All (IsRunningRange addresses at) running
  pub still : (j : ℕ) (d : FunctionAddress) → j < next → j < length addresses
      → (probe : ℕ) → at ≤ probe → address_holds probe (slice_index_or addresses j d) ≡ true
      → SomeIsNoLonger running probe (slice_index_or addresses j d)

-- the walk stands so
abbrev pub IsSweptBy : List FunctionAddress → ℕ → Sweep → Type 0
IsSweptBy addresses next sweep =
    IsSwept addresses next sweep.at (heap_items sweep.running) sweep.segments.items
