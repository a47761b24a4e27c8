-- The segments between the ends of functions' ranges, as the private functions see them.
use Rattle.std.specs.Prelude.{ℕ, ◌≡◌, ◌*◌, ◌-◌, ◌<◌, ◌≤◌, nat_le, nat_lt, Bool, true, false, List, [], ◌∷◌, length, slice_index_or, Option, Some, None, if◌then◌else◌}
use Rattle.std.specs.Option.{option_map}
use Rattle.std.specs.List.{All, Contains}
use Rattle.std.specs.declared.cmp.Reverse.{Reverse}
use Rattle.addr2line_lines.specs.declared.segments.FunctionAddress.{FunctionAddress}
use Rattle.addr2line_lines.specs.Shortest.{holds, shortest, IsNoLonger}

-- the first address
abbrev pub address_begin : FunctionAddress → ℕ
address_begin a = a.range.begin

-- the address after the last one
abbrev pub address_end : FunctionAddress → ℕ
address_end a = a.range.end

-- the place of the function
abbrev pub address_function : FunctionAddress → ℕ
address_function a = a.function

-- whether a range holds the probe
abbrev pub address_holds : ℕ → FunctionAddress → Bool
address_holds probe a = holds address_begin address_end probe a

-- the function with the shortest range that holds the probe
abbrev pub shortest_function_at : ℕ → List FunctionAddress → Option ℕ
shortest_function_at probe addresses =
    option_map address_function
    (shortest address_begin address_end address_function probe addresses)

-- a range that runs: its length, its function and its end; the shortest is the greatest
abbrev pub RunningRange : Type 0
RunningRange = Reverse (ℕ × ℕ × ℕ)

-- a range, as it runs
abbrev pub as_running : FunctionAddress → RunningRange
as_running a = record { 0 = (a.range.end - a.range.begin, a.function, a.range.end) }

-- where a running range ends
abbrev pub running_end : RunningRange → ℕ
running_end o = o.0.2

-- the segment up to an address, of the first running range; none where nothing runs, or the walk
-- stands there already
abbrev pub segment_to : ℕ → ℕ → List RunningRange → List FunctionAddress
segment_to until at [] = []
segment_to until at (o ∷ running) =
    if nat_lt at until
    then record { range = record { begin = at; end = until }; function = o.0.1 } ∷ []
    else []

-- the end of the first running range, where it is no greater than a limit
abbrev pub first_end : ℕ → List RunningRange → Option ℕ
first_end limit [] = None
first_end limit (o ∷ running) = if nat_le (running_end o) limit then Some (running_end o) else None

-- no function's range that holds the probe is shorter than one of this function that holds it, or
-- as long and of a lesser function
pub record IsOfShortest (addresses : List FunctionAddress) (probe function : ℕ) : Type 0 where
  pub address : FunctionAddress
  pub listed : Contains addresses address
  pub holds_it : address_holds probe address ≡ true
  pub is : address.function ≡ function
  pub shorter : All (λ a. address_holds probe a ≡ true
      → IsNoLonger address_begin address_end address_function address a) addresses

-- each segment ends no later than any later one begins
abbrev pub AreApart : List FunctionAddress → Type 0
AreApart segments = (i j : ℕ) (d : FunctionAddress) → i < j → j < length segments
    → (slice_index_or segments i d).range.end ≤ (slice_index_or segments j d).range.begin

-- each range has addresses, and ends no later than any later one begins
pub record AreDisjoint (addresses : List FunctionAddress) : Type 0 where
  pub proper : All (λ a. a.range.begin < a.range.end) addresses
  pub apart : AreApart addresses

-- a segment has addresses, and for each of them its function is that of the shortest range
pub record IsSegment (addresses : List FunctionAddress) (segment : FunctionAddress) : Type 0 where
  pub proper : segment.range.begin < segment.range.end
  pub shortest_is : (probe : ℕ) → address_holds probe segment ≡ true
      → IsOfShortest addresses probe segment.function

-- the segments of ranges, below an address
pub record AreSegmentsBelow (addresses segments : List FunctionAddress) (at : ℕ) : Type 0 where
  pub apart : AreApart segments
  pub below : All (λ s. s.range.end ≤ at) segments
  pub each : All (IsSegment addresses) segments
  pub others : (probe : ℕ) → probe < at → All (λ s. address_holds probe s ≡ false) segments
      → All (λ a. address_holds probe a ≡ false) addresses

-- the segments of ranges: disjoint and sorted, at most twice as many as ranges, each of the
-- function of the shortest range at its addresses; no range holds another address
pub record AreSegments (addresses segments : List FunctionAddress) : Type 0 where
  pub apart : AreApart segments
  pub few : length segments ≤ 2 * length addresses
  pub each : All (IsSegment addresses) segments
  pub others : (probe : ℕ) → All (λ s. address_holds probe s ≡ false) segments
      → All (λ a. address_holds probe a ≡ false) addresses
