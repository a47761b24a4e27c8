-- Ranges of inlined entries by the places of these, as the private functions see them.
-- Own: in order they stand by depth, then by begin, then by end, then by place of the entry.
use Rattle.std.specs.Prelude.{◌≡◌, ℕ, ◌+◌, ◌==◌, Bool, List, [], ◌∷◌, filter, length, map, Option, Some, None, zero, suc}
use Rattle.std.specs.Option.{option_map}
use Rattle.std.specs.Ordering.{is_lt, nat_cmp, ordering_then}
use Rattle.addr2line_lines.specs.declared.picks.InlinedFunctionAddress.{InlinedFunctionAddress}
use Rattle.addr2line_lines.specs.InlinedChain.{inlined_chain}
use Rattle.addr2line_lines.specs.InlinedEntries.{InlinedEntry, InlinedRange}
use Rattle.addr2line_lines.specs.Pick.{pick}

-- the first address
abbrev pub place_begin : InlinedFunctionAddress → ℕ
place_begin x = x.range.begin

-- the address after the last one
abbrev pub place_end : InlinedFunctionAddress → ℕ
place_end x = x.range.end

-- the place of the entry
abbrev pub inlined_place : InlinedFunctionAddress → ℕ
inlined_place x = x.function

-- by depth, then by begin, then by end, then by place
abbrev pub inlined_sooner : InlinedFunctionAddress → InlinedFunctionAddress → Bool
inlined_sooner x y = is_lt (ordering_then (nat_cmp x.depth y.depth)
    (ordering_then (nat_cmp x.range.begin y.range.begin)
    (ordering_then (nat_cmp x.range.end y.range.end) (nat_cmp x.function y.function))))

-- the ranges of a depth
abbrev pub places_of_depth : ℕ → List InlinedFunctionAddress → List InlinedFunctionAddress
places_of_depth depth ranges = filter (λ (x : InlinedFunctionAddress). x.depth == depth) ranges

-- the place of the entry whose range of a depth is picked for the probe
abbrev pub place_at : ℕ → ℕ → List InlinedFunctionAddress → Option ℕ
place_at probe depth ranges =
    option_map inlined_place (pick place_begin place_end probe (places_of_depth depth ranges))

-- the places that are picked from a depth on, at most n, up to the first depth without one
abbrev pub places_within : ℕ → ℕ → ℕ → List InlinedFunctionAddress → List ℕ
places_within zero probe depth ranges = []
places_within (suc n) probe depth ranges = elim (place_at probe depth ranges) [
  | None ↦ []
  | Some x ↦ x ∷ places_within n probe (depth + 1) ranges
]

-- the places of the inlined entries at an address, from the outside in
abbrev pub places_chain : ℕ → List InlinedFunctionAddress → List ℕ
places_chain probe ranges = places_within (length ranges) probe 0 ranges

-- a range, by the entry of its place
abbrev pub inlined_range_of : (ℕ → InlinedEntry) → InlinedFunctionAddress → InlinedRange
inlined_range_of entry_of x =
    record { depth = x.depth; range = x.range; entry = entry_of x.function }

-- the entries of places are those at an address, from the outside in, of these ranges
abbrev pub IsChainOf : ℕ → (ℕ → InlinedEntry) → List InlinedFunctionAddress → List ℕ → Type 0
IsChainOf probe entry_of listed places =
    map entry_of places ≡ inlined_chain probe (map (inlined_range_of entry_of) listed)
