-- The inlined entries at an address, from the outside in (DWARF 5, section 3.3.8).
-- Own: of each depth the pick of specs/Pick.antt, up to the first depth without one.
use Rattle.std.specs.Prelude.{ℕ, ◌+◌, ◌==◌, zero, suc, List, [], ◌∷◌, filter, length, Option, Some, None}
use Rattle.addr2line_lines.specs.Pick.{pick}
use Rattle.addr2line_lines.specs.InlinedEntries.{InlinedEntry, InlinedRange}

-- the ranges of a depth
abbrev pub of_depth : ℕ → List InlinedRange → List InlinedRange
of_depth depth ranges = filter (λ (x : InlinedRange). x.depth == depth) ranges

-- where a range begins
abbrev pub inlined_begin : InlinedRange → ℕ
inlined_begin x = x.range.begin

-- where it ends
abbrev pub inlined_end : InlinedRange → ℕ
inlined_end x = x.range.end

-- the range of a depth that is picked for the probe
abbrev pub inlined_at : ℕ → ℕ → List InlinedRange → Option InlinedRange
inlined_at probe depth ranges = pick inlined_begin inlined_end probe (of_depth depth ranges)

-- the entries that are picked from a depth on, at most n, up to the first depth without one
abbrev pub inlined_within : ℕ → ℕ → ℕ → List InlinedRange → List InlinedEntry
inlined_within zero probe depth ranges = []
inlined_within (suc n) probe depth ranges = elim (inlined_at probe depth ranges) [
  | None ↦ []
  | Some x ↦ x.entry ∷ inlined_within n probe (depth + 1) ranges
]

-- the inlined entries at an address, from the outside in; each is of another range
abbrev pub inlined_chain : ℕ → List InlinedRange → List InlinedEntry
inlined_chain probe ranges = inlined_within (length ranges) probe 0 ranges
