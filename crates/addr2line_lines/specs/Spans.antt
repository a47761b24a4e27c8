-- Which row an address belongs to (DWARF 5, section 6.2.2: a row describes the code from its
-- address up to the next row's).
-- Own: a row's span runs up to the next greater address of a row of its sequence, or to the
-- sequence's end.
-- Own: of overlapping sequences the picked one counts.
use Rattle.std.specs.Prelude.{ℕ, ◌≡◌, ◌<◌, ◌≤◌, Bool, List, [], ◌∷◌, Option, Some, filter, find, map, min, option_and_then, option_map, nat_lt}
use Rattle.addr2line_lines.specs.declared.row.Row.{Row}
use Rattle.addr2line_lines.specs.Sequences.{Sequence, start_of, end_of}
use Rattle.addr2line_lines.specs.Pick.{pick}
use Rattle.addr2line_lines.specs.Rises.{IsRising}
use Rattle.addr2line_lines.specs.Shortest.{holds}

-- the address of a row
abbrev pub row_address : Row → ℕ
row_address r = r.address

-- a row and the end of its span
pub record Span : Type 0 where
  pub row : Row
  pub end : ℕ

-- the row of a span
abbrev pub spanned : Span → Row
spanned s = s.row

-- the least of these numbers and of n
abbrev pub least_of : ℕ → List ℕ → ℕ
least_of n [] = n
least_of n (m ∷ ms) = min m (least_of n ms)

-- where the span of a row ends: at the next greater address of the rows, or at the end of their
-- sequence
abbrev pub span_end : ℕ → List Row → Row → ℕ
span_end end rows r = least_of end (filter (λ a. nat_lt r.address a) (map row_address rows))

-- the rows with the ends of their spans
abbrev pub spans : ℕ → List Row → List Span
spans end rows = map (λ r. record { row = r; end = span_end end rows r }) rows

-- the probe is one of the span's addresses
abbrev pub span_holds : ℕ → Span → Bool
span_holds probe span = holds (λ (s : Span). s.row.address) (λ (s : Span). s.end) probe span

-- the row of a sequence whose span holds the probe
abbrev pub row_in : ℕ → Sequence → Option Row
row_in probe s = option_map spanned (find (span_holds probe) (spans s.end s.rows))

-- the row of the picked sequence whose span holds the probe
abbrev pub row_at : ℕ → List Sequence → Option Row
row_at probe sequences = option_and_then (row_in probe) (pick start_of end_of probe sequences)

-- each address of a sequence that rises has a row
abbrev pub EachAddressHasRow : Type 0
EachAddressHasRow = (probe : ℕ) (s : Sequence) → IsRising s → s.start ≤ probe → probe < s.end
    → (r : Row) × (row_in probe s ≡ Some r)
