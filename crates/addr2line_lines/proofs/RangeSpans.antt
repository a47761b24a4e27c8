-- The spans of a sequence one after another (on specs/RangesLeft.antt).
use Rattle.addr2line_lines.proofs.Common.{ℕ, ◌≡◌, ◌+◌, ◌-◌, ◌<◌, ◌≤◌, List, [], ◌∷◌, Some, filter, map, drop, take, get_or, length, arith, ◌∙◌, ap, sym, refl, suc, drop_more, get_or_from_slice_get, Row, LineSequence, IsAmong, row_address_at, unpacked}
use Rattle.std.specs.List.{slice_get}
use Rattle.addr2line_lines.specs.RangeLocations.{meets, sequence_range}
use Rattle.addr2line_lines.specs.RangesLeft.{next_spans, packed_range, spans_left}
use Rattle.addr2line_lines.specs.Spans.{spans}
use Rattle.addr2line_lines.proofs.SpanLemmas.{spans_next}

-- a row that stands for none
abbrev none : Row
none = record { address = 0; file_index = 0; line = 0; column = 0 }

-- the rows from a place on, where there is one
one_more : (rows : List Row) (place n : ℕ) (r : Row) → slice_get rows place ≡ Some r → place < length rows → take (suc n) (drop place rows) ≡ r ∷ take n (drop (place + 1) rows)
one_more rows place n r h l =
    ap (take (suc n)) (drop_more rows place none l) ∙ ap (λ x. x ∷ take n (drop (place + 1) rows)) (get_or_from_slice_get rows place r none h)

module _ (end : ℕ) (rows : List Row) (place until : ℕ) (r : Row) (h : slice_get rows place ≡ Some r) (there : place < until) (inside : until ≤ length rows) where
  first_of : spans_left end rows place until ≡ next_spans end (r ∷ take (until - (place + 1)) (drop (place + 1) rows))
  first_of =
      let n : until - place ≡ suc (until - (place + 1)) = omega arith in
      ap (λ k. next_spans end (take k (drop place rows))) n ∙ ap (next_spans end) (one_more rows place (until - (place + 1)) r h (omega arith))

  -- the last row
  pub spans_last : until ≤ place + 1 → spans_left end rows place until ≡ record { row = r; end = end } ∷ spans_left end rows (place + 1) until
  spans_last le =
      let n : until - (place + 1) ≡ 0 = omega arith in
      first_of ∙ ap (λ k. next_spans end (r ∷ take k (drop (place + 1) rows))) n ∙ sym (ap (λ k. record { row = r; end = end } ∷ next_spans end (take k (drop (place + 1) rows))) n)

  -- another row
  pub spans_more : place + 1 < until → (e : ℕ) → e ≡ row_address_at rows (place + 1) → spans_left end rows place until ≡ record { row = r; end = e } ∷ spans_left end rows (place + 1) until
  spans_more lt e is =
      let s : Row = get_or rows (place + 1) none in
      let m : ℕ = until - (place + 1) - 1 in
      let n : until - (place + 1) ≡ suc m = omega arith in
      let rest : take (until - (place + 1)) (drop (place + 1) rows) ≡ s ∷ take m (drop (place + 1 + 1) rows) =
      ap (λ k. take k (drop (place + 1) rows)) n ∙ ap (take (suc m)) (drop_more rows (place + 1) none (omega arith)) in
      first_of ∙ ap (λ rs. next_spans end (r ∷ rs)) rest
      ∙ ap (λ a. record { row = r; end = a } ∷ next_spans end (s ∷ take m (drop (place + 1 + 1) rows))) (sym is)
      ∙ sym (ap (λ rs. record { row = r; end = e } ∷ next_spans end rs) rest)

-- the spans of a whole sequence
pub whole_spans : (low high : ℕ) (rows : List Row) (s : LineSequence) → IsAmong rows s → filter (meets low high) (spans_left s.end rows s.first (s.first + s.len)) ≡ filter (meets low high) (spans s.end (take s.len (drop s.first rows)))
whole_spans low high rows s among =
    let n : s.first + s.len - s.first ≡ s.len = omega arith in
    ap (filter (meets low high)) (ap (λ k. next_spans s.end (take k (drop s.first rows))) n ∙ sym (spans_next s.end (take s.len (drop s.first rows)) among.rising.rises))

-- the ranges of packed sequences
pub ranges_are : (rows : List Row) (ss : List LineSequence) → map packed_range ss ≡ map sequence_range (map (unpacked rows) ss)
ranges_are rows [] = refl
ranges_are rows (s ∷ ss) = ap (λ rs. packed_range s ∷ rs) (ranges_are rows ss)
