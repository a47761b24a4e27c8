-- What the search found is what the definition gives (on specs/Packed.antt and specs/Spans.antt).
use Rattle.addr2line_lines.proofs.Common.{ℕ, ◌≡◌, ◌+◌, ◌-◌, ◌<◌, ◌≤◌, Bool, true, false, cond, List, [], ◌∷◌, Option, Some, None, map, filter, length, take, drop, get_or, nat_le, arith, inl, inr, ◌∙◌, ap, sym, subst, refl, zero, suc, AllWithin, cases_lt, last, Row, LineSequence, at_or_below, if_past, start_of, end_of, ArePastFrom, IsAmong, IsTable, row_address_at, packed_end, packed_sooner, packed_start, unpacked, IsInOrder, In-filter, In-last, last-cond, le-leb, le-ltb, get_or_default}
use Rattle.std.proofs.lemmas.Bool.{leb-true, lt-leb}
use Rattle.std.specs.List.{slice_get}
use Rattle.std.specs.Option.{option_map, option_and_then}
use Rattle.addr2line_lines.specs.Spans.{row_address, row_at, row_in}
use Rattle.addr2line_lines.proofs.SeekLemmas.{begins_rise}
use Rattle.addr2line_lines.proofs.OrderLemmas.{All-in}
use Rattle.addr2line_lines.proofs.OrderPick.{candidate_ordered}
use Rattle.addr2line_lines.proofs.SpanLemmas.{row_within}
use Rattle.addr2line_lines.proofs.PackedLemmas.{SequenceRows, sequence_rows_of, ordered-map, last_below-map}
use Rattle.addr2line_lines.proofs.Facts.{read_at}

module _ {X : Type 0} (p : X → Bool) where
  filter_none : (xs : List X) → AllWithin (λ x. p x ≡ false) xs 0 (length xs) → filter p xs ≡ []
  filter_none [] h = refl
  filter_none (x ∷ xs) h =
      ap (λ b. cond b (x ∷ filter p xs) (filter p xs)) (h 0 x (omega arith) (omega arith)) ∙ filter_none xs (λ k d low high. h (suc k) d (omega arith) (omega arith))

  -- none passes
  pub last_none : (xs : List X) → AllWithin (λ x. p x ≡ false) xs 0 (length xs) → last (filter p xs) ≡ None
  last_none xs h = ap last (filter_none xs h)

  -- the last of those that pass is the one after which none passes
  pub last_is_at : (xs : List X) (i : ℕ) (z : X) → i < length xs → get_or xs i z ≡ z → p z ≡ true → AllWithin (λ x. p x ≡ false) xs (i + 1) (length xs) → last (filter p xs) ≡ Some z
  last_is_at [] i z l e t after = absurd (omega arith)
  last_is_at (x ∷ xs) zero z l e t after =
      ap (λ b. last (cond b (x ∷ filter p xs) (filter p xs))) (ap p e ∙ t) ∙ ap (λ ys. last (x ∷ ys)) (filter_none xs (λ k d low high. after (suc k) d (omega arith) (omega arith))) ∙ ap Some e
  last_is_at (x ∷ xs) (suc i) z l e t after = last-cond (p x) x z (filter p xs) (last_is_at xs i z (omega arith) e t (λ k d low high. after (suc k) d (omega arith) (omega arith)))

-- the sequences are past the probe from a place on
abbrev pub SequencesPast : ℕ → List LineSequence → ℕ → Type 0
SequencesPast probe ss n = AllWithin (λ (s : LineSequence). probe < s.start) ss n (length ss)

pub sequence_none : (probe : ℕ) (ss : List LineSequence) → SequencesPast probe ss 0 → last (at_or_below packed_start probe ss) ≡ None
sequence_none probe ss h = last_none (λ s. nat_le (packed_start s) probe) ss (λ k d low high. lt-leb _ probe (h k d low high))

pub sequence_found : (probe : ℕ) (ss : List LineSequence) (i : ℕ) (s : LineSequence) → i < length ss → get_or ss i s ≡ s → s.start ≤ probe → SequencesPast probe ss (i + 1) → last (at_or_below packed_start probe ss) ≡ Some s
sequence_found probe ss i s l e low h = last_is_at (λ t. nat_le (packed_start t) probe) ss i s l e (le-leb s.start probe low) (λ k d from high. lt-leb _ probe (h k d from high))

-- the row at a place is the last of the sequence at or below the probe
pub row_found : (rows : List Row) (probe : ℕ) (s : LineSequence) (place : ℕ) (row : Row) → IsAmong rows s → s.first ≤ place → place < s.first + s.len → get_or rows place row ≡ row → row.address ≤ probe
    → ArePastFrom probe rows s (place + 1) → last (at_or_below row_address probe (unpacked rows s).rows) ≡ Some row
row_found rows probe s place row among from inside is low after =
    let z = sequence_rows_of rows s among in
    let rs : List Row = take s.len (drop s.first rows) in
    let none : Row = record { address = 0; file_index = 0; line = 0; column = 0 } in
    let same : s.first + (place - s.first) ≡ place = omega arith in
    let len = z.len_is in
    let here : get_or rs (place - s.first) row ≡ row = z.at (place - s.first) row (omega arith) ∙ ap (λ n. get_or rows n row) same ∙ is in
    last_is_at (λ r. nat_le (row_address r) probe) rs (place - s.first) row (omega arith) here (le-leb row.address probe low)
    (λ k d low' high. lt-leb _ probe (later z k d (omega arith) (omega arith)))
  where
    later : SequenceRows rows s → (k : ℕ) (d : Row) → place < s.first + k → k < s.len → probe < (get_or (take s.len (drop s.first rows)) k d).address
    later z k d l h =
        let none : Row = record { address = 0; file_index = 0; line = 0; column = 0 } in
        let len = z.len_is in
        let e : (get_or (take s.len (drop s.first rows)) k d).address ≡ row_address_at rows (s.first + k) =
        ap (λ (r : Row). r.address) (get_or_default (take s.len (drop s.first rows)) k d none (omega arith) ∙ z.at k none h) in
        let p = after (s.first + k) (omega arith) (omega arith) in omega arith

module _ (rows : List Row) (ss : List LineSequence) (t : IsTable ss rows) (probe : ℕ) where
  -- the row of the sequence that was found
  pub row_at_found : (o : Option LineSequence) → o ≡ last (at_or_below packed_start probe ss) → row_at probe (map (unpacked rows) ss) ≡ option_and_then (row_in probe) (option_and_then (if_past end_of probe) (option_map (unpacked rows) o))
  row_at_found o e =
      ap (λ x. option_and_then (row_in probe) (option_and_then (if_past end_of probe) x))
      (candidate_ordered start_of end_of probe (map (unpacked rows) ss) (ordered-map rows ss t.ordered) ∙ last_below-map rows probe ss ∙ ap (option_map (unpacked rows)) (sym e))

  pub found_among : (s : LineSequence) → Some s ≡ last (at_or_below packed_start probe ss) → IsAmong rows s
  found_among s e = All-in (IsAmong rows) ss s t.each (In-filter (λ x. nat_le (packed_start x) probe) ss s (In-last (at_or_below packed_start probe ss) s (sym e))).0

  pub found_low : (s : LineSequence) → Some s ≡ last (at_or_below packed_start probe ss) → s.start ≤ probe
  found_low s e = leb-true s.start probe (In-filter (λ x. nat_le (packed_start x) probe) ss s (In-last (at_or_below packed_start probe ss) s (sym e))).1

  pub no_sequence : None ≡ last (at_or_below packed_start probe ss) → row_at probe (map (unpacked rows) ss) ≡ None
  no_sequence e = row_at_found None e

  pub past_end : (s : LineSequence) → Some s ≡ last (at_or_below packed_start probe ss) → s.end ≤ probe → row_at probe (map (unpacked rows) ss) ≡ None
  past_end s e l = row_at_found (Some s) e ∙ ap (λ b. option_and_then (row_in probe) (cond b (Some (unpacked rows s)) None)) (le-ltb probe s.end l)

  pub row_is : (s : LineSequence) (row : Row) → Some s ≡ last (at_or_below packed_start probe ss) → probe < s.end → Some row ≡ last (at_or_below row_address probe (unpacked rows s).rows) → row_at probe (map (unpacked rows) ss) ≡ Some row
  row_is s row e l f = row_at_found (Some s) e ∙ row_within probe (unpacked rows s) (found_among s e).rising l ∙ sym f

-- from a row past the probe on all are
pub past_from : (rows : List Row) (s : LineSequence) (i probe : ℕ) → SequenceRows rows s → s.first ≤ i → probe < row_address_at rows i → ArePastFrom probe rows s i
past_from rows s i probe z from l = λ j low high.
    elim (cases_lt i j) [ inl lt ↦ (let r = z.rises i j from lt high in omega arith) | inr ge ↦ (let e : i ≡ j = omega arith in let P : ℕ → Type 0 = λ k. probe < row_address_at rows k in subst P e l) ]

-- the best of the sequences before a place is the last of them that starts at or below the probe
abbrev pub IsLastBefore : ℕ → List LineSequence → ℕ → Option LineSequence → Type 0
IsLastBefore probe ss low None = low ≡ 0
IsLastBefore probe ss low (Some s) = (0 < low) × ((get_or ss (low - 1) s ≡ s) × (s.start ≤ probe))

pub last_before_is : (probe : ℕ) (ss : List LineSequence) (low : ℕ) (best : Option LineSequence) → low ≤ length ss → IsLastBefore probe ss low best → SequencesPast probe ss low → best ≡ last (at_or_below packed_start probe ss)
last_before_is probe ss low None le e h = sym (sequence_none probe ss (λ k d from high. h k d (omega arith) high))
last_before_is probe ss low (Some s) le e h =
    let some = e.0 in
    sym (sequence_found probe ss (low - 1) s (omega arith) e.1.0 e.1.1 (λ k d from high. h k d (omega arith) high))

-- from a sequence past the probe on all are
pub sequences_past_from : (ss : List LineSequence) → IsInOrder packed_sooner ss → (ys : List LineSequence) (i : ℕ) (s : LineSequence) {probe : ℕ} → slice_get ys i ≡ Some s → ys ≡ ss → probe < s.start → SequencesPast probe ss i
sequences_past_from ss up ys i s {probe} h e l = λ k d low high.
    let u = begins_rise packed_start packed_end ss up i k d low high in
    let f : (get_or ss i d).start ≡ s.start = ap (λ (t : LineSequence). t.start) (read_at ss ys i i s d h e refl) in
    omega arith
