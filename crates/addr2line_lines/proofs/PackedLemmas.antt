-- Sequences among the rows of a unit (on specs/Packed.antt).
use Rattle.addr2line_lines.proofs.Common.{ℕ, ◌≡◌, ◌+◌, ◌-◌, ◌<◌, ◌≤◌, Bool, true, false, cond, List, [], ◌∷◌, ◌++◌, map, length, take, drop, get_or, nat_le, arith, ◌∙◌, ap, sym, refl, zero, suc, AllByRecursion, take-take, length-take-le, get_or-take, get_or-drop, All-get_or, All-from_recursion, last, Row, LineSequence, sum_by-cons, put, in_order, begins_sooner, IsInOrder, at_or_below, Sequence, start_of, end_of, IsAmong, RowsEndBy, packed_rows_in, row_address_at, packed_start, packed_sooner, unpacked}
use Rattle.std.specs.Option.{option_map}
use Rattle.std.proofs.lemmas.List.{length-drop}
use Rattle.addr2line_lines.specs.Counts.{rows_in}
use Rattle.addr2line_lines.specs.Rises.{Climbs, IsRising, StartsAt}

-- what stands before place n stays where that stays
cut_inside : (first len n : ℕ) (xs : List Row) → first + len ≤ n → take len (drop first (take n xs)) ≡ take len (drop first xs)
cut_inside zero len n xs h = take-take len n xs (omega arith)
cut_inside (suc first) len zero xs h = absurd (omega arith)
cut_inside (suc first) len (suc n) [] h = refl
cut_inside (suc first) len (suc n) (x ∷ xs) h = cut_inside first len n xs (omega arith)

unpacked_same : (old new : List Row) (n : ℕ) (s : LineSequence) → take n new ≡ take n old → RowsEndBy n s → unpacked new s ≡ unpacked old s
unpacked_same old new n s e h =
    ap (λ rows. record { start = s.start; end = s.end; rows = rows })
    (sym (cut_inside s.first s.len n new h) ∙ ap (λ rows. take s.len (drop s.first rows)) e ∙ cut_inside s.first s.len n old h)

pub all_same : (old new : List Row) (n : ℕ) (ss : List LineSequence) → take n new ≡ take n old → AllByRecursion (RowsEndBy n) ss → map (unpacked new) ss ≡ map (unpacked old) ss
all_same old new n [] e all = refl
all_same old new n (s ∷ ss) e all = cons_is _ _ _ _ (unpacked_same old new n s e all.0) (all_same old new n ss e all.1)
  where
    cons_is : (a b : Sequence) (xs ys : List Sequence) → a ≡ b → xs ≡ ys → a ∷ xs ≡ b ∷ ys
    cons_is a b xs ys g h = cc

pub all_within : (m n : ℕ) (ss : List LineSequence) → m ≤ n → AllByRecursion (RowsEndBy m) ss → AllByRecursion (RowsEndBy n) ss
all_within m n [] le all = tt
all_within m n (s ∷ ss) le all = ((let h = all.0 in omega arith), all_within m n ss le all.1)

pub all_push : (P : LineSequence → Type 0) (ss : List LineSequence) (s : LineSequence) → AllByRecursion P ss → P s → AllByRecursion P (ss ++ s ∷ [])
all_push P [] s all h = (h, tt)
all_push P (t ∷ ss) s all h = (all.0, all_push P ss s all.1 h)

pub all_among : (rows : List Row) (ss : List LineSequence) → AllByRecursion (RowsEndBy (length rows)) ss → AllByRecursion IsRising (map (unpacked rows) ss) → AllByRecursion (IsAmong rows) ss
all_among rows [] w r = tt
all_among rows (s ∷ ss) w r = (record { within = w.0; rising = r.0 }, all_among rows ss w.1 r.1)

-- sequences in order stay so with their rows
put-map : (rows : List Row) (s : LineSequence) (ss : List LineSequence) → map (unpacked rows) (put packed_sooner s ss) ≡ put (begins_sooner start_of end_of) (unpacked rows s) (map (unpacked rows) ss)
put-map rows s [] = refl
put-map rows s (t ∷ ss) = by_cases (packed_sooner t s) (put-map rows s ss)
  where
    by_cases : (b : Bool) → map (unpacked rows) (put packed_sooner s ss) ≡ put (begins_sooner start_of end_of) (unpacked rows s) (map (unpacked rows) ss)
        → map (unpacked rows) (cond b (t ∷ put packed_sooner s ss) (s ∷ t ∷ ss))
        ≡ cond b (unpacked rows t ∷ put (begins_sooner start_of end_of) (unpacked rows s) (map (unpacked rows) ss)) (unpacked rows s ∷ unpacked rows t ∷ map (unpacked rows) ss)
    by_cases true e = ap (λ xs. unpacked rows t ∷ xs) e
    by_cases false e = refl

pub in_order-map : (rows : List Row) (ss : List LineSequence) → map (unpacked rows) (in_order packed_sooner ss) ≡ in_order (begins_sooner start_of end_of) (map (unpacked rows) ss)
in_order-map rows [] = refl
in_order-map rows (s ∷ ss) = put-map rows s (in_order packed_sooner ss) ∙ ap (put (begins_sooner start_of end_of) (unpacked rows s)) (in_order-map rows ss)

none_sooner : (rows : List Row) (s : LineSequence) (ss : List LineSequence) → AllByRecursion (λ t. packed_sooner t s ≡ false) ss → AllByRecursion (λ t. begins_sooner start_of end_of t (unpacked rows s) ≡ false) (map (unpacked rows) ss)
none_sooner rows s [] all = tt
none_sooner rows s (t ∷ ss) all = (all.0, none_sooner rows s ss all.1)

pub ordered-map : (rows : List Row) (ss : List LineSequence) → IsInOrder packed_sooner ss → IsInOrder (begins_sooner start_of end_of) (map (unpacked rows) ss)
ordered-map rows [] up = tt
ordered-map rows (s ∷ ss) up = (none_sooner rows s ss up.0, ordered-map rows ss up.1)

-- the last of them that starts at or below a probe
below-map : (rows : List Row) (probe : ℕ) (ss : List LineSequence) → at_or_below start_of probe (map (unpacked rows) ss) ≡ map (unpacked rows) (at_or_below packed_start probe ss)
below-map rows probe [] = refl
below-map rows probe (s ∷ ss) = by_cases (nat_le s.start probe) (below-map rows probe ss)
  where
    by_cases : (b : Bool) → at_or_below start_of probe (map (unpacked rows) ss) ≡ map (unpacked rows) (at_or_below packed_start probe ss)
        → cond b (unpacked rows s ∷ at_or_below start_of probe (map (unpacked rows) ss)) (at_or_below start_of probe (map (unpacked rows) ss)) ≡ map (unpacked rows) (cond b (s ∷ at_or_below packed_start probe ss) (at_or_below packed_start probe ss))
    by_cases true e = ap (λ xs. unpacked rows s ∷ xs) e
    by_cases false e = e

last-map : (rows : List Row) (ss : List LineSequence) → last (map (unpacked rows) ss) ≡ option_map (unpacked rows) (last ss)
last-map rows [] = refl
last-map rows (s ∷ []) = refl
last-map rows (s ∷ t ∷ ss) = last-map rows (t ∷ ss)

pub last_below-map : (rows : List Row) (probe : ℕ) (ss : List LineSequence) → last (at_or_below start_of probe (map (unpacked rows) ss)) ≡ option_map (unpacked rows) (last (at_or_below packed_start probe ss))
last_below-map rows probe ss = ap last (below-map rows probe ss) ∙ last-map rows (at_or_below packed_start probe ss)

-- rows that climb, by place
climbs_at : (end : ℕ) (rows : List Row) → Climbs end rows → (i j : ℕ) (d : Row) → i < j → j < length rows → (get_or rows i d).address < (get_or rows j d).address
climbs_at end [] up i j d lt h = absurd (omega arith)
climbs_at end (r ∷ rows) up i zero d lt h = absurd (omega arith)
climbs_at end (r ∷ rows) up zero (suc j) d lt h = All-get_or (λ (s : Row). r.address < s.address) rows j d (omega arith) (All-from_recursion (λ (s : Row). r.address < s.address) rows up.1.0)
climbs_at end (r ∷ rows) up (suc i) (suc j) d lt h = climbs_at end rows up.1.1 i j d (omega arith) (omega arith)

some_start : (start : ℕ) (rows : List Row) (d : Row) → StartsAt start rows → (0 < length rows) × (start ≡ (get_or rows 0 d).address)
some_start start [] d h = absurd h
some_start start (r ∷ rows) d h = (omega arith, h)

-- where the rows of a sequence stand among all rows
pub record SequenceRows (rows : List Row) (s : LineSequence) : Type 0 where
  pub some : 0 < s.len
  pub inside : s.first + s.len ≤ length rows
  pub len_is : length (take s.len (drop s.first rows)) ≡ s.len
  pub at : (k : ℕ) (d : Row) → k < s.len → get_or (take s.len (drop s.first rows)) k d ≡ get_or rows (s.first + k) d
  pub starts : row_address_at rows s.first ≡ s.start
  pub rises : (i j : ℕ) → s.first ≤ i → i < j → j < s.first + s.len → row_address_at rows i < row_address_at rows j

pub sequence_rows_of : (rows : List Row) (s : LineSequence) → IsAmong rows s → SequenceRows rows s
sequence_rows_of rows s h =
    let none : Row = record { address = 0; file_index = 0; line = 0; column = 0 } in
    let within = h.within in
    let left = length-drop s.first rows in
    let len : length (take s.len (drop s.first rows)) ≡ s.len = length-take-le s.len (drop s.first rows) (omega arith) in
    let at : (k : ℕ) (d : Row) → k < s.len → get_or (take s.len (drop s.first rows)) k d ≡ get_or rows (s.first + k) d = λ k d l. get_or-take s.len (drop s.first rows) k d l ∙ get_or-drop s.first rows k d in
    let start = some_start s.start (take s.len (drop s.first rows)) none h.rising.starts in
    let some : 0 < s.len = (let l = start.0 in omega arith) in
    let zeroth : s.first + 0 ≡ s.first = omega arith in
    record {
      some = some;
      inside = within;
      len_is = len;
      at = at;
      starts = sym (start.1 ∙ ap (λ (r : Row). r.address) (at 0 none some) ∙ ap (row_address_at rows) zeroth);
      rises = λ i j from lt upto.
          let low : s.first + (i - s.first) ≡ i = omega arith in
          let high : s.first + (j - s.first) ≡ j = omega arith in
          let a = ap (λ (r : Row). r.address) (at (i - s.first) none (omega arith)) ∙ ap (row_address_at rows) low in
          let b = ap (λ (r : Row). r.address) (at (j - s.first) none (omega arith)) ∙ ap (row_address_at rows) high in
          let c = climbs_at s.end (take s.len (drop s.first rows)) h.rising.rises (i - s.first) (j - s.first) none (omega arith) (omega arith) in
          omega arith;
    }

-- how many sequences and rows there are
put-length : (s : LineSequence) (ss : List LineSequence) → length (put packed_sooner s ss) ≡ suc (length ss)
put-length s [] = refl
put-length s (t ∷ ss) = by_cases (packed_sooner t s) (put-length s ss)
  where
    by_cases : (b : Bool) → length (put packed_sooner s ss) ≡ suc (length ss) → length (cond b (t ∷ put packed_sooner s ss) (s ∷ t ∷ ss)) ≡ suc (suc (length ss))
    by_cases true e = ap suc e
    by_cases false e = refl

pub in_order-length : (ss : List LineSequence) → length (in_order packed_sooner ss) ≡ length ss
in_order-length [] = refl
in_order-length (s ∷ ss) = put-length s (in_order packed_sooner ss) ∙ ap suc (in_order-length ss)

pub rows_in_is : (rows : List Row) (ss : List LineSequence) → AllByRecursion (RowsEndBy (length rows)) ss → rows_in (map (unpacked rows) ss) ≡ packed_rows_in ss
rows_in_is rows [] all = refl
rows_in_is rows (s ∷ ss) all =
    sum_by-cons (λ (t : Sequence). length t.rows) (unpacked rows s) (map (unpacked rows) ss)
    ∙ sum_of (long s all.0) (rows_in_is rows ss all.1)
    ∙ sym (sum_by-cons (λ (t : LineSequence). t.len) s ss)
  where
    sum_of : {a b c d : ℕ} → a ≡ b → c ≡ d → a + c ≡ b + d
    sum_of {a} {b} {c} {d} e f = omega arith

    long : (t : LineSequence) → RowsEndBy (length rows) t → length (take t.len (drop t.first rows)) ≡ t.len
    long t h = let d = length-drop t.first rows in length-take-le t.len (drop t.first rows) (omega arith)

pub all_end : (rows : List Row) (ss : List LineSequence) → AllByRecursion (IsAmong rows) ss → AllByRecursion (RowsEndBy (length rows)) ss
all_end rows [] all = tt
all_end rows (s ∷ ss) all = (all.0.within, all_end rows ss all.1)
