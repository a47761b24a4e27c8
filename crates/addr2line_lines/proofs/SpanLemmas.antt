-- The row whose span holds a probe (on specs/Spans.antt).
use Rattle.std.proofs.Math.Nat.{le-min, min-eq_left}
use Rattle.addr2line_lines.proofs.Common.{ℕ, map, filter, ◌≡◌, ◌<◌, ◌≤◌, inl, inr, Bool, true, false, cond, ◌&&◌, List, [], ◌∷◌, Some, None, nat_le, nat_lt, arith, ◌∙◌, ap, sym, refl, find, AllByRecursion, cases_lt, Row, Sequence, end_of, last, at_or_below, if_past, le-leb, le-ltb, lt-ltb}
use Rattle.std.proofs.lemmas.Bool.{lt-leb}
use Rattle.std.specs.Option.{option_map, option_and_then}
use Rattle.addr2line_lines.specs.Rises.{Climbs, IsRising, StartsAt}
use Rattle.addr2line_lines.specs.RangesLeft.{next_spans}
use Rattle.addr2line_lines.specs.Spans.{Span, spanned, least_of, span_end, spans, span_holds, row_address, row_in, EachAddressHasRow}
use Rattle.addr2line_lines.proofs.Facts.{ended}

-- a row with the end of its span
abbrev spanning : ℕ → List Row → Row → Span
spanning end rows r = record { row = r; end = span_end end rows r }

-- rows past the probe
none_by : (probe m : ℕ) (rows : List Row) → probe < m → AllByRecursion (λ (s : Row). m < s.address) rows → at_or_below row_address probe rows ≡ []
none_by probe m [] l all = refl
none_by probe m (r ∷ rows) l all =
    ap (λ b. cond b (r ∷ at_or_below row_address probe rows) (at_or_below row_address probe rows)) (lt-leb r.address probe (let h = all.0 in omega arith)) ∙ none_by probe m rows l all.1

-- a row at or below another one doesn't end its span
low_row : (end : ℕ) (x r : Row) (rows : List Row) → x.address ≤ r.address → span_end end (x ∷ rows) r ≡ span_end end rows r
low_row end x r rows l =
    let more = filter (λ a. nat_lt r.address a) (map row_address rows) in
    ap (λ b. least_of end (cond b (x.address ∷ more) more)) (le-ltb r.address x.address l)

low_rows : (end : ℕ) (x : Row) (rows ss : List Row) → AllByRecursion (λ (s : Row). x.address < s.address) ss → map (spanning end (x ∷ rows)) ss ≡ map (spanning end rows) ss
low_rows end x rows [] all = refl
low_rows end x rows (s ∷ ss) all =
    let first : spanning end (x ∷ rows) s ≡ spanning end rows s = ap (λ e. record { row = s; end = e }) (low_row end x s rows (let h = all.0 in omega arith)) in
    cons_is _ _ _ _ first (low_rows end x rows ss all.1)
  where
    cons_is : (a b : Span) (xs ys : List Span) → a ≡ b → xs ≡ ys → a ∷ xs ≡ b ∷ ys
    cons_is a b xs ys g h = cc

-- rows above an address all end its span
all_greater : (m : ℕ) (rows : List Row) → AllByRecursion (λ (s : Row). m < s.address) rows → filter (λ a. nat_lt m a) (map row_address rows) ≡ map row_address rows
all_greater m [] all = refl
all_greater m (r ∷ rows) all =
    let more = filter (λ a. nat_lt m a) (map row_address rows) in
    ap (λ b. cond b (r.address ∷ more) more) (lt-ltb m r.address all.0) ∙ ap (λ xs. r.address ∷ xs) (all_greater m rows all.1)

least_above : (m end : ℕ) (rows : List Row) → m ≤ end → AllByRecursion (λ (s : Row). m < s.address) rows → m ≤ least_of end (map row_address rows)
least_above m end [] l all = l
least_above m end (r ∷ rows) l all = le-min (let h = all.0 in omega arith) (least_above m end rows l all.1)

first_end : (end : ℕ) (r : Row) (rows : List Row) → Climbs end (r ∷ rows) → span_end end (r ∷ rows) r ≡ least_of end (map row_address rows)
first_end end r rows up = low_row end r r rows (omega arith) ∙ ap (least_of end) (all_greater r.address rows up.1.0)

-- the spans of rows that climb
pub spans_next : (end : ℕ) (rows : List Row) → Climbs end rows → spans end rows ≡ next_spans end rows
spans_next end [] up = refl
spans_next end (r ∷ []) up = ap (λ e. record { row = r; end = e } ∷ []) (first_end end r [] up)
spans_next end (r ∷ s ∷ rows) up =
    let next : least_of end (map row_address (s ∷ rows)) ≡ s.address = min-eq_left (least_above s.address end rows up.1.1.0 up.1.1.1.0) in
    let first : span_end end (r ∷ s ∷ rows) r ≡ s.address = first_end end r (s ∷ rows) up ∙ next in
    let others : map (spanning end (r ∷ s ∷ rows)) (s ∷ rows) ≡ next_spans end (s ∷ rows) = low_rows end r (s ∷ rows) (s ∷ rows) up.1.0 ∙ spans_next end (s ∷ rows) up.1.1 in
    cons_is _ _ _ _ first others
  where
    cons_is : (a b : ℕ) (xs ys : List Span) → a ≡ b → xs ≡ ys → record { row = r; end = a } ∷ xs ≡ record { row = r; end = b } ∷ ys
    cons_is a b xs ys g h = cc

-- the row whose span holds a probe before the end is the last one at or below the probe
next_last : (probe end : ℕ) (rows : List Row) → Climbs end rows → probe < end → option_map spanned (find (span_holds probe) (next_spans end rows)) ≡ last (at_or_below row_address probe rows)
next_last probe end [] up l = refl
next_last probe end (r ∷ []) up l =
    ap (λ b. option_map spanned (cond (nat_le r.address probe && b) (Some (record { row = r; end = end })) None)) (lt-ltb probe end l) ∙ by_cases (nat_le r.address probe)
  where
    by_cases : (b : Bool) → option_map spanned (cond (b && true) (Some (record { row = r; end = end })) None) ≡ last (cond b (r ∷ []) [])
    by_cases true = refl
    by_cases false = refl
next_last probe end (r ∷ s ∷ rows) up l =
    elim (cases_lt probe s.address) [
      | inl lt ↦ before lt (next_last probe end (s ∷ rows) up.1.1 l)
      | inr ge ↦ after ge (next_last probe end (s ∷ rows) up.1.1 l)
    ]
  where
    -- the next row is past the probe, and so are all later ones
    before : probe < s.address → option_map spanned (find (span_holds probe) (next_spans end (s ∷ rows))) ≡ last (at_or_below row_address probe (s ∷ rows))
        → option_map spanned (find (span_holds probe) (next_spans end (r ∷ s ∷ rows))) ≡ last (at_or_below row_address probe (r ∷ s ∷ rows))
    before lt ih =
        let none : at_or_below row_address probe (s ∷ rows) ≡ [] =
        ap (λ b. cond b (s ∷ at_or_below row_address probe rows) (at_or_below row_address probe rows)) (lt-leb s.address probe lt) ∙ none_by probe s.address rows lt up.1.1.1.0 in
        ap (λ b. option_map spanned (cond (nat_le r.address probe && b) (Some (record { row = r; end = s.address })) (find (span_holds probe) (next_spans end (s ∷ rows))))) (lt-ltb probe s.address lt)
        ∙ by_cases (nat_le r.address probe) none (ih ∙ ap last none)
      where
        by_cases : (b : Bool) → at_or_below row_address probe (s ∷ rows) ≡ [] → option_map spanned (find (span_holds probe) (next_spans end (s ∷ rows))) ≡ None
            → option_map spanned (cond (b && true) (Some (record { row = r; end = s.address })) (find (span_holds probe) (next_spans end (s ∷ rows)))) ≡ last (cond b (r ∷ at_or_below row_address probe (s ∷ rows)) (at_or_below row_address probe (s ∷ rows)))
        by_cases true none found = sym (ap (λ rs. last (r ∷ rs)) none)
        by_cases false none found = found ∙ sym (ap last none)

    -- the next row is at or below the probe, and so is this one
    after : s.address ≤ probe → option_map spanned (find (span_holds probe) (next_spans end (s ∷ rows))) ≡ last (at_or_below row_address probe (s ∷ rows))
        → option_map spanned (find (span_holds probe) (next_spans end (r ∷ s ∷ rows))) ≡ last (at_or_below row_address probe (r ∷ s ∷ rows))
    after ge ih =
        let here : at_or_below row_address probe (s ∷ rows) ≡ s ∷ at_or_below row_address probe rows =
        ap (λ b. cond b (s ∷ at_or_below row_address probe rows) (at_or_below row_address probe rows)) (le-leb s.address probe ge) in
        let low : r.address ≤ probe = (let h = up.1.0.0 in omega arith) in
        ap (λ b. option_map spanned (cond b (Some (record { row = r; end = s.address })) (find (span_holds probe) (next_spans end (s ∷ rows))))) (ended r.address s.address probe ge)
        ∙ ih ∙ ap last here ∙ sym (ap (λ rs. last (r ∷ rs)) here)
        ∙ sym (ap (λ b. last (cond b (r ∷ at_or_below row_address probe (s ∷ rows)) (at_or_below row_address probe (s ∷ rows)))) (le-leb r.address probe low))

pub span_last : (probe end : ℕ) (rows : List Row) → Climbs end rows → probe < end → option_map spanned (find (span_holds probe) (spans end rows)) ≡ last (at_or_below row_address probe rows)
span_last probe end rows up l = ap (λ ss. option_map spanned (find (span_holds probe) ss)) (spans_next end rows up) ∙ next_last probe end rows up l

-- the row of a sequence that ends past the probe
pub row_within : (probe : ℕ) (s : Sequence) → IsRising s → probe < s.end → option_and_then (row_in probe) (if_past end_of probe s) ≡ last (at_or_below row_address probe s.rows)
row_within probe s h l = ap (λ b. option_and_then (row_in probe) (cond b (Some s) None)) (lt-ltb probe s.end l) ∙ span_last probe s.end s.rows h.rises l

some_last : (r : Row) (rows : List Row) → (x : Row) × (last (r ∷ rows) ≡ Some x)
some_last r [] = (r, refl)
some_last r (s ∷ rows) = some_last s rows

-- rows that start at or below a probe have a row at or below it
some_by : (probe start : ℕ) (rows : List Row) → StartsAt start rows → start ≤ probe → (x : Row) × (last (at_or_below row_address probe rows) ≡ Some x)
some_by probe start [] at low = absurd at
some_by probe start (r ∷ rows) at low =
    let by = at_or_below row_address probe rows in
    let x = some_last r by in
    (x.0, ap (λ b. last (cond b (r ∷ by) by)) (le-leb r.address probe (omega (arith, at))) ∙ x.1)

pub address_has_row : EachAddressHasRow
address_has_row probe s h low l =
    let x = some_by probe s.start s.rows h.starts low in
    (x.0, span_last probe s.end s.rows h.rises l ∙ x.1)
