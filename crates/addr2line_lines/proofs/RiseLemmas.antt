-- Sequences rise (on specs/Rises.antt).
use Rattle.addr2line_lines.proofs.Common.{ℕ, ◌≡◌, ◌<◌, ◌≤◌, ◌&&◌, ◌==◌, not, Bool, true, false, cond, List, [], ◌∷◌, map, arith, ap, sym, subst, refl, nat_lt, Some, None, Result, Ok, Err, IfOk, nat_tests, AllByRecursion, list_any, filter_map, cons_option, LineRow, Row, result_map, RowGroup, Sequence, put_first, row_groups, latest, stored_row, sequence_of, sequence_in, sequences_of, NeverFalls, or_parts}
use Rattle.gimli_line.proofs.Rising.{NextFrom}
use Rattle.addr2line_lines.specs.Rises.{Climbs, IsRising, SequencesRise}

abbrev From : ℕ → List LineRow → Type 0
From m rows = AllByRecursion (λ (s : LineRow). m ≤ s.address) rows

abbrev Past : ℕ → List LineRow → Type 0
Past m rows = AllByRecursion (λ (s : LineRow). m < s.address) rows

-- rows of one sequence, none above its end
abbrev Walks : ℕ → List LineRow → Type 0
Walks end [] = Unit {0}
Walks end (r ∷ rows) = (r.address ≤ end) × (From r.address rows × Walks end rows)

abbrev AllWalk : List RowGroup → Type 0
AllWalk ss = AllByRecursion (λ (s : RowGroup). Walks s.last.address s.rows) ss

abbrev Low : ℕ → List RowGroup → Type 0
Low m [] = Unit {0}
Low m (s ∷ ss) = (m ≤ s.last.address) × From m s.rows

weaken : (m n : ℕ) (rows : List LineRow) → m ≤ n → From n rows → From m rows
weaken m n [] l h = tt
weaken m n (r ∷ rows) l h = (let k = h.0 in omega arith, weaken m n rows l h.1)

low_first : (r : LineRow) (ss : List RowGroup) (m : ℕ) → m ≤ r.address → Low r.address ss → Low m (put_first r ss)
low_first r [] m l h = tt
low_first r (s ∷ ss) m l h = (let k = h.0 in omega arith, (l, weaken m r.address s.rows l h.1))

walks_first : (r : LineRow) (ss : List RowGroup) → Low r.address ss → AllWalk ss → AllWalk (put_first r ss)
walks_first r [] l h = tt
walks_first r (s ∷ ss) l h = ((l.0, (l.1, h.0)), h.1)

pub tail_of : (r : LineRow) (rows : List LineRow) → NeverFalls (r ∷ rows) → NeverFalls rows
tail_of r [] n = tt
tail_of r (s ∷ rows) n = n.1

next_of : (r : LineRow) (rows : List LineRow) → r.end_sequence ≡ false → NeverFalls (r ∷ rows) → NextFrom r.address rows
next_of r [] o n = tt
next_of r (s ∷ rows) o n = n.0 o

walk : (rows : List LineRow) → NeverFalls rows → AllWalk (row_groups rows) × ((m : ℕ) → NextFrom m rows → Low m (row_groups rows))
walk [] n = (tt, λ m h. tt)
walk (r ∷ rows) n = by_cases (walk rows (tail_of r rows n)) r.end_sequence refl
  where
    by_cases : AllWalk (row_groups rows) × ((m : ℕ) → NextFrom m rows → Low m (row_groups rows)) → (b : Bool) → r.end_sequence ≡ b → AllWalk (row_groups (r ∷ rows)) × ((m : ℕ) → NextFrom m (r ∷ rows) → Low m (row_groups (r ∷ rows)))
    by_cases ih true e =
        let is : row_groups (r ∷ rows) ≡ record { rows = []; last = r } ∷ row_groups rows = ap (λ b. cond b (record { rows = []; last = r } ∷ row_groups rows) (put_first r (row_groups rows))) e in
        (subst AllWalk (sym is) (tt, ih.0), λ m h. (let P : List RowGroup → Type 0 = λ ss. Low m ss in subst P (sym is) (h, tt)))
    by_cases ih false e =
        let is : row_groups (r ∷ rows) ≡ put_first r (row_groups rows) = ap (λ b. cond b (record { rows = []; last = r } ∷ row_groups rows) (put_first r (row_groups rows))) e in
        let low : Low r.address (row_groups rows) = ih.1 r.address (next_of r rows e n) in
        (subst AllWalk (sym is) (walks_first r (row_groups rows) low ih.0), λ m h. (let P : List RowGroup → Type 0 = λ ss. Low m ss in subst P (sym is) (low_first r (row_groups rows) m h low)))

past_latest : (m : ℕ) (rows : List LineRow) → Past m rows → Past m (latest rows)
past_latest m [] h = tt
past_latest m (r ∷ rows) h = by_cases (past_latest m rows h.1) (list_any (λ (s : LineRow). s.address == r.address) rows)
  where
    by_cases : Past m (latest rows) → (b : Bool) → Past m (cond b (latest rows) (r ∷ latest rows))
    by_cases ih true = ih
    by_cases ih false = (h.0, ih)

none_same : (m : ℕ) (rows : List LineRow) → From m rows → list_any (λ (s : LineRow). s.address == m) rows ≡ false → Past m rows
none_same m [] h e = tt
none_same m (r ∷ rows) h e = (over h.0 (or_parts _ _ e).0, none_same m rows h.1 (or_parts _ _ e).1)
  where
    over : {x y : ℕ} → x ≤ y → (y == x) ≡ false → x < y
    over {x} {y} l d = grind (arith, nat_tests)

past_kept : (m : ℕ) (rows : List LineRow) → Past m rows → AllByRecursion (λ (s : Row). m < s.address) (map stored_row rows)
past_kept m [] h = tt
past_kept m (r ∷ rows) h = (h.0, past_kept m rows h.1)

climb : (end : ℕ) (rows : List LineRow) → Walks end rows → Climbs end (map stored_row (latest rows))
climb end [] h = tt
climb end (r ∷ rows) h = by_cases (climb end rows h.1.1) (list_any (λ (s : LineRow). s.address == r.address) rows) refl
  where
    by_cases : Climbs end (map stored_row (latest rows)) → (b : Bool) → list_any (λ (s : LineRow). s.address == r.address) rows ≡ b → Climbs end (map stored_row (cond b (latest rows) (r ∷ latest rows)))
    by_cases ih true e = ih
    by_cases ih false e = (h.0, (past_kept r.address (latest rows) (past_latest r.address rows (none_same r.address rows h.1.0 e)), ih))

add_rising : (rows : List LineRow) (end : LineRow) (ss : List Sequence) → Climbs end.address (map stored_row rows) → AllByRecursion IsRising ss → AllByRecursion IsRising (cons_option (sequence_of rows end) ss)
add_rising [] end ss c h = h
add_rising (r ∷ rows) end ss c h = by_cases (not end.dropped && nat_lt r.address end.address) refl
  where
    by_cases : (b : Bool) → (not end.dropped && nat_lt r.address end.address) ≡ b → AllByRecursion IsRising (cons_option (cond b (Some (record { start = r.address; end = end.address; rows = map stored_row (r ∷ rows) })) None) ss)
    by_cases true e = (record { starts = refl; rises = c; below = is_below (not end.dropped) e }, h)
      where
        is_below : {x y : ℕ} (d : Bool) → (d && nat_lt x y) ≡ true → x < y
        is_below {x} {y} d k = grind (arith, nat_tests)
    by_cases false e = h

all_rising : (ss : List RowGroup) → AllWalk ss → AllByRecursion IsRising (filter_map sequence_in ss)
all_rising [] h = tt
all_rising (s ∷ ss) h = add_rising (latest s.rows) s.last (filter_map sequence_in ss) (climb s.last.address s.rows h.0) (all_rising ss h.1)

pub sequences_rising : SequencesRise
sequences_rising rows n = all_rising (row_groups rows) (walk rows n).0

pub rising_of : {E : Type 0} (r : Result (List LineRow) E) (ss : List Sequence) → IfOk r NeverFalls → result_map sequences_of r ≡ Ok ss → AllByRecursion IsRising ss
rising_of (Err e) ss n is = cc
rising_of (Ok rows) ss n is = let e : sequences_of rows ≡ ss = cc in subst (AllByRecursion IsRising) e (sequences_rising rows n)
