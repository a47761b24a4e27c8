-- Rows taken one after another make the sequences of the rows (on specs/Building.antt).
use Rattle.addr2line_lines.proofs.Common.{ℕ, ◌≡◌, ◌+◌, ◌-◌, ◌*◌, ◌^◌, ◌<◌, ◌≤◌, ◌==◌, Bool, true, false, cond, List, [], ◌∷◌, ◌++◌, Option, Some, None, map, length, take, drop, get_or, arith, inl, inr, ◌∙◌, ap, sym, subst, refl, append_assoc, append-nil, fold, Result, Ok, Err, IfOk, AllByRecursion, cons_option, sum_by_push, option_to_list, cases_lt, ne_eqb, drop-append-le, drop-take, drop_all, get_or-drop, get_or-map, length_push, length-map, length-take-le, map_push, take-append-le, take-take, take_at, slice_get-get_or, Error, last, LineRow, NeverFalls, rows_before, Row, result_map, read_all, Sequence, stored_row, sequence_of, sequences_of, LineSequence, RowsEndBy, row_address_at, packed_rows_in, unpacked, cases_eq}
use Rattle.std.proofs.lemmas.Bool.{eq-eqb}
use Rattle.std.proofs.lemmas.List.{length-drop}
use Rattle.gimli_line.specs.Taking.{fault_after}
use Rattle.addr2line_lines.specs.Building.{Built, IsBuilder, StoredBuilt, stored_rows, stored_taken, built, closed, built_ended, has_address, nothing_built, row_taken, with_row, without_last, without_last_from}
use Rattle.addr2line_lines.specs.declared.rows.ShortRow.{ShortRow}
use Rattle.addr2line_lines.specs.StoredRows.{fits, row_of_short, shortened}
use Rattle.addr2line_lines.proofs.StoredRowLemmas.{short_is}
use Rattle.addr2line_lines.proofs.PackedLemmas.{all_push, all_same, all_within, rows_in_is}
use Rattle.addr2line_lines.proofs.SeekLemmas.{last_is}
use Rattle.addr2line_lines.proofs.RowGroupLemmas.{IsPending, ended_is, falls_back, falls_replaced, none_open, pending_more, pending_replaced, replaced}
use Rattle.addr2line_lines.proofs.Facts.{same_more}

-- what rows make of what there is
abbrev pub all_built : Built → List LineRow → Built
all_built b rows = fold row_taken b rows

-- sequences, and rows that go on
abbrev going : List Sequence → List LineRow → Built
going ss p = record { sequences = ss; pending = map stored_row p }

-- by the last element
by_last : (P : List LineRow → Type 0) → P [] → ((q : List LineRow) (a : LineRow) → P (q ++ a ∷ [])) → (p : List LineRow) → P p
by_last P none more [] = none
by_last P none more (x ∷ p) = by_last (λ ys. P (x ∷ ys)) (more [] x) (λ q a. more (x ∷ q) a) p

last_push : {X : Type 0} (xs : List X) (x : X) → last (xs ++ x ∷ []) ≡ Some x
last_push [] x = refl
last_push (y ∷ []) x = refl
last_push (y ∷ z ∷ xs) x = last_push (z ∷ xs) x

-- the rows without the last one, where that has the address
without_same : (rows : List Row) (a : Row) (m : ℕ) → a.address ≡ m → without_last m (rows ++ a ∷ []) ≡ rows
without_same rows a m e =
    ap (λ o. cond (has_address m o) (take (length (rows ++ a ∷ []) - 1) (rows ++ a ∷ [])) (rows ++ a ∷ [])) (last_push rows a)
    ∙ ap (λ b. cond b (take (length (rows ++ a ∷ []) - 1) (rows ++ a ∷ [])) (rows ++ a ∷ [])) (eq-eqb a.address m e)
    ∙ take_at rows (a ∷ []) (length (rows ++ a ∷ []) - 1) (let l = length_push rows a in omega arith)

without_other : (rows : List Row) (a : Row) (m : ℕ) → (a.address ≡ m → ⊥) → without_last m (rows ++ a ∷ []) ≡ rows ++ a ∷ []
without_other rows a m e =
    ap (λ o. cond (has_address m o) (take (length (rows ++ a ∷ []) - 1) (rows ++ a ∷ [])) (rows ++ a ∷ [])) (last_push rows a)
    ∙ ap (λ b. cond b (take (length (rows ++ a ∷ []) - 1) (rows ++ a ∷ [])) (rows ++ a ∷ [])) (ne_eqb a.address m e)

-- rows that one row more makes, and which make the same sequences
record MakesSameSequences (p : List LineRow) (r : LineRow) (rows : List LineRow) : Type 0 where
  new : List LineRow
  is : with_row (map stored_row p) r ≡ map stored_row new
  pending : IsPending new
  falls : NeverFalls (new ++ rows)
  same : sequences_of (new ++ rows) ≡ sequences_of (p ++ r ∷ rows)

goes_on : (r : LineRow) (rows : List LineRow) → r.end_sequence ≡ false → (p : List LineRow) → IsPending p → NeverFalls (p ++ r ∷ rows) → MakesSameSequences p r rows
goes_on r rows o = by_last (λ p. IsPending p → NeverFalls (p ++ r ∷ rows) → MakesSameSequences p r rows) first more
  where
    first : IsPending [] → NeverFalls (r ∷ rows) → MakesSameSequences [] r rows
    first h n = record { new = r ∷ []; is = refl; pending = record { open_ended = (o, tt); apart = tt }; falls = n; same = refl }

    more : (q : List LineRow) (a : LineRow) → IsPending (q ++ a ∷ []) → NeverFalls ((q ++ a ∷ []) ++ r ∷ rows) → MakesSameSequences (q ++ a ∷ []) r rows
    more q a h n =
        let stored : map stored_row (q ++ a ∷ []) ≡ map stored_row q ++ stored_row a ∷ [] = map_push stored_row q a in
        elim (cases_eq a.address r.address) [
          | inl e ↦ record {
            new = q ++ r ∷ [];
            is = ap (λ xs. without_last r.address xs ++ stored_row r ∷ []) stored ∙ ap (λ xs. xs ++ stored_row r ∷ []) (without_same (map stored_row q) (stored_row a) r.address e) ∙ sym (map_push stored_row q r);
            pending = pending_replaced q a r e o h;
            falls = falls_replaced q rows a r e n;
            same = ap sequences_of (append_assoc q (r ∷ []) rows) ∙ sym (replaced q rows a r h.open_ended o e);
          }
          | inr e ↦ record {
            new = (q ++ a ∷ []) ++ r ∷ [];
            is = ap (λ xs. without_last r.address xs ++ stored_row r ∷ []) stored ∙ ap (λ xs. xs ++ stored_row r ∷ []) (without_other (map stored_row q) (stored_row a) r.address e ∙ sym stored) ∙ sym (map_push stored_row (q ++ a ∷ []) r);
            pending = pending_more q a r e o h;
            falls = (let P : List LineRow → Type 0 = λ xs. NeverFalls xs in subst P (sym (append_assoc (q ++ a ∷ []) (r ∷ []) rows)) n);
            same = ap sequences_of (append_assoc (q ++ a ∷ []) (r ∷ []) rows);
          }
        ]

closed_is : (p : List LineRow) (end : LineRow) → closed (map stored_row p) end ≡ sequence_of p end
closed_is [] end = refl
closed_is (r ∷ p) end = refl

option_first : (o : Option Sequence) (ss : List Sequence) → option_to_list o ++ ss ≡ cons_option o ss
option_first None ss = refl
option_first (Some s) ss = refl

takes_end : (b : Built) (r : LineRow) → r.end_sequence ≡ true → row_taken b r ≡ built_ended b r
takes_end b r e = ap (λ t. cond t (built_ended b r) (record { sequences = b.sequences; pending = with_row b.pending r })) e

pub takes_row : (b : Built) (r : LineRow) → r.end_sequence ≡ false → row_taken b r ≡ record { sequences = b.sequences; pending = with_row b.pending r }
takes_row b r e = ap (λ t. cond t (built_ended b r) (record { sequences = b.sequences; pending = with_row b.pending r })) e

makes_more : (r : LineRow) (rows : List LineRow) (b : Bool) → r.end_sequence ≡ b
    → ((ss : List Sequence) (p : List LineRow) → IsPending p → NeverFalls (p ++ rows) → (all_built (going ss p) rows).sequences ≡ ss ++ sequences_of (p ++ rows))
    → (ss : List Sequence) (p : List LineRow) → IsPending p → NeverFalls (p ++ r ∷ rows) → (all_built (going ss p) (r ∷ rows)).sequences ≡ ss ++ sequences_of (p ++ r ∷ rows)
makes_more r rows true e again ss p h n =
    let new : List Sequence = option_to_list (closed (map stored_row p) r) in
    ap (λ b. (all_built b rows).sequences) (takes_end (going ss p) r e)
    ∙ again (ss ++ new) [] (record { open_ended = tt; apart = tt }) (falls_back p rows r n)
    ∙ append_assoc ss new (sequences_of rows)
    ∙ ap (λ xs. ss ++ xs) (ap (λ o. option_to_list o ++ sequences_of rows) (closed_is p r) ∙ option_first (sequence_of p r) (sequences_of rows) ∙ sym (ended_is p rows r h e n))
makes_more r rows false e again ss p h n =
    let g = goes_on r rows e p h n in
    ap (λ b. (all_built b rows).sequences) (takes_row (going ss p) r e ∙ ap (λ xs. record { sequences = ss; pending = xs }) g.is)
    ∙ again ss g.new g.pending g.falls
    ∙ ap (λ xs. ss ++ xs) g.same

makes : (rows : List LineRow) (ss : List Sequence) (p : List LineRow) → IsPending p → NeverFalls (p ++ rows) → (all_built (going ss p) rows).sequences ≡ ss ++ sequences_of (p ++ rows)
makes [] ss p h n = sym (ap (λ xs. ss ++ xs) (none_open p h) ∙ append-nil ss)
makes (r ∷ rows) ss p h n = makes_more r rows r.end_sequence refl (makes rows) ss p h n

pub all_taken_is : (rows : List LineRow) → NeverFalls rows → (all_built nothing_built rows).sequences ≡ sequences_of rows
all_taken_is rows n = makes rows [] [] (record { open_ended = tt; apart = tt }) n

-- the same of rows that can be read
pub taken_all : {E : Type 0} (r : Result (List LineRow) E) → IfOk r NeverFalls → result_map (λ rows. (all_built nothing_built rows).sequences) r ≡ result_map sequences_of r
taken_all (Ok rows) n = ap Ok (all_taken_is rows n)
taken_all (Err e) n = refl

-- what a builder stands for
same_built : (a b : List Sequence) (p q : List Row) → a ≡ b → p ≡ q → ◌≡◌ {A = Built} (record { sequences = a; pending = p }) (record { sequences = b; pending = q })
same_built a b p q e f = cc

module _ (rows : List Row) (ss : List LineSequence) (first : ℕ) (is : IsBuilder rows ss first) (new : List Row) where
  -- one row more
  pub built_push : (r : Row) → new ≡ rows ++ r ∷ [] → built new ss first ≡ record { sequences = map (unpacked rows) ss; pending = drop first rows ++ r ∷ [] }
  built_push r e =
      same_built _ _ _ _ (all_same rows new first ss (ap (take first) e ∙ take-append-le first rows (r ∷ []) is.upto) is.each)
      (ap (drop first) e ∙ drop-append-le first rows (r ∷ []) is.upto)

  -- fewer rows
  pub built_take : (n : ℕ) → first ≤ n → new ≡ take n rows → built new ss first ≡ record { sequences = map (unpacked rows) ss; pending = take (n - first) (drop first rows) }
  built_take n le e =
      let sum : first + (n - first) ≡ n = omega arith in
      same_built _ _ _ _ (all_same rows new first ss (ap (take first) e ∙ take-take first n rows le) is.each)
      (ap (drop first) e ∙ ap (λ m. drop first (take m rows)) (sym sum) ∙ drop-take first (n - first) rows)

  -- without the rows that go on
  pub built_dropped : new ≡ take first rows → built new ss first ≡ record { sequences = map (unpacked rows) ss; pending = [] }
  built_dropped e =
      let none : first - first ≡ 0 = omega arith in
      built_take first (omega arith) e ∙ ap (λ n. record { sequences = map (unpacked rows) ss; pending = take n (drop first rows) }) none

  -- without the last row
  pub built_without : first < length rows → new ≡ take (length rows - 1) rows → built new ss first ≡ record { sequences = map (unpacked rows) ss; pending = take (length (drop first rows) - 1) (drop first rows) }
  built_without l e =
      let len = length-drop first rows in
      let same : length rows - 1 - first ≡ length (drop first rows) - 1 = omega arith in
      built_take (length rows - 1) (omega arith) e ∙ ap (λ n. record { sequences = map (unpacked rows) ss; pending = take n (drop first rows) }) same

  -- another row in the place of the last one
  pub built_replaced : (r : Row) → first < length rows → new ≡ take (length rows - 1) rows ++ r ∷ []
      → built new ss first ≡ record { sequences = map (unpacked rows) ss; pending = take (length (drop first rows) - 1) (drop first rows) ++ r ∷ [] }
  built_replaced r l e =
      let n : ℕ = length rows - 1 in
      let short : List Row = take n rows in
      let len = length-drop first rows in
      let long = length-take-le n rows (omega arith) in
      let sum : first + (n - first) ≡ n = omega arith in
      let same : n - first ≡ length (drop first rows) - 1 = omega arith in
      same_built _ _ _ _
      (all_same rows new first ss (ap (take first) e ∙ take-append-le first short (r ∷ []) (omega arith) ∙ take-take first n rows (omega arith)) is.each)
      (ap (drop first) e ∙ drop-append-le first short (r ∷ []) (omega arith)
      ∙ ap (λ xs. xs ++ r ∷ []) (ap (λ m. drop first (take m rows)) (sym sum) ∙ drop-take first (n - first) rows ∙ ap (λ m. take m (drop first rows)) same))

  pub replaced_is : (r : Row) → first < length rows → new ≡ take (length rows - 1) rows ++ r ∷ [] → IsBuilder new ss first
  replaced_is r l e =
      let long = length-take-le (length rows - 1) rows (omega arith) in
      let all : length new ≡ length (take (length rows - 1) rows) + 1 = ap length e ∙ length_push (take (length rows - 1) rows) r in
      record { upto = omega arith; each = is.each; no_others = is.no_others }

  pub finished_is : (xs : List LineSequence) → new ≡ take first rows → xs ≡ ss → map (unpacked new) xs ≡ map (unpacked rows) ss
  finished_is xs e f = ap (map (unpacked new)) f ∙ all_same rows new first ss (ap (take first) e ∙ take-take first first rows (omega arith)) is.each

pub ended_none : (b : Built) (end : LineRow) → None ≡ closed b.pending end → ◌≡◌ {A = Built} (record { sequences = b.sequences; pending = [] }) (built_ended b end)
ended_none b end e = same_built _ _ _ _ (sym (ap (λ o. b.sequences ++ option_to_list o) (sym e) ∙ append-nil b.sequences)) refl

-- whether the last row has an address
pub ends_at_is : (rows : List Row) (first n x a : ℕ) → n ≡ length rows → first < n → x ≡ row_address_at rows (n - 1) → (x == a) ≡ has_address a (last (drop first rows))
ends_at_is rows first n x a len l is =
    let none : Row = record { address = 0; file_index = 0; line = 0; column = 0 } in
    let left = length-drop first rows in
    let place : first + (length (drop first rows) - 1) ≡ n - 1 = omega arith in
    let at : last (drop first rows) ≡ Some (get_or (drop first rows) (length (drop first rows) - 1) none) =
    last_is (drop first rows) ∙ slice_get-get_or (drop first rows) (length (drop first rows) - 1) none (omega arith) in
    let row : (get_or (drop first rows) (length (drop first rows) - 1) none).address ≡ row_address_at rows (n - 1) =
    ap (λ (r : Row). r.address) (get_or-drop first rows (length (drop first rows) - 1) none) ∙ ap (row_address_at rows) place in
    ap (λ y. y == a) (is ∙ sym row) ∙ sym (ap (has_address a) at)

-- the same by lower halves, of a row that fits beside the upper half
pub ends_at_short : (upper : ℕ) (rows : List ShortRow) (first n : ℕ) (x s : ShortRow) (r : Row) → fits upper r ≡ true → s ≡ shortened r
    → n ≡ length rows → first < n → x ≡ get_or rows (n - 1) x → (x.address == s.address) ≡ has_address r.address (last (drop first (map (row_of_short upper) rows)))
ends_at_short upper rows first n x s r fit short len l read =
    let none : Row = record { address = 0; file_index = 0; line = 0; column = 0 } in
    let whole : List Row = map (row_of_short upper) rows in
    let at : upper * 2 ^ 32 + x.address ≡ row_address_at whole (n - 1) =
    sym (ap (λ (y : Row). y.address) (get_or-map (row_of_short upper) rows (n - 1) x none (omega arith) ∙ ap (row_of_short upper) (sym read))) in
    let is : upper * 2 ^ 32 + s.address ≡ r.address = ap (λ (y : ShortRow). upper * 2 ^ 32 + y.address) short ∙ ap (λ (y : Row). y.address) (short_is upper r fit) in
    same_more (upper * 2 ^ 32) x.address s.address ∙ ap (λ k. upper * 2 ^ 32 + x.address == k) is
    ∙ ends_at_is whole first n (upper * 2 ^ 32 + x.address) r.address (len ∙ sym (length-map rows (row_of_short upper))) l at

pub without_is : (rows : List Row) (a : ℕ) → has_address a (last rows) ≡ true → without_last a rows ≡ take (length rows - 1) rows
without_is rows a e = ap (λ b. cond b (take (length rows - 1) rows) rows) e

pub same_is : (rows : List Row) (first a : ℕ) → has_address a (last (drop first rows)) ≡ true → without_last_from first a rows ≡ take (length rows - 1) rows
same_is rows first a e = ap (λ b. cond b (take (length rows - 1) rows) rows) e

pub same_none : (rows : List Row) (first a : ℕ) → has_address a (last (drop first rows)) ≡ false → without_last_from first a rows ≡ rows
same_none rows first a e = ap (λ b. cond b (take (length rows - 1) rows) rows) e

pub without_none : (rows : List Row) (a : ℕ) → has_address a (last rows) ≡ false → without_last a rows ≡ rows
without_none rows a e = ap (λ b. cond b (take (length rows - 1) rows) rows) e

pub ends_inside : (rows : List Row) (first a : ℕ) → has_address a (last (drop first rows)) ≡ true → first < length rows
ends_inside rows first a e =
    elim (cases_lt first (length rows)) [
      | inl lt ↦ lt
      | inr ge ↦ (let f : has_address a (last (drop first rows)) ≡ false = ap (λ xs. has_address a (last xs)) (drop_all first rows ge) in absurd cc)
    ]

-- a row in the place of the last one, or after it
module _ (rows : List Row) (ss : List LineSequence) (first : ℕ) (is : IsBuilder rows ss first) (new : List Row) (r : Row) (e : new ≡ without_last_from first r.address rows ++ r ∷ []) where
  pub built_put : built new ss first ≡ record { sequences = map (unpacked rows) ss; pending = without_last r.address (drop first rows) ++ r ∷ [] }
  built_put = by_test (has_address r.address (last (drop first rows))) refl
    where
      with_pending : List Row → Built
      with_pending p = record { sequences = map (unpacked rows) ss; pending = p ++ r ∷ [] }

      by_test : (b : Bool) → has_address r.address (last (drop first rows)) ≡ b → built new ss first ≡ with_pending (without_last r.address (drop first rows))
      by_test true t =
          built_replaced rows ss first is new r (ends_inside rows first r.address t) (e ∙ ap (λ (xs : List Row). xs ++ r ∷ []) (same_is rows first r.address t))
          ∙ ap with_pending (sym (without_is (drop first rows) r.address t))
      by_test false t =
          built_push rows ss first is new r (e ∙ ap (λ (xs : List Row). xs ++ r ∷ []) (same_none rows first r.address t))
          ∙ ap with_pending (sym (without_none (drop first rows) r.address t))

-- one sequence more, of all rows after the others
pub closes_is : (rows : List Row) (ss : List LineSequence) (first : ℕ) → IsBuilder rows ss first → (s : LineSequence) → s.first ≡ first → s.first + s.len ≡ length rows
    → (xs : List LineSequence) → xs ≡ ss ++ s ∷ [] → (n : ℕ) → n ≡ length rows → IsBuilder rows xs n
closes_is rows ss first is s at all xs e n len =
    let P : List LineSequence → Type 0 = λ ys. AllByRecursion (RowsEndBy n) ys in
    let upto = is.upto in let others = is.no_others in
    let more = ap packed_rows_in e ∙ sum_by_push (λ (t : LineSequence). t.len) ss s in
    record {
      upto = omega arith;
      each = subst P (sym e) (all_push (RowsEndBy n) ss s (all_within first n ss (omega arith) is.each) (omega arith));
      no_others = omega arith;
    }

-- rows that went to a builder one after another
pub read_fault : {X : Type 0} (left : List (Result X Error)) (e : Error) → fault_after left ≡ Err e → read_all left ≡ Err e
read_fault [] e h = absurd (cc (h))
read_fault (Ok x ∷ rest) e h = ap (result_map (λ xs. x ∷ xs)) (read_fault rest e h)
read_fault (Err d ∷ rest) e h = let same : d ≡ e = cc in ap Err same

pub read_whole : {X : Type 0} (left : List (Result X Error)) → fault_after left ≡ Ok tt → read_all left ≡ Ok (rows_before left)
read_whole [] h = refl
read_whole (Ok x ∷ rest) h = ap (result_map (λ xs. x ∷ xs)) (read_whole rest h)
read_whole (Err d ∷ rest) h = absurd (cc (h))

-- what is built of rows doesn't depend on how they are stored
pub stored_sequences : (b : StoredBuilt) (rows : List LineRow) → (fold stored_taken b rows).built.sequences ≡ (all_built b.built rows).sequences
stored_sequences b [] = refl
stored_sequences b (r ∷ rows) = stored_sequences (stored_taken b r) rows

-- the rows that a builder has are those that are stored
pub stored_rows_are : (rows : List Row) (ss : List LineSequence) (first : ℕ) → IsBuilder rows ss first → stored_rows (built rows ss first) ≡ length rows
stored_rows_are rows ss first is =
    let sum = rows_in_is rows ss (all_within first (length rows) ss is.upto is.each) in
    let rest = length-drop first rows in
    let upto = is.upto in let others = is.no_others in
    omega arith
