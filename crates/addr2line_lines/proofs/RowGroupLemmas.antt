-- What the rows since the last end row make of the sequences (on specs/Sequences.antt).
use Rattle.addr2line_lines.proofs.Common.{ℕ, ◌≡◌, ◌<◌, ◌||◌, ◌==◌, Bool, true, false, cond, List, [], ◌∷◌, ◌++◌, arith, ◌∙◌, ap, sym, refl, append_assoc, AllByRecursion, list_any, filter_map, cons_option, LineRow, RowGroup, put_first, row_groups, latest, sequence_of, sequence_in, sequences_of, NeverFalls, append-nil}
use Rattle.std.proofs.lemmas.Bool.{eq-eqb}
use Rattle.std.proofs.Math.Bool.{or_self_left}
use Rattle.std.proofs.Math.Numerals.{lt_of_le_of_ne}
use Rattle.addr2line_lines.proofs.Facts.{not_above}
use Rattle.addr2line_lines.proofs.RiseLemmas.{tail_of}

-- no two neighbours have one address
abbrev pub Apart : List LineRow → Type 0
Apart [] = Unit {0}
Apart (r ∷ []) = Unit {0}
Apart (r ∷ s ∷ rows) = (r.address ≡ s.address → ⊥) × Apart (s ∷ rows)

-- no end row is among the rows
abbrev pub Open : List LineRow → Type 0
Open rows = AllByRecursion (λ (r : LineRow). r.end_sequence ≡ false) rows

-- rows of a sequence that goes on
pub record IsPending (rows : List LineRow) : Type 0 where
  pub open_ended : Open rows
  pub apart : Apart rows

-- rows before those of the first group
abbrev put_all : List LineRow → List RowGroup → List RowGroup
put_all p [] = []
put_all p (s ∷ rest) = record { rows = p ++ s.rows; last = s.last } ∷ rest

put_all-cons : (r : LineRow) (p : List LineRow) (ss : List RowGroup) → put_first r (put_all p ss) ≡ put_all (r ∷ p) ss
put_all-cons r p [] = refl
put_all-cons r p (s ∷ rest) = refl

put_all-none : (ss : List RowGroup) → ss ≡ put_all [] ss
put_all-none [] = refl
put_all-none (s ∷ rest) = refl

row_groups-open : (p left : List LineRow) → Open p → row_groups (p ++ left) ≡ put_all p (row_groups left)
row_groups-open [] left o = put_all-none (row_groups left)
row_groups-open (r ∷ p) left o =
    ap (λ b. cond b (record { rows = []; last = r } ∷ row_groups (p ++ left)) (put_first r (row_groups (p ++ left)))) o.0
    ∙ ap (put_first r) (row_groups-open p left o.1) ∙ put_all-cons r p (row_groups left)

-- whether a row has the address
abbrev at : ℕ → LineRow → Bool
at m s = s.address == m

same_tests : (m : ℕ) (a r : LineRow) (q : List LineRow) → a.address ≡ r.address → list_any (at m) (a ∷ r ∷ q) ≡ list_any (at m) (r ∷ q)
same_tests m a r q e = ap (λ k. (k == m) || ((r.address == m) || list_any (at m) q)) e ∙ or_self_left (r.address == m) (list_any (at m) q)

any_without : (m : ℕ) (p q : List LineRow) (a r : LineRow) → a.address ≡ r.address → list_any (at m) (p ++ a ∷ r ∷ q) ≡ list_any (at m) (p ++ r ∷ q)
any_without m [] q a r e = same_tests m a r q e
any_without m (x ∷ p) q a r e = ap (λ b. (x.address == m) || b) (any_without m p q a r e)

latest_without : (p q : List LineRow) (a r : LineRow) → a.address ≡ r.address → latest (p ++ a ∷ r ∷ q) ≡ latest (p ++ r ∷ q)
latest_without [] q a r e = ap (λ b. cond b (latest (r ∷ q)) (a ∷ latest (r ∷ q))) (ap (λ b. b || list_any (at a.address) q) (eq-eqb r.address a.address (sym e)))
latest_without (x ∷ p) q a r e =
    ap (λ b. cond b (latest (p ++ a ∷ r ∷ q)) (x ∷ latest (p ++ a ∷ r ∷ q))) (any_without x.address p q a r e)
    ∙ ap (λ rows. cond (list_any (at x.address) (p ++ r ∷ q)) rows (x ∷ rows)) (latest_without p q a r e)

Open-append : (p q : List LineRow) → Open p → Open q → Open (p ++ q)
Open-append [] q o k = k
Open-append (r ∷ p) q o k = (o.0, Open-append p q o.1 k)

Open-front : (p q : List LineRow) → Open (p ++ q) → Open p
Open-front [] q o = tt
Open-front (r ∷ p) q o = (o.0, Open-front p q o.1)

-- a row that a later one replaces changes no sequence
pub replaced : (p left : List LineRow) (a r : LineRow) → Open (p ++ a ∷ []) → r.end_sequence ≡ false → a.address ≡ r.address → sequences_of ((p ++ a ∷ []) ++ r ∷ left) ≡ sequences_of (p ++ r ∷ left)
replaced p left a r o e same =
    ap sequences_of (append_assoc p (a ∷ []) (r ∷ left)) ∙ ap sequences_of (sym (append_assoc p (a ∷ r ∷ []) left))
    ∙ ap (filter_map sequence_in) (row_groups-open (p ++ a ∷ r ∷ []) left (Open-append p (a ∷ r ∷ []) (Open-front p (a ∷ []) o) (last_open p o, (e, tt))))
    ∙ by_cases (row_groups left)
    ∙ ap (filter_map sequence_in) (sym (row_groups-open (p ++ r ∷ []) left (Open-append p (r ∷ []) (Open-front p (a ∷ []) o) (e, tt))))
    ∙ ap sequences_of (append_assoc p (r ∷ []) left)
  where
    last_open : (xs : List LineRow) → Open (xs ++ a ∷ []) → a.end_sequence ≡ false
    last_open [] h = h.0
    last_open (x ∷ xs) h = last_open xs h.1

    by_cases : (ss : List RowGroup) → filter_map sequence_in (put_all (p ++ a ∷ r ∷ []) ss) ≡ filter_map sequence_in (put_all (p ++ r ∷ []) ss)
    by_cases [] = refl
    by_cases (s ∷ rest) =
        let e : latest ((p ++ a ∷ r ∷ []) ++ s.rows) ≡ latest ((p ++ r ∷ []) ++ s.rows) =
        ap latest (append_assoc p (a ∷ r ∷ []) s.rows) ∙ latest_without p s.rows a r same ∙ ap latest (sym (append_assoc p (r ∷ []) s.rows)) in
        ap (λ rows. cons_option (sequence_of rows s.last) (filter_map sequence_in rest)) e

pub falls_replaced : (q left : List LineRow) (a r : LineRow) → a.address ≡ r.address → NeverFalls ((q ++ a ∷ []) ++ r ∷ left) → NeverFalls ((q ++ r ∷ []) ++ left)
falls_replaced [] left a r e h = h.1
falls_replaced (x ∷ []) left a r e h = ((λ o. let k = h.0 o in omega arith), h.1.1)
falls_replaced (x ∷ y ∷ q) left a r e h = (h.0, falls_replaced (y ∷ q) left a r e h.1)

apart_more : (q : List LineRow) (a r : LineRow) → (a.address ≡ r.address → ⊥) → Apart (q ++ a ∷ []) → Apart ((q ++ a ∷ []) ++ r ∷ [])
apart_more [] a r n h = (n, tt)
apart_more (x ∷ []) a r n h = (h.0, (n, tt))
apart_more (x ∷ y ∷ q) a r n h = (h.0, apart_more (y ∷ q) a r n h.1)

apart_replaced : (q : List LineRow) (a r : LineRow) → a.address ≡ r.address → Apart (q ++ a ∷ []) → Apart (q ++ r ∷ [])
apart_replaced [] a r e h = tt
apart_replaced (x ∷ []) a r e h = ((λ k. h.0 (k ∙ sym e)), tt)
apart_replaced (x ∷ y ∷ q) a r e h = (h.0, apart_replaced (y ∷ q) a r e h.1)

pub pending_more : (q : List LineRow) (a r : LineRow) → (a.address ≡ r.address → ⊥) → r.end_sequence ≡ false → IsPending (q ++ a ∷ []) → IsPending ((q ++ a ∷ []) ++ r ∷ [])
pending_more q a r n o h = record { open_ended = Open-append (q ++ a ∷ []) (r ∷ []) h.open_ended (o, tt); apart = apart_more q a r n h.apart }

pub pending_replaced : (q : List LineRow) (a r : LineRow) → a.address ≡ r.address → r.end_sequence ≡ false → IsPending (q ++ a ∷ []) → IsPending (q ++ r ∷ [])
pending_replaced q a r e o h = record { open_ended = Open-append q (r ∷ []) (Open-front q (a ∷ []) h.open_ended) (o, tt); apart = apart_replaced q a r e h.apart }

abbrev Above : ℕ → List LineRow → Type 0
Above m rows = AllByRecursion (λ (s : LineRow). m < s.address) rows

weaker : (m n : ℕ) (p : List LineRow) → m < n → Above n p → Above m p
weaker m n [] l h = tt
weaker m n (r ∷ p) l h = (let k = h.0 in omega arith, weaker m n p l h.1)

above : (r : LineRow) (p : List LineRow) → Open (r ∷ p) → Apart (r ∷ p) → NeverFalls (r ∷ p) → Above r.address p
above r [] o a n = tt
above r (s ∷ p) o a n = let l : r.address < s.address = lt_of_le_of_ne (n.0 o.0) a.0 in (l, weaker r.address s.address p l (above s p o.1 a.1 n.1))

none_at : (m : ℕ) (p : List LineRow) → Above m p → list_any (at m) p ≡ false
none_at m [] h = refl
none_at m (s ∷ p) h = ap (λ b. b || list_any (at m) p) (not_above s.address m h.0) ∙ none_at m p h.1

latest_same : (p : List LineRow) → Open p → Apart p → NeverFalls p → latest p ≡ p
latest_same [] o a n = refl
latest_same (r ∷ p) o a n =
    ap (λ b. cond b (latest p) (r ∷ latest p)) (none_at r.address p (above r p o a n)) ∙ ap (λ rows. r ∷ rows) (latest_same p o.1 (apart_tail r p a) (tail_of r p n))
  where
    apart_tail : (r : LineRow) (p : List LineRow) → Apart (r ∷ p) → Apart p
    apart_tail r [] h = tt
    apart_tail r (s ∷ p) h = h.1

falls_front : (p left : List LineRow) → NeverFalls (p ++ left) → NeverFalls p
falls_front [] left h = tt
falls_front (r ∷ []) left h = tt
falls_front (r ∷ s ∷ p) left h = (h.0, falls_front (s ∷ p) left h.1)

pub falls_back : (p left : List LineRow) (e : LineRow) → NeverFalls (p ++ e ∷ left) → NeverFalls left
falls_back [] [] e h = tt
falls_back [] (x ∷ left) e h = h.1
falls_back (r ∷ []) left e h = falls_back [] left e h.1
falls_back (r ∷ s ∷ p) left e h = falls_back (s ∷ p) left e h.1

-- an end row closes the rows before it
pub ended_is : (p left : List LineRow) (e : LineRow) → IsPending p → e.end_sequence ≡ true → NeverFalls (p ++ e ∷ left) → sequences_of (p ++ e ∷ left) ≡ cons_option (sequence_of p e) (sequences_of left)
ended_is p left e pending is n =
    ap (filter_map sequence_in) (row_groups-open p (e ∷ left) pending.open_ended)
    ∙ ap (λ b. filter_map sequence_in (put_all p (cond b (record { rows = []; last = e } ∷ row_groups left) (put_first e (row_groups left))))) is
    ∙ ap (λ rows. cons_option (sequence_of rows e) (sequences_of left)) (ap latest (append-nil p) ∙ latest_same p pending.open_ended pending.apart (falls_front p (e ∷ left) n))

-- rows that no end row follows are dropped
pub none_open : (p : List LineRow) → IsPending p → sequences_of (p ++ []) ≡ []
none_open p pending = ap (filter_map sequence_in) (row_groups-open p [] pending.open_ended)
