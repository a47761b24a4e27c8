-- Ranges of inlined entries in order (on specs/InlinedOrder.antt).
use Rattle.addr2line_lines.proofs.Common.{ℕ, ◌≡◌, ◌+◌, ◌≤◌, Bool, true, false, cond, not, ◌&&◌, ◌==◌, max, nat_cmp, nat_le, nat_lt, List, [], ◌∷◌, length, map, get_or, Option, Some, None, arith, ◌∙◌, ap, sym, refl, zero, suc, AllByRecursion, IsNonDecreasingBy, IsPermutation, IsSortedBy, IsSortedByKey, ties, is_lt, ordering_then, nat_tests, recursion_from_All, ranks_by, sum_by-IsPermutation, length-filter, greatest, last, topmost, InlinedFunctionAddress, InlinedEntry, inlined_range_of, inlined_sooner, inlined_place, place_at, place_begin, place_end, places_chain, places_of_depth, places_within, begins_sooner, in_order, put, at_or_below, candidate, if_past, pick, filter-filter}
use Rattle.std.specs.Cmp.{IsStrictWeakOrder}
use Rattle.std.specs.List.{filter}
use Rattle.std.specs.Option.{option_and_then, option_map}
use Rattle.std.proofs.Math.ListN.{replicate}
use Rattle.std.proofs.lemmas.Cmp.{on_total, then_total, nat_cmp_total}
use Rattle.addr2line_lines.specs.InlinedChain.{inlined_at, inlined_begin, inlined_chain, inlined_end, inlined_within}
use Rattle.addr2line_lines.proofs.InlinedPick.{depth_ordered}
use Rattle.addr2line_lines.proofs.OrderLemmas.{begins_order, in_order_all, in_order_ordered, in_order_ties, one_order, sorted_is}
use Rattle.addr2line_lines.proofs.OrderPick.{pick_in_order}
use Rattle.addr2line_lines.proofs.SeekLemmas.{Up}
use Rattle.addr2line_lines.proofs.StoredRangeLemmas.{images_sorted}
use Rattle.addr2line_lines.proofs.Facts.{from_left, cond_swaps}

-- a list in order is one where elements that tie are the same
module _ {X : Type 0} (lt : X → X → Bool) (o : IsStrictWeakOrder lt) (one : (x y : X) → ties lt x y ≡ true → y ≡ x) where
  copies : (x : X) (xs : List X) → filter (ties lt x) xs ≡ replicate (length (filter (ties lt x) xs)) x
  copies x [] = refl
  copies x (y ∷ ys) = by_cases (ties lt x y) refl (copies x ys)
    where
      by_cases : (b : Bool) → ties lt x y ≡ b → filter (ties lt x) ys ≡ replicate (length (filter (ties lt x) ys)) x
          → cond b (y ∷ filter (ties lt x) ys) (filter (ties lt x) ys) ≡ replicate (length (cond b (y ∷ filter (ties lt x) ys) (filter (ties lt x) ys))) x
      by_cases true e rest = ap (λ z. z ∷ filter (ties lt x) ys) (one x y e) ∙ ap (λ zs. x ∷ zs) rest
      by_cases false e rest = rest

  pub permuted_is : (xs ys : List X) → IsPermutation xs ys → IsSortedBy lt ys → ys ≡ in_order lt xs
  permuted_is xs ys moved up =
      sorted_is lt o xs ys up (λ x.
      let count : length (filter (ties lt x) ys) ≡ length (filter (ties lt x) xs) = length-filter (ties lt x) ys ∙ sum_by-IsPermutation (λ y. cond (ties lt x y) 1 0) xs ys moved ∙ sym (length-filter (ties lt x) xs) in
      copies x ys ∙ ap (λ n. replicate n x) count ∙ sym (copies x xs))

-- the numbers that decide
abbrev pub Key : Type 0
Key = ℕ × ℕ × ℕ × ℕ

abbrev pub key : InlinedFunctionAddress → Key
key x = (x.depth, x.range.begin, x.range.end, x.function)

pub inlined_order : IsStrictWeakOrder inlined_sooner
inlined_order =
    ranks_by (then_total (on_total (λ (p : Key). p.0) nat_cmp_total) (then_total (on_total (λ (p : Key). p.1) nat_cmp_total) (then_total (on_total (λ (p : Key). p.2) nat_cmp_total) (on_total (λ (p : Key). p.3) nat_cmp_total)))) key

pub by_tuple : {X : Type 0} (f : X → InlinedFunctionAddress) (xs : List X)
    → IsSortedByKey (λ x. key (f x)) (λ (a b : Key). ordering_then (ordering_then (ordering_then (nat_cmp a.0 b.0) (nat_cmp a.1 b.1)) (nat_cmp a.2 b.2)) (nat_cmp a.3 b.3)) xs
    → IsSortedBy inlined_sooner (map f xs)
by_tuple f xs up = images_sorted f inlined_sooner xs (λ k d low high.
    let a = f (get_or xs (k + 1) d) in
    let b = f (get_or xs k d) in
    ap is_lt (from_left (nat_cmp a.depth b.depth) (nat_cmp a.range.begin b.range.begin) (nat_cmp a.range.end b.range.end) (nat_cmp a.function b.function)) ∙ up k d low high)

-- ranges that tie are the same
pub one_range : (x y : InlinedFunctionAddress) → ties inlined_sooner x y ≡ true → y ≡ x
one_range x y h =
    let same = of_numbers x.depth x.range.begin x.range.end x.function y.depth y.range.begin y.range.end y.function h in
    of_parts x.depth y.depth x.range.begin y.range.begin x.range.end y.range.end x.function y.function same.0 same.1 same.2 same.3
  where
    of_numbers : (a b c n d e f m : ℕ)
        → (not (is_lt (ordering_then (nat_cmp a d) (ordering_then (nat_cmp b e) (ordering_then (nat_cmp c f) (nat_cmp n m))))) && not (is_lt (ordering_then (nat_cmp d a) (ordering_then (nat_cmp e b) (ordering_then (nat_cmp f c) (nat_cmp m n)))))) ≡ true
        → (d ≡ a) × (e ≡ b) × (f ≡ c) × (m ≡ n)
    of_numbers a b c n d e f m h = (grind (arith, nat_tests), grind (arith, nat_tests), grind (arith, nat_tests), grind (arith, nat_tests))

    of_parts : (u v b c e f n m : ℕ) → v ≡ u → c ≡ b → f ≡ e → m ≡ n → ◌≡◌ {A = InlinedFunctionAddress} (record { depth = v; range = record { begin = c; end = f }; function = m }) (record { depth = u; range = record { begin = b; end = e }; function = n })
    of_parts u v b c e f n m g h k l = cc

pub length_in_order : {X : Type 0} (lt : X → X → Bool) (xs : List X) → length (in_order lt xs) ≡ length xs
length_in_order lt [] = refl
length_in_order lt (x ∷ xs) = length_put x (in_order lt xs) ∙ ap suc (length_in_order lt xs)
  where
    length_put : (y : _) (ys : List _) → length (put lt y ys) ≡ suc (length ys)
    length_put y [] = refl
    length_put y (z ∷ zs) = by_cases (lt z y) (length_put y zs)
      where
        by_cases : (b : Bool) → length (put lt y zs) ≡ suc (length zs) → length (cond b (z ∷ put lt y zs) (y ∷ z ∷ zs)) ≡ suc (suc (length zs))
        by_cases true e = ap suc e
        by_cases false e = refl

-- what passes a test stays where none of it is sooner than one before it
module _ {X : Type 0} (lt : X → X → Bool) (q : X → Bool) where
  abbrev pub NoneSooner : List X → Type 0
  NoneSooner [] = Unit {0}
  NoneSooner (x ∷ xs) = AllByRecursion (λ y. q x ≡ true → q y ≡ true → lt y x ≡ false) xs × NoneSooner xs

  put_keeps : (x : X) (ys : List X) → AllByRecursion (λ y. q x ≡ true → q y ≡ true → lt y x ≡ false) ys → filter q (put lt x ys) ≡ filter q (x ∷ ys)
  put_keeps x [] all = refl
  put_keeps x (y ∷ ys) all = by_cases (lt y x) refl (put_keeps x ys all.1)
    where
      by_cases : (b : Bool) → lt y x ≡ b → filter q (put lt x ys) ≡ filter q (x ∷ ys) → filter q (cond b (y ∷ put lt x ys) (x ∷ y ∷ ys)) ≡ filter q (x ∷ y ∷ ys)
      by_cases false e rest = refl
      by_cases true e rest = ap (λ zs. cond (q y) (y ∷ zs) zs) rest ∙ cond_swaps x y (q x) (q y) (filter q ys) (λ f g. let h = all.0 f g in cc)

  pub in_order_keeps : (xs : List X) → NoneSooner xs → filter q (in_order lt xs) ≡ filter q xs
  in_order_keeps [] h = refl
  in_order_keeps (x ∷ xs) h =
      put_keeps x (in_order lt xs) (in_order_all lt (λ y. q x ≡ true → q y ≡ true → lt y x ≡ false) xs h.0) ∙ ap (λ ys. cond (q x) (x ∷ ys) ys) (in_order_keeps xs h.1)

rising_up : {X : Type 0} (n : X → ℕ) (xs : List X) → IsNonDecreasingBy n xs → Up n xs
rising_up n [] h = tt
rising_up n (x ∷ xs) h =
    (recursion_from_All (λ y. n x ≤ n y) xs (λ k d l. h 0 (suc k) d (omega arith) (omega arith)), rising_up n xs (λ i j d le l. h (suc i) (suc j) d (omega arith) (omega arith)))

-- where places don't fall as they are listed, the ranges of a depth are in order as those of a list in order
module _ (depth : ℕ) where
  abbrev begins : InlinedFunctionAddress → InlinedFunctionAddress → Bool
  begins x y = begins_sooner place_begin place_end x y

  abbrev of_it : InlinedFunctionAddress → Bool
  of_it x = x.depth == depth

  none_sooner : (z : InlinedFunctionAddress) (xs : List InlinedFunctionAddress) → Up inlined_place xs → NoneSooner inlined_sooner (λ x. of_it x && ties begins z x) xs
  none_sooner z [] up = tt
  none_sooner z (x ∷ xs) up = (each xs up.0, none_sooner z xs up.1)
    where
      same : (g h p a b : ℕ) → (p == depth && (not (is_lt (ordering_then (nat_cmp g a) (nat_cmp h b))) && not (is_lt (ordering_then (nat_cmp a g) (nat_cmp b h))))) ≡ true → (p ≡ depth) × (a ≡ g) × (b ≡ h)
      same g h p a b e = (grind (arith, nat_tests), grind (arith, nat_tests), grind (arith, nat_tests))

      of_numbers : (p a b n q c e m : ℕ) → q ≡ p → c ≡ a → e ≡ b → n ≤ m → is_lt (ordering_then (nat_cmp q p) (ordering_then (nat_cmp c a) (ordering_then (nat_cmp e b) (nat_cmp m n)))) ≡ false
      of_numbers p a b n q c e m f g h l = grind (arith, nat_tests)

      each : (ys : List InlinedFunctionAddress) → AllByRecursion (λ y. inlined_place x ≤ inlined_place y) ys → AllByRecursion (λ y. (of_it x && ties begins z x) ≡ true → (of_it y && ties begins z y) ≡ true → inlined_sooner y x ≡ false) ys
      each [] all = tt
      each (y ∷ ys) all = (
        (λ e f.
            let s = same z.range.begin z.range.end x.depth x.range.begin x.range.end e in
            let t = same z.range.begin z.range.end y.depth y.range.begin y.range.end f in
            of_numbers x.depth x.range.begin x.range.end x.function y.depth y.range.begin y.range.end y.function (t.0 ∙ sym s.0) (t.1 ∙ sym s.1) (t.2 ∙ sym s.2) all.0),
        each ys all.1,
      )

  depth_in_order : (xs : List InlinedFunctionAddress) → IsNonDecreasingBy inlined_place xs → places_of_depth depth (in_order inlined_sooner xs) ≡ in_order begins (places_of_depth depth xs)
  depth_in_order xs up =
      let o = begins_order place_begin place_end in
      one_order begins o _ _ (depth_ordered depth (in_order inlined_sooner xs) (in_order_ordered inlined_sooner inlined_order xs)) (in_order_ordered begins o (places_of_depth depth xs))
      (λ z. filter-filter of_it (ties begins z) (in_order inlined_sooner xs) ∙ in_order_keeps inlined_sooner (λ x. of_it x && ties begins z x) xs (none_sooner z xs (rising_up inlined_place xs up))
      ∙ sym (filter-filter of_it (ties begins z) xs) ∙ sym (in_order_ties begins o z (places_of_depth depth xs)))

  pub place_in_order : (probe : ℕ) (xs : List InlinedFunctionAddress) → IsNonDecreasingBy inlined_place xs → place_at probe depth (in_order inlined_sooner xs) ≡ place_at probe depth xs
  place_in_order probe xs up = ap (λ ys. option_map inlined_place (pick place_begin place_end probe ys)) (depth_in_order xs up) ∙ ap (option_map inlined_place) (pick_in_order place_begin place_end probe (places_of_depth depth xs))

-- so they give the same chain
pub within_in_order : (n probe depth : ℕ) (xs : List InlinedFunctionAddress) → IsNonDecreasingBy inlined_place xs → places_within n probe depth (in_order inlined_sooner xs) ≡ places_within n probe depth xs
within_in_order zero probe depth xs up = refl
within_in_order (suc n) probe depth xs up =
    ap (λ (o : Option ℕ). elim o [ None ↦ [] | Some x ↦ x ∷ places_within n probe (depth + 1) (in_order inlined_sooner xs) ]) (place_in_order depth probe xs up)
    ∙ ap (λ (rest : List ℕ). elim (place_at probe depth xs) [ None ↦ [] | Some x ↦ x ∷ rest ]) (within_in_order n probe (depth + 1) xs up)

pub chain_in_order : (probe : ℕ) (xs : List InlinedFunctionAddress) → IsNonDecreasingBy inlined_place xs → places_chain probe (in_order inlined_sooner xs) ≡ places_chain probe xs
chain_in_order probe xs up = ap (λ n. places_within n probe 0 (in_order inlined_sooner xs)) (length_in_order inlined_sooner xs) ∙ within_in_order (length xs) probe 0 xs up

-- what is picked of images is the image of what is picked
module _ {X Y : Type 0} (f : X → Y) where
  filter-map : (p : Y → Bool) (xs : List X) → filter p (map f xs) ≡ map f (filter (λ x. p (f x)) xs)
  filter-map p [] = refl
  filter-map p (x ∷ xs) = by_cases (p (f x)) (filter-map p xs)
    where
      by_cases : (b : Bool) → filter p (map f xs) ≡ map f (filter (λ y. p (f y)) xs) → cond b (f x ∷ filter p (map f xs)) (filter p (map f xs)) ≡ map f (cond b (x ∷ filter (λ y. p (f y)) xs) (filter (λ y. p (f y)) xs))
      by_cases true e = ap (λ ys. f x ∷ ys) e
      by_cases false e = e

  greatest-map : (n : Y → ℕ) (xs : List X) → greatest n (map f xs) ≡ greatest (λ x. n (f x)) xs
  greatest-map n [] = refl
  greatest-map n (x ∷ xs) = ap (λ k. max (n (f x)) k) (greatest-map n xs)

  topmost-map : (n : Y → ℕ) (xs : List X) → topmost n (map f xs) ≡ map f (topmost (λ x. n (f x)) xs)
  topmost-map n xs = filter-map (λ y. n y == greatest n (map f xs)) xs ∙ ap (λ k. map f (filter (λ x. n (f x) == k) xs)) (greatest-map n xs)

  last-map : (xs : List X) → last (map f xs) ≡ option_map f (last xs)
  last-map [] = refl
  last-map (x ∷ []) = refl
  last-map (x ∷ y ∷ xs) = last-map (y ∷ xs)

  module _ (begin end : Y → ℕ) (probe : ℕ) where
    candidate-map : (xs : List X) → candidate begin end probe (map f xs) ≡ option_map f (candidate (λ x. begin (f x)) (λ x. end (f x)) probe xs)
    candidate-map xs =
        let low = at_or_below (λ x. begin (f x)) probe xs in
        ap (λ ys. last (topmost end (topmost begin ys))) (filter-map (λ y. nat_le (begin y) probe) xs) ∙ ap (λ ys. last (topmost end ys)) (topmost-map begin low)
        ∙ ap last (topmost-map end (topmost (λ x. begin (f x)) low)) ∙ last-map (topmost (λ x. end (f x)) (topmost (λ x. begin (f x)) low))

    past-map : (o : Option X) → option_and_then (if_past end probe) (option_map f o) ≡ option_map f (option_and_then (if_past (λ x. end (f x)) probe) o)
    past-map None = refl
    past-map (Some x) = by_cases (nat_lt probe (end (f x)))
      where
        by_cases : (b : Bool) → cond b (Some (f x)) None ≡ option_map f (cond b (Some x) None)
        by_cases true = refl
        by_cases false = refl

    pub pick-map : (xs : List X) → pick begin end probe (map f xs) ≡ option_map f (pick (λ x. begin (f x)) (λ x. end (f x)) probe xs)
    pick-map xs = ap (option_and_then (if_past end probe)) (candidate-map xs) ∙ past-map (candidate (λ x. begin (f x)) (λ x. end (f x)) probe xs)

-- the chain of ranges by their entries is that of the entries of their places
module _ (entry_of : ℕ → InlinedEntry) (probe : ℕ) (xs : List InlinedFunctionAddress) where
  at_by_entries : (depth : ℕ) → inlined_at probe depth (map (inlined_range_of entry_of) xs) ≡ option_map (inlined_range_of entry_of) (pick place_begin place_end probe (places_of_depth depth xs))
  at_by_entries depth =
      ap (pick inlined_begin inlined_end probe) (filter-map (inlined_range_of entry_of) (λ x. x.depth == depth) xs) ∙ pick-map (inlined_range_of entry_of) inlined_begin inlined_end probe (places_of_depth depth xs)

  within_by_entries : (n depth : ℕ) → inlined_within n probe depth (map (inlined_range_of entry_of) xs) ≡ map entry_of (places_within n probe depth xs)
  within_by_entries zero depth = refl
  within_by_entries (suc n) depth =
      ap (λ o. elim o [ None ↦ [] | Some x ↦ x.entry ∷ inlined_within n probe (depth + 1) (map (inlined_range_of entry_of) xs) ]) (at_by_entries depth)
      ∙ by_cases (within_by_entries n (depth + 1)) (pick place_begin place_end probe (places_of_depth depth xs))
    where
      by_cases : inlined_within n probe (depth + 1) (map (inlined_range_of entry_of) xs) ≡ map entry_of (places_within n probe (depth + 1) xs) → (o : Option InlinedFunctionAddress)
          → elim (option_map (inlined_range_of entry_of) o) [ None ↦ [] | Some x ↦ x.entry ∷ inlined_within n probe (depth + 1) (map (inlined_range_of entry_of) xs) ]
          ≡ map entry_of (elim (option_map inlined_place o) [ None ↦ [] | Some x ↦ x ∷ places_within n probe (depth + 1) xs ])
      by_cases e None = refl
      by_cases e (Some x) = ap (λ rest. entry_of x.function ∷ rest) e

  length_by_entries : (ys : List InlinedFunctionAddress) → length (map (inlined_range_of entry_of) ys) ≡ length ys
  length_by_entries [] = refl
  length_by_entries (y ∷ ys) = ap suc (length_by_entries ys)

  pub chain_by_entries : inlined_chain probe (map (inlined_range_of entry_of) xs) ≡ map entry_of (places_chain probe xs)
  chain_by_entries = ap (λ n. inlined_within n probe 0 (map (inlined_range_of entry_of) xs)) (length_by_entries xs) ∙ within_by_entries (length xs) 0

-- the chain of ranges as they are listed, by those in order
pub listed_chain : (entry_of : ℕ → InlinedEntry) (probe : ℕ) (listed ranges : List InlinedFunctionAddress) → IsNonDecreasingBy inlined_place listed → ranges ≡ in_order inlined_sooner listed
    → map entry_of (places_chain probe ranges) ≡ inlined_chain probe (map (inlined_range_of entry_of) listed)
listed_chain entry_of probe listed ranges up e =
    ap (λ ys. map entry_of (places_chain probe ys)) e ∙ ap (map entry_of) (chain_in_order probe listed up) ∙ sym (chain_by_entries entry_of probe listed)
