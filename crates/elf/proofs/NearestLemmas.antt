-- Which symbol a probe means, in a sorted table and in the file's own order (on
-- specs/Symbols.antt and specs/SymbolTable.antt).
use Rattle.elf.proofs.Common.{ℕ, zero, suc, ◌≡◌, ◌<◌, ◌≤◌, ◌⊎◌, Bool, true, false, cond, not, ◌&&◌, List, [], ◌∷◌, Some, None, length, filter, get_or, nat_cmp, nat_le, ◌==◌, arith, inl, inr, ◌∙◌, subst, ap, sym, refl, All, AllWithin, nat_tests, get_or_default, SymbolEntry, preference, nearest_symbol, precedes, IsSymbolTable, IsBelow, IsAbove}
use Rattle.std.specs.Cmp.{IsStrictWeakOrder}
use Rattle.std.specs.Ordering.{is_lt, ordering_then}
use Rattle.std.specs.List.{slice_get}
use Rattle.std.specs.List.Sorted.{ties, IsNonDecreasingBy}
use Rattle.std.proofs.lemmas.Cmp.{on_total, then_total, nat_cmp_total}
use Rattle.std.proofs.lemmas.List.Elements.{All-head, All-tail, filter_agree}
use Rattle.std.proofs.lemmas.List.Sorted.{sorted_far, ranks_by}
use Rattle.std.proofs.lemmas.Option.{get_or_from_slice_get}
use Rattle.gimli_read.specs.Topmost.{greatest, topmost, last}
use Rattle.gimli_read.proofs.TopmostLemmas.{In, In-last, In-filter, In-passes, All-passing, filter-filter, greatest_is, last-cond}

module _ {X : Type 0} where
  In-get : (xs : List X) (k : ℕ) (d : X) → k < length xs → In (get_or xs k d) xs
  In-get [] k d l = absurd (omega arith)
  In-get (x ∷ xs) zero d l = inl refl
  In-get (x ∷ xs) (suc k) d l = inr (In-get xs k d (omega arith))

  -- an element has a place
  In-place : (xs : List X) (x : X) → In x xs → (k : ℕ) × (k < length xs) × (get_or xs k x ≡ x)
  In-place [] x h = absurd h
  In-place (y ∷ ys) x h = elim h [ inl e ↦ (0, omega arith, e) | inr i ↦ (let p = In-place ys x i in (suc p.0, (let l : p.0 < length ys = p.1 in omega arith), p.2)) ]

  -- what is true of each element by its being one
  All-in : (P : X → Type 0) (xs : List X) → ((x : X) → In x xs → P x) → All P xs
  All-in P xs h k d l = h (get_or xs k d) (In-get xs k d l)

  filter_none : (p : X → Bool) (xs : List X) → All (λ x. p x ≡ false) xs → filter p xs ≡ []
  filter_none p [] all = refl
  filter_none p (x ∷ xs) all =
      ap (λ b. cond b (x ∷ filter p xs) (filter p xs)) (All-head (λ (y : X). p y ≡ false) x xs all) ∙ filter_none p xs (All-tail (λ (y : X). p y ≡ false) x xs all)

  -- the last element that passes
  last_passing : (p : X → Bool) (xs : List X) (n : ℕ) (z : X) → slice_get xs n ≡ Some z → p z ≡ true → AllWithin (λ x. p x ≡ false) xs (suc n) (length xs) → last (filter p xs) ≡ Some z
  last_passing p [] n z e t h = absurd cc
  last_passing p (x ∷ xs) zero z e t h =
      let same : x ≡ z = cc in
      let none : filter p xs ≡ [] = filter_none p xs (λ k d l. h (suc k) d (omega arith) (omega arith)) in
      ap (λ b. last (cond b (x ∷ filter p xs) (filter p xs))) (ap p same ∙ t) ∙ ap (λ ys. last (x ∷ ys)) none ∙ ap Some same
  last_passing p (x ∷ xs) (suc n) z e t h = last-cond (p x) x z (filter p xs) (last_passing p xs n z e t (λ k d a b. h (suc k) d (omega arith) (omega arith)))

-- x is at a lower address than z, or at the same one and not preferred to it
abbrev IsBefore : SymbolEntry → SymbolEntry → Type 0
IsBefore z x = (x.address < z.address) ⊎ ((x.address ≡ z.address) × (preference x ≤ preference z))

-- x is where z is, and neither is preferred
abbrev is_tied : SymbolEntry → SymbolEntry → Bool
is_tied z x = x.address == z.address && preference x == preference z

address_le : (z x : SymbolEntry) → IsBefore z x → x.address ≤ z.address
address_le z x h = elim h [ inl lt ↦ omega arith | inr e ↦ (let f = e.0 in omega arith) ]

preference_le : (z x : SymbolEntry) → x.address ≡ z.address → IsBefore z x → preference x ≤ preference z
preference_le z x e h = elim h [ inl lt ↦ absurd (omega arith) | inr i ↦ i.1 ]

-- z counts where each symbol is above the probe or before z, and z is the last of those that tie
-- with it
counting : (probe : ℕ) (xs : List SymbolEntry) (z : SymbolEntry) → All (λ x. (probe < x.address) ⊎ IsBefore z x) xs → z.address ≤ probe → last (filter (is_tied z) xs) ≡ Some z → nearest_symbol probe xs ≡ Some z
unfolding nearest_symbol
counting probe xs z all low is =
    let below : SymbolEntry → Bool = λ x. nat_le x.address probe in
    let bs = filter below xs in
    let i = In-filter (is_tied z) xs z (In-last (filter (is_tied z) xs) z is) in
    let before : All (IsBefore z) bs = All-passing (λ x. (probe < x.address) ⊎ IsBefore z x) (IsBefore z) below (λ x t h. elim h [ inl past ↦ absurd (grind (arith, nat_tests)) | inr b ↦ b ]) xs all in
    let inb : In z bs = In-passes below xs z i.0 (grind (arith, nat_tests)) in
    let B : greatest (λ (x : SymbolEntry). x.address) bs ≡ z.address = greatest_is (λ (x : SymbolEntry). x.address) bs z (λ k d l. address_le z (get_or bs k d) (before k d l)) inb in
    let here : SymbolEntry → Bool = λ x. x.address == z.address in
    let ts = filter here bs in
    let T : topmost (λ (x : SymbolEntry). x.address) bs ≡ ts = ap (λ (n : ℕ). filter (λ (x : SymbolEntry). x.address == n) bs) B in
    let later : All (λ x. preference x ≤ preference z) ts = All-passing (IsBefore z) (λ x. preference x ≤ preference z) here (λ x t h. preference_le z x (grind (arith, nat_tests)) h) bs before in
    let int : In z ts = In-passes here bs z inb (grind (arith, nat_tests)) in
    let E : greatest preference ts ≡ preference z = greatest_is preference ts z later int in
    let S : topmost preference ts ≡ filter (λ x. preference x == preference z) ts = ap (λ (n : ℕ). filter (λ (x : SymbolEntry). preference x == n) ts) E in
    let R : filter (λ x. preference x == preference z) ts ≡ filter (is_tied z) xs =
    filter-filter here (λ x. preference x == preference z) bs ∙ filter-filter below (is_tied z) xs ∙ filter_agree (λ x. below x && is_tied z x) (is_tied z) (λ x. agrees x.address z.address probe (preference x == preference z) low) xs in
    ap (λ (ys : List SymbolEntry). last (topmost preference ys)) T ∙ ap last (S ∙ R) ∙ is
  where
    agrees : (a b p : ℕ) (t : Bool) → b ≤ p → (nat_le a p && (a == b && t)) ≡ (a == b && t)
    agrees a b p t h = grind (arith, nat_tests)

-- none counts where each symbol is above the probe
counting_none : (probe : ℕ) (xs : List SymbolEntry) → All (IsAbove probe) xs → nearest_symbol probe xs ≡ None
unfolding nearest_symbol
counting_none probe xs all = ap (λ (ys : List SymbolEntry). last (topmost preference (topmost (λ (x : SymbolEntry). x.address) ys))) (filter_none (λ (x : SymbolEntry). nat_le x.address probe) xs all)

-- the order of a table is one
order : IsStrictWeakOrder precedes
order = ranks_by (then_total (on_total (λ (p : ℕ × ℕ). p.0) nat_cmp_total) (on_total (λ (p : ℕ × ℕ). p.1) nat_cmp_total)) (λ (e : SymbolEntry). (e.address, preference e))

before_from : (a p b q : ℕ) → is_lt (ordering_then (nat_cmp a b) (nat_cmp p q)) ≡ false → (b < a) ⊎ ((b ≡ a) × (q ≤ p))
before_from a p b q e = grind (arith, nat_tests)

tied_from : (a p b q : ℕ) → (not (is_lt (ordering_then (nat_cmp a b) (nat_cmp p q))) && not (is_lt (ordering_then (nat_cmp b a) (nat_cmp q p)))) ≡ (b == a && q == p)
tied_from a p b q = grind (arith, nat_tests)

ties_are : (z x : SymbolEntry) → ties precedes z x ≡ is_tied z x
ties_are z x = tied_from z.address (preference z) x.address (preference x)

tied_itself : (z : SymbolEntry) → is_tied z z ≡ true
tied_itself z = itself z.address (preference z)
  where
    itself : (a p : ℕ) → (a == a && p == p) ≡ true
    itself a p = grind (arith, nat_tests)

-- a symbol of the file is in the table
in_table : (symbols table : List SymbolEntry) → IsSymbolTable symbols table → (x : SymbolEntry) → In x symbols → In x table
in_table symbols table is x h =
    let t : ties precedes x x ≡ true = ties_are x x ∙ tied_itself x in
    (In-filter (ties precedes x) table x (subst (In x) (sym (is.stable x)) (In-passes (ties precedes x) symbols x h t))).0

-- no symbol counts where the whole table is above the probe
pub nearest_none : (symbols table : List SymbolEntry) (probe : ℕ) → IsSymbolTable symbols table → AllWithin (IsAbove probe) table 0 (length table) → None ≡ nearest_symbol probe symbols
nearest_none symbols table probe is above =
    let each : (x : SymbolEntry) → In x symbols → IsAbove probe x = λ x h. (
    let p = In-place table x (in_table symbols table is x h) in
    let P : SymbolEntry → Type 0 = IsAbove probe in
    subst P p.2 (above p.0 x (omega arith) p.1)) in
    sym (counting_none probe symbols (All-in (IsAbove probe) symbols each))

-- the last symbol of the table at or below the probe counts
pub nearest_is : (symbols table : List SymbolEntry) (probe n : ℕ) (z : SymbolEntry) → IsSymbolTable symbols table → n < length table → slice_get table n ≡ Some z → AllWithin (IsBelow probe) table 0 (suc n) → AllWithin (IsAbove probe) table (suc n) (length table) → Some z ≡ nearest_symbol probe symbols
nearest_is symbols table probe n z is less e below above =
    let here : get_or table n z ≡ z = get_or_from_slice_get table n z z e in
    let P : SymbolEntry → Type 0 = IsBelow probe in
    let low : z.address ≤ probe = reach z.address (subst P here (below n z (omega arith) (omega arith))) in
    let each : (x : SymbolEntry) → In x symbols → (probe < x.address) ⊎ IsBefore z x = λ x h. (
    let p = In-place table x (in_table symbols table is x h) in
    place x p.0 p.1 p.2 here) in
    let tie : filter (is_tied z) symbols ≡ filter (is_tied z) table =
    sym (filter_agree (ties precedes z) (is_tied z) (ties_are z) symbols) ∙ sym (is.stable z) ∙ filter_agree (ties precedes z) (is_tied z) (ties_are z) table in
    let end : last (filter (is_tied z) table) ≡ Some z =
    last_passing (is_tied z) table n z e (tied_itself z) (λ k d a b. past z.address (get_or table k d).address (preference (get_or table k d) == preference z) low (above k d a b)) in
    sym (counting probe symbols z (All-in (λ x. (probe < x.address) ⊎ IsBefore z x) symbols each) low (ap last tie ∙ end))
  where
    reach : (a : ℕ) → nat_le a probe ≡ true → a ≤ probe
    reach a t = grind (arith, nat_tests)

    beyond : (a : ℕ) → nat_le a probe ≡ false → probe < a
    beyond a t = grind (arith, nat_tests)

    past : (a b : ℕ) (t : Bool) → a ≤ probe → nat_le b probe ≡ false → (b == a && t) ≡ false
    past a b t l h = grind (arith, nat_tests)

    place : (x : SymbolEntry) (k : ℕ) → k < length table → get_or table k x ≡ x → get_or table n z ≡ z → (probe < x.address) ⊎ IsBefore z x
    place x k l at here = by_cases (nat_le k n) refl
      where
        by_cases : (b : Bool) → nat_le k n ≡ b → (probe < x.address) ⊎ IsBefore z x
        by_cases true t =
            let up : precedes (get_or table n z) (get_or table k z) ≡ false = sorted_far precedes order table is.sorted k n z (grind (arith, nat_tests)) less in
            let same : get_or table k z ≡ x = get_or_default table k z x l ∙ at in
            let up' : precedes z x ≡ false = rw (here, same) at up in
            inr (before_from z.address (preference z) x.address (preference x) up')
        by_cases false t =
            let Q : SymbolEntry → Type 0 = IsAbove probe in
            inl (beyond x.address (subst Q at (above k x (grind (arith, nat_tests)) l)))

-- a sorted table rises by address
pub rises : (symbols table : List SymbolEntry) → IsSymbolTable symbols table → IsNonDecreasingBy (λ (e : SymbolEntry). e.address) table
rises symbols table is i j d le lt =
    let up = sorted_far precedes order table is.sorted i j d le lt in
    let at = before_from (get_or table j d).address (preference (get_or table j d)) (get_or table i d).address (preference (get_or table i d)) up in
    elim at [ inl l ↦ omega arith | inr e ↦ (let same = e.0 in omega arith) ]
