-- The shortest of the ranges that hold an address (on specs/Shortest.antt).
use Rattle.addr2line_lines.proofs.Common.{ℕ, ◌≡◌, ◌<◌, ◌≤◌, ◌⊎◌, ◌&&◌, ◌==◌, Bool, true, false, min, nat_le, nat_lt, List, [], ◌∷◌, Option, Some, None, arith, inl, inr, ◌∙◌, ap, sym, refl, All, eqb-true, nat_tests, recursion_from_All, IsDisjoint, In, In-filter, In-passes}
use Rattle.std.proofs.lemmas.Bool.{eq-eqb}
use Rattle.addr2line_lines.specs.Shortest.{first_listed, holding, holds, least, lowest, range_length, shortest, IsNoLonger, LoneIsShortest, NoneIsShorter}
use Rattle.addr2line_lines.proofs.LonePick.{from_contains, lone_is_picked}
use Rattle.addr2line_lines.proofs.OrderLemmas.{All-in}
use Rattle.addr2line_lines.proofs.Facts.{inside}

module _ {X : Type 0} (f : X → ℕ) where
  least_le : (xs : List X) (z : X) → In z xs → least f xs ≤ f z
  least_le [] z h = absurd h
  least_le (x ∷ []) z h = elim h [ inl e ↦ (let e' : f x ≡ f z = ap f e in omega arith) | inr i ↦ absurd i ]
  least_le (x ∷ y ∷ ys) z h = elim h [ inl e ↦ (let e' : f x ≡ f z = ap f e in omega arith) | inr i ↦ (let t = least_le (y ∷ ys) z i in omega arith) ]

  least_ge : (n : ℕ) (xs : List X) (z : X) → ((x : X) → In x xs → n ≤ f x) → In z xs → n ≤ least f xs
  least_ge n [] z all h = absurd h
  least_ge n (x ∷ []) z all h = all x (inl refl)
  least_ge n (x ∷ y ∷ ys) z all h =
      let t = least_ge n (y ∷ ys) y (λ w i. all w (inr i)) (inl refl) in
      let u = all x (inl refl) in
      omega arith

  least_is : (xs : List X) (z : X) → ((x : X) → In x xs → f z ≤ f x) → In z xs → least f xs ≡ f z
  least_is xs z all h = let a = least_le xs z h in let b = least_ge (f z) xs z all h in omega arith

  -- the least is that of an element
  least_at : (xs : List X) (z : X) → In z xs → (w : X) × In w xs × (f w ≡ least f xs)
  least_at [] z h = absurd h
  least_at (x ∷ []) z h = (x, inl refl, refl)
  least_at (x ∷ y ∷ ys) z h = by_cases (nat_le (f x) (least f (y ∷ ys))) refl (least_at (y ∷ ys) y (inl refl))
    where
      by_cases : (b : Bool) → nat_le (f x) (least f (y ∷ ys)) ≡ b → (w : X) × In w (y ∷ ys) × (f w ≡ least f (y ∷ ys)) → (w : X) × In w (x ∷ y ∷ ys) × (f w ≡ min (f x) (least f (y ∷ ys)))
      by_cases true e w = let l : f x ≤ least f (y ∷ ys) = grind (arith, nat_tests) in (x, inl refl, omega arith)
      by_cases false e w = let l : least f (y ∷ ys) < f x = grind (arith, nat_tests) in let s = w.2 in (w.0, inr w.1, (let t : f w.0 ≡ least f (y ∷ ys) = w.2 in omega arith))

  some_lowest : (xs : List X) (z : X) → In z xs → (w : X) × In w (lowest f xs)
  some_lowest xs z h = let w = least_at xs z h in (w.0, In-passes (λ x. f x == least f xs) xs w.0 w.1 (eq-eqb (f w.0) (least f xs) w.2))

  -- the least element is among the lowest
  lowest_has : (xs : List X) (z : X) → ((x : X) → In x xs → f z ≤ f x) → In z xs → In z (lowest f xs)
  lowest_has xs z all h = In-passes (λ x. f x == least f xs) xs z h (eq-eqb (f z) (least f xs) (sym (least_is xs z all h)))

  in_lowest : (xs : List X) (z : X) → In z (lowest f xs) → In z xs × (f z ≡ least f xs)
  in_lowest xs z h = let p = In-filter (λ x. f x == least f xs) xs z h in (p.0, eqb-true (f z) (least f xs) p.1)

first_in : {X : Type 0} (xs : List X) (z : X) → In z xs → (x : X) × (first_listed xs ≡ Some x) × In x xs
first_in [] z h = absurd h
first_in (x ∷ xs) z h = (x, refl, inl refl)

in_first : {X : Type 0} (xs : List X) (z : X) → first_listed xs ≡ Some z → In z xs
in_first [] z h = cc
in_first (x ∷ xs) z h = inl cc

module _ {X : Type 0} (begin end place : X → ℕ) where
  abbrev lengths : X → ℕ
  lengths x = range_length begin end x

  -- what the shortest is of
  abbrev chosen : ℕ → List X → List X
  chosen probe xs = lowest place (lowest lengths (holding begin end probe xs))

  in_chosen : (probe : ℕ) (xs : List X) (z : X) → In z (chosen probe xs) → In z xs × (holds begin end probe z ≡ true)
  in_chosen probe xs z h =
      In-filter (holds begin end probe) xs z (in_lowest lengths (holding begin end probe xs) z (in_lowest place (lowest lengths (holding begin end probe xs)) z h).0).0

  -- a range that holds the probe, where no other that holds it is shorter
  pub shortest_is : (probe : ℕ) (xs : List X) (z : X) → In z xs → holds begin end probe z ≡ true → ((x : X) → In x xs → holds begin end probe x ≡ true → IsNoLonger begin end place z x)
      → (x : X) × (shortest begin end place probe xs ≡ Some x) × (place x ≡ place z)
  shortest_is probe xs z i h all =
      let ys = holding begin end probe xs in
      let each : (x : X) → In x ys → IsNoLonger begin end place z x = λ x j. (let p = In-filter (holds begin end probe) xs x j in all x p.0 p.1) in
      let short : (x : X) → In x ys → lengths z ≤ lengths x = λ x j. (elim (each x j) [ inl l ↦ omega arith | inr e ↦ (let s = e.0 in omega arith) ]) in
      let here = In-passes (holds begin end probe) xs z i h in
      let there = lowest_has lengths ys z short here in
      let low : (x : X) → In x (lowest lengths ys) → place z ≤ place x = λ x j. (let p = in_lowest lengths ys x j in let q = least_is lengths ys z short here in let same = p.1 in elim (each x p.0) [ inl l ↦ absurd (omega arith) | inr e ↦ e.1 ]) in
      let w = first_in (chosen probe xs) z (lowest_has place (lowest lengths ys) z low there) in
      let p = in_lowest place (lowest lengths ys) w.0 w.2 in
      (w.0, w.1, p.1 ∙ least_is place (lowest lengths ys) z low there)

  pub none_is_shorter : NoneIsShorter begin end place
  none_is_shorter probe xs z c h all =
      let P : X → Type 0 = λ x. holds begin end probe x ≡ true → IsNoLonger begin end place z x in
      shortest_is probe xs z (from_contains xs z c.0 c.1 c.2) h (λ x i held. All-in P xs x (recursion_from_All P xs all) i held)

  -- where a range holds the probe one is the shortest
  pub some_shortest : (probe : ℕ) (xs : List X) (z : X) → In z xs → holds begin end probe z ≡ true → (w : X) × (shortest begin end place probe xs ≡ Some w)
  some_shortest probe xs z i h =
      let a = some_lowest lengths (holding begin end probe xs) z (In-passes (holds begin end probe) xs z i h) in
      let b = some_lowest place (lowest lengths (holding begin end probe xs)) a.0 a.1 in
      let w = first_in (chosen probe xs) b.0 b.1 in
      (w.0, w.1)

  -- the shortest is one of the ranges, holds the probe, and none that holds it is shorter
  pub shortest_holds : (probe : ℕ) (xs : List X) (w : X) → shortest begin end place probe xs ≡ Some w → In w xs × (holds begin end probe w ≡ true)
  shortest_holds probe xs w h = in_chosen probe xs w (in_first (chosen probe xs) w h)

  pub shortest_least : (probe : ℕ) (xs : List X) (w : X) → shortest begin end place probe xs ≡ Some w → (x : X) → In x xs → holds begin end probe x ≡ true → IsNoLonger begin end place w x
  shortest_least probe xs w h x i held =
      let ys = holding begin end probe xs in
      let p = in_lowest place (lowest lengths ys) w (in_first (chosen probe xs) w h) in
      let q = in_lowest lengths ys w p.0 in
      let j = In-passes (holds begin end probe) xs x i held in
      let l = least_le lengths ys x j in
      by_cases (lengths x == least lengths ys) refl p.1 q.1 j l
    where
      by_cases : (b : Bool) → (lengths x == least lengths (holding begin end probe xs)) ≡ b → place w ≡ least place (lowest lengths (holding begin end probe xs)) → lengths w ≡ least lengths (holding begin end probe xs) → In x (holding begin end probe xs) → least lengths (holding begin end probe xs) ≤ lengths x → IsNoLonger begin end place w x
      by_cases true e p q j l =
          let m = least_le place (lowest lengths (holding begin end probe xs)) x (In-passes (λ y. lengths y == least lengths (holding begin end probe xs)) (holding begin end probe xs) x j e) in
          let s : lengths x ≡ least lengths (holding begin end probe xs) = grind (arith, nat_tests) in
          inr (omega arith, omega arith)
      by_cases false e p q j l = let n : least lengths (holding begin end probe xs) < lengths x = grind (arith, nat_tests) in inl (omega arith)

  pub none_is_shortest : (probe : ℕ) (xs : List X) → All (λ x. holds begin end probe x ≡ false) xs → shortest begin end place probe xs ≡ None
  none_is_shortest probe xs all = by_cases (shortest begin end place probe xs) refl
    where
      by_cases : (o : Option X) → shortest begin end place probe xs ≡ o → shortest begin end place probe xs ≡ None
      by_cases None e = e
      by_cases (Some z) e =
          let p = in_chosen probe xs z (in_first (chosen probe xs) z e) in
          let q = All-in (λ x. holds begin end probe x ≡ false) xs z (recursion_from_All (λ x. holds begin end probe x ≡ false) xs all) p.0 in
          let same : true ≡ false = sym p.1 ∙ q in
          absurd cc

  pub lone_is_shortest : LoneIsShortest begin end place
  lone_is_shortest probe xs z c low high all =
      let P : X → Type 0 = λ x. (x ≡ z) ⊎ IsDisjoint begin end z x in
      let i = from_contains xs z c.0 c.1 c.2 in
      let only : (x : X) → In x xs → holds begin end probe x ≡ true → x ≡ z = λ x j h. elim (All-in P xs x (recursion_from_All P xs all) j) [ inl e ↦ e | inr d ↦ absurd (apart (begin x) (end x) (begin z) (end z) probe low high h d.1) ] in
      let here = In-passes (holds begin end probe) xs z i (inside (begin z) (end z) probe low high) in
      let ys = holding begin end probe xs in
      let among : (x : X) → In x ys → x ≡ z = λ x j. (let p = In-filter (holds begin end probe) xs x j in only x p.0 p.1) in
      let there = lowest_has lengths ys z (λ x j. (let e : lengths z ≡ lengths x = ap lengths (sym (among x j)) in omega arith)) here in
      let last = lowest_has place (lowest lengths ys) z (λ x j. (let e : place z ≡ place x = ap place (sym (among x (in_lowest lengths ys x j).0)) in omega arith)) there in
      let w = first_in (chosen probe xs) z last in
      let p = in_chosen probe xs w.0 w.2 in
      (w.1 ∙ ap Some (only w.0 p.0 p.1), lone_is_picked begin end probe xs z c low high all)
    where
      apart : (a b c d p : ℕ) → c ≤ p → p < d → (nat_le a p && nat_lt p b) ≡ true → (b ≤ c) ⊎ (d ≤ a) → ⊥
      apart a b c d p l h e k = grind (arith, nat_tests)
