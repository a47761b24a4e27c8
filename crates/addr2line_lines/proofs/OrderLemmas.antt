-- A stable sort has one result, and that is in order (on specs/InOrder.antt).
use Rattle.addr2line_lines.proofs.Common.{ℕ, ◌≡◌, ◌<◌, ◌≤◌, Bool, true, false, cond, not, ◌&&◌, List, [], ◌∷◌, length, arith, inl, inr, ◌∙◌, subst, ap, sym, refl, suc, AllByRecursion, IsSortedBy, IsStableBy, ties, sorted_far, ranks_by, recursion_from_All, put, in_order, begins_sooner, IsInOrder, In, In-filter}
use Rattle.std.specs.Cmp.{IsStrictWeakOrder}
use Rattle.std.specs.List.{filter}
use Rattle.std.proofs.lemmas.Cmp.{on_total, then_total, nat_cmp_total}
use lib.ListN.{get_or}
use Rattle.addr2line_lines.proofs.Facts.{all_weaker, cond_swaps}

-- what holds of all elements holds of each
pub All-in : {X : Type 0} (P : X → Type 0) (xs : List X) (z : X) → AllByRecursion P xs → In z xs → P z
All-in P [] z all h = absurd h
All-in P (x ∷ xs) z all h = elim h [ inl e ↦ subst P e all.0 | inr i ↦ All-in P xs z all.1 i ]

-- what holds of all elements holds of them in order
module _ {X : Type 0} (lt : X → X → Bool) (P : X → Type 0) where
  put_all : (x : X) (ys : List X) → P x → AllByRecursion P ys → AllByRecursion P (put lt x ys)
  put_all x [] p all = (p, tt)
  put_all x (y ∷ ys) p all = by_cases (lt y x) (put_all x ys p all.1)
    where
      by_cases : (b : Bool) → AllByRecursion P (put lt x ys) → AllByRecursion P (cond b (y ∷ put lt x ys) (x ∷ y ∷ ys))
      by_cases true rest = (all.0, rest)
      by_cases false rest = (p, all)

  pub in_order_all : (xs : List X) → AllByRecursion P xs → AllByRecursion P (in_order lt xs)
  in_order_all [] all = tt
  in_order_all (x ∷ xs) all = put_all x (in_order lt xs) all.0 (in_order_all xs all.1)

  put_all_back : (x : X) (ys : List X) → AllByRecursion P (put lt x ys) → P x × AllByRecursion P ys
  put_all_back x [] all = (all.0, tt)
  put_all_back x (y ∷ ys) all = by_cases (lt y x) (put_all_back x ys) all
    where
      by_cases : (b : Bool) → (AllByRecursion P (put lt x ys) → P x × AllByRecursion P ys) → AllByRecursion P (cond b (y ∷ put lt x ys) (x ∷ y ∷ ys)) → P x × AllByRecursion P (y ∷ ys)
      by_cases true rest h = ((rest h.1).0, (h.0, (rest h.1).1))
      by_cases false rest h = (h.0, h.1)

  -- and the other way round
  pub in_order_all_back : (xs : List X) → AllByRecursion P (in_order lt xs) → AllByRecursion P xs
  in_order_all_back [] all = tt
  in_order_all_back (x ∷ xs) all = let h = put_all_back x (in_order lt xs) all in (h.0, in_order_all_back xs h.1)

module _ {X : Type 0} (lt : X → X → Bool) (o : IsStrictWeakOrder lt) where
  not_itself : (x : X) → lt x x ≡ false
  not_itself x = by_cases (lt x x) refl
    where
      by_cases : (b : Bool) → lt x x ≡ b → lt x x ≡ false
      by_cases true e = o.one_way x x e
      by_cases false e = e

  tied : (x y : X) → lt x y ≡ false → lt y x ≡ false → ties lt x y ≡ true
  tied x y a b = cc

  halves : (a b : Bool) → (not a && not b) ≡ true → (a ≡ false) × (b ≡ false)
  halves true b h = cc
  halves false true h = cc
  halves false false h = (refl, refl)

  tie_left : (x y : X) → ties lt x y ≡ true → lt x y ≡ false
  tie_left x y e = (halves (lt x y) (lt y x) e).0

  tie_right : (x y : X) → ties lt x y ≡ true → lt y x ≡ false
  tie_right x y e = (halves (lt x y) (lt y x) e).1

  head_least : (y z : X) (zs : List X) → IsInOrder lt (z ∷ zs) → In y (z ∷ zs) → lt y z ≡ false
  head_least y z zs up h = elim h [ inl e ↦ (let P : X → Type 0 = λ w. lt w z ≡ false in subst P e (not_itself z)) | inr i ↦ All-in (λ w. lt w z ≡ false) zs y up.0 i ]

  passes_itself : (y : X) (ys : List X) → filter (ties lt y) (y ∷ ys) ≡ y ∷ filter (ties lt y) ys
  passes_itself y ys = ap (λ b. cond b (y ∷ filter (ties lt y) ys) (filter (ties lt y) ys)) (tied y y (not_itself y) (not_itself y))

  in_other : (y : X) (ys zs : List X) → filter (ties lt y) (y ∷ ys) ≡ filter (ties lt y) zs → In y zs
  in_other y ys zs e = (In-filter (ties lt y) zs y (subst (In y) (sym (passes_itself y ys) ∙ e) (inl refl))).0

  cut : (b : Bool) (y z : X) (rest other : List X) → y ≡ z → cond b (y ∷ rest) rest ≡ cond b (z ∷ other) other → rest ≡ other
  cut true y z rest other e h = cc
  cut false y z rest other e h = h

  -- lists in order are one where elements that tie are
  pub one_order : (ys zs : List X) → IsInOrder lt ys → IsInOrder lt zs → ((x : X) → filter (ties lt x) ys ≡ filter (ties lt x) zs) → ys ≡ zs
  one_order [] [] up vp h = refl
  one_order [] (z ∷ zs) up vp h = let e = h z ∙ passes_itself z zs in cc
  one_order (y ∷ ys) [] up vp h = let e = sym (h y) ∙ passes_itself y ys in cc
  one_order (y ∷ ys) (z ∷ zs) up vp h =
      let a = head_least y z zs vp (in_other y ys (z ∷ zs) (h y)) in
      let b = head_least z y ys up (in_other z zs (y ∷ ys) (sym (h z))) in
      let t : ties lt y z ≡ true = tied y z a b in
      let e : y ∷ filter (ties lt y) ys ≡ z ∷ filter (ties lt y) zs = sym (passes_itself y ys) ∙ h y ∙ ap (λ v. cond v (z ∷ filter (ties lt y) zs) (filter (ties lt y) zs)) t in
      let same : y ≡ z = cc in
      let rest : (x : X) → filter (ties lt x) ys ≡ filter (ties lt x) zs = λ x. cut (ties lt x y) y z _ _ same (h x ∙ ap (λ w. cond (ties lt x w) (z ∷ filter (ties lt x) zs) (filter (ties lt x) zs)) (sym same)) in
      let tail : ys ≡ zs = one_order ys zs up.1 vp.1 rest in
      cc

  put_ordered : (x : X) (ys : List X) → IsInOrder lt ys → IsInOrder lt (put lt x ys)
  put_ordered x [] up = (tt, tt)
  put_ordered x (y ∷ ys) up = by_cases (lt y x) refl (put_ordered x ys up.1)
    where
      by_cases : (b : Bool) → lt y x ≡ b → IsInOrder lt (put lt x ys) → IsInOrder lt (cond b (y ∷ put lt x ys) (x ∷ y ∷ ys))
      by_cases true e rest = (put_all lt (λ w. lt w y ≡ false) x ys (o.one_way y x e) up.0, rest)
      by_cases false e rest = ((e, all_weaker (λ w. lt w y ≡ false) (λ w. lt w x ≡ false) (λ w h. o.chain w y x h e) ys up.0), up)

  put_ties : (z x : X) (ys : List X) → filter (ties lt z) (put lt x ys) ≡ filter (ties lt z) (x ∷ ys)
  put_ties z x [] = refl
  put_ties z x (y ∷ ys) = by_cases (lt y x) refl (put_ties z x ys)
    where
      by_cases : (b : Bool) → lt y x ≡ b → filter (ties lt z) (put lt x ys) ≡ filter (ties lt z) (x ∷ ys) → filter (ties lt z) (cond b (y ∷ put lt x ys) (x ∷ y ∷ ys)) ≡ filter (ties lt z) (x ∷ y ∷ ys)
      by_cases false e rest = refl
      by_cases true e rest =
          ap (λ zs. cond (ties lt z y) (y ∷ zs) zs) rest
          ∙ cond_swaps x y (ties lt z x) (ties lt z y) (filter (ties lt z) ys) (λ p q. let f = o.chain y z x (tie_right z y q) (tie_left z x p) in cc)

  pub in_order_ordered : (xs : List X) → IsInOrder lt (in_order lt xs)
  in_order_ordered [] = tt
  in_order_ordered (x ∷ xs) = put_ordered x (in_order lt xs) (in_order_ordered xs)

  pub in_order_ties : (z : X) (xs : List X) → filter (ties lt z) (in_order lt xs) ≡ filter (ties lt z) xs
  in_order_ties z [] = refl
  in_order_ties z (x ∷ xs) = put_ties z x (in_order lt xs) ∙ ap (λ ys. cond (ties lt z x) (x ∷ ys) ys) (in_order_ties z xs)

  ordered_from_sorted : (xs : List X) → ((i j : ℕ) (d : X) → i ≤ j → j < length xs → lt (get_or xs j d) (get_or xs i d) ≡ false) → IsInOrder lt xs
  ordered_from_sorted [] h = tt
  ordered_from_sorted (x ∷ xs) h =
      (recursion_from_All (λ y. lt y x ≡ false) xs (λ k d l. h 0 (suc k) d (omega arith) (omega arith)), ordered_from_sorted xs (λ i j d le l. h (suc i) (suc j) d (omega arith) (omega arith)))

  -- what a stable sort ensures fixes the list
  pub sorted_is : (xs ys : List X) → IsSortedBy lt ys → IsStableBy lt xs ys → ys ≡ in_order lt xs
  sorted_is xs ys up st =
      one_order ys (in_order lt xs) (ordered_from_sorted ys (λ i j d le l. sorted_far lt o ys up i j d le l)) (in_order_ordered xs) (λ x. st x ∙ sym (in_order_ties x xs))

-- by begin and then by end is an order
pub begins_order : {X : Type 0} (begin end : X → ℕ) → IsStrictWeakOrder (begins_sooner begin end)
begins_order {X} begin end = ranks_by (then_total (on_total (λ (p : ℕ × ℕ). p.0) nat_cmp_total) (on_total (λ (p : ℕ × ℕ). p.1) nat_cmp_total)) (λ (x : X). (begin x, end x))
