-- The search among the ranges of inlined entries in order (on specs/InlinedOrder.antt).
use Rattle.addr2line_lines.proofs.Common.{ℕ, ◌≡◌, ◌+◌, ◌-◌, ◌<◌, ◌≤◌, ◌&&◌, ◌||◌, ◌==◌, Bool, true, false, cond, nat_cmp, nat_le, nat_lt, leb, List, [], ◌∷◌, length, get_or, Option, Some, None, arith, zero, suc, ◌∙◌, ap, sym, subst, refl, AllByRecursion, AllWithin, IsPartitionPoint, IsPartitionedBy, is_lt, ordering_then, nat_tests, ne_eqb, get_or_default, All-from_recursion, last, InlinedFunctionAddress, IsInOrder, begins_sooner, inlined_sooner, inlined_place, place_at, place_begin, place_end, places_of_depth, places_within, candidate, if_past, filter-filter, le-ltb, lt-ltb}
use Rattle.std.specs.List.{filter}
use Rattle.std.specs.Option.{option_and_then, option_map}
use Rattle.addr2line_lines.proofs.OrderPick.{candidate_ordered}
use Rattle.addr2line_lines.proofs.SearchLemmas.{last_is_at, last_none}

-- no element of a list in order is sooner than one before it
ordered_far : {X : Type 0} (lt : X → X → Bool) (xs : List X) → IsInOrder lt xs → (i j : ℕ) (d : X) → i < j → j < length xs → lt (get_or xs j d) (get_or xs i d) ≡ false
ordered_far lt [] up i j d l h = absurd (omega arith)
ordered_far lt (x ∷ xs) up zero zero d l h = absurd (omega arith)
ordered_far lt (x ∷ xs) up zero (suc j) d l h = All-from_recursion (λ y. lt y x ≡ false) xs up.0 j d (omega arith)
ordered_far lt (x ∷ xs) up (suc i) zero d l h = absurd (omega arith)
ordered_far lt (x ∷ xs) up (suc i) (suc j) d l h = ordered_far lt xs up.1 i j d (omega arith) (omega arith)

-- ranges of one depth of ranges in order are in order of begin and end
module _ (depth : ℕ) where
  later : (x : InlinedFunctionAddress) → (x.depth == depth) ≡ true → (xs : List InlinedFunctionAddress) → AllByRecursion (λ y. inlined_sooner y x ≡ false) xs → AllByRecursion (λ y. begins_sooner place_begin place_end y x ≡ false) (places_of_depth depth xs)
  later x e [] all = tt
  later x e (y ∷ ys) all = by_cases (y.depth == depth) refl (later x e ys all.1)
    where
      of_numbers : (p a b n q c d m : ℕ) → (p == depth) ≡ true → (q == depth) ≡ true → is_lt (ordering_then (nat_cmp q p) (ordering_then (nat_cmp c a) (ordering_then (nat_cmp d b) (nat_cmp m n)))) ≡ false → is_lt (ordering_then (nat_cmp c a) (nat_cmp d b)) ≡ false
      of_numbers p a b n q c d m f g h = grind (arith, nat_tests)

      by_cases : (t : Bool) → (y.depth == depth) ≡ t → AllByRecursion (λ z. begins_sooner place_begin place_end z x ≡ false) (places_of_depth depth ys) → AllByRecursion (λ z. begins_sooner place_begin place_end z x ≡ false) (cond t (y ∷ places_of_depth depth ys) (places_of_depth depth ys))
      by_cases true f rest = (of_numbers x.depth x.range.begin x.range.end x.function y.depth y.range.begin y.range.end y.function e f all.0, rest)
      by_cases false f rest = rest

  pub depth_ordered : (xs : List InlinedFunctionAddress) → IsInOrder inlined_sooner xs → IsInOrder (begins_sooner place_begin place_end) (places_of_depth depth xs)
  depth_ordered [] up = tt
  depth_ordered (x ∷ xs) up = by_cases (x.depth == depth) refl (depth_ordered xs up.1)
    where
      by_cases : (t : Bool) → (x.depth == depth) ≡ t → IsInOrder (begins_sooner place_begin place_end) (places_of_depth depth xs) → IsInOrder (begins_sooner place_begin place_end) (cond t (x ∷ places_of_depth depth xs) (places_of_depth depth xs))
      by_cases true e rest = (later x e xs up.0, rest)
      by_cases false e rest = rest

-- whether a range is of a lesser depth, or of this one and begins at or below the probe
abbrev pub begins_by : ℕ → ℕ → InlinedFunctionAddress → Bool
begins_by depth probe x = nat_lt x.depth depth || (x.depth == depth && leb x.range.begin probe)

-- the place before which ranges begin so
abbrev pub IsPlacePast : ℕ → ℕ → List InlinedFunctionAddress → ℕ → Type 0
IsPlacePast depth probe ys past = IsPartitionPoint (λ y. begins_by depth probe y ≡ true) (λ y. begins_by depth probe y ≡ false) ys past

pub parted : (depth probe : ℕ) (ys : List InlinedFunctionAddress) → IsInOrder inlined_sooner ys → IsPartitionedBy (begins_by depth probe) ys
parted depth probe ys up i j d le l h = by_place (nat_lt i j) refl
  where
    of_numbers : (p a b n q c e m : ℕ) → is_lt (ordering_then (nat_cmp q p) (ordering_then (nat_cmp c a) (ordering_then (nat_cmp e b) (nat_cmp m n)))) ≡ false → (nat_lt q depth || (q == depth && leb c probe)) ≡ true → (nat_lt p depth || (p == depth && leb a probe)) ≡ true
    of_numbers p a b n q c e m f g = grind (arith, nat_tests)

    by_place : (t : Bool) → nat_lt i j ≡ t → begins_by depth probe (get_or ys i d) ≡ true
    by_place true e =
        let x = get_or ys i d in
        let y = get_or ys j d in
        of_numbers x.depth x.range.begin x.range.end x.function y.depth y.range.begin y.range.end y.function (ordered_far inlined_sooner ys up i j d (grind (arith, nat_tests)) l) h
    by_place false e = let same : i ≡ j = (let u : j ≤ i = grind (arith, nat_tests) in omega arith) in ap (λ k. begins_by depth probe (get_or ys k d)) same ∙ h

module _ (depth probe : ℕ) (ys : List InlinedFunctionAddress) (up : IsInOrder inlined_sooner ys) where
  -- whether a range is of the depth and begins at or below the probe
  abbrev counts : InlinedFunctionAddress → Bool
  counts x = x.depth == depth && nat_le x.range.begin probe

  -- the last such range counts
  counting_last : candidate place_begin place_end probe (places_of_depth depth ys) ≡ last (filter counts ys)
  counting_last =
      candidate_ordered place_begin place_end probe (places_of_depth depth ys) (depth_ordered depth ys up) ∙ ap last (filter-filter (λ (x : InlinedFunctionAddress). x.depth == depth) (λ x. nat_le x.range.begin probe) ys)

  place_is : (o : Option InlinedFunctionAddress) → last (filter counts ys) ≡ o → place_at probe depth ys ≡ option_map inlined_place (option_and_then (if_past place_end probe) o)
  place_is o e = ap (λ x. option_map inlined_place (option_and_then (if_past place_end probe) x)) (counting_last ∙ e)

  module _ (past : ℕ) (point : IsPlacePast depth probe ys past) where
    -- no range past the place counts
    none_past : AllWithin (λ x. counts x ≡ false) ys past (length ys)
    none_past = λ k d low high. of_numbers (get_or ys k d).depth (get_or ys k d).range.begin (point.1 k d low high)
      where
        of_numbers : (p a : ℕ) → (nat_lt p depth || (p == depth && leb a probe)) ≡ false → (p == depth && nat_le a probe) ≡ false
        of_numbers p a h = grind (arith, nat_tests)

    -- none counts where there is no range before the place, or where the last one is of a lesser depth
    pub none_counts : past ≤ length ys → ((d : InlinedFunctionAddress) → 0 < past → ((get_or ys (past - 1) d).depth == depth) ≡ false) → place_at probe depth ys ≡ None
    none_counts bound other = place_is None (last_none counts ys (λ k d low high. by_place k d high (nat_lt k past) refl))
      where
        below : (p q a b n c e m : ℕ) → (nat_lt q depth || (q == depth && leb c probe)) ≡ true → (q == depth) ≡ false → is_lt (ordering_then (nat_cmp q p) (ordering_then (nat_cmp c a) (ordering_then (nat_cmp e b) (nat_cmp m n)))) ≡ false → (p == depth && nat_le a probe) ≡ false
        below p q a b n c e m f g h = grind (arith, nat_tests)

        itself : (q c : ℕ) → (q == depth) ≡ false → (q == depth && nat_le c probe) ≡ false
        itself q c g = grind (arith, nat_tests)

        before : (k : ℕ) (d : InlinedFunctionAddress) → k < past → (t : Bool) → nat_lt k (past - 1) ≡ t → counts (get_or ys k d) ≡ false
        before k d l true e =
            let x = get_or ys k d in
            let y = get_or ys (past - 1) d in
            below x.depth y.depth x.range.begin x.range.end x.function y.range.begin y.range.end y.function (point.0 (past - 1) d (omega arith) (omega arith)) (other d (omega arith)) (ordered_far inlined_sooner ys up k (past - 1) d (grind (arith, nat_tests)) (omega arith))
        before k d l false e =
            let same : k ≡ past - 1 = (let u : past - 1 ≤ k = grind (arith, nat_tests) in omega arith) in
            let y = get_or ys (past - 1) d in
            ap (λ n. counts (get_or ys n d)) same ∙ itself y.depth y.range.begin (other d (omega arith))

        by_place : (k : ℕ) (d : InlinedFunctionAddress) → k < length ys → (t : Bool) → nat_lt k past ≡ t → counts (get_or ys k d) ≡ false
        by_place k d high false e = none_past k d (grind (arith, nat_tests)) high
        by_place k d high true e = before k d (grind (arith, nat_tests)) (nat_lt k (past - 1)) refl

    -- the last range before the place counts where it is of the depth
    last_counts : (d : InlinedFunctionAddress) → 0 < past → past ≤ length ys → ((get_or ys (past - 1) d).depth == depth) ≡ true → place_at probe depth ys ≡ option_map inlined_place (if_past place_end probe (get_or ys (past - 1) d))
    last_counts d some bound e =
        let y = get_or ys (past - 1) d in
        let next : past - 1 + 1 ≡ past = omega arith in
        place_is (Some y) (last_is_at counts ys (past - 1) y (omega arith) (get_or_default ys (past - 1) y d (omega arith)) (passes y.depth y.range.begin e (point.0 (past - 1) d (omega arith) (omega arith))) (subst (λ n. AllWithin (λ x. counts x ≡ false) ys n (length ys)) (sym next) none_past))
      where
        passes : (p a : ℕ) → (p == depth) ≡ true → (nat_lt p depth || (p == depth && leb a probe)) ≡ true → (p == depth && nat_le a probe) ≡ true
        passes p a h g = grind (arith, nat_tests)

    pub it_counts : (d : InlinedFunctionAddress) → 0 < past → past ≤ length ys → (get_or ys (past - 1) d).depth ≡ depth → probe < (get_or ys (past - 1) d).range.end → place_at probe depth ys ≡ Some (get_or ys (past - 1) d).function
    it_counts d some bound e l =
        let y = get_or ys (past - 1) d in
        last_counts d some bound (grind (arith, nat_tests)) ∙ ap (λ b. option_map inlined_place (cond b (Some y) None)) (lt-ltb probe y.range.end l)

    pub it_ends : (d : InlinedFunctionAddress) → 0 < past → past ≤ length ys → (get_or ys (past - 1) d).depth ≡ depth → (get_or ys (past - 1) d).range.end ≤ probe → place_at probe depth ys ≡ None
    it_ends d some bound e l =
        let y = get_or ys (past - 1) d in
        last_counts d some bound (grind (arith, nat_tests)) ∙ ap (λ b. option_map inlined_place (cond b (Some y) None)) (le-ltb probe y.range.end l)

    pub other_depth : (d : InlinedFunctionAddress) → past ≤ length ys → ((get_or ys (past - 1) d).depth ≡ depth → ⊥) → place_at probe depth ys ≡ None
    other_depth d bound h =
        none_counts bound (λ e some. ap (λ (x : InlinedFunctionAddress). x.depth == depth) (get_or_default ys (past - 1) e d (omega arith)) ∙ ne_eqb (get_or ys (past - 1) d).depth depth h)

-- one depth further
pub within_some : (n probe depth : ℕ) (ys : List InlinedFunctionAddress) (x : ℕ) → place_at probe depth ys ≡ Some x → places_within (suc n) probe depth ys ≡ x ∷ places_within n probe (depth + 1) ys
within_some n probe depth ys x e = ap (λ (o : Option ℕ). elim o [ None ↦ [] | Some y ↦ y ∷ places_within n probe (depth + 1) ys ]) e

-- no depth further
pub within_none : (n probe depth : ℕ) (ys : List InlinedFunctionAddress) → place_at probe depth ys ≡ None → places_within n probe depth ys ≡ []
within_none zero probe depth ys e = refl
within_none (suc n) probe depth ys e = ap (λ (o : Option ℕ). elim o [ None ↦ [] | Some y ↦ y ∷ places_within n probe (depth + 1) ys ]) e
