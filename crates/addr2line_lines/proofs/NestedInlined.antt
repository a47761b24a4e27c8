-- The chain of nested inlined entries (on specs/NestedInlined.antt).
use Rattle.addr2line_lines.proofs.Common.{ℕ, ◌≡◌, ◌+◌, ◌-◌, ◌<◌, ◌≤◌, ◌⊎◌, ◌&&◌, ◌==◌, Bool, true, false, cond, max, nat_le, nat_lt, List, [], ◌∷◌, length, slice_index_or, Option, Some, None, zero, suc, arith, inl, inr, ◌∙◌, ap, sym, refl, subst, All, Contains, cases_lt, eqb-true, nat_tests, All-contains, All-contains_itself, greatest, topmost, InlinedEntry, InlinedRange, IsDisjoint, at_or_below, candidate, if_past, pick, In, In-filter, In-last, In-passes, All-passing}
use Rattle.std.specs.List.{filter, slice_get}
use Rattle.std.specs.Option.{option_and_then}
use Rattle.std.proofs.lemmas.Bool.{and_from}
use Rattle.addr2line_lines.specs.InlinedChain.{inlined_at, inlined_begin, inlined_end, inlined_within, of_depth}
use Rattle.addr2line_lines.specs.NestedInlined.{ChainBeginsOutermost, ChainIsWhole, AreInEachOther, AreNested, IsAlone, IsFirstOutermost, IsHeldAround, IsNearest, IsNestedChain, IsOneAround, IsHeldByListed, NestedChain, NestedInFunction, inlined_holds}
use Rattle.addr2line_lines.proofs.ItemsAround.{IsListed, all_listed, nearest_depth, none_nearest}
use Rattle.addr2line_lines.proofs.LonePick.{from_contains, lone_is_picked}
use Rattle.addr2line_lines.proofs.Facts.{from_inside, inside, not_itself}

module _ {X : Type 0} where
  -- an element has a place
  contains_in : (xs : List X) (z : X) → In z xs → Contains xs z
  contains_in [] z i = absurd i
  contains_in (x ∷ xs) z i =
      elim i [
        | inl e ↦ (0, omega arith, e)
        | inr j ↦ (let c = contains_in xs z j in (suc c.0, omega arith, c.2))
      ]

  -- what holds of all elements holds of one
  of_all : (P : X → Type 0) (xs : List X) (z : X) → All P xs → In z xs → P z
  of_all P xs z all i = All-contains P xs z all (contains_in xs z i)

  module _ (begin end : X → ℕ) (probe : ℕ) where
    past_is : (o : Option X) (x : X) → option_and_then (if_past end probe) o ≡ Some x → (o ≡ Some x) × (nat_lt probe (end x) ≡ true)
    past_is None x h = absurd cc
    past_is (Some y) x h = by_cases (nat_lt probe (end y)) refl h
      where
        by_cases : (b : Bool) → nat_lt probe (end y) ≡ b → cond b (Some y) None ≡ Some x → (Some y ≡ Some x) × (nat_lt probe (end x) ≡ true)
        by_cases true e f = let same : y ≡ x = cc in (f, ap (λ z. nat_lt probe (end z)) (sym same) ∙ e)
        by_cases false e f = absurd cc

    -- what is picked is an element, and holds the probe
    picked_holds : (xs : List X) (x : X) → pick begin end probe xs ≡ Some x → In x xs × ((nat_le (begin x) probe && nat_lt probe (end x)) ≡ true)
    picked_holds xs x h =
        let p = past_is (candidate begin end probe xs) x h in
        let low = at_or_below begin probe xs in
        let first = topmost begin low in
        let i = (In-filter (λ y. end y == greatest end first) first x (In-last (topmost end first) x p.0)).0 in
        let j = (In-filter (λ y. begin y == greatest begin low) low x i).0 in
        let k = In-filter (λ y. nat_le (begin y) probe) xs x j in
        (k.0, and_from (nat_le (begin x) probe) (nat_lt probe (end x)) k.1 p.1)

-- the range of a depth that is picked
at_is : (probe depth : ℕ) (ranges : List InlinedRange) (x : InlinedRange) → inlined_at probe depth ranges ≡ Some x → In x ranges × (x.depth ≡ depth) × (inlined_holds probe x ≡ true)
at_is probe depth ranges x h =
    let p = picked_holds inlined_begin inlined_end probe (of_depth depth ranges) x h in
    let i = In-filter (λ (y : InlinedRange). y.depth == depth) ranges x p.0 in
    (i.0, eqb-true x.depth depth i.1, p.1)

-- where no range of a depth holds the probe the chain ends
pub chain_ends : (n probe depth : ℕ) (ranges : List InlinedRange) → All (λ x. x.depth ≡ depth → inlined_holds probe x ≡ false) ranges → inlined_within n probe depth ranges ≡ []
chain_ends zero probe depth ranges none = refl
chain_ends (suc n) probe depth ranges none = by_cases (inlined_at probe depth ranges) refl
  where
    by_cases : (o : Option InlinedRange) → inlined_at probe depth ranges ≡ o → ◌≡◌ {A = List InlinedEntry} (elim o [ None ↦ [] | Some x ↦ x.entry ∷ inlined_within n probe (depth + 1) ranges ]) []
    by_cases None e = refl
    by_cases (Some x) e =
        let a = at_is probe depth ranges x e in
        let f = of_all (λ x. x.depth ≡ depth → inlined_holds probe x ≡ false) ranges x none a.0 a.1 in
        absurd (let g = a.2 in cc)

module _ (Around : InlinedEntry → InlinedEntry → Type 0) (ranges : List InlinedRange) (probe : ℕ) (nested : AreNested (IsOneAround Around) ranges) where
  -- the range around one that holds the probe
  outer_of : (x : InlinedRange) → In x ranges → inlined_holds probe x ≡ true → 0 < x.depth → IsHeldAround (IsOneAround Around) ranges x probe
  outer_of x i h some = of_all (IsHeldByListed (IsOneAround Around) ranges) ranges x nested.within i some probe h

  listed_in : (z : InlinedRange) → Contains ranges z → In z ranges
  listed_in z c = from_contains ranges z c.0 c.1 c.2

  -- what is picked of a depth is around what is picked of the next
  picked_around : (depth : ℕ) (x y : InlinedRange) → inlined_at probe depth ranges ≡ Some x → inlined_at probe (depth + 1) ranges ≡ Some y → Around y.entry x.entry
  picked_around depth x y e f =
      let a = at_is probe (depth + 1) ranges y f in
      let o = outer_of y a.0 a.2 (let d = a.1 in omega arith) in
      let b = at_is probe depth ranges x e in
      let same : x.depth ≡ o.outer.depth = (let d = a.1 in let c = o.around.1 in let f = b.1 in omega arith) in
      let it = of_all (λ (z : InlinedRange). z.depth ≡ o.outer.depth → (p : ℕ) → inlined_holds p z ≡ true → inlined_holds p o.outer ≡ true → z ≡ o.outer) ranges x (of_all (IsAlone ranges) ranges o.outer nested.apart (listed_in o.outer o.listed)) b.0 same probe b.2 o.holds_it in
      subst (λ (r : InlinedRange). Around y.entry r.entry) (sym it) o.around.0

  next_within : (n depth : ℕ) → AreInEachOther Around (inlined_within n probe depth ranges)
  next_within zero depth = tt
  next_within (suc zero) depth = by_cases (inlined_at probe depth ranges)
    where
      by_cases : (o : Option InlinedRange) → AreInEachOther Around (elim o [ None ↦ [] | Some x ↦ x.entry ∷ [] ])
      by_cases None = tt
      by_cases (Some x) = tt
  next_within (suc (suc n)) depth = by_cases (inlined_at probe depth ranges) (inlined_at probe (depth + 1) ranges) refl refl (next_within (suc n) (depth + 1))
    where
      by_cases : (o p : Option InlinedRange) → inlined_at probe depth ranges ≡ o → inlined_at probe (depth + 1) ranges ≡ p
          → AreInEachOther Around (elim p [ None ↦ [] | Some y ↦ y.entry ∷ inlined_within n probe (depth + 1 + 1) ranges ])
          → AreInEachOther Around (elim o [ None ↦ [] | Some x ↦ x.entry ∷ elim p [ None ↦ [] | Some y ↦ y.entry ∷ inlined_within n probe (depth + 1 + 1) ranges ] ])
      by_cases None p e f rest = tt
      by_cases (Some x) None e f rest = tt
      by_cases (Some x) (Some y) e f rest = (picked_around depth x y e f, rest)

  -- a range of a depth that holds the probe
  record HoldingRange (depth : ℕ) : Type 0 where
    it : InlinedRange
    listed : In it ranges
    at : it.depth ≡ depth
    holds_it : inlined_holds probe it ≡ true

  -- there is one of each lesser depth too
  holding_below : (k depth : ℕ) → HoldingRange (depth + k) → HoldingRange depth
  holding_below zero depth h = record { it = h.it; listed = h.listed; at = (let e = h.at in omega arith); holds_it = h.holds_it }
  holding_below (suc k) depth h =
      let o = outer_of h.it h.listed h.holds_it (let e = h.at in omega arith) in
      holding_below k depth (record { it = o.outer; listed = listed_in o.outer o.listed; at = (let e = h.at in let c = o.around.1 in omega arith); holds_it = o.holds_it })

  module _ (some : All (λ x. inlined_begin x < inlined_end x) ranges) where
    some_of : (z : InlinedRange) → In z ranges → inlined_begin z < inlined_end z
    some_of z i = of_all (λ (x : InlinedRange). inlined_begin x < inlined_end x) ranges z some i

    -- a range that holds the probe is the one of its depth
    at_depth : (z : InlinedRange) → In z ranges → inlined_holds probe z ≡ true → inlined_at probe z.depth ranges ≡ Some z
    at_depth z i h =
        let alone = of_all (IsAlone ranges) ranges z nested.apart i in
        let mine : InlinedRange → Bool = λ x. x.depth == z.depth in
        let P : InlinedRange → Type 0 = λ x. (inlined_begin x < inlined_end x) × (x.depth ≡ z.depth → (p : ℕ) → inlined_holds p x ≡ true → inlined_holds p z ≡ true → x ≡ z) in
        let Q : InlinedRange → Type 0 = λ x. (x ≡ z) ⊎ IsDisjoint inlined_begin inlined_end z x in
        let there = contains_in (of_depth z.depth ranges) z (In-passes mine ranges z i (not_itself z.depth)) in
        let s = from_inside z.range.begin z.range.end probe h in
        lone_is_picked inlined_begin inlined_end probe (of_depth z.depth ranges) z there s.0 s.1 (All-passing P Q mine (λ x t f. beside x z f.0 (f.1 (eqb-true x.depth z.depth t)) (some_of z i)) ranges (λ k d l. (some k d l, alone k d l)))
      where
        beside : (x z : InlinedRange) → inlined_begin x < inlined_end x → ((p : ℕ) → inlined_holds p x ≡ true → inlined_holds p z ≡ true → x ≡ z) → inlined_begin z < inlined_end z → (x ≡ z) ⊎ IsDisjoint inlined_begin inlined_end z x
        beside x z l one m =
            elim (cases_lt (inlined_begin z) (inlined_end x)) [
              | inr low ↦ inr (l, inl low)
              | inl u ↦ elim (cases_lt (inlined_begin x) (inlined_end z)) [
                | inr high ↦ inr (l, inr high)
                | inl v ↦ (let p = max (inlined_begin x) (inlined_begin z) in inl (one p (inside (inlined_begin x) (inlined_end x) p (omega arith) (omega arith)) (inside (inlined_begin z) (inlined_end z) p (omega arith) (omega arith))))
              ]
            ]

    at_holding : (depth : ℕ) (h : HoldingRange depth) → inlined_at probe depth ranges ≡ Some h.it
    at_holding depth h = ap (λ n. inlined_at probe n ranges) (sym h.at) ∙ at_depth h.it h.listed h.holds_it

    within_holding : (n depth : ℕ) (h : HoldingRange depth) → inlined_within (suc n) probe depth ranges ≡ h.it.entry ∷ inlined_within n probe (depth + 1) ranges
    within_holding n depth h = ap (λ (o : Option InlinedRange). elim o [ None ↦ [] | Some x ↦ x.entry ∷ inlined_within n probe (depth + 1) ranges ]) (at_holding depth h)

    found_at : (n k depth : ℕ) (h : HoldingRange (depth + k)) → k < n → slice_get (inlined_within n probe depth ranges) k ≡ Some h.it.entry
    found_at zero k depth h l = absurd (omega arith)
    found_at (suc n) zero depth h l =
        let g : HoldingRange depth = record { it = h.it; listed = h.listed; at = (let e = h.at in omega arith); holds_it = h.holds_it } in
        ap (λ es. slice_get es zero) (within_holding n depth g)
    found_at (suc n) (suc k) depth h l =
        let g : HoldingRange (depth + 1 + k) = record { it = h.it; listed = h.listed; at = (let e = h.at in omega arith); holds_it = h.holds_it } in
        ap (λ es. slice_get es (suc k)) (within_holding n depth (holding_below (suc k) depth h)) ∙ found_at n k (depth + 1) g (omega arith)

-- as many depths as there are ranges at most
module _ (ranges : List InlinedRange) where
  -- those of a depth or a greater one
  abbrev deep : ℕ → List InlinedRange → List InlinedRange
  deep depth xs = filter (λ (x : InlinedRange). nat_le depth x.depth) xs

  fewer_or_same : (depth : ℕ) (xs : List InlinedRange) → length (deep (depth + 1) xs) ≤ length (deep depth xs)
  fewer_or_same depth [] = omega arith
  fewer_or_same depth (x ∷ xs) = by_cases (nat_le (depth + 1) x.depth) (nat_le depth x.depth) refl refl (fewer_or_same depth xs)
    where
      by_cases : (a b : Bool) → nat_le (depth + 1) x.depth ≡ a → nat_le depth x.depth ≡ b → length (deep (depth + 1) xs) ≤ length (deep depth xs)
          → length (cond a (x ∷ deep (depth + 1) xs) (deep (depth + 1) xs)) ≤ length (cond b (x ∷ deep depth xs) (deep depth xs))
      by_cases true true e f h = omega arith
      by_cases true false e f h = absurd (let l : depth + 1 ≤ x.depth = grind (arith, nat_tests) in let g : x.depth < depth = grind (arith, nat_tests) in omega arith)
      by_cases false true e f h = omega arith
      by_cases false false e f h = h

  fewer : (depth : ℕ) (xs : List InlinedRange) (z : InlinedRange) → In z xs → z.depth ≡ depth → length (deep (depth + 1) xs) < length (deep depth xs)
  fewer depth [] z i e = absurd i
  fewer depth (x ∷ xs) z i e = elim i [ inl it ↦ here it (fewer_or_same depth xs) | inr j ↦ there (nat_le (depth + 1) x.depth) (nat_le depth x.depth) refl refl (fewer depth xs z j e) ]
    where
      here : x ≡ z → length (deep (depth + 1) xs) ≤ length (deep depth xs) → length (deep (depth + 1) (x ∷ xs)) < length (deep depth (x ∷ xs))
      here it h =
          let at : x.depth ≡ depth = ap (λ (y : InlinedRange). y.depth) it ∙ e in
          let a : nat_le (depth + 1) x.depth ≡ false = grind (arith, nat_tests) in
          let b : nat_le depth x.depth ≡ true = grind (arith, nat_tests) in
          let m : length (deep (depth + 1) (x ∷ xs)) ≡ length (deep (depth + 1) xs) = ap (λ c. length (cond c (x ∷ deep (depth + 1) xs) (deep (depth + 1) xs))) a in
          let n : length (deep depth (x ∷ xs)) ≡ suc (length (deep depth xs)) = ap (λ c. length (cond c (x ∷ deep depth xs) (deep depth xs))) b in
          omega arith

      there : (a b : Bool) → nat_le (depth + 1) x.depth ≡ a → nat_le depth x.depth ≡ b → length (deep (depth + 1) xs) < length (deep depth xs)
          → length (cond a (x ∷ deep (depth + 1) xs) (deep (depth + 1) xs)) < length (cond b (x ∷ deep depth xs) (deep depth xs))
      there true true f g h = omega arith
      there true false f g h = absurd (let l : depth + 1 ≤ x.depth = grind (arith, nat_tests) in let k : x.depth < depth = grind (arith, nat_tests) in omega arith)
      there false true f g h = omega arith
      there false false f g h = h

  -- a range of each of so many depths
  abbrev Each : ℕ → ℕ → Type 0
  Each depth n = (k : ℕ) → depth ≤ k → k < depth + n → (z : InlinedRange) × In z ranges × (z.depth ≡ k)

  enough_from : (n depth : ℕ) → Each depth n → n ≤ length (deep depth ranges)
  enough_from zero depth each = omega arith
  enough_from (suc n) depth each =
      let z = each depth (omega arith) (omega arith) in
      let l = fewer depth ranges z.0 z.1 z.2 in
      let m = enough_from n (depth + 1) (λ k low high. each k (omega arith) (omega arith)) in
      omega arith

  few_pass : (p : InlinedRange → Bool) (xs : List InlinedRange) → length (filter p xs) ≤ length xs
  few_pass p [] = omega arith
  few_pass p (x ∷ xs) = by_cases (p x) (few_pass p xs)
    where
      by_cases : (b : Bool) → length (filter p xs) ≤ length xs → length (cond b (x ∷ filter p xs) (filter p xs)) ≤ suc (length xs)
      by_cases true h = omega arith
      by_cases false h = omega arith

  pub enough : (n : ℕ) → Each 0 n → n ≤ length ranges
  enough n each = let l = enough_from n 0 each in let m = few_pass (λ (x : InlinedRange). nat_le 0 x.depth) ranges in omega arith

  -- one step more changes nothing, or each depth has a range that is picked
  one_more : (n probe depth : ℕ) → (inlined_within (suc n) probe depth ranges ≡ inlined_within n probe depth ranges) ⊎ Each depth (suc n)
  one_more zero probe depth = by_cases (inlined_at probe depth ranges) refl
    where
      by_cases : (o : Option InlinedRange) → inlined_at probe depth ranges ≡ o → (◌≡◌ {A = List InlinedEntry} (elim o [ None ↦ [] | Some x ↦ x.entry ∷ [] ]) []) ⊎ Each depth 1
      by_cases None e = inl refl
      by_cases (Some x) e = let a = at_is probe depth ranges x e in inr (λ k low high. (x, a.0, (let d = a.1 in omega arith)))
  one_more (suc n) probe depth = by_cases (inlined_at probe depth ranges) refl (one_more n probe (depth + 1))
    where
      by_cases : (o : Option InlinedRange) → inlined_at probe depth ranges ≡ o → (inlined_within (suc n) probe (depth + 1) ranges ≡ inlined_within n probe (depth + 1) ranges) ⊎ Each (depth + 1) (suc n)
          → (◌≡◌ {A = List InlinedEntry} (elim o [ None ↦ [] | Some x ↦ x.entry ∷ inlined_within (suc n) probe (depth + 1) ranges ]) (elim o [ None ↦ [] | Some x ↦ x.entry ∷ inlined_within n probe (depth + 1) ranges ])) ⊎ Each depth (suc (suc n))
      by_cases None e rest = inl refl
      by_cases (Some x) e rest =
          elim rest [
            | inl same ↦ inl (ap (λ (es : List InlinedEntry). x.entry ∷ es) same)
            | inr each ↦ (let a = at_is probe depth ranges x e in inr (λ k low high. at_place a.0 a.1 each k low high (nat_le k depth) refl))
          ]
        where
          at_place : In x ranges → x.depth ≡ depth → Each (depth + 1) (suc n) → (k : ℕ) → depth ≤ k → k < depth + suc (suc n) → (b : Bool) → nat_le k depth ≡ b → (z : InlinedRange) × In z ranges × (z.depth ≡ k)
          at_place i d each k low high true f = (x, i, (let l : k ≤ depth = grind (arith, nat_tests) in omega arith))
          at_place i d each k low high false f = each k (let l : depth < k = grind (arith, nat_tests) in omega arith) (omega arith)

  more_steps : (j n probe : ℕ) → n ≡ j + length ranges → inlined_within n probe 0 ranges ≡ inlined_within (length ranges) probe 0 ranges
  more_steps zero n probe e = let f : n ≡ length ranges = omega arith in ap (λ k. inlined_within k probe 0 ranges) f
  more_steps (suc j) n probe e =
      let f : n ≡ suc (j + length ranges) = omega arith in
      ap (λ k. inlined_within k probe 0 ranges) f ∙ elim (one_more (j + length ranges) probe 0) [
        | inl same ↦ same ∙ more_steps j (j + length ranges) probe refl
        | inr each ↦ absurd (let l = enough (suc (j + length ranges)) each in omega arith)
      ]

pub chain_is_whole : ChainIsWhole
chain_is_whole n probe ranges l = more_steps ranges (n - length ranges) n probe (omega arith)

-- the chain of nested entries, whatever relation says which one is around another
nested_by : (Around : InlinedEntry → InlinedEntry → Type 0) (ranges : List InlinedRange) (probe : ℕ) → AreNested (IsOneAround Around) ranges → IsNestedChain Around ranges probe
nested_by Around ranges probe nested = record {
  next = next_within Around ranges probe nested (length ranges) 0;
  all = λ some k d l h.
      let x = slice_index_or ranges k d in
      let i : In x ranges = listed_in Around ranges probe nested x (All-contains_itself ranges k d l) in
      let holding : HoldingRange Around ranges probe nested (0 + x.depth) = record { it = x; listed = i; at = omega arith; holds_it = h } in
      let each : Each ranges 0 (x.depth + 1) = λ n low high.
      (let whole : HoldingRange Around ranges probe nested (n + (x.depth - n)) = record { it = x; listed = i; at = omega arith; holds_it = h } in
      let below = holding_below Around ranges probe nested (x.depth - n) n whole in (below.it, below.listed, below.at)) in
      let few = enough ranges (x.depth + 1) each in
      found_at Around ranges probe nested some (length ranges) x.depth 0 holding (omega arith);
}

pub nested_chain : NestedChain
nested_chain around ranges probe nested = nested_by (λ x y. around x ≡ Some y) ranges probe nested

pub nested_in_function : NestedInFunction
nested_in_function scope u offset items detail probe e f nested =
    let all = all_listed scope u offset items detail e f in
    nested_by (IsNearest items) detail.inlined probe (record {
      within = λ k d l some p h.
          let x = slice_index_or detail.inlined k d in
          let o = nested.within k d l some p h in
          let deeper = nearest_depth items x o.outer (all k d l) (All-contains (IsListed items) detail.inlined o.outer all o.listed) o.around in
          record { outer = o.outer; listed = o.listed; around = (o.around, deeper); holds_it = o.holds_it };
      apart = nested.apart;
    })

pub chain_begins_outermost : ChainBeginsOutermost
chain_begins_outermost scope u offset items detail probe e f = by_steps (length detail.inlined)
  where
    all : All (IsListed items) detail.inlined
    all = all_listed scope u offset items detail e f

    by_pick : (n : ℕ) (o : Option InlinedRange) → inlined_at probe 0 detail.inlined ≡ o → IsFirstOutermost items (elim o [ None ↦ [] | Some x ↦ x.entry ∷ inlined_within n probe 1 detail.inlined ])
    by_pick n None h = tt
    by_pick n (Some x) h = let a = at_is probe 0 detail.inlined x h in none_nearest items x (of_all (IsListed items) detail.inlined x all a.0) a.1

    by_steps : (n : ℕ) → IsFirstOutermost items (inlined_within n probe 0 detail.inlined)
    by_steps zero = tt
    by_steps (suc n) = by_pick n (inlined_at probe 0 detail.inlined) refl
