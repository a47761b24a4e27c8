-- Segments of ranges, one by one (on specs/Segments.antt and specs/Sweep.antt).
use Rattle.addr2line_lines.proofs.Common.{ℕ, ◌≡◌, ◌-◌, ◌<◌, ◌≤◌, ◌⊎◌, ◌&&◌, Bool, true, false, nat_le, nat_lt, nat_cmp, List, [], ◌∷◌, ◌++◌, length, slice_index_or, arith, inl, inr, ◌∙◌, ap, sym, subst, refl, zero, suc, All, Contains, is_lt, ordering_then, nat_tests, common_steps, get_or_default, Contains-get_or, All-contains, All-cons, All-from_recursion, All-push, All-tail, All-weaker, FunctionAddress, RunningRange, address_begin, address_end, address_function, address_holds, running_end, as_running, AreApart, AreDisjoint, AreSegments, AreSegmentsBelow, IsSegment}
use Rattle.std.proofs.lemmas.Bool.{ltb-false, ltb-true}
use Rattle.std.specs.BinaryHeap.{IsHeap, IsUpperBound}
use Rattle.addr2line_lines.specs.Shortest.{IsNoLonger}
use Rattle.addr2line_lines.specs.Sweep.{running_cmp, IsBegunFrom, IsSwept}
use Rattle.addr2line_lines.proofs.Facts.{from_inside, inside}

module _ {X : Type 0} where
  pub has_first : (xs : List X) (x : X) → Contains (x ∷ xs) x
  has_first xs x = (0, omega arith, refl)

  pub has_later : (xs : List X) (y x : X) → Contains xs x → Contains (y ∷ xs) x
  has_later xs y x c = (suc c.0, (let l = c.1 in omega arith), c.2)

  pub first_or_later : (xs : List X) (y x : X) → Contains (y ∷ xs) x → (y ≡ x) ⊎ Contains xs x
  first_or_later xs y x c = by_place c.0 c.1 c.2
    where
      by_place : (k : ℕ) → k < length (y ∷ xs) → slice_index_or (y ∷ xs) k x ≡ x → (y ≡ x) ⊎ Contains xs x
      by_place zero l e = inl e
      by_place (suc k) l e = inr (k, omega arith, e)

  -- all before one more
  pub all_before : (P : X → Type 0) (xs : List X) (y : X) → All P (xs ++ y ∷ []) → All P xs × P y
  all_before P [] y all = ((λ k d l. absurd (omega arith)), all 0 y (omega arith))
  all_before P (x ∷ xs) y all =
      let rest = all_before P xs y (All-tail P x (xs ++ y ∷ []) all) in
      (All-cons P x xs (all 0 x (omega arith)) rest.0, rest.1)

-- before anything is met
pub none_swept : (addresses : List FunctionAddress) → IsHeap running_cmp [] → IsSwept addresses 0 0 [] []
none_swept addresses heap = record {
  heap = heap;
  cut = record {
    apart = λ i j d l h. absurd (omega arith);
    below = λ k d l. absurd (omega arith);
    each = λ k d l. absurd (omega arith);
    others = λ p l all. absurd (omega arith);
  };
  only = λ k d l. absurd (omega arith);
  still = λ j d l h. absurd (omega arith);
}

-- one more segment at the end
pub apart_more : (segments : List FunctionAddress) (s : FunctionAddress) → AreApart segments → All (λ t. t.range.end ≤ s.range.begin) segments → AreApart (segments ++ s ∷ [])
apart_more segments s apart below i j d l h =
    let old = apart i j d l in
    let new = below i d in
    grind (arith, common_steps)

pub cut_more : (addresses segments : List FunctionAddress) (at : ℕ) (s : FunctionAddress) → AreSegmentsBelow addresses segments at → s.range.begin ≡ at → IsSegment addresses s → AreSegmentsBelow addresses (segments ++ s ∷ []) s.range.end
cut_more addresses segments at s h e new =
    let proper = new.proper in
    record {
      apart = apart_more segments s h.apart (All-weaker (λ t. t.range.end ≤ at) (λ t. t.range.end ≤ s.range.begin) (λ t l. omega arith) segments h.below);
      below = All-push (λ t. t.range.end ≤ s.range.end) segments s (All-weaker (λ t. t.range.end ≤ at) (λ t. t.range.end ≤ s.range.end) (λ t l. omega arith) segments h.below) (omega arith);
      each = All-push (IsSegment addresses) segments s h.each new;
      others = λ p l all. (
          let parts = all_before (λ t. address_holds p t ≡ false) segments s all in
          h.others p (before s.range.begin s.range.end at p e l parts.1) parts.0);
    }
  where
    before : (b c a p : ℕ) → b ≡ a → p < c → (nat_le b p && nat_lt p c) ≡ false → p < a
    before b c a p e l h = grind (arith, nat_tests)

-- the first running range is the shortest
pub no_longer : (a b c d e f : ℕ) → is_lt (ordering_then (ordering_then (nat_cmp d a) (nat_cmp e b)) (nat_cmp f c)) ≡ false → (a < d) ⊎ ((a ≡ d) × (b ≤ e))
no_longer a b c d e f h = grind (arith, nat_tests)

-- the first of three is no longer than the last
pub no_longer_trans : (a b c d e f : ℕ) → (a < c) ⊎ ((a ≡ c) × (b ≤ d)) → (c < e) ⊎ ((c ≡ e) × (d ≤ f)) → (a < e) ⊎ ((a ≡ e) × (b ≤ f))
no_longer_trans a b c d e f g h = grind (arith, nat_tests)

module _ (addresses : List FunctionAddress) (next at : ℕ) (segments : List FunctionAddress) where
  pub segment_of : (o : RunningRange) (running : List RunningRange) (until : ℕ) → IsSwept addresses next at (o ∷ running) segments → IsBegunFrom addresses next until → at < until → until ≤ running_end o → IsUpperBound running_cmp o (o ∷ running)
      → IsSegment addresses (record { range = record { begin = at; end = until }; function = o.0.1 })
  segment_of o running until h begun l fits top =
      let first = h.only 0 o (omega arith) in
      let a = first.address in
      let same : running_end o ≡ a.range.end = ap running_end first.is in
      let low = first.begun in
      record {
        proper = l;
        shortest_is = λ p inner. (
            let between = from_inside at until p inner in
            record {
              address = a;
              listed = first.listed;
              holds_it = inside a.range.begin a.range.end p (let b = between.0 in omega arith) (let b = between.1 in omega arith);
              is = sym (ap (λ (x : RunningRange). x.0.1) first.is);
              shorter = λ j d k held. by_cases p between j d k held (nat_lt j next) refl;
            });
      }
    where
      running_ones : (a : FunctionAddress) (o : RunningRange) (y : FunctionAddress) → o ≡ as_running a → is_lt (running_cmp o (as_running y)) ≡ false → IsNoLonger address_begin address_end address_function a y
      running_ones a o y e t = no_longer (a.range.end - a.range.begin) a.function a.range.end (y.range.end - y.range.begin) y.function y.range.end (ap (λ x. is_lt (running_cmp x (as_running y))) (sym e) ∙ t)

      by_cases : (p : ℕ) → (at ≤ p) × (p < until) → (j : ℕ) (d : FunctionAddress) → j < length addresses → address_holds p (slice_index_or addresses j d) ≡ true → (b : Bool) → nat_lt j next ≡ b
          → IsNoLonger address_begin address_end address_function (h.only 0 o (omega arith)).address (slice_index_or addresses j d)
      by_cases p between j d k held true e =
          let some = h.still j d (ltb-true j next e) k p between.0 held in
          let a = (h.only 0 o (omega arith)).address in
          let x = some.other in
          let y = slice_index_or addresses j d in
          let top_is = All-contains (λ y. is_lt (running_cmp o y) ≡ false) (o ∷ running) (as_running x) (All-from_recursion (λ y. is_lt (running_cmp o y) ≡ false) (o ∷ running) top) some.runs in
          no_longer_trans (a.range.end - a.range.begin) a.function (x.range.end - x.range.begin) x.function (y.range.end - y.range.begin) y.function (running_ones a o x (h.only 0 o (omega arith)).is top_is) some.no_longer
      by_cases p between j d k held false e =
          let late = begun j d (ltb-false j next e) k in
          let low = (from_inside (slice_index_or addresses j d).range.begin (slice_index_or addresses j d).range.end p held).0 in
          let high = between.1 in
          absurd (omega arith)

-- disjoint ranges are segments of themselves
pub disjoint_segments : (addresses : List FunctionAddress) → AreDisjoint addresses → AreSegments addresses addresses
disjoint_segments addresses h = record {
  apart = h.apart;
  few = omega arith;
  each = λ k d l. record {
    proper = h.proper k d l;
    shortest_is = λ p inner. record {
      address = slice_index_or addresses k d;
      listed = Contains-get_or addresses k d l;
      holds_it = inner;
      is = refl;
      shorter = λ j e m held. by_order k j d e p l m (from_inside _ _ p inner) (from_inside _ _ p held) (nat_lt k j) (nat_lt j k) refl refl;
    };
  };
  others = λ p out. out;
}
  where
    by_order : (k j : ℕ) (d e : FunctionAddress) (p : ℕ) → k < length addresses → j < length addresses
        → ((slice_index_or addresses k d).range.begin ≤ p) × (p < (slice_index_or addresses k d).range.end) → ((slice_index_or addresses j e).range.begin ≤ p) × (p < (slice_index_or addresses j e).range.end)
        → (b c : Bool) → nat_lt k j ≡ b → nat_lt j k ≡ c → IsNoLonger address_begin address_end address_function (slice_index_or addresses k d) (slice_index_or addresses j e)
    by_order k j d e p l m inner held true c s t =
        let after = h.apart k j e (grind (arith, nat_tests)) m in
        let same = ap address_end (get_or_default addresses k d e l) in
        let high = inner.1 in
        let low = held.0 in
        absurd (omega arith)
    by_order k j d e p l m inner held false true s t =
        let after = h.apart j k d (grind (arith, nat_tests)) l in
        let same = ap address_end (get_or_default addresses j e d m) in
        let high = held.1 in
        let low = inner.0 in
        absurd (omega arith)
    by_order k j d e p l m inner held false false s t =
        let here : k ≡ j = (let u : j ≤ k = grind (arith, nat_tests) in let v : k ≤ j = grind (arith, nat_tests) in omega arith) in
        let same : slice_index_or addresses k d ≡ slice_index_or addresses j e = ap (λ i. slice_index_or addresses i d) here ∙ get_or_default addresses j d e m in
        subst (λ a. IsNoLonger address_begin address_end address_function (slice_index_or addresses k d) a) same (inr (refl, omega arith))
