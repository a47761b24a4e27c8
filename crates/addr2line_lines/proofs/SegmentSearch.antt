-- The search among segments (on specs/Segments.antt).
use Rattle.addr2line_lines.proofs.Common.{ℕ, ◌≡◌, ◌-◌, ◌<◌, ◌≤◌, ◌&&◌, Bool, true, false, nat_le, nat_lt, leb, List, length, slice_index_or, Some, None, arith, inr, ◌∙◌, ap, sym, subst, refl, All, IsNonDecreasingBy, IsPartitionPoint, IsPermutation, nat_tests, get_or_default, All-weaker, All-permutation, Contains-permutation, IsPermutation-sym, length_permutation, FunctionAddress, address_begin, address_end, address_function, address_holds, shortest_function_at, AreSegments, IsSegment}
use Rattle.std.specs.Option.{option_map}
use Rattle.addr2line_lines.specs.Shortest.{IsNoLonger}
use Rattle.addr2line_lines.proofs.ShortestLemmas.{none_is_shorter, none_is_shortest}
use Rattle.addr2line_lines.proofs.Facts.{inside, outside}

-- the segments of ranges are those of the same ranges in another order
pub permuted_segments : (listed addresses segments : List FunctionAddress) → IsPermutation listed addresses → AreSegments addresses segments → AreSegments listed segments
permuted_segments listed addresses segments moved h =
    let back = IsPermutation-sym listed addresses moved in
    record {
      apart = h.apart;
      few = (let f = h.few in let n = length_permutation listed addresses moved in omega arith);
      each = All-weaker (IsSegment addresses) (IsSegment listed) (λ s g. record {
        proper = g.proper;
        shortest_is = λ p inner. (let u = g.shortest_is p inner in record {
          address = u.address;
          listed = Contains-permutation addresses listed u.address back u.listed;
          holds_it = u.holds_it;
          is = u.is;
          shorter = All-permutation (λ a. address_holds p a ≡ true → IsNoLonger address_begin address_end address_function u.address a) addresses listed back u.shorter;
        });
      }) segments h.each;
      others = λ p out. All-permutation (λ a. address_holds p a ≡ false) addresses listed back (h.others p out);
    }

-- segments begin in order
pub segments_rise : (listed segments : List FunctionAddress) → AreSegments listed segments → IsNonDecreasingBy address_begin segments
segments_rise listed segments h i j d le l = by_place (nat_lt i j) refl
  where
    by_place : (b : Bool) → nat_lt i j ≡ b → (slice_index_or segments i d).range.begin ≤ (slice_index_or segments j d).range.begin
    by_place true e = let a = h.apart i j d (grind (arith, nat_tests)) l in let p = (h.each i d (omega arith)).proper in omega arith
    by_place false e = let same : i ≡ j = (let u : j ≤ i = grind (arith, nat_tests) in omega arith) in let f : (slice_index_or segments i d).range.begin ≡ (slice_index_or segments j d).range.begin = ap (λ n. (slice_index_or segments n d).range.begin) same in omega arith

-- the function of a segment that holds the probe
pub segment_found : (listed segments : List FunctionAddress) (probe k : ℕ) (s : FunctionAddress) → AreSegments listed segments → k < length segments → slice_index_or segments k s ≡ s → s.range.begin ≤ probe → probe < s.range.end → shortest_function_at probe listed ≡ Some s.function
segment_found listed segments probe k s h l is low high =
    let u = (subst (IsSegment listed) is (h.each k s l)).shortest_is probe (inside s.range.begin s.range.end probe low high) in
    let r = none_is_shorter address_begin address_end address_function probe listed u.address u.listed u.holds_it u.shorter in
    ap (option_map address_function) r.1 ∙ ap Some (r.2 ∙ u.is)

-- where no segment holds the probe no range does
pub none_found : (listed segments : List FunctionAddress) (probe : ℕ) → AreSegments listed segments → All (λ s. address_holds probe s ≡ false) segments → shortest_function_at probe listed ≡ None
none_found listed segments probe h out = ap (option_map address_function) (none_is_shortest address_begin address_end address_function probe listed (h.others probe out))

-- whether a segment begins at or below the probe
abbrev pub begins_by : ℕ → FunctionAddress → Bool
begins_by probe s = leb s.range.begin probe

-- where the last segment that begins at or below the probe ends there or before
pub out_of_all : (listed segments : List FunctionAddress) (probe past : ℕ) → AreSegments listed segments → past ≤ length segments → IsPartitionPoint (λ s. begins_by probe s ≡ true) (λ s. begins_by probe s ≡ false) segments past
    → ((d : FunctionAddress) → 0 < past → (slice_index_or segments (past - 1) d).range.end ≤ probe) → All (λ s. address_holds probe s ≡ false) segments
out_of_all listed segments probe past h bound point ends k d l = by_place (nat_lt k past) refl
  where
    is_past : (b e : ℕ) → leb b probe ≡ false → (nat_le b probe && nat_lt probe e) ≡ false
    is_past b e t = grind (arith, nat_tests)

    by_place : (b : Bool) → nat_lt k past ≡ b → address_holds probe (slice_index_or segments k d) ≡ false
    by_place false e = is_past (slice_index_or segments k d).range.begin (slice_index_or segments k d).range.end (point.1 k d (grind (arith, nat_tests)) l)
    by_place true e =
        let below : k < past = grind (arith, nat_tests) in
        let last = ends d (omega arith) in
        outside (slice_index_or segments k d).range.begin (slice_index_or segments k d).range.end probe (inr (before below last (nat_lt k (past - 1)) refl))
      where
        before : k < past → (slice_index_or segments (past - 1) d).range.end ≤ probe → (b : Bool) → nat_lt k (past - 1) ≡ b → (slice_index_or segments k d).range.end ≤ probe
        before below last true e =
            let a = h.apart k (past - 1) d (grind (arith, nat_tests)) (omega arith) in
            let p = (h.each (past - 1) d (omega arith)).proper in
            omega arith
        before below last false e =
            let same : k ≡ past - 1 = (let u : past - 1 ≤ k = grind (arith, nat_tests) in omega arith) in
            let f : (slice_index_or segments k d).range.end ≡ (slice_index_or segments (past - 1) d).range.end = ap (λ n. (slice_index_or segments n d).range.end) same in
            omega arith

-- the last segment that begins at or below the probe
pub last_begins : (segments : List FunctionAddress) (probe past : ℕ) (s : FunctionAddress) → 0 < past → past ≤ length segments → IsPartitionPoint (λ t. begins_by probe t ≡ true) (λ t. begins_by probe t ≡ false) segments past → slice_index_or segments (past - 1) s ≡ s → s.range.begin ≤ probe
last_begins segments probe past s some l point is =
    let e : begins_by probe s ≡ true = sym (ap (begins_by probe) is) ∙ point.0 (past - 1) s (omega arith) (omega arith) in
    low s.range.begin e
  where
    low : (b : ℕ) → leb b probe ≡ true → b ≤ probe
    low b e = grind (arith, nat_tests)

-- and where it ends
pub last_ends : (segments : List FunctionAddress) (probe past : ℕ) (s d : FunctionAddress) → 0 < past → past ≤ length segments → slice_index_or segments (past - 1) s ≡ s → s.range.end ≤ probe → (slice_index_or segments (past - 1) d).range.end ≤ probe
last_ends segments probe past s d some l is ends =
    let same : slice_index_or segments (past - 1) d ≡ s = get_or_default segments (past - 1) d s (omega arith) ∙ is in
    let e : (slice_index_or segments (past - 1) d).range.end ≡ s.range.end = ap address_end same in
    omega arith
