-- What is seen of cached functions, by their places (on specs/FunctionTable.antt).
use Rattle.addr2line_lines.proofs.Common.{◌≡◌, ℕ, ◌<◌, ◌==◌, nat_lt, true, cond, List, [], ◌∷◌, get_or, length, map, slice_get, slice_index_or, Option, Some, None, Result, Ok, option_and_then, refl, ap, sym, subst, ◌∙◌, arith, zero, suc, AllByRecursion, position_or_len, position, nat_tests, position_or_len_is, slice_get-map, Error, FunctionDetail, LazyFunction, FunctionAddress, Detail, InlinedRange, AreFunctions, function_offsets, function_range_of, HasPlace, place_read, read_at, as_function, as_lazy, CachedFunction, inlined_of_detail, name_of_detail, function_offset_at, IsDetailPlace, CachedDetails, detail_of, shortest_function_at, length-map}
use Rattle.std.specs.Option.{option_map}
use Rattle.addr2line_lines.specs.declared.functions.LazyDetail.{LazyDetail}
use Rattle.addr2line_lines.specs.declared.functions.LazyDetail.TheVariants.{Unread, Read, Faulty}
use Rattle.addr2line_lines.proofs.FunctionOrder.{found_is, place_found}
use Rattle.addr2line_lines.proofs.Facts.{all_at, not_below, not_itself}

-- a cached detail, by the place of its function
abbrev pub cached_at : List CachedFunction → ℕ → Option (Result Detail Error)
cached_at fs n = option_and_then (λ (f : CachedFunction). f.detail) (slice_get fs n)

as_function_at : (d : CachedDetails) (fs : List LazyFunction) (n : ℕ) → cached_at (map (as_function d) fs) n ≡ option_and_then (λ (f : LazyFunction). as_lazy d f.detail) (slice_get fs n)
as_function_at d fs n = ap (option_and_then (λ (f : CachedFunction). f.detail)) (slice_get-map (as_function d) fs n) ∙ by_cases (slice_get fs n)
  where
    by_cases : (o : Option LazyFunction) → option_and_then (λ (f : CachedFunction). f.detail) (option_map (as_function d) o) ≡ option_and_then (λ (f : LazyFunction). as_lazy d f.detail) o
    by_cases None = refl
    by_cases (Some f) = refl

-- the detail of a function, where its place is known
pub read_is : (d : CachedDetails) (fs : List LazyFunction) (n : ℕ) (p : FunctionDetail) → read_at fs n ≡ Some p → cached_at (map (as_function d) fs) n ≡ Some (Ok (detail_of d p))
read_is d fs n p e = as_function_at d fs n ∙ by_cases (slice_get fs n) e
  where
    by_lazy : (x : LazyDetail) → place_read x ≡ Some p → as_lazy d x ≡ Some (Ok (detail_of d p))
    by_lazy Unread h = absurd cc
    by_lazy (Read q) h = let same : q ≡ p = cc in ap (λ r. Some (Ok (detail_of d r))) same
    by_lazy (Faulty f) h = absurd cc

    by_cases : (o : Option LazyFunction) → option_and_then (λ (f : LazyFunction). place_read f.detail) o ≡ Some p → option_and_then (λ (f : LazyFunction). as_lazy d f.detail) o ≡ Some (Ok (detail_of d p))
    by_cases None h = absurd cc
    by_cases (Some f) h = by_lazy f.detail h

-- the inlined ranges of a cached detail
abbrev pub inlined_cached : Option (Result Detail Error) → List InlinedRange
inlined_cached v = elim v [ None ↦ [] | Some x ↦ inlined_of_detail x ]

-- neither a name nor inlined ranges
abbrev pub HasNone : Option (Result Detail Error) → Type 0
HasNone v = (option_and_then name_of_detail v ≡ None) × (inlined_cached v ≡ [])

-- where the detail of a function isn't read it has no name and no inlined ranges
pub none_read : (d : CachedDetails) (fs : List LazyFunction) (n : ℕ) → read_at fs n ≡ None
    → HasNone (cached_at (map (as_function d) fs) n)
none_read d fs n e = subst HasNone (sym (as_function_at d fs n)) (by_cases (slice_get fs n) e)
  where
    by_lazy : (x : LazyDetail) → place_read x ≡ None → HasNone (as_lazy d x)
    by_lazy Unread h = (refl, refl)
    by_lazy (Read q) h = absurd cc
    by_lazy (Faulty f) h = (refl, refl)

    by_cases : (o : Option LazyFunction) → option_and_then (λ (f : LazyFunction). place_read f.detail) o ≡ None → HasNone (option_and_then (λ (f : LazyFunction). as_lazy d f.detail) o)
    by_cases None h = (refl, refl)
    by_cases (Some f) h = by_lazy f.detail h

-- the place of a detail that was read is one in the lists
pub place_cached : (d : CachedDetails) (fs : List LazyFunction) (n : ℕ) (p : FunctionDetail) → AllByRecursion (HasPlace d) fs → read_at fs n ≡ Some p → IsDetailPlace d p
place_cached d fs n p all e = by_cases (slice_get fs n) refl e
  where
    by_lazy : (x : LazyDetail) → place_read x ≡ Some p → x ≡ Read p
    by_lazy Unread h = absurd cc
    by_lazy (Read q) h = let same : q ≡ p = cc in ap Read same
    by_lazy (Faulty f) h = absurd cc

    by_cases : (o : Option LazyFunction) → slice_get fs n ≡ o → option_and_then (λ (f : LazyFunction). place_read f.detail) o ≡ Some p → IsDetailPlace d p
    by_cases None q h = absurd cc
    by_cases (Some f) q h = all_at (HasPlace d) fs n f all q p (by_lazy f.detail h)

-- where the entry of a function begins, by its place
pub entry_at : (d : CachedDetails) (fs : List LazyFunction) (n : ℕ) → n < length (function_offsets fs) → option_map (λ (f : CachedFunction). f.offset) (slice_get (map (as_function d) fs) n) ≡ Some (slice_index_or (function_offsets fs) n (record { 0 = 0 })).0
entry_at d [] n l = absurd (omega arith)
entry_at d (f ∷ fs) zero l = refl
entry_at d (f ∷ fs) (suc n) l = entry_at d fs n (omega arith)

-- the function at an address, by its place and by its entry
pub entry_found : (d : CachedDetails) (fs : List LazyFunction) (addresses : List FunctionAddress) (probe : ℕ) → AreFunctions (function_offsets fs) addresses
    → option_and_then (λ n. option_map (λ (f : CachedFunction). f.offset) (slice_get (map (as_function d) fs) n)) (shortest_function_at probe addresses) ≡ function_offset_at probe (map (function_range_of (function_offsets fs)) addresses)
entry_found d fs addresses probe h = by_cases (shortest_function_at probe addresses) refl
  where
    by_cases : (o : Option ℕ) → shortest_function_at probe addresses ≡ o → option_and_then (λ n. option_map (λ (f : CachedFunction). f.offset) (slice_get (map (as_function d) fs) n)) (shortest_function_at probe addresses) ≡ function_offset_at probe (map (function_range_of (function_offsets fs)) addresses)
    by_cases None e = ap (option_and_then (λ n. option_map (λ (f : CachedFunction). f.offset) (slice_get (map (as_function d) fs) n))) e ∙ sym (found_is (function_offsets fs) addresses h probe ∙ ap (option_map (λ i. (slice_index_or (function_offsets fs) i (record { 0 = 0 })).0)) e)
    by_cases (Some i) e = ap (option_and_then (λ n. option_map (λ (f : CachedFunction). f.offset) (slice_get (map (as_function d) fs) n))) e ∙ entry_at d fs i (place_found (function_offsets fs) addresses h probe i e) ∙ sym (found_is (function_offsets fs) addresses h probe ∙ ap (option_map (λ i. (slice_index_or (function_offsets fs) i (record { 0 = 0 })).0)) e)

pub place_seen : (d : CachedDetails) (fs : List LazyFunction) (addresses : List FunctionAddress) (probe i : ℕ) → AreFunctions (function_offsets fs) addresses → shortest_function_at probe addresses ≡ Some i → i < length (map (as_function d) fs)
place_seen d fs addresses probe i h e =
    let l = place_found (function_offsets fs) addresses h probe i e in
    let a : length (function_offsets fs) ≡ length (map (as_function d) fs) = same_length fs in
    omega arith
  where
    same_length : (xs : List LazyFunction) → length (function_offsets xs) ≡ length (map (as_function d) xs)
    same_length [] = refl
    same_length (x ∷ xs) = ap suc (same_length xs)

-- where the entry of a function begins, as it is cached and as it stands among all
offset_seen : (d : CachedDetails) (fs : List LazyFunction) (n : ℕ) (x : CachedFunction) → n < length fs
    → (get_or (map (as_function d) fs) n x).offset ≡ (slice_index_or (function_offsets fs) n (record { 0 = 0 })).0
offset_seen d [] n x l = absurd (omega arith)
offset_seen d (f ∷ fs) zero x l = refl
offset_seen d (f ∷ fs) (suc n) x l = offset_seen d fs n x (omega arith)

-- entries begin one after another, so that each is the first one that begins there
first_there : (d : CachedDetails) (fs : List LazyFunction) (addresses : List FunctionAddress) → AreFunctions (function_offsets fs) addresses → (n : ℕ) → n < length fs
    → position (λ (f : CachedFunction). f.offset == (slice_index_or (function_offsets fs) n (record { 0 = 0 })).0) (map (as_function d) fs) ≡ Some n
first_there d fs addresses h n l =
    let none : CachedFunction = record { offset = 0; detail = None } in
    let at : ℕ → ℕ = λ k. (slice_index_or (function_offsets fs) k (record { 0 = 0 })).0 in
    let long : length (map (as_function d) fs) ≡ length fs = length-map fs (as_function d) in
    let listed : length (function_offsets fs) ≡ length fs = length-map fs (λ (f : LazyFunction). f.dw_die_offset) in
    let is : position_or_len (λ (f : CachedFunction). f.offset == at n) (map (as_function d) fs) ≡ n =
    position_or_len_is (λ (f : CachedFunction). f.offset == at n) (map (as_function d) fs) n none (omega arith)
    (λ k m. ap (λ o. o == at n) (offset_seen d fs k none (omega arith)) ∙ not_below (at k) (at n) (h.rising k n (record { 0 = 0 }) m (omega arith)))
    (λ m. ap (λ o. o == at n) (offset_seen d fs n none l) ∙ not_itself (at n)) in
    let some : nat_lt n (length (map (as_function d) fs)) ≡ true = grind (arith, nat_tests) in
    ap (λ k. cond (nat_lt k (length (map (as_function d) fs))) (Some k) None) is ∙ ap (λ b. cond b (Some n) None) some

-- the place of the function at an address is that of its entry
pub place_is : (d : CachedDetails) (fs : List LazyFunction) (addresses : List FunctionAddress) (probe : ℕ) → AreFunctions (function_offsets fs) addresses
    → shortest_function_at probe addresses ≡ option_and_then (λ offset. position (λ (f : CachedFunction). f.offset == offset) (map (as_function d) fs))
    (function_offset_at probe (map (function_range_of (function_offsets fs)) addresses))
place_is d fs addresses probe h = by_cases (shortest_function_at probe addresses) refl
  where
    by_cases : (o : Option ℕ) → shortest_function_at probe addresses ≡ o → shortest_function_at probe addresses ≡ option_and_then (λ offset. position (λ (f : CachedFunction). f.offset == offset) (map (as_function d) fs))
        (function_offset_at probe (map (function_range_of (function_offsets fs)) addresses))
    by_cases None e =
        e ∙ sym (ap (option_and_then (λ offset. position (λ (f : CachedFunction). f.offset == offset) (map (as_function d) fs)))
        (found_is (function_offsets fs) addresses h probe ∙ ap (option_map (λ i. (slice_index_or (function_offsets fs) i (record { 0 = 0 })).0)) e))
    by_cases (Some i) e =
        let l = place_found (function_offsets fs) addresses h probe i e in
        let listed : length (function_offsets fs) ≡ length fs = length-map fs (λ (f : LazyFunction). f.dw_die_offset) in
        e ∙ sym (ap (option_and_then (λ offset. position (λ (f : CachedFunction). f.offset == offset) (map (as_function d) fs)))
        (found_is (function_offsets fs) addresses h probe ∙ ap (option_map (λ i. (slice_index_or (function_offsets fs) i (record { 0 = 0 })).0)) e)
        ∙ first_there d fs addresses h i (omega arith))
