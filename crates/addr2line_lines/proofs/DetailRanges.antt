-- Ranges by the places of inlined entries, where more are found (on specs/FoundInlined.antt).
use Rattle.addr2line_lines.proofs.Common.{◌≡◌, ℕ, ◌+◌, ◌≤◌, List, [], ◌∷◌, ◌++◌, drop, map, length, slice_index_or, refl, ap, sym, subst, ◌∙◌, arith, length-append, append-nil, All, AllByRecursion, drop-append-le, map-append, All-append, All-head, All-map, All-tail, All-weaker, recursion_from_All, drop-length, Range, InlinedFunctionAddress, InlinedEntry, InlinedRange, FoundInlined, inlined_address, inlined_more, range_among, no_inlined, inlined_place, IsOfEntryBetween, get_or_append_left, ◌<◌}
use Rattle.addr2line_lines.proofs.SeekLemmas.{Up}

-- the ranges from a place on, by their inlined entries
abbrev pub found_ranges_from : ℕ → FoundInlined → List InlinedRange
found_ranges_from n found = map (range_among found.entries) (drop n found.ranges)

-- a place is that of an inlined entry
abbrev pub IsPlaceAmong : List InlinedEntry → InlinedFunctionAddress → Type 0
IsPlaceAmong entries a = a.function < length entries

-- a range of an inlined entry
abbrev pub of_entry : ℕ → InlinedEntry → Range → InlinedRange
of_entry depth e r = record { depth = depth; range = r; entry = e }

pub ranges_stay : (entries more : List InlinedEntry) (xs : List InlinedFunctionAddress) → All (IsPlaceAmong entries) xs → map (range_among (entries ++ more)) xs ≡ map (range_among entries) xs
ranges_stay entries more [] all = refl
ranges_stay entries more (a ∷ xs) all =
    let one : range_among (entries ++ more) a ≡ range_among entries a = ap (λ (y : InlinedEntry). of_entry a.depth y a.range) (get_or_append_left entries more no_inlined a.function (All-head (IsPlaceAmong entries) a xs all)) in
    ap (λ (y : InlinedRange). y ∷ map (range_among (entries ++ more)) xs) one
    ∙ ap (λ ys. range_among entries a ∷ ys) (ranges_stay entries more xs (All-tail (IsPlaceAmong entries) a xs all))

last_entry : (entries : List InlinedEntry) (e d : InlinedEntry) → slice_index_or (entries ++ e ∷ []) (length entries) d ≡ e
last_entry [] e d = refl
last_entry (x ∷ entries) e d = last_entry entries e d

new_ranges : (entries : List InlinedEntry) (e : InlinedEntry) (depth : ℕ) (ranges : List Range) → map (range_among (entries ++ e ∷ [])) (map (inlined_address depth (length entries)) ranges) ≡ map (of_entry depth e) ranges
new_ranges entries e depth [] = refl
new_ranges entries e depth (r ∷ ranges) =
    let one : range_among (entries ++ e ∷ []) (inlined_address depth (length entries) r) ≡ of_entry depth e r = ap (λ (y : InlinedEntry). of_entry depth y r) (last_entry entries e no_inlined) in
    ap (λ (y : InlinedRange). y ∷ map (range_among (entries ++ e ∷ [])) (map (inlined_address depth (length entries)) ranges)) one
    ∙ ap (λ ys. of_entry depth e r ∷ ys) (new_ranges entries e depth ranges)

-- the ranges from a place on are by places of inlined entries that stand past others, and these
-- places do not fall
pub record AreFrom (before n : ℕ) (found : FoundInlined) : Type 0 where
  pub within : n ≤ length found.ranges
  pub past : before ≤ length found.entries
  pub places : All (IsOfEntryBetween before (length found.entries)) (drop n found.ranges)
  pub rising : Up inlined_place (drop n found.ranges)

pub among : (begin end : ℕ) (entries : List InlinedEntry) (xs : List InlinedFunctionAddress) → end ≤ length entries → All (IsOfEntryBetween begin end) xs → All (IsPlaceAmong entries) xs
among begin end entries xs l all = All-weaker (IsOfEntryBetween begin end) (IsPlaceAmong entries) (λ a k. let h = k.1 in omega arith) xs all

-- ranges of a place after ranges of places that are not above it
module _ (m depth : ℕ) where
  new_after : (x : InlinedFunctionAddress) (ranges : List Range) → inlined_place x ≤ m → AllByRecursion (λ y. inlined_place x ≤ inlined_place y) (map (inlined_address depth m) ranges)
  new_after x [] l = tt
  new_after x (r ∷ ranges) l = (l, new_after x ranges l)

  all_after : (x : InlinedFunctionAddress) (xs : List InlinedFunctionAddress) (ranges : List Range) → inlined_place x ≤ m → AllByRecursion (λ y. inlined_place x ≤ inlined_place y) xs → AllByRecursion (λ y. inlined_place x ≤ inlined_place y) (xs ++ map (inlined_address depth m) ranges)
  all_after x [] ranges l all = new_after x ranges l
  all_after x (y ∷ xs) ranges l all = (all.0, all_after x xs ranges l all.1)

  new_up : (ranges : List Range) → Up inlined_place (map (inlined_address depth m) ranges)
  new_up [] = tt
  new_up (r ∷ ranges) = (new_after (inlined_address depth m r) ranges (omega arith), new_up ranges)

  up_after : (xs : List InlinedFunctionAddress) (ranges : List Range) → AllByRecursion (λ x. inlined_place x ≤ m) xs → Up inlined_place xs → Up inlined_place (xs ++ map (inlined_address depth m) ranges)
  up_after [] ranges all up = new_up ranges
  up_after (x ∷ xs) ranges all up = (all_after x xs ranges all.0 up.0, up_after xs ranges all.1 up.1)

pub more_ranges : (before n : ℕ) (found : FoundInlined) (e : InlinedEntry) (depth : ℕ) (ranges : List Range) → AreFrom before n found → found_ranges_from n (inlined_more found e depth ranges) ≡ found_ranges_from n found ++ map (of_entry depth e) ranges
more_ranges before n found e depth [] all = sym (append-nil (found_ranges_from n found))
more_ranges before n found e depth (r ∷ ranges) all =
    let added = map (inlined_address depth (length found.entries)) (r ∷ ranges) in
    ap (λ xs. map (range_among (found.entries ++ e ∷ [])) xs) (drop-append-le n found.ranges added all.within)
    ∙ map-append (range_among (found.entries ++ e ∷ [])) (drop n found.ranges) added
    ∙ ap (λ xs. xs ++ map (range_among (found.entries ++ e ∷ [])) added) (ranges_stay found.entries (e ∷ []) (drop n found.ranges) (among before (length found.entries) found.entries (drop n found.ranges) (omega arith) all.places))
    ∙ ap (λ xs. found_ranges_from n found ++ xs) (new_ranges found.entries e depth (r ∷ ranges))

pub more_places : (before n : ℕ) (found : FoundInlined) (e : InlinedEntry) (depth : ℕ) (ranges : List Range) → AreFrom before n found → AreFrom before n (inlined_more found e depth ranges)
more_places before n found e depth [] all = all
more_places before n found e depth (r ∷ ranges) all =
    let m = length found.entries in
    let added = map (inlined_address depth m) (r ∷ ranges) in
    let next : length (found.entries ++ e ∷ []) ≡ length found.entries + 1 = length-append found.entries (e ∷ []) in
    let l = length-append found.ranges added in
    let w = all.within in
    let p = all.past in
    let is : drop n (found.ranges ++ added) ≡ drop n found.ranges ++ added = drop-append-le n found.ranges added all.within in
    let Between : InlinedFunctionAddress → Type 0 = IsOfEntryBetween before (length (found.entries ++ e ∷ [])) in
    record {
      within = omega arith;
      past = omega arith;
      places = subst (All Between) (sym is)
          (All-append Between (drop n found.ranges) added
          (All-weaker (IsOfEntryBetween before m) Between (λ a k. let h = k.1 in (k.0, omega arith)) (drop n found.ranges) all.places)
          (All-map Between (inlined_address depth m) (r ∷ ranges) (λ k d j. (p, omega arith))));
      rising = subst (Up inlined_place) (sym is)
          (up_after m depth (drop n found.ranges) (r ∷ ranges)
          (recursion_from_All (λ x. inlined_place x ≤ m) (drop n found.ranges) (All-weaker (IsOfEntryBetween before m) (λ x. inlined_place x ≤ m) (λ a k. let h = k.1 in omega arith) (drop n found.ranges) all.places))
          all.rising);
    }

pub none_from : (found : FoundInlined) → AreFrom (length found.entries) (length found.ranges) found
none_from found = record {
  within = omega arith;
  past = omega arith;
  places = subst (All (IsOfEntryBetween (length found.entries) (length found.entries))) (sym (drop-length found.ranges)) (λ k d l. absurd (omega arith));
  rising = subst (Up inlined_place) (sym (drop-length found.ranges)) tt;
}
