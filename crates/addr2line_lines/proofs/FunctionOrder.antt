-- The places of functions are in the order of their entries (on specs/FoundFunctions.antt).
use Rattle.addr2line_lines.proofs.Common.{◌≡◌, ℕ, ◌+◌, ◌<◌, ◌≤◌, Bool, true, false, cond, nat_lt, List, [], ◌∷◌, ◌++◌, map, length, slice_index_or, Option, Some, None, Result, Ok, Err, refl, ap, sym, subst, ◌∙◌, arith, inl, inr, length-append, append-nil, zero, suc, ℤ, pos, All, nat_tests, common_steps, map-append, All-append, All-head, All-map, All-push, All-tail, All-weaker, recursion_from_All, Error, Range, UnitOffset, ◌>>=◌, fold_run, Section, EntryUnit, entry_unit, Entry, Item, depth_after, items_of, offset_of, Sections, UnitRecord, RangeAttributes, FunctionAddress, attribute_ranges, range_attributes_of, FunctionRange, entries_of, entry_ranges, function_begin, function_end, function_offset, function_at_cost, function_offset_at, functions_at_cost, is_subprogram, FoundFunctions, AreFunctions, IsPlaceIn, function_address, found_in, found_more, function_range_of, none_found, with_attributes, with_found, address_begin, address_end, address_function, shortest_function_at, In, text_some}
use Rattle.std.specs.Option.{option_map}
use Rattle.gimli_read.specs.declared.endian.RunTimeEndian.{RunTimeEndian}
use Rattle.gimli.specs.ItemLaws.{AreItems}
use Rattle.gimli.proofs.ItemTexts.{items_cover}
use Rattle.addr2line_lines.specs.Shortest.{shortest, holds, IsNoLonger}
use Rattle.addr2line_lines.specs.CostedSteps.{fold_at_cost, on_parts}
use Rattle.addr2line_lines.proofs.CostLemmas.{Agrees, AgreesGiven, agrees_map, agrees_parts, agrees_then}
use Rattle.addr2line_lines.proofs.FunctionMemory.{found_at_cost, run_at_cost}
use Rattle.addr2line_lines.proofs.ListedFunctions.{entries_more, ranges_below}
use Rattle.addr2line_lines.proofs.OrderLemmas.{All-in}
use Rattle.addr2line_lines.proofs.ShortestLemmas.{shortest_holds, shortest_is, shortest_least, some_shortest}

-- what was found, by where entries begin
abbrev pub ranges_found : FoundFunctions → List FunctionRange
ranges_found found = map (function_range_of found.offsets) found.addresses

abbrev AreInPlace : FoundFunctions → Type 0
AreInPlace found = All (IsPlaceIn found.offsets) found.addresses

-- one more function changes nothing of those before
same_offset : (offsets : List UnitOffset) (o d : UnitOffset) (k : ℕ) → k < length offsets → slice_index_or (offsets ++ o ∷ []) k d ≡ slice_index_or offsets k d
same_offset [] o d k l = absurd (omega arith)
same_offset (x ∷ offsets) o d zero l = refl
same_offset (x ∷ offsets) o d (suc k) l = same_offset offsets o d k (omega arith)

last_offset : (offsets : List UnitOffset) (o d : UnitOffset) → slice_index_or (offsets ++ o ∷ []) (length offsets) d ≡ o
last_offset [] o d = refl
last_offset (x ∷ offsets) o d = last_offset offsets o d

same_ranges : (offsets : List UnitOffset) (o : UnitOffset) (addresses : List FunctionAddress) → All (IsPlaceIn offsets) addresses → map (function_range_of (offsets ++ o ∷ [])) addresses ≡ map (function_range_of offsets) addresses
same_ranges offsets o [] all = refl
same_ranges offsets o (a ∷ addresses) all =
    let one : function_range_of (offsets ++ o ∷ []) a ≡ function_range_of offsets a = ap (λ (p : UnitOffset). record { offset = p.0; range = a.range }) (same_offset offsets o (record { 0 = 0 }) a.function (All-head (IsPlaceIn offsets) a addresses all)) in
    ap (λ (x : FunctionRange). x ∷ map (function_range_of (offsets ++ o ∷ [])) addresses) one
    ∙ ap (λ xs. function_range_of offsets a ∷ xs) (same_ranges offsets o addresses (All-tail (IsPlaceIn offsets) a addresses all))

new_ranges : (offsets : List UnitOffset) (o : UnitOffset) (ranges : List Range) → map (function_range_of (offsets ++ o ∷ [])) (map (function_address (length offsets)) ranges) ≡ map (λ (r : Range). record { offset = o.0; range = r }) ranges
new_ranges offsets o [] = refl
new_ranges offsets o (r ∷ ranges) =
    let one : function_range_of (offsets ++ o ∷ []) (function_address (length offsets) r) ≡ record { offset = o.0; range = r } = ap (λ (p : UnitOffset). record { offset = p.0; range = r }) (last_offset offsets o (record { 0 = 0 })) in
    ap (λ (x : FunctionRange). x ∷ map (function_range_of (offsets ++ o ∷ [])) (map (function_address (length offsets)) ranges)) one
    ∙ ap (λ xs. record { offset = o.0; range = r } ∷ xs) (new_ranges offsets o ranges)

more_ranges : (found : FoundFunctions) (offset : ℕ) (ranges : List Range) → AreInPlace found → ranges_found (found_more found offset ranges) ≡ ranges_found found ++ map (λ (r : Range). record { offset = offset; range = r }) ranges
more_ranges found offset [] all = sym (append-nil (ranges_found found))
more_ranges found offset (r ∷ ranges) all =
    let o : UnitOffset = record { 0 = offset } in
    map-append (function_range_of (found.offsets ++ o ∷ [])) found.addresses (map (function_address (length found.offsets)) (r ∷ ranges))
    ∙ ap (λ xs. xs ++ map (function_range_of (found.offsets ++ o ∷ [])) (map (function_address (length found.offsets)) (r ∷ ranges))) (same_ranges found.offsets o found.addresses all)
    ∙ ap (λ xs. map (function_range_of found.offsets) found.addresses ++ xs) (new_ranges found.offsets o (r ∷ ranges))

more_in_place : (found : FoundFunctions) (offset : ℕ) (ranges : List Range) → AreInPlace found → AreInPlace (found_more found offset ranges)
more_in_place found offset [] all = all
more_in_place found offset (r ∷ ranges) all =
    let o : UnitOffset = record { 0 = offset } in
    let n : length (found.offsets ++ o ∷ []) ≡ length found.offsets + 1 = length-append found.offsets (o ∷ []) in
    All-append (IsPlaceIn (found.offsets ++ o ∷ [])) found.addresses (map (function_address (length found.offsets)) (r ∷ ranges))
    (All-weaker (IsPlaceIn found.offsets) (IsPlaceIn (found.offsets ++ o ∷ [])) (λ a l. omega arith) found.addresses all)
    (All-map (IsPlaceIn (found.offsets ++ o ∷ [])) (function_address (length found.offsets)) (r ∷ ranges) (λ k d l. omega arith))

-- the ranges are those of what was found, whose places are those of functions; or both are faulty
abbrev pub AgreesFound : Result (List FunctionRange) Error → Result FoundFunctions Error → Type 0
AgreesFound w m = AgreesGiven ranges_found AreInPlace w m

-- the functions begin one after another, below an offset
record IsBelow (offsets : List UnitOffset) (n : ℕ) : Type 0 where
  pub below : All (λ (o : UnitOffset). o.0 < n) offsets
  pub rising : (i j : ℕ) (d : UnitOffset) → i < j → j < length offsets → (slice_index_or offsets i d).0 < (slice_index_or offsets j d).0

rising_more : (offsets : List UnitOffset) (o : UnitOffset) → IsBelow offsets o.0 → (i j : ℕ) (d : UnitOffset) → i < j → j < length (offsets ++ o ∷ []) → (slice_index_or (offsets ++ o ∷ []) i d).0 < (slice_index_or (offsets ++ o ∷ []) j d).0
rising_more offsets o h i j d l m =
    let old = h.rising i j d l in
    let new = h.below i d in
    grind (arith, common_steps)

below_more : (found : FoundFunctions) (offset n : ℕ) (ranges : List Range) → IsBelow found.offsets offset → offset < n → IsBelow (found_more found offset ranges).offsets n
below_more found offset n [] h l = record { below = All-weaker (λ (o : UnitOffset). o.0 < offset) (λ (o : UnitOffset). o.0 < n) (λ o m. omega arith) found.offsets h.below; rising = h.rising }
below_more found offset n (r ∷ ranges) h l =
    let o : UnitOffset = record { 0 = offset } in
    record {
      below = All-push (λ (p : UnitOffset). p.0 < n) found.offsets o (All-weaker (λ (p : UnitOffset). p.0 < offset) (λ (p : UnitOffset). p.0 < n) (λ p m. omega arith) found.offsets h.below) l;
      rising = rising_more found.offsets o h;
    }

-- what is found is in place, and each function has a range
record AreFoundBelow (found : FoundFunctions) (n : ℕ) : Type 0 where
  pub below : IsBelow found.offsets n
  pub places : AreInPlace found
  pub listed : map (λ (o : UnitOffset). o.0) found.offsets ≡ entries_of (ranges_found found)

listed_more : (found : FoundFunctions) (offset : ℕ) (ranges : List Range) → AreFoundBelow found offset → map (λ (o : UnitOffset). o.0) (found_more found offset ranges).offsets ≡ entries_of (ranges_found (found_more found offset ranges))
listed_more found offset [] h = h.listed
listed_more found offset (r ∷ ranges) h =
    map-append (λ (o : UnitOffset). o.0) found.offsets (record { 0 = offset } ∷ [])
    ∙ ap (λ ks. ks ++ offset ∷ []) h.listed
    ∙ sym (entries_more offset (ranges_found found) r ranges (ranges_below found.offsets offset found.addresses h.below.below h.places))
    ∙ ap entries_of (sym (more_ranges found offset (r ∷ ranges) h.places))

found_below_more : (found : FoundFunctions) (offset n : ℕ) (ranges : List Range) → AreFoundBelow found offset → offset < n → AreFoundBelow (found_more found offset ranges) n
found_below_more found offset n ranges h l = record {
  below = below_more found offset n ranges h.below l;
  places = more_in_place found offset ranges h.places;
  listed = listed_more found offset ranges h;
}

module _ (d : Sections) (u : UnitRecord) where
  abbrev found_with : FoundFunctions → ℕ → Option Entry → Result FoundFunctions Error
  found_with found offset o = elim o [
    | None ↦ Ok found
    | Some e ↦ cond (is_subprogram e.abbreviation) (range_attributes_of d u e.attributes >>= λ r. with_attributes d u r offset found) (Ok found)
  ]

  abbrev function_with : List FunctionRange → ℕ → Option Entry → Result (List FunctionRange) Error
  function_with found offset o = elim o [
    | None ↦ Ok found
    | Some e ↦ cond (is_subprogram e.abbreviation) (entry_ranges d u e >>= λ ranges. Ok (found ++ map (λ (r : Range). record { offset = offset; range = r }) ranges)) (Ok found)
  ]

  abbrev grown : FoundFunctions → ℕ → Result (List Range) Error → Result (List FunctionRange) Error
  grown found offset r = r >>= λ ranges. Ok (ranges_found found ++ map (λ (r : Range). record { offset = offset; range = r }) ranges)

  agree_at : (found : FoundFunctions) (offset : ℕ) (o : Option Entry) → AreInPlace found → AgreesFound (function_with (ranges_found found) offset o) (found_with found offset o)
  agree_at found offset None all = (refl, all)
  agree_at found offset (Some e) all = by_test (is_subprogram e.abbreviation)
    where
      by_ranges : (r : Result (List Range) Error) → AgreesFound (grown found offset r) (r >>= λ ranges. Ok (found_more found offset ranges))
      by_ranges (Ok ranges) = (ap Ok (sym (more_ranges found offset ranges all)), more_in_place found offset ranges all)
      by_ranges (Err f) = refl

      by_attributes : (r : Result RangeAttributes Error) → AgreesFound (grown found offset (r >>= λ v. attribute_ranges d u v)) (r >>= λ v. with_attributes d u v offset found)
      by_attributes (Ok v) = by_ranges (attribute_ranges d u v)
      by_attributes (Err f) = refl

      by_test : (b : Bool) → AgreesFound (cond b (grown found offset (entry_ranges d u e)) (Ok (ranges_found found))) (cond b (range_attributes_of d u e.attributes >>= λ r. with_attributes d u r offset found) (Ok found))
      by_test true = by_attributes (range_attributes_of d u e.attributes)
      by_test false = (refl, all)

  fold_agrees : (items : List Item) (end : Result Section Error) (found : FoundFunctions) → AreInPlace found
      → Agrees (λ m. (ranges_found m.0, m.1)) (λ (m : FoundFunctions × Section). AreInPlace m.0) (fold_at_cost (function_at_cost d u) (ranges_found found) items end) (fold_at_cost (found_at_cost d u) found items end)
  unfolding fold_run
  fold_agrees [] (Ok z) found all = record { given = (refl, all); takes = λ shares t. t }
  fold_agrees [] (Err e) found all = record { given = refl; takes = λ shares t. t }
  fold_agrees (x ∷ xs) end found all =
      agrees_then {make = ranges_found} {holds = AreInPlace} (λ b. fold_at_cost (function_at_cost d u) b xs end) (λ b. fold_at_cost (found_at_cost d u) b xs end)
      (record { given = agree_at found x.offset x.entry all; takes = λ shares t. t }) (λ more. fold_agrees xs end more)

  -- the functions of a unit are those that are found, and take memory where those do
  pub functions_agree : Agrees ranges_found AreInPlace (functions_at_cost d u) (on_parts (run_at_cost d u none_found (items_of u)))
  functions_agree = agrees_parts (agrees_map (λ f. f.0) (λ more. more.0) (fold_agrees (items_of u).items (items_of u).end none_found (λ k e l. absurd (omega arith))) (λ more k. (refl, k)))

  below_with : (found more : FoundFunctions) (offset n : ℕ) (o : Option Entry) → found_with found offset o ≡ Ok more → AreFoundBelow found offset → offset < n → AreFoundBelow more n
  below_with found more offset n None e h l = let same : found ≡ more = cc in subst (λ (f : FoundFunctions). AreFoundBelow f n) same (found_below_more found offset n [] h l)
  below_with found more offset n (Some x) e h l = by_test (is_subprogram x.abbreviation) e
    where
      by_ranges : (r : Result (List Range) Error) → (r >>= λ ranges. Ok (found_more found offset ranges)) ≡ Ok more → AreFoundBelow more n
      by_ranges (Ok ranges) e = let same : found_more found offset ranges ≡ more = cc in subst (λ (f : FoundFunctions). AreFoundBelow f n) same (found_below_more found offset n ranges h l)
      by_ranges (Err f) e = absurd cc

      by_attributes : (r : Result RangeAttributes Error) → (r >>= λ v. with_attributes d u v offset found) ≡ Ok more → AreFoundBelow more n
      by_attributes (Ok v) e = by_ranges (attribute_ranges d u v) e
      by_attributes (Err f) e = absurd cc

      by_test : (b : Bool) → cond b (range_attributes_of d u x.attributes >>= λ r. with_attributes d u r offset found) (Ok found) ≡ Ok more → AreFoundBelow more n
      by_test true e = by_attributes (range_attributes_of d u x.attributes) e
      by_test false e = let same : found ≡ more = cc in subst (λ (f : FoundFunctions). AreFoundBelow f n) same (found_below_more found offset n [] h l)

  below_fold : (unit : EntryUnit) (order : RunTimeEndian) (offset : ℕ) (depth : ℤ) (items : List Item) (bytes : List ℕ) (end : Result Section Error) (found : FoundFunctions) → AreItems unit order offset depth items bytes → AreFoundBelow found offset
      → (m : FoundFunctions) (z : Section) → fold_run (with_found d u) found items end ≡ Ok (m, z) → (n : ℕ) × AreFoundBelow m n
  unfolding fold_run
  below_fold unit order offset depth [] bytes (Ok y) found h b m z e =
      let p : ◌≡◌ {A = FoundFunctions × Section} (found, y) (m, z) = cc in
      (offset, subst (λ (f : FoundFunctions). AreFoundBelow f offset) (ap (λ x. x.0) p) b)
  below_fold unit order offset depth [] bytes (Err f) found h b m z e = absurd cc
  below_fold unit order offset depth (x ∷ xs) bytes end found h b m z e = by_step (with_found d u found x) refl e (λ more c. below_fold unit order (offset + length h.0) (depth_after x) xs h.1 end more h.6 c m z)
    where
      by_step : (r : Result FoundFunctions Error) → with_found d u found x ≡ r → (r >>= λ v. fold_run (with_found d u) v xs end) ≡ Ok (m, z)
          → ((more : FoundFunctions) → AreFoundBelow more (offset + length h.0) → fold_run (with_found d u) more xs end ≡ Ok (m, z) → (n : ℕ) × AreFoundBelow m n) → (n : ℕ) × AreFoundBelow m n
      by_step (Ok more) q e rest =
          let some = text_some unit order x.entry h.0 h.3 in
          let at : x.offset ≡ offset = h.4 in
          let c = below_with found more x.offset (offset + length h.0) x.entry q (subst (λ n. AreFoundBelow found n) (sym at) b) (omega arith) in
          rest more c e
      by_step (Err f) q e rest = absurd cc

  fold_end : (items : List Item) (end : Result Section Error) (found m : FoundFunctions) (z : Section) → fold_run (with_found d u) found items end ≡ Ok (m, z) → end ≡ Ok z
  unfolding fold_run
  fold_end [] (Ok y) found m z e = let p : ◌≡◌ {A = FoundFunctions × Section} (found, y) (m, z) = cc in ap Ok (ap (λ x. x.1) p)
  fold_end [] (Err f) found m z e = absurd cc
  fold_end (x ∷ xs) end found m z e = by_step (with_found d u found x) e (λ more. fold_end xs end more m z)
    where
      by_step : (r : Result FoundFunctions Error) → (r >>= λ v. fold_run (with_found d u) v xs end) ≡ Ok (m, z) → ((more : FoundFunctions) → fold_run (with_found d u) more xs end ≡ Ok (m, z) → end ≡ Ok z) → end ≡ Ok z
      by_step (Ok more) e rest = rest more e
      by_step (Err f) e rest = absurd cc

  -- what is found is in order
  pub are_functions : (found : FoundFunctions) → found_in d u ≡ Ok found → AreFunctions found.offsets found.addresses
  are_functions found e = by_fold (fold_run (with_found d u) none_found (items_of u).items (items_of u).end) refl e
    where
      by_fold : (r : Result (FoundFunctions × Section) Error) → fold_run (with_found d u) none_found (items_of u).items (items_of u).end ≡ r → (r >>= λ more. Ok more.0) ≡ Ok found → AreFunctions found.offsets found.addresses
      by_fold (Ok p) q f =
          let same : p.0 ≡ found = cc in
          let unit = entry_unit u.header u.abbreviations in
          let left = u.header.entries in
          let cover = items_cover unit (pos 0) left p.1 (omega arith) (fold_end (items_of u).items (items_of u).end none_found p.0 p.1 q) in
          let b = below_fold unit left.endian (offset_of unit left) (pos 0) (items_of u).items left.bytes (items_of u).end none_found cover
          (record { below = record { below = λ k o l. absurd (omega arith); rising = λ i j o l m. absurd (omega arith) }; places = λ k a l. absurd (omega arith); listed = refl }) p.0 p.1 q in
          let all = subst (λ (f : FoundFunctions). AreFoundBelow f b.0) same b.1 in
          record { places = all.places; rising = all.below.rising; listed = all.listed }
      by_fold (Err g) q f = absurd cc

-- the place of a function, and where its entry begins
module _ (offsets : List UnitOffset) (addresses : List FunctionAddress) (h : AreFunctions offsets addresses) where
  abbrev pub offset_at : ℕ → ℕ
  offset_at i = (slice_index_or offsets i (record { 0 = 0 })).0

  not_before : (i j : ℕ) → i ≤ j → j < length offsets → offset_at i ≤ offset_at j
  not_before i j le l = by_cases (nat_lt i j) refl
    where
      by_cases : (b : Bool) → nat_lt i j ≡ b → offset_at i ≤ offset_at j
      by_cases true e = let r = h.rising i j (record { 0 = 0 }) (grind (arith, nat_tests)) l in omega arith
      by_cases false e = let same : i ≡ j = (let m : j ≤ i = grind (arith, nat_tests) in omega arith) in let f : offset_at i ≡ offset_at j = ap offset_at same in omega arith

  in_map : (xs : List FunctionAddress) (y : FunctionRange) → In y (map (function_range_of offsets) xs) → (a : FunctionAddress) × In a xs × (function_range_of offsets a ≡ y)
  in_map [] y i = absurd i
  in_map (x ∷ xs) y i = elim i [ inl e ↦ (x, inl refl, e) | inr k ↦ (let m = in_map xs y k in (m.0, inr m.1, m.2)) ]

  map_in : (xs : List FunctionAddress) (a : FunctionAddress) → In a xs → In (function_range_of offsets a) (map (function_range_of offsets) xs)
  map_in [] a i = absurd i
  map_in (x ∷ xs) a i = elim i [ inl e ↦ inl (ap (function_range_of offsets) e) | inr k ↦ inr (map_in xs a k) ]

  abbrev Longer : FunctionAddress → FunctionRange → Type 0
  Longer w y = IsNoLonger function_begin function_end function_offset (function_range_of offsets w) y

  no_longer : (w a : FunctionAddress) → a.function < length offsets → IsNoLonger address_begin address_end address_function w a → Longer w (function_range_of offsets a)
  no_longer w a l n = elim n [ inl s ↦ inl s | inr e ↦ inr (e.0, not_before w.function a.function e.1 l) ]

  -- the function at an address, by its place and by its entry
  pub found_is : (probe : ℕ) → function_offset_at probe (map (function_range_of offsets) addresses) ≡ option_map offset_at (shortest_function_at probe addresses)
  found_is probe = by_cases (shortest address_begin address_end address_function probe addresses) refl
    where
      by_other : shortest address_begin address_end address_function probe addresses ≡ None → (o : Option FunctionRange) → shortest function_begin function_end function_offset probe (map (function_range_of offsets) addresses) ≡ o → option_map function_offset o ≡ None
      by_other e None f = refl
      by_other e (Some y) f =
          let p = shortest_holds function_begin function_end function_offset probe (map (function_range_of offsets) addresses) y f in
          let a = in_map addresses y p.0 in
          let held : holds address_begin address_end probe a.0 ≡ true = ap (holds function_begin function_end probe) a.2 ∙ p.1 in
          let s = some_shortest address_begin address_end address_function probe addresses a.0 a.1 held in
          let no : ◌≡◌ {A = Option FunctionAddress} (Some s.0) None = sym s.1 ∙ e in
          absurd cc

      by_cases : (o : Option FunctionAddress) → shortest address_begin address_end address_function probe addresses ≡ o → function_offset_at probe (map (function_range_of offsets) addresses) ≡ option_map offset_at (shortest_function_at probe addresses)
      by_cases None e =
          by_other e (shortest function_begin function_end function_offset probe (map (function_range_of offsets) addresses)) refl
          ∙ sym (ap (λ o. option_map offset_at (option_map address_function o)) e)
      by_cases (Some w) e =
          let p = shortest_holds address_begin address_end address_function probe addresses w e in
          let least : (y : FunctionRange) → In y (map (function_range_of offsets) addresses) → holds function_begin function_end probe y ≡ true → Longer w y = λ y i held. (
          let a = in_map addresses y i in
          let l = All-in (IsPlaceIn offsets) addresses a.0 (recursion_from_All (IsPlaceIn offsets) addresses h.places) a.1 in
          subst (Longer w) a.2 (no_longer w a.0 l (shortest_least address_begin address_end address_function probe addresses w e a.0 a.1 (ap (holds function_begin function_end probe) a.2 ∙ held)))) in
          let s = shortest_is function_begin function_end function_offset probe (map (function_range_of offsets) addresses) (function_range_of offsets w) (map_in addresses w p.0) p.1 least in
          ap (option_map function_offset) s.1 ∙ ap Some s.2 ∙ sym (ap (λ o. option_map offset_at (option_map address_function o)) e)

  -- a function that is found has a place
  pub place_found : (probe i : ℕ) → shortest_function_at probe addresses ≡ Some i → i < length offsets
  place_found probe i e = by_cases (shortest address_begin address_end address_function probe addresses) refl e
    where
      by_cases : (o : Option FunctionAddress) → shortest address_begin address_end address_function probe addresses ≡ o → option_map address_function o ≡ Some i → i < length offsets
      by_cases None q e = absurd cc
      by_cases (Some w) q e =
          let p = shortest_holds address_begin address_end address_function probe addresses w q in
          let l = All-in (IsPlaceIn offsets) addresses w (recursion_from_All (IsPlaceIn offsets) addresses h.places) p.0 in
          let same : w.function ≡ i = cc in
          omega arith
