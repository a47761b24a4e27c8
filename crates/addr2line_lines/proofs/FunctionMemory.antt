-- The functions of items, with the memory that they take (on specs/Functions.antt and
-- specs/FoundFunctions.antt).
use Rattle.addr2line_lines.proofs.Common.{◌≡◌, ℕ, ◌<◌, ◌==◌, ◌&&◌, ◌||◌, nat_lt, Bool, true, false, cond, List, [], ◌∷◌, ◌++◌, map, length, Option, Some, None, Result, Ok, Err, refl, ap, sym, subst, ◌∙◌, arith, append-nil, Error, Range, Costed, takes_memory_after, Run, cons, fold_run, Section, EntryUnit, Entry, Item, items_of, EntryCursor, items_left, next_item_at, Sections, UnitRecord, items_end, items_fault, items_more, RangeAttributes, FunctionAddress, all_ranges, attribute_ranges, begins_well, gives_a_range, range_attributes_of, range_list_of, FunctionRange, entry_ranges, function_at_cost, functions_of, functions_take_memory, has_function, is_subprogram, with_function, FoundFunctions, function_address, item_has_function, next_found_at, with_found, with_ranges, entry_abbreviation_at, or_parts, or_right}
use Rattle.gimli_read.specs.Costed.{◌>>=◌}
use Rattle.gimli_read.specs.Reading as reading
use Rattle.gimli.proofs.CursorLemmas.{item_from, item_is}
use Rattle.addr2line_lines.specs.CostedSteps.{fold_at_cost, map_at_cost, some_takes, stored_if}
use Rattle.addr2line_lines.proofs.CostLemmas.{IsPartOf, IsRestOf, made_part, part_on, rest_map, rest_next, rest_on, rest_part}
use Rattle.addr2line_lines.proofs.FunctionLemmas.{ending, found_after, some_item}

-- what is found of one more item, with the memory for a function that has a range before any fault
abbrev pub found_at_cost : Sections → UnitRecord → FoundFunctions → Item → Costed FoundFunctions
found_at_cost d u found x = stored_if (has_function d u x) (with_found d u found x)

-- of a run of items, after what was found
abbrev pub run_at_cost : Sections → UnitRecord → FoundFunctions → Run Item Section → Costed FoundFunctions
run_at_cost d u found r = map_at_cost (λ more. more.0) (fold_at_cost (found_at_cost d u) found r.items r.end)

-- of the items from a place on
abbrev pub found_from : Sections → UnitRecord → EntryUnit → EntryCursor → FoundFunctions → Costed FoundFunctions
found_from d u unit cursor found = run_at_cost d u found (items_left unit cursor)

module _ (d : Sections) (u : UnitRecord) (unit : EntryUnit) where
  -- of the next item, and where it ends
  abbrev pub next_at_cost : EntryCursor → FoundFunctions → Costed (FoundFunctions × EntryCursor)
  next_at_cost c found = stored_if (item_has_function d u (next_item_at unit c)) (next_found_at d u unit c found)

  found_with : (found : FoundFunctions) (x : Item) (items : Run Item Section) → IsRestOf (found_at_cost d u found x >>= λ more. run_at_cost d u more items) (run_at_cost d u found (cons x items))
  unfolding fold_run
  found_with found x items = rest_map (found_at_cost d u found x) (λ more. fold_at_cost (found_at_cost d u) more items.items items.end) (λ more. more.0)

  at_item : (c t : EntryCursor) (found : FoundFunctions) (x : Item) → next_item_at unit c ≡ Ok (Some x, t) → IsRestOf (found_at_cost d u found x >>= λ more. found_from d u unit t more) (found_from d u unit c found)
  at_item c t found x q =
      subst (λ r. IsRestOf (found_at_cost d u found x >>= λ more. found_from d u unit t more) (run_at_cost d u found r)) (sym (items_more unit c t x q)) (found_with found x (items_left unit t))

  one_found : (r : Result FoundFunctions Error) (more : FoundFunctions) (s t : EntryCursor) → ending t r ≡ Ok (more, s) → (r ≡ Ok more) × (t ≡ s)
  one_found (Ok v) more s t e = let p : ◌≡◌ {A = FoundFunctions × EntryCursor} (v, t) (more, s) = cc in (ap Ok (ap (λ x. x.0) p), ap (λ x. x.1) p)
  one_found (Err f) more s t e = absurd cc

  -- after an item what is left is what is found after it
  pub found_step : (c s : EntryCursor) (found more : FoundFunctions) → (length c.left.bytes == 0) ≡ false → next_found_at d u unit c found ≡ Ok (more, s) → IsRestOf (found_from d u unit s more) (found_from d u unit c found)
  found_step c s found more h k = by_cases (next_item_at unit c) refl k
    where
      by_cases : (r : Result (Option Item × EntryCursor) Error) → next_item_at unit c ≡ r → found_after d u unit found r ≡ Ok (more, s) → IsRestOf (found_from d u unit s more) (found_from d u unit c found)
      by_cases (Err e) q k = absurd cc
      by_cases (Ok (None, t)) q k = absurd (some_item d u unit c t h q)
      by_cases (Ok (Some x, t)) q k =
          let one = one_found (with_found d u found x) more s t k in
          subst (λ v. IsRestOf (found_from d u unit v more) (found_from d u unit c found)) one.1
          (rest_on (rest_next (found_at_cost d u found x) (λ m. found_from d u unit t m) more one.0) (at_item c t found x q))

  -- an item is part of what is left
  pub found_part : (c : EntryCursor) (found : FoundFunctions) → (length c.left.bytes == 0) ≡ false → IsPartOf (next_at_cost c found) (found_from d u unit c found)
  unfolding fold_run
  found_part c found h = by_cases (next_item_at unit c) refl
    where
      by_cases : (r : Result (Option Item × EntryCursor) Error) → next_item_at unit c ≡ r → IsPartOf (stored_if (item_has_function d u r) (found_after d u unit found r)) (found_from d u unit c found)
      by_cases (Err f) q = record {
        fault = λ e k. (let same : f ≡ e = cc in ap (λ r. (run_at_cost d u found r).given) (items_fault unit c f q) ∙ ap Err same);
        takes = λ shares t. absurd cc;
      }
      by_cases (Ok (None, t)) q = absurd (some_item d u unit c t h q)
      by_cases (Ok (Some x, t)) q = part_on (made_part (λ more. (more, t)) (found_at_cost d u found x) (λ more. found_from d u unit t more)) (rest_part (at_item c t found x q))

  -- nothing is left
  pub found_end : (c : EntryCursor) (found : FoundFunctions) → (length c.left.bytes == 0) ≡ true → (found_from d u unit c found).given ≡ Ok found
  unfolding fold_run
  found_end c found h =
      ap (λ r. (run_at_cost d u found r).given) (items_end unit c c (item_is unit c ∙ ap (λ b. cond b (Ok (None, c)) (reading.◌>>=◌ (entry_abbreviation_at unit.abbreviations c) (λ x. item_from unit c x))) h))

-- ranges that are pushed
module _ (d : Sections) (u : UnitRecord) where
  pub listed_well : (a : RangeAttributes) (x : Range) (ranges : List Range) → attribute_ranges d u a ≡ Ok (x ∷ ranges) → gives_a_range d u a ≡ true
  listed_well a x ranges e = by_list (range_list_of d u a) e
    where
      by_list : (r : Result (List (Result Range Error)) Error) → all_ranges r ≡ Ok (x ∷ ranges) → begins_well r ≡ true
      by_list (Ok (Ok y ∷ rest)) h = refl
      by_list (Ok []) h = absurd cc
      by_list (Ok (Err f ∷ rest)) h = absurd cc
      by_list (Err f) h = absurd cc

  pub pushed_well : (a : RangeAttributes) (function : ℕ) (old new : List FunctionAddress) → with_ranges d u a function old ≡ Ok new → length old < length new → gives_a_range d u a ≡ true
  pushed_well a function old new e l = by_ranges (attribute_ranges d u a) refl e
    where
      by_ranges : (r : Result (List Range) Error) → attribute_ranges d u a ≡ r → reading.◌>>=◌ r (λ ranges. Ok (old ++ map (function_address function) ranges)) ≡ Ok new → gives_a_range d u a ≡ true
      by_ranges (Ok []) q h = let same : old ++ [] ≡ new = cc in let m : length old ≡ length new = ap length (sym (append-nil old) ∙ same) in absurd (omega arith)
      by_ranges (Ok (x ∷ ranges)) q h = listed_well a x ranges q
      by_ranges (Err f) q h = absurd cc

  -- an item that takes no memory adds nothing
  none_added : (found more : List FunctionRange) (x : Item) → has_function d u x ≡ false → with_function d u found x ≡ Ok more → more ≡ found
  none_added found more x none e = by_entry x.entry none e
    where
      added : Result (List Range) Error → Result (List FunctionRange) Error
      added r = reading.◌>>=◌ r (λ ranges. Ok (found ++ map (λ (v : Range). record { offset = x.offset; range = v }) ranges))

      entry_takes : Entry → Bool
      entry_takes e = takes_memory_after (range_attributes_of d u e.attributes) (gives_a_range d u)

      by_ranges : (a : RangeAttributes) (r : Result (List Range) Error) → attribute_ranges d u a ≡ r → gives_a_range d u a ≡ false → added r ≡ Ok more → more ≡ found
      by_ranges a (Ok []) q h k = let same : found ++ [] ≡ more = cc in sym same ∙ append-nil found
      by_ranges a (Ok (y ∷ ranges)) q h k = let some = listed_well a y ranges q in absurd cc
      by_ranges a (Err f) q h k = absurd cc

      by_attributes : (r : Result RangeAttributes Error) → takes_memory_after r (gives_a_range d u) ≡ false → added (reading.◌>>=◌ r (λ v. attribute_ranges d u v)) ≡ Ok more → more ≡ found
      by_attributes (Ok v) h k = by_ranges v (attribute_ranges d u v) refl h k
      by_attributes (Err f) h k = absurd cc

      by_test : (e : Entry) (b : Bool) → (b && entry_takes e) ≡ false → cond b (added (entry_ranges d u e)) (Ok found) ≡ Ok more → more ≡ found
      by_test e true h k = by_attributes (range_attributes_of d u e.attributes) h k
      by_test e false h k = let same : found ≡ more = cc in sym same

      entry_adds : Option Entry → Result (List FunctionRange) Error
      entry_adds o = elim o [ None ↦ Ok found | Some e ↦ cond (is_subprogram e.abbreviation) (added (entry_ranges d u e)) (Ok found) ]

      by_entry : (o : Option Entry) → (elim o [ None ↦ false | Some e ↦ is_subprogram e.abbreviation && entry_takes e ]) ≡ false → entry_adds o ≡ Ok more → more ≡ found
      by_entry None h k = let same : found ≡ more = cc in sym same
      by_entry (Some e) h k = by_test e (is_subprogram e.abbreviation) h k

  none_in : (items : List Item) (end : Result Section Error) (found m : List FunctionRange) (z : Section) → some_takes (function_at_cost d u) found items false ≡ false → fold_run (with_function d u) found items end ≡ Ok (m, z) → m ≡ found
  unfolding fold_run
  none_in [] (Ok y) found m z h e = let p : ◌≡◌ {A = List FunctionRange × Section} (found, y) (m, z) = cc in sym (ap (λ x. x.0) p)
  none_in [] (Err f) found m z h e = absurd cc
  none_in (x ∷ xs) end found m z h e = by_step (with_function d u found x) refl h e (λ more. none_in xs end more m z)
    where
      rest_takes : List FunctionRange → Bool
      rest_takes more = some_takes (function_at_cost d u) more xs false

      by_step : (r : Result (List FunctionRange) Error) → with_function d u found x ≡ r → (has_function d u x || takes_memory_after r rest_takes) ≡ false → reading.◌>>=◌ r (λ v. fold_run (with_function d u) v xs end) ≡ Ok (m, z)
          → ((more : List FunctionRange) → rest_takes more ≡ false → fold_run (with_function d u) more xs end ≡ Ok (m, z) → m ≡ more) → m ≡ found
      by_step (Ok more) q h k rest = let none = or_parts (has_function d u x) (rest_takes more) h in rest more none.1 k ∙ none_added found more x none.0 q
      by_step (Err f) q h k rest = absurd cc

  -- where a unit has a function, memory may be taken for its functions
  pub functions_take : (shares : Bool) (ranges : List FunctionRange) → functions_of d u ≡ Ok ranges → nat_lt 0 (length ranges) ≡ true → functions_take_memory shares d u ≡ true
  functions_take shares ranges e l = or_right shares (some_takes (function_at_cost d u) [] (items_of u).items false) (by_test (some_takes (function_at_cost d u) [] (items_of u).items false) refl)
    where
      by_fold : some_takes (function_at_cost d u) [] (items_of u).items false ≡ false → (r : Result (List FunctionRange × Section) Error) → fold_run (with_function d u) [] (items_of u).items (items_of u).end ≡ r → reading.◌>>=◌ r (λ found. Ok found.0) ≡ Ok ranges → ranges ≡ []
      by_fold h (Ok p) q f = let same : p.0 ≡ ranges = cc in sym same ∙ none_in (items_of u).items (items_of u).end [] p.0 p.1 h q
      by_fold h (Err g) q f = absurd cc

      by_test : (b : Bool) → some_takes (function_at_cost d u) [] (items_of u).items false ≡ b → b ≡ true
      by_test true h = refl
      by_test false h = let some : false ≡ true = sym (ap (λ v. nat_lt 0 (length v)) (by_fold h (fold_run (with_function d u) [] (items_of u).items (items_of u).end) refl e)) ∙ l in absurd cc
