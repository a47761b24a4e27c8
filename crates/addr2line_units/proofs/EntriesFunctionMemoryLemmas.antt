-- Where memory is taken for the functions of a view (on specs/EntriesFunctions.antt).
use Rattle.addr2line_units.proofs.Common.{◌≡◌, ◌∙◌, arith, nat_tests, ℕ, ◌==◌, nat_lt, Bool, true, false, cond, List, [], ◌∷◌, map, length, slice_get, option_map, Some, None, option_and_then, refl, ap, UnitRecord, all_read_once, FunctionRange, entries_of, once_before, function_offset_at, functions_take_memory, AreListed, CachedFunction, FunctionTable, cached_offset_at, Scope, IsTableOf, place_takes_memory, table_takes_memory}
use Rattle.std.specs.Prelude.{position}
use Rattle.addr2line_lines.proofs.FunctionMemory.{functions_take}

-- without a first function there is no range
pub no_ranges : (t : FunctionTable) → AreListed t → cached_offset_at t 0 ≡ None → t.ranges ≡ []
no_ranges t listed none = by_functions t.functions t.ranges listed none
  where
    some_entry : (offset : ℕ) (offsets : List ℕ) → [] ≡ once_before offset offsets → ⊥
    some_entry offset [] e = cc
    some_entry offset (next ∷ offsets) e = by_test (offset == next) e
      where
        by_test : (b : Bool) → [] ≡ cond b (next ∷ offsets) (offset ∷ next ∷ offsets) → ⊥
        by_test true e = cc
        by_test false e = cc

    by_functions : (fs : List CachedFunction) (rs : List FunctionRange) → map (λ (f : CachedFunction). f.offset) fs ≡ entries_of rs → option_map (λ (f : CachedFunction). f.offset) (slice_get fs 0) ≡ None → rs ≡ []
    by_functions [] [] k m = refl
    by_functions [] (r ∷ rs) k m = absurd (some_entry r.offset (entries_of rs) k)
    by_functions (f ∷ fs) rs k m = absurd cc

module _ (shares : Bool) (scope : Scope) (view : UnitRecord) (t : FunctionTable) (is : IsTableOf scope view t) where
  with_ranges : (r : FunctionRange) (rs : List FunctionRange) → t.ranges ≡ r ∷ rs → functions_take_memory shares scope.file.sections view ≡ true
  with_ranges r rs e =
      functions_take scope.file.sections view shares t.ranges is.ranges (ap (λ (v : List FunctionRange). nat_lt 0 (length v)) e ∙ grind (arith, nat_tests))

  -- where a detail of functions takes memory, so may reading the functions
  pub place_takes : (probe : ℕ) → table_takes_memory probe t ≡ true → functions_take_memory shares scope.file.sections view ≡ true
  place_takes probe h = by_ranges t.ranges refl h
    where
      by_ranges : (rs : List FunctionRange) → t.ranges ≡ rs → place_takes_memory probe t (option_and_then (λ offset. position (λ (f : CachedFunction). f.offset == offset) t.functions) (function_offset_at probe rs)) ≡ true
          → functions_take_memory shares scope.file.sections view ≡ true
      by_ranges [] e k = absurd cc
      by_ranges (r ∷ rs) e k = with_ranges r rs e

  -- functions that were read took memory where there is one
  pub functions_took : (offset : ℕ) → Some offset ≡ cached_offset_at t 0 → functions_take_memory shares scope.file.sections view ≡ true
  functions_took offset e = by_functions t.functions t.ranges refl is.listed e
    where
      by_functions : (fs : List CachedFunction) (rs : List FunctionRange) → t.ranges ≡ rs → map (λ (f : CachedFunction). f.offset) fs ≡ entries_of rs → Some offset ≡ option_map (λ (f : CachedFunction). f.offset) (slice_get fs 0)
          → functions_take_memory shares scope.file.sections view ≡ true
      by_functions [] rs q k m = absurd cc
      by_functions (f ∷ fs) [] q k m = absurd cc
      by_functions (f ∷ fs) (r ∷ rs) q k m = with_ranges r rs q

  pub details_take : (all_read_once scope view t.functions).takes_memory shares ≡ true → functions_take_memory shares scope.file.sections view ≡ true
  details_take h = by_functions t.functions t.ranges refl is.listed h
    where
      by_functions : (fs : List CachedFunction) (rs : List FunctionRange) → t.ranges ≡ rs → map (λ (f : CachedFunction). f.offset) fs ≡ entries_of rs → (all_read_once scope view fs).takes_memory shares ≡ true
          → functions_take_memory shares scope.file.sections view ≡ true
      by_functions [] rs e k m = absurd cc
      by_functions (f ∷ fs) [] e k m = absurd cc
      by_functions (f ∷ fs) (r ∷ rs) e k m = with_ranges r rs e
