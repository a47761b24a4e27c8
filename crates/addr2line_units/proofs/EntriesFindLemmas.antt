-- What a lookup of a function leaves of the functions of a view (on specs/UnitAfter.antt).
use Rattle.addr2line_units.proofs.Common.{Box, Global, ◌≡◌, ◌≢◌, ◌∙◌, ℕ, ◌<◌, ◌&&◌, Bool, true, false, List, [], length, map, Some, None, Result, Ok, Err, refl, ap, sym, subst, arith, some_at, read_more, table_same, AllByRecursion, Error, ExactlyUnlessOomIf, AreUnread, OutOfMemory, UnitRecord, InlinedEntry, FunctionTable, cached_detail, cached_inlined, cached_offset_at, function_offset_at, function_place_at, functions_of, functions_take_memory, exceeds_inline_room, IsReadAt, Scope, LazyFunctions, function_at, AreFunctionsOf, IsTableOf, ReadsNoOther, StayFunctions, cached_functions, cached_has_function, find_takes_memory, function_of_place, has_place, table_takes_memory, were_read}
use Rattle.std.specs.Box.{with_value}
use Rattle.addr2line_lines.specs.FoundInlined.{entry_among}
use Rattle.addr2line_lines.specs.InlinedChain.{inlined_chain}
use Rattle.addr2line_units.specs.declared.entries.FunctionPlace.{FunctionPlace}
use Rattle.addr2line_units.specs.declared.entries.LazyFunctions.TheVariants as lazy
use Rattle.addr2line_units.specs.UnitAfter.{AfterCachingFunctions}
use Rattle.addr2line_units.proofs.EntriesKeeps.{KeepsFunction}
use Rattle.addr2line_units.specs.EntriesFunctions.{found_in_cache}
use Rattle.addr2line_units.proofs.EntriesFunctionLemmas.{chain_found, details_before, function_is, memory_before, none_before, none_found, number_stays, reads_one, refused_chain, refused_detail, stay_faulty, stay_read, table_stays}
use Rattle.addr2line_units.proofs.EntriesLearnedLemmas.{cache_reads_none}
use Rattle.addr2line_units.proofs.EntriesPlaceLemmas.{cached_is_not_oom, cached_unless_oom, chain_fits, chain_known, known_stays, refused_fault, refused_known, same_known, table_known}
use Rattle.addr2line_units.proofs.ParsesCachedLemmas.{cached_stay}
use Rattle.addr2line_units.proofs.Facts.{and_weaker, err_ok}

-- functions that weren't read take memory, or memory is their fault
not_read_takes : {R : Type 0} (shares : Bool) (scope : Scope) (view : UnitRecord) (old new : LazyFunctions R) (probe : ℕ) (x : Error) → (were_read old ≡ true → ⊥) → new ≡ old → x ≡ OutOfMemory
    → (functions_take_memory shares scope.file.sections view ≡ false → functions_of scope.file.sections view ≡ Err x)
    → ((find_takes_memory shares scope view probe old && find_takes_memory shares scope view probe new) ≡ true → x ≢ OutOfMemory) → functions_of scope.file.sections view ≡ Err x
not_read_takes {R} shares scope view lazy.Unread new probe x unread e oom fault may = by_test (functions_take_memory shares scope.file.sections view) fault
    (subst (λ (f : LazyFunctions R). (functions_take_memory shares scope.file.sections view && find_takes_memory shares scope view probe f) ≡ true → x ≢ OutOfMemory) e may)
  where
    by_test : (b : Bool) → (b ≡ false → functions_of scope.file.sections view ≡ Err x) → ((b && b) ≡ true → x ≢ OutOfMemory) → functions_of scope.file.sections view ≡ Err x
    by_test true h k = absurd (k refl oom)
    by_test false h k = h refl
not_read_takes shares scope view lazy.Absent new probe x unread e oom fault may = absurd (unread refl)
not_read_takes shares scope view (lazy.Read t) new probe x unread e oom fault may = absurd (unread refl)
not_read_takes shares scope view (lazy.Faulty y) new probe x unread e oom fault may = absurd (unread refl)

pub not_read_stay : {R : Type 0} → (old new : LazyFunctions R) → (were_read old ≡ true → ⊥) → StayFunctions old new
not_read_stay lazy.Unread new unread = tt
not_read_stay lazy.Absent new unread = absurd (unread refl)
not_read_stay (lazy.Read t) new unread = absurd (unread refl)
not_read_stay (lazy.Faulty x) new unread = absurd (unread refl)

not_read_unknown : {R : Type 0} → (old : LazyFunctions R) (probe : ℕ) → (were_read old ≡ true → ⊥) → cached_has_function probe old ≡ true → ⊥
not_read_unknown lazy.Unread probe unread h = cc
not_read_unknown lazy.Absent probe unread h = unread refl
not_read_unknown (lazy.Read t) probe unread h = unread refl
not_read_unknown (lazy.Faulty x) probe unread h = unread refl

pub unread_has_none : {R : Type 0} (old : LazyFunctions R) → were_read old ≡ false → AreUnread (cached_functions old)
unread_has_none lazy.Unread e = tt
unread_has_none lazy.Absent e = cc
unread_has_none (lazy.Read t) e = cc
unread_has_none (lazy.Faulty x) e = cc

-- functions are right after they were cached
pub cached_right : {R : Type 0} (shares : Bool) (scope : Scope) (view : UnitRecord) (r : Result (Unit {0}) Error) (old new : LazyFunctions R) → AreFunctionsOf scope view old → AfterCachingFunctions shares scope view r old new → AreFunctionsOf scope view new
cached_right shares scope view r old new before cache = by (were_read old) refl
  where
    by : (b : Bool) → were_read old ≡ b → AreFunctionsOf scope view new
    by true e = subst (AreFunctionsOf scope view) (sym (cache.kept e).0) before
    by false e = cache.functions e

module _ {R : Type 0} (shares : Bool) (scope : Scope) (view : UnitRecord) (probe : ℕ) (old mid : LazyFunctions R) where
  -- memory was refused for the functions
  module _ (x : Error) (cache : AfterCachingFunctions shares scope view (Err x) old mid) where
    pub were_unread : were_read old ≡ true → ⊥
    were_unread read = err_ok x (cache.kept read).1

    pub uncached_gives : ExactlyUnlessOomIf (find_takes_memory shares scope view probe old && find_takes_memory shares scope view probe mid) (found_in_cache mid) (Err x) (function_at scope view probe)
    uncached_gives = λ may. function_is scope view probe (Err x) (not_read_takes shares scope view old mid probe x were_unread cache.refused.1 cache.refused.0.0 cache.refused.0.1 may)

    pub uncached_after : AreFunctionsOf scope view old → KeepsFunction scope view probe (Err x) old mid
    uncached_after before = record {
      functions = cached_right shares scope view (Err x) old mid before cache;
      places = tt;
      stay = not_read_stay old mid were_unread;
      within = λ n ne. ap (λ f. cached_detail (cached_functions f) n) cache.refused.1;
      kept = λ _. cache.refused.1;
      known = λ ne. absurd (ne cache.refused.0.0);
      memory = λ has few. absurd (not_read_unknown old probe were_unread (ap (cached_has_function probe) (sym cache.refused.1) ∙ has));
    }

  module _ (was_right : AreFunctionsOf scope view old) (cache : AfterCachingFunctions shares scope view (Ok tt) old mid) where
    now_right : AreFunctionsOf scope view mid
    now_right = cached_right shares scope view (Ok tt) old mid was_right cache

    kept : were_read old ≡ true → mid ≡ old
    kept read = (cache.kept read).0

    -- the view has none
    module _ (is : mid ≡ lazy.Absent) where
      pub absent_gives : function_at scope view probe ≡ Ok None
      absent_gives = function_is scope view probe (Ok []) (subst (AreFunctionsOf scope view) is now_right)

      pub absent_after : KeepsFunction scope view probe (Ok None) old mid
      absent_after = record {
        functions = now_right;
        places = tt;
        stay = cached_stay scope view old mid kept;
        within = λ n ne. cache_reads_none old mid kept cache.empty n;
        kept = λ has. same_known old mid kept probe has;
        known = λ _. ap (cached_has_function probe) is;
        memory = λ has few. tt;
      }

    -- they have a fault
    module _ (x : Error) (is : mid ≡ lazy.Faulty x) where
      pub faulty_gives : function_at scope view probe ≡ Err x
      faulty_gives = function_is scope view probe (Err x) (subst (AreFunctionsOf scope view) is now_right)

      pub faulty_after : KeepsFunction scope view probe (Err x) old (lazy.Faulty x)
      faulty_after = record {
        functions = subst (AreFunctionsOf scope view) is now_right;
        places = tt;
        stay = stay_faulty old mid kept x is;
        within = λ n ne. none_before old mid kept x is n;
        kept = λ has. sym is ∙ same_known old mid kept probe has;
        known = λ ne. cached_unless_oom x ne;
        memory = λ has few. cached_is_not_oom x has;
      }

    -- they were read
    module _ (t : Box FunctionTable Global) (is : mid ≡ lazy.Read t) where
      table : IsTableOf scope view t.value
      table = subst (AreFunctionsOf scope view) is now_right

      -- no function is at the address
      pub nowhere_gives : None ≡ function_offset_at probe t.value.ranges → function_at scope view probe ≡ Ok None
      nowhere_gives none = none_found scope view probe t.value table none

      pub nowhere_after : None ≡ function_place_at probe t.value → KeepsFunction scope view probe (Ok None) old (lazy.Read t)
      nowhere_after none = record {
        functions = table;
        places = tt;
        stay = stay_read old mid kept t t is (table_same t.value);
        within = λ n ne. details_before old mid kept t cache.empty is n;
        kept = λ has. sym is ∙ same_known old mid kept probe has;
        known = λ _. ap (has_place t.value) (sym none);
        memory = λ has few. tt;
      }

      -- the detail of the function at a place was read
      module _ (n : ℕ) (place : function_place_at probe t.value ≡ Some n) (offset : cached_offset_at t.value n ≡ function_offset_at probe t.value.ranges) (within : n < length t.value.functions) (new : FunctionTable) where
        abbrev put : LazyFunctions R
        put = lazy.Read (with_value t new)

        before : (table_takes_memory probe t.value && table_takes_memory probe new) ≡ true → (find_takes_memory shares scope view probe old && find_takes_memory shares scope view probe put) ≡ true
        before = and_weaker (table_takes_memory probe t.value) (find_takes_memory shares scope view probe old) (table_takes_memory probe new) (memory_before old mid kept shares scope view t is table probe)

        module _ (r : Result (Unit {0}) Error) (read : IsReadAt scope view n t.value r new) where
          stays : StayFunctions old put
          stays = stay_read old mid kept t (with_value t new) is (read_more scope view n t.value new r read)

          reads : ReadsNoOther probe (cached_functions old) new
          reads m ne = reads_one scope view probe n t.value new r place read m ne ∙ details_before old mid kept t cache.empty is m

          same : cached_has_function probe old ≡ true → put ≡ old
          same has = table_known old mid kept probe has t new is (known_stays scope view probe n t.value new r place read)

        -- it has a fault, or memory was refused for it
        module _ (x : Error) (read : IsReadAt scope view n t.value (Err x) new) where
          pub detail_gives : ExactlyUnlessOomIf (find_takes_memory shares scope view probe old && find_takes_memory shares scope view probe put) (found_in_cache put) (Err x) (function_at scope view probe)
          detail_gives = let at = some_at t.value.functions n within in
              λ lacks. refused_detail scope view probe n t.value new at.0 at.1 table place offset x read (λ takes. lacks (before takes))

          pub detail_after : KeepsFunction scope view probe (Err x) old put
          detail_after = let at = some_at t.value.functions n within in record {
            functions = table_stays scope view n t.value new (Err x) table read;
            places = tt;
            stay = stays (Err x) read;
            within = reads (Err x) read;
            kept = same (Err x) read;
            known = λ ne. refused_known scope view probe n t.value new at.0 at.1 table place x read ne;
            memory = λ has few. refused_fault scope view probe n t.value new at.0 at.1 table place x read has;
          }

        module _ (read : IsReadAt scope view n t.value (Ok tt) new) where
          -- memory was refused for its inlined functions
          module _ (x : Error) (chain : (exceeds_inline_room (inlined_chain probe (cached_inlined new n)) ≡ true → x ≢ OutOfMemory) → ◌≡◌ {A = Result (List InlinedEntry) Error} (Ok (inlined_chain probe (cached_inlined new n))) (Err x)) where
            pub chain_gives : ExactlyUnlessOomIf (find_takes_memory shares scope view probe old && find_takes_memory shares scope view probe put) (found_in_cache put) (Err x) (function_at scope view probe)
            chain_gives = let at = some_at t.value.functions n within in
                λ lacks. absurd (refused_chain scope view probe n t.value new at.0 at.1 table place read x chain (λ takes. lacks (before takes)))

            pub chain_after : KeepsFunction scope view probe (Err x) old put
            chain_after = let at = some_at t.value.functions n within in record {
              functions = table_stays scope view n t.value new (Ok tt) table read;
              places = tt;
              stay = stays (Ok tt) read;
              within = reads (Ok tt) read;
              kept = same (Ok tt) read;
              known = λ _. chain_known scope view probe n t.value new at.0 at.1 table place read;
              memory = λ has few. chain_fits scope view probe n t.value new at.0 at.1 table place offset read x chain few;
            }

          -- it is found
          module _ (p : FunctionPlace) (at_place : p.place ≡ n) (chain : ◌≡◌ {A = Result (List InlinedEntry) Error} (Ok (inlined_chain probe (cached_inlined new n))) (Ok (map (entry_among new.inlined) p.inlined.items))) where
            pub place_gives : function_at scope view probe ≡ Ok (Some (function_of_place new p))
            place_gives = let at = some_at t.value.functions n within in chain_found scope view probe n t.value new at.0 at.1 table offset read p at_place chain

            pub place_after : AllByRecursion (λ m. m < length new.inlined) p.inlined.items → KeepsFunction scope view probe (Ok (Some p)) old put
            place_after inlined = let at = some_at t.value.functions n within in record {
              functions = table_stays scope view n t.value new (Ok tt) table read;
              places = record { function = below; inlined = inlined };
              stay = stays (Ok tt) read;
              within = reads (Ok tt) read;
              kept = same (Ok tt) read;
              known = λ _. chain_known scope view probe n t.value new at.0 at.1 table place read;
              memory = λ has few. tt;
            }
              where
                below : p.place < length new.functions
                below = let many = number_stays t.value new (read_more scope view n t.value new (Ok tt) read) in omega (arith, many, at_place, within)
