-- What calls on the functions in the view of a unit leave of its cache (on specs/UnitAfter.antt and
-- specs/ParsesAfter.antt).
use Rattle.addr2line_units.proofs.Common.{◌≡◌, ◌∙◌, ap, refl, ℕ, Bool, true, sym, subst, ◌&&◌, Option, Some, Result, Ok, Err, IfOk, IfSome, Error, ExactlyUnlessOom, ExactlyUnlessOomIf, Sections, UnitRecord, Scope, LazyFunctions, CachedUnit, EntriesCache, ReadingDepth, AreEntriesOf, AreFunctionsOf, first_answer_of, find_takes_memory, function_at, function_in, is_decided, parts_or_fault, read_of_functions, read_of_view, verdict, verdict_in, view_scope}
use Rattle.addr2line_units.specs.declared.entries.FunctionPlace.{FunctionPlace}
use Rattle.addr2line_units.specs.UnitAfter.{AfterEntries, AfterFunctionIn, WasLookedAt}
use Rattle.addr2line_units.specs.EntriesFunctions.{found_in_cache}
use Rattle.addr2line_units.specs.EntriesOwn.{AreOwnEntries, CachedUnit}
use Rattle.addr2line_units.specs.ParsesAfter.{AfterReadingView}
use Rattle.addr2line_units.specs.UnitsCached.{AreOfUnit}
use Rattle.addr2line_units.specs.UnitViewCached.{verdict_or}
use Rattle.addr2line_units.proofs.EntriesFrameLemmas.{faulty_view, function_after, function_given}
use Rattle.addr2line_units.proofs.EntriesLemmas.{IsView, fault_in, fault_known, functions_keep, functions_right, view_known}
use Rattle.addr2line_units.proofs.EntriesOwnLemmas.{decided_was_looked_at, own_entries, own_then}
use Rattle.addr2line_units.proofs.EntriesKeeps.{KeepsFunction, KeepsReadFunctions}
use Rattle.addr2line_units.proofs.ParsesAfterLemmas.{refused_view_after, view_after, view_gives, view_refused}
use Rattle.addr2line_units.proofs.UnitViewLemmas.{of_cached_view, verdict_or_is}

-- a unit that is decided
module _ {R : Type 0} (shares : Bool) (scope : Scope) (u : UnitRecord) (c : CachedUnit R) (of_unit : AreOfUnit scope u c) (own : AreOwnEntries c.unit c.entries) (decided : is_decided c.entries.view.state ≡ true) where
  abbrev d : Sections
  d = scope.file.sections

  abbrev old : EntriesCache R
  old = c.entries

  right : AreEntriesOf scope u old
  right = own_entries scope u c of_unit own

  looked : WasLookedAt scope u c
  looked = decided_was_looked_at scope u c of_unit own decided

  abbrev with_functions : LazyFunctions R → EntriesCache R
  with_functions f = record { view = old.view; functions = f }

  -- its view has a fault
  module _ (x : Error) (fault : IfSome (verdict_in d u old.view.state) (λ known. IfSome known (λ view. parts_or_fault view ≡ Err x))) where
    is_fault : (probe : ℕ) → verdict d u (first_answer_of old) ≡ Some (Err x)
    is_fault probe = fault_known scope u probe old right decided x (of_cached_view d u old.view (λ r. parts_or_fault r ≡ Err x) right.view decided fault)

    fault_gives : (probe : ℕ) → function_in scope u (first_answer_of old) probe ≡ Err x
    fault_gives probe = fault_in scope u probe old right decided x (is_fault probe)

    fault_after : (probe : ℕ) → AfterFunctionIn shares scope u probe (Err x) old old
    fault_after probe = faulty_view shares scope u probe old right decided x (is_fault probe)

    fault_reads : (depth : ReadingDepth) → read_of_view depth scope (verdict d u (first_answer_of old)) ≡ Err x
    fault_reads depth = view_refused shares depth scope u old right decided x (is_fault 0)

    fault_read_after : (depth : ReadingDepth) → AfterReadingView shares depth scope u (Err x) old old
    fault_read_after depth = refused_view_after shares depth scope u old right decided x (is_fault 0)

  -- it has none
  module _ (dwarf : Sections) (x : UnitRecord) (inner : Scope) (parts : IfSome (verdict_in d u old.view.state) (λ known. IfSome known (λ view. parts_or_fault view ≡ Ok (dwarf, x))))
      (leads : IfSome (verdict_or d u old.view.state) (λ view. IfOk view (λ v. inner ≡ view_scope scope v))) where
    view : (probe : ℕ) → IsView scope u probe old right decided inner x
    view probe = view_known scope u probe old right decided dwarf x inner (of_cached_view d u old.view (λ r. parts_or_fault r ≡ Ok (dwarf, x)) right.view decided parts)
        (subst (λ w. IfSome w (λ r. IfOk r (λ v. inner ≡ view_scope scope v))) (verdict_or_is d u old.view right.view) leads)

    functions_then : AreFunctionsOf inner x old.functions
    functions_then = functions_right scope u 0 old right decided inner x (view 0)

    -- they stay its own where other functions of the view are cached
    functions_own : (f : LazyFunctions R) → AreFunctionsOf inner x f → AreOwnEntries c.unit (with_functions f)
    functions_own f theirs = own_then scope u c.unit (with_functions f) looked (functions_keep scope u 0 old right decided inner x (view 0) f theirs)

    module _ (probe : ℕ) (result : Result (Option FunctionPlace) Error) (f : LazyFunctions R)
        (gives : ExactlyUnlessOomIf (find_takes_memory shares inner x probe old.functions && find_takes_memory shares inner x probe f) (found_in_cache f) result (function_at inner x probe)) where
      found_gives : ExactlyUnlessOom (found_in_cache f) result (function_in scope u (first_answer_of old) probe)
      found_gives = function_given shares scope u probe old right decided inner x (view probe) result f gives

      found_after : KeepsFunction inner x probe result old.functions f → AfterFunctionIn shares scope u probe result old (with_functions f)
      found_after keeps = function_after shares scope u probe old right decided inner x (view probe) result f gives keeps

    module _ (depth : ReadingDepth) (result : Result (Unit {0}) Error) where
      read_gives : ExactlyUnlessOom (λ y. y) result (read_of_functions depth inner x) → ExactlyUnlessOom (λ y. y) result (read_of_view depth scope (verdict d u (first_answer_of old)))
      read_gives gives = view_gives shares depth scope u old right decided inner x (view 0) result gives

      read_after : (f : LazyFunctions R) → KeepsReadFunctions shares depth inner x result old.functions f → AfterReadingView shares depth scope u result old (with_functions f)
      read_after f keeps = view_after shares depth scope u old right decided inner x (view 0) keeps

-- the same cache as the caller sees it, whose view has a fault
pub record IsFaulty {R : Type 0} (shares : Bool) (scope : Scope) (u : UnitRecord) (was : CachedUnit R) (e : Error) : Type 0 where
  pub finds : (probe : ℕ) → function_in scope u (first_answer_of was.entries) probe ≡ Err e
  pub found : (probe : ℕ) → AfterEntries (AfterFunctionIn shares scope u probe (Err e)) scope u was was
  pub reads : (depth : ReadingDepth) → read_of_view depth scope (verdict scope.file.sections u (first_answer_of was.entries)) ≡ Err e
  pub read : (depth : ReadingDepth) → AfterEntries (AfterReadingView shares depth scope u (Err e)) scope u was was

-- and one whose view has none, as it is from inside too: what a call on the functions of the view
-- gives and leaves is what it gives and leaves of the unit
pub record IsViewed {R : Type 0} (shares : Bool) (scope : Scope) (u : UnitRecord) (c was : CachedUnit R) (inner : Scope) (x : UnitRecord) : Type 0 where
  pub functions : AreFunctionsOf inner x c.entries.functions
  pub own : (f : LazyFunctions R) → AreFunctionsOf inner x f → AreOwnEntries c.unit (record { view = c.entries.view; functions = f })
  pub found : (probe : ℕ) (result : Result (Option FunctionPlace) Error) (f : LazyFunctions R)
      → ExactlyUnlessOomIf (find_takes_memory shares inner x probe c.entries.functions && find_takes_memory shares inner x probe f) (found_in_cache f) result (function_at inner x probe) → KeepsFunction inner x probe result c.entries.functions f
      → ExactlyUnlessOom (found_in_cache f) result (function_in scope u (first_answer_of was.entries) probe)
      × AfterEntries (AfterFunctionIn shares scope u probe result) scope u was (record { lines = c.lines; entries = record { view = c.entries.view; functions = f }; unit = c.unit })
  pub gives : (depth : ReadingDepth) (result : Result (Unit {0}) Error) → ExactlyUnlessOom (λ y. y) result (read_of_functions depth inner x) → ExactlyUnlessOom (λ y. y) result (read_of_view depth scope (verdict scope.file.sections u (first_answer_of was.entries)))
  pub after : (depth : ReadingDepth) (result : Result (Unit {0}) Error) (f : LazyFunctions R) → KeepsReadFunctions shares depth inner x result c.entries.functions f
      → AfterEntries (AfterReadingView shares depth scope u result) scope u was (record { lines = c.lines; entries = record { view = c.entries.view; functions = f }; unit = c.unit })

module _ {R : Type 0} (shares : Bool) (u : UnitRecord) {held scope : Scope} (held_is : held ≡ scope) {c was : CachedUnit R} (is : c ≡ was) (of_unit : AreOfUnit scope u was) (own : AreOwnEntries c.unit c.entries) (decided : is_decided was.entries.view.state ≡ true) {seen : Sections} (seen_is : seen ≡ held.file.sections) where
  abbrev there : seen ≡ scope.file.sections
  there = seen_is ∙ ap (λ (s : Scope). s.file.sections) held_is

  abbrev of_c : AreOfUnit scope u c
  of_c = subst (λ (y : CachedUnit R). AreOfUnit scope u y) (sym is) of_unit

  abbrev decided_c : is_decided c.entries.view.state ≡ true
  decided_c = subst (λ (y : CachedUnit R). is_decided y.entries.view.state ≡ true) (sym is) decided

  module _ (e : Error) (fault : IfSome (verdict_in seen u c.entries.view.state) (λ known. IfSome known (λ view. parts_or_fault view ≡ Err e))) where
    fault_here : IfSome (verdict_in scope.file.sections u c.entries.view.state) (λ known. IfSome known (λ view. parts_or_fault view ≡ Err e))
    fault_here = subst (λ (d : Sections). IfSome (verdict_in d u c.entries.view.state) (λ known. IfSome known (λ view. parts_or_fault view ≡ Err e))) there fault

    pub faulty : IsFaulty shares scope u was e
    faulty = subst (λ (y : CachedUnit R). IsFaulty shares scope u y e) is (record {
      finds = fault_gives shares scope u c of_c own decided_c e fault_here;
      found = λ probe. record { unit = looked shares scope u c of_c own decided_c; lines = refl; entries = fault_after shares scope u c of_c own decided_c e fault_here probe };
      reads = fault_reads shares scope u c of_c own decided_c e fault_here;
      read = λ depth. record { unit = looked shares scope u c of_c own decided_c; lines = refl; entries = fault_read_after shares scope u c of_c own decided_c e fault_here depth };
    })

  module _ (dwarf : Sections) (x : UnitRecord) (inner : Scope) (parts : IfSome (verdict_in seen u c.entries.view.state) (λ known. IfSome known (λ view. parts_or_fault view ≡ Ok (dwarf, x))))
      {from : Scope} (from_is : from ≡ scope) (leads : (d : Sections) (y : UnitRecord) → IfSome (verdict_or d y c.entries.view.state) (λ view. IfOk view (λ v. inner ≡ view_scope from v))) where
    parts_here : IfSome (verdict_in scope.file.sections u c.entries.view.state) (λ known. IfSome known (λ view. parts_or_fault view ≡ Ok (dwarf, x)))
    parts_here = subst (λ (d : Sections). IfSome (verdict_in d u c.entries.view.state) (λ known. IfSome known (λ view. parts_or_fault view ≡ Ok (dwarf, x)))) there parts

    leads_here : IfSome (verdict_or scope.file.sections u c.entries.view.state) (λ view. IfOk view (λ v. inner ≡ view_scope scope v))
    leads_here = subst (λ (s : Scope). IfSome (verdict_or scope.file.sections u c.entries.view.state) (λ view. IfOk view (λ v. inner ≡ view_scope s v))) from_is (leads scope.file.sections u)

    pub viewed : IsViewed shares scope u c was inner x
    viewed = subst (λ (y : CachedUnit R). IsViewed shares scope u c y inner x) is (record {
      functions = functions_then shares scope u c of_c own decided_c dwarf x inner parts_here leads_here;
      own = functions_own shares scope u c of_c own decided_c dwarf x inner parts_here leads_here;
      found = λ probe result f gives keeps. (
        found_gives shares scope u c of_c own decided_c dwarf x inner parts_here leads_here probe result f gives,
        record {
          unit = looked shares scope u c of_c own decided_c;
          lines = refl;
          entries = found_after shares scope u c of_c own decided_c dwarf x inner parts_here leads_here probe result f gives keeps;
        },
      );
      gives = read_gives shares scope u c of_c own decided_c dwarf x inner parts_here leads_here;
      after = λ depth result f keeps. record {
        unit = looked shares scope u c of_c own decided_c;
        lines = refl;
        entries = read_after shares scope u c of_c own decided_c dwarf x inner parts_here leads_here depth result f keeps;
      };
    })
