-- A unit of which it is known that it has nothing at any address is passed by a lookup, and nothing
-- is left to read there (on specs/EntriesEmpty.antt).
use Rattle.addr2line_units.proofs.Common.{◌≡◌, ◌∙◌, ℕ, ◌<◌, ◌&&◌, ◌||◌, true, false, not, is_none, is_ok, List, [], length, get_or, slice_get, Option, Some, None, IfSome, IfOk, Result, Ok, Err, refl, sym, ap, subst, arith, set, set-get_or, Error, ◌>>=◌, Sections, UnitRecord, functions_of, location_at, Scope, unit_lines, LazyFunctions, CachedUnit, FramesStop, LazyLines, ViewState, AreEntriesOf, first_answer_of, has_answered, has_entries, has_entries_by, AreFunctionsOf, AreLinesOf, indexed_unit, indexed_units, is_uncached, no_lines, parsed_units, answers_in, as_sections, unboxed, verdict_in, view_by, FindsNothing, LookupStop, after_fault, asks_lines_of, or_stop, has_parsed, AreUnits, as_units_state, FramesResult, frames_in, function_by, function_in, View, is_open, verdict, view_scope, first_so, second_so}
use Rattle.std.specs.Prelude.{Box}
use Rattle.std.specs.declared.alloc.Global.{Global}
use Rattle.addr2line_units.specs.declared.entries.LazyFunctions.TheVariants as functions
use Rattle.addr2line_units.specs.declared.unit.LazyLines.TheVariants as lines
use Rattle.addr2line_units.specs.declared.unit.ViewState.TheVariants as states
use Rattle.addr2line_units.specs.EntriesEmpty.{HasNothingAt, has_no_functions, has_no_lines, has_nothing}
use Rattle.addr2line_units.specs.UnitViewCached.{has_view}
use Rattle.addr2line_units.proofs.EntriesFunctionLemmas.{function_is}
use Rattle.addr2line_units.proofs.EntriesKnownLemmas.{known_is}
use Rattle.addr2line_units.proofs.FramesNumberedLemmas.{frames_are, known_then}
use Rattle.addr2line_units.proofs.UnitsAtLemmas.{all_entries, as_many, its_entries, its_lines, unit_is}
use Rattle.addr2line_units.proofs.EntriesFrameLemmas.{lines_frames}
use Rattle.addr2line_units.proofs.Facts.{slice_get_none}
use Rattle.addr2line_units.proofs.UnitsCaches.{has_frames_at}

-- what is absent
functions_absent : {R : Type 0} (f : LazyFunctions R) → has_no_functions f ≡ true → f ≡ functions.Absent
functions_absent functions.Unread e = cc
functions_absent functions.Absent e = refl
functions_absent (functions.Read t) e = cc
functions_absent (functions.Faulty x) e = cc

lines_absent : (l : LazyLines) → has_no_lines l ≡ true → l ≡ lines.Absent
lines_absent lines.Unread e = cc
lines_absent lines.Absent e = refl
lines_absent (lines.Read t) e = cc
lines_absent (lines.Faulty x) e = cc

-- the view that is known
view_there : {R : Type 0} (d : Sections) (u : UnitRecord) (here : Option (Result View Error)) (s : ViewState R) → has_view s ≡ true → IfSome (verdict_in d u s) (λ cached. cached ≡ here) → (v : View) × (here ≡ Some (Ok v))
view_there d u here states.Undecided e k = cc
view_there d u here states.Open e k = cc
view_there d u here states.Main e k = (_, sym k)
view_there d u here (states.Unnamed x) e k = cc
view_there d u here (states.Answered a) e k = by_unit a.unit e k
  where
    by_unit : (r : Result (Option (Box UnitRecord Global)) Error) → is_ok r ≡ true → Some (unboxed r >>= λ y. Ok (view_by d u (as_sections a) y)) ≡ here → (v : View) × (here ≡ Some (Ok v))
    by_unit (Ok y) e k = (_, sym k)
    by_unit (Err y) e k = cc

-- where a view has no functions nothing is left to read of it
known_by_view : {R : Type 0} (probe : ℕ) (s : ViewState R) → has_view s ≡ true → has_entries_by probe s functions.Absent ≡ true
known_by_view probe states.Undecided e = cc
known_by_view probe states.Open e = cc
known_by_view probe states.Main e = refl
known_by_view probe (states.Unnamed x) e = cc
known_by_view {R} probe (states.Answered a) e = by_unit a.unit e
  where
    by_unit : (r : Result (Option (Box UnitRecord Global)) Error) → is_ok r ≡ true → has_answered {R = R} probe r functions.Absent ≡ true
    by_unit (Ok y) e = refl
    by_unit (Err y) e = cc

module _ {R : Type 0} (scope : Scope) (u : UnitRecord) (c : CachedUnit R) (none : has_nothing c ≡ true) (probe : ℕ) where
  no_functions : c.entries.functions ≡ functions.Absent
  no_functions = functions_absent c.entries.functions (first_so _ _ none)

  no_lines_there : c.lines.lines ≡ lines.Absent
  no_lines_there = lines_absent c.lines.lines (first_so _ _ (second_so _ _ none))

  viewed : has_view c.entries.view.state ≡ true
  viewed = second_so _ _ (second_so _ _ none)

  entries_known : has_entries probe c.entries ≡ true
  entries_known = ap (has_entries_by probe c.entries.view.state) no_functions ∙ known_by_view probe c.entries.view.state viewed

  lines_cached : is_uncached c.lines.lines ≡ false
  lines_cached = ap is_uncached no_lines_there

  module _ (its : AreLinesOf scope.file.sections u c.lines.lines) (own : AreEntriesOf scope u c.entries) where
    abbrev here : Option (Result View Error)
    here = verdict scope.file.sections u (first_answer_of c.entries)

    found : (v : View) × (here ≡ Some (Ok v))
    found = view_there scope.file.sections u here c.entries.view.state viewed own.view.verdict

    closed : is_open scope.file.sections u (first_answer_of c.entries) ≡ false
    closed = ap is_none found.1

    functions_none : functions_of (view_scope scope found.0).file.sections found.0.unit ≡ Ok []
    functions_none = subst (AreFunctionsOf (view_scope scope found.0) found.0.unit) no_functions
        (subst (λ w. IfSome w (λ r. IfOk r (λ x. AreFunctionsOf (view_scope scope x) x.unit c.entries.functions))) found.1 own.functions)

    function_none : function_in scope u (first_answer_of c.entries) probe ≡ Ok None
    function_none = ap (function_by scope probe) found.1 ∙ function_is (view_scope scope found.0) found.0.unit probe (Ok []) functions_none

    lines_none : unit_lines scope.file.sections u ≡ Ok no_lines
    lines_none = subst (AreLinesOf scope.file.sections u) no_lines_there its

    -- the unit has no frames
    frames_none : frames_in scope (indexed_unit u c.lines) (first_answer_of c.entries) probe ≡ Ok (Some [])
    frames_none = (lines_frames scope u c.lines.lang (unit_lines scope.file.sections u) (first_answer_of c.entries) probe closed None function_none lines.Absent None lines_none refl
        (ap (λ r. r >>= λ table. Ok (location_at probe table)) lines_none)).1

module _ {R : Type 0} {scope : Scope} {cs : List (CachedUnit R)} {last : FramesStop} (i : AreUnits scope cs last) (n steps : ℕ) (was : LookupStop) {c : CachedUnit R} (within : n < length cs) (at : c ≡ get_or cs n c) (none : has_nothing c ≡ true) where
  abbrev us : List UnitRecord
  us = scope.file.units

  -- the unit of the number has nothing
  pub nothing_there : HasNothingAt (as_units_state scope cs steps was) n
  nothing_there = by_unit (slice_get us n) refl
    where
      same : set cs n c ≡ cs
      same = ap (set cs n) at ∙ set-get_or cs n c

      by_unit : (o : Option UnitRecord) → slice_get us n ≡ o → HasNothingAt (as_units_state scope cs steps was) n
      by_unit None e = let past = slice_get_none us n e in let many = as_many i in absurd (omega (arith, past, many, within))
      by_unit (Some u) there = record {
        stop = λ faults probe. ap (λ (r : FramesResult). after_fault faults r >>= or_stop n (Ok FindsNothing))
            (frames_are scope probe us cs n (all_entries i) within u c c (unit_is i n there) at ∙ frames_none scope u c none probe (its_lines i n there at) (its_entries i n there at));
        known = λ probe.
            let asks = asks_lines_of scope (indexed_units us cs) (answers_in cs) probe in
            ap (λ b. b && (not (asks n) || has_parsed (parsed_units cs) n)) (known_is probe cs n)
            ∙ subst (λ xs. has_frames_at asks probe xs n ≡ true) same
            (known_then scope probe us cs n (all_entries i) within u c c (unit_is i n there) at (entries_known scope u c none probe) (λ _. lines_cached scope u c none probe));
      }
