-- What is cached of the entries of a unit (on specs/EntriesCached.antt and specs/EntriesFrames.antt).
use Rattle.addr2line_units.proofs.Common.{◌≡◌, ◌∙◌, ℕ, ap, sym, refl, subst, Bool, true, false, Option, Some, IfOk, IfSome, is_none, Result, Ok, Err, Error, ◌>>=◌, ExactlyUnlessOom, ExactlyUnlessOomIf, Sections, UnitRecord, functions_take_memory, exceeds_inline_room, Scope, table_same, LazyFunctions, EntriesCache, UnitView, ViewState, functions_in_take_memory, view_takes_memory, function_at, AreEntriesOf, has_answered, has_entries_by, first_answer_of, AreFunctionsOf, StayFunctions, cached_has_function, is_cached_fault, were_read, is_decided, parts_or_fault, as_sections, unboxed, verdict_in, view_by, waits, was_checked, function_by, function_in, inlined_of_unit, inlined_of_found, View, is_open, parts_of, verdict, view_scope}
use Rattle.std.specs.Prelude.{Box, is_ok}
use Rattle.addr2line_units.specs.UnitAfter.{AfterCheck}
use Rattle.addr2line_units.specs.UnitViewCached.{has_view}
use Rattle.addr2line_units.proofs.EntriesKeeps.{KeepsChecked}
use Rattle.addr2line_units.proofs.UnitViewLemmas.{checked_is_right}
use Rattle.std.specs.declared.alloc.Global.{Global}
use Rattle.addr2line_units.specs.declared.entries.LazyFunctions.TheVariants as lazy
use Rattle.addr2line_units.specs.declared.unit.ViewState.TheVariants as states

-- functions stay what they are
pub functions_stay : {R : Type 0} (scope : Scope) (u : UnitRecord) (f : LazyFunctions R) → StayFunctions f f
functions_stay scope u lazy.Unread = tt
functions_stay scope u lazy.Absent = refl
functions_stay scope u (lazy.Read t) = table_same t.value
functions_stay scope u (lazy.Faulty e) = refl

undecided : {R : Type 0} (s : ViewState R) → was_checked s ≡ false → is_decided s ≡ false
undecided states.Undecided h = refl
undecided states.Open h = cc
undecided states.Main h = cc
undecided (states.Unnamed e) h = cc
undecided (states.Answered a) h = cc

-- one that isn't decided has no view
pub undecided_view : {R : Type 0} (s : ViewState R) → is_decided s ≡ false → has_view s ≡ false
undecided_view states.Undecided h = refl
undecided_view states.Open h = refl
undecided_view states.Main h = absurd cc
undecided_view (states.Unnamed e) h = refl
undecided_view (states.Answered a) h = absurd cc

-- a unit that was looked at and doesn't wait is decided
pub checked_decides : {R : Type 0} (s : ViewState R) → was_checked s ≡ true → waits s ≡ false → is_decided s ≡ true
checked_decides states.Undecided h k = cc
checked_decides states.Open h k = cc
checked_decides states.Main h k = refl
checked_decides (states.Unnamed e) h k = refl
checked_decides (states.Answered a) h k = refl

-- what is cached of a unit, by its view and its functions
pub same_entries : {R : Type 0} {v w : UnitView R} {f g : LazyFunctions R} → v ≡ w → f ≡ g → ◌≡◌ {A = EntriesCache R} (record { view = v; functions = f }) (record { view = w; functions = g })
same_entries {v = v} {g = g} e k = ap (λ y. record { view = v; functions = y }) k ∙ ap (λ y. record { view = y; functions = g }) e

-- after the view was looked at
pub checked_keeps : {R : Type 0} (scope : Scope) (u : UnitRecord) (old new : EntriesCache R) → AreEntriesOf scope u new → AfterCheck scope.file.sections u old new → KeepsChecked scope u old new
checked_keeps scope u old new right a = record {
  entries = right;
  known = a.view.known;
  stay = record { answer = a.view.answer; view = a.view.kept; functions = subst (λ f. StayFunctions old.functions f) (sym a.functions) (functions_stay scope u old.functions) };
  functions = a.functions;
  kept = λ checked. same_entries (a.view.kept checked) a.functions;
}

pub keeps_checked : {R : Type 0} (scope : Scope) (u : UnitRecord) (old new : EntriesCache R) → AreEntriesOf scope u old → AfterCheck scope.file.sections u old new → KeepsChecked scope u old new
keeps_checked {R} scope u old new h a = checked_keeps scope u old new (record {
  view = checked_is_right scope.file.sections u old.view new.view h.view a.view;
  functions = subst (λ f. IfSome (verdict scope.file.sections u (first_answer_of new)) (λ r. IfOk r (λ x. AreFunctionsOf (view_scope scope x) x.unit f))) (sym a.functions)
      (subst (λ o. IfSome (verdict scope.file.sections u o) (λ r. IfOk r (λ x. AreFunctionsOf (view_scope scope x) x.unit old.functions))) (sym a.view.answer) h.functions);
  unread = λ waiting. ap were_read a.functions ∙ by_check (was_checked old.view.state) refl waiting;
}) a
  where
    by_check : (b : Bool) → was_checked old.view.state ≡ b → has_view new.view.state ≡ false → were_read old.functions ≡ false
    by_check true e waiting = h.unread (ap (λ (v : UnitView R). has_view v.state) (sym (a.view.kept e)) ∙ waiting)
    by_check false e waiting = h.unread (undecided_view old.view.state (undecided old.view.state e))

-- memory may be taken at any time
pub exactly_unless_oom : {X Y : Type 0} (may : Bool) (see : X → Y) (r : Result X Error) (given : Result Y Error) → ExactlyUnlessOomIf may see r given → ExactlyUnlessOom see r given
exactly_unless_oom may see (Ok x) given h = h
exactly_unless_oom may see (Err e) given h = λ ne. h (λ _. ne)

module _ {R : Type 0} (scope : Scope) (u : UnitRecord) (probe : ℕ) (old : EntriesCache R) (h : AreEntriesOf scope u old) (decided : is_decided old.view.state ≡ true) where
  abbrev pub here : Option (Result View Error)
  here = verdict scope.file.sections u (first_answer_of old)

  by_state : (s : ViewState R) → is_decided s ≡ true → IfSome (verdict_in scope.file.sections u s) (λ cached. cached ≡ here) → (r : Result View Error) × (here ≡ Some r)
  by_state states.Undecided d e = cc
  by_state states.Open d e = cc
  by_state states.Main d e = (_, sym e)
  by_state (states.Unnamed x) d e = (_, sym e)
  by_state (states.Answered a) d e = (_, sym e)

  view_or_fault : (r : Result View Error) × (here ≡ Some r)
  view_or_fault = by_state old.view.state decided h.view.verdict

  -- the unit has a view, with this unit, and references lead from it as this scope says
  pub record IsView (inner : Scope) (x : UnitRecord) : Type 0 where
    pub view : View
    pub is : here ≡ Some (Ok view)
    pub unit : view.unit ≡ x
    pub leads : inner ≡ view_scope scope view

  pub view_known : (d : Sections) (x : UnitRecord) (inner : Scope) → IfSome here (λ r. parts_or_fault r ≡ Ok (d, x)) → IfSome here (λ r. IfOk r (λ v. inner ≡ view_scope scope v)) → IsView inner x
  view_known d x inner parts at = by_view view_or_fault.0 view_or_fault.1
      (subst (λ w. IfSome w (λ r. parts_or_fault r ≡ Ok (d, x))) view_or_fault.1 parts)
      (subst (λ w. IfSome w (λ r. IfOk r (λ v. inner ≡ view_scope scope v))) view_or_fault.1 at)
    where
      by_view : (r : Result View Error) → here ≡ Some r → parts_or_fault r ≡ Ok (d, x) → IfOk r (λ v. inner ≡ view_scope scope v) → IsView inner x
      by_view (Ok v) e p q = let same : parts_of v ≡ (d, x) = cc in record { view = v; is = e; unit = ap (λ (y : Sections × UnitRecord). y.1) same; leads = q }
      by_view (Err y) e p q = absurd cc

  pub fault_known : (x : Error) → IfSome here (λ r. parts_or_fault r ≡ Err x) → here ≡ Some (Err x)
  fault_known x parts = by_view view_or_fault.0 view_or_fault.1 (subst (λ w. IfSome w (λ r. parts_or_fault r ≡ Err x)) view_or_fault.1 parts)
    where
      by_view : (r : Result View Error) → here ≡ Some r → parts_or_fault r ≡ Err x → here ≡ Some (Err x)
      by_view (Ok v) e p = absurd cc
      by_view (Err y) e p = let same : y ≡ x = cc in e ∙ ap (λ z. Some (Err z)) same

  -- a unit that is decided isn't open
  pub not_open : is_open scope.file.sections u (first_answer_of old) ≡ false
  not_open = ap is_none view_or_fault.1

  -- the function by the fault of the view
  pub fault_in : (x : Error) → here ≡ Some (Err x) → function_in scope u (first_answer_of old) probe ≡ Err x
  fault_in x e = ap (function_by scope probe) e

  -- what is known of the unit where its view has a fault
  pub fault_entries : (x : Error) → here ≡ Some (Err x) → (fs : LazyFunctions R) → has_entries_by probe old.view.state fs ≡ is_cached_fault x
  fault_entries x e fs = by_cached old.view.state decided h.view.verdict
    where
      by_cached : (s : ViewState R) → is_decided s ≡ true → IfSome (verdict_in scope.file.sections u s) (λ cached. cached ≡ here) → has_entries_by probe s fs ≡ is_cached_fault x
      by_cached states.Undecided d k = cc
      by_cached states.Open d k = cc
      by_cached states.Main d k = let no = k ∙ e in absurd cc
      by_cached (states.Unnamed y) d k = let both = k ∙ e in let same : y ≡ x = cc in ap is_cached_fault same
      by_cached (states.Answered a) d k = by_unit a.unit (k ∙ e)
        where
          by_unit : (r : Result (Option (Box UnitRecord Global)) Error) → Some (unboxed r >>= λ y. Ok (view_by scope.file.sections u (as_sections a) y)) ≡ Some (Err x) → has_answered probe r fs ≡ is_cached_fault x
          by_unit (Ok y) k = absurd cc
          by_unit (Err y) k = let same : y ≡ x = cc in ap is_cached_fault same

  module _ (inner : Scope) (unit : UnitRecord) (v : IsView inner unit) where
    -- so it is known, and has no fault
    has_a_view : (s : ViewState R) → is_decided s ≡ true → IfSome (verdict_in scope.file.sections u s) (λ cached. cached ≡ here) → has_view s ≡ true
    has_a_view states.Undecided d e = cc
    has_a_view states.Open d e = cc
    has_a_view states.Main d e = refl
    has_a_view (states.Unnamed x) d e = let no : ◌≡◌ {A = Option (Result View Error)} (Some (Err x)) (Some (Ok v.view)) = e ∙ v.is in absurd cc
    has_a_view (states.Answered a) d e = by_unit a.unit (e ∙ v.is)
      where
        by_unit : (r : Result (Option (Box UnitRecord Global)) Error) → Some (unboxed r >>= λ y. Ok (view_by scope.file.sections u (as_sections a) y)) ≡ Some (Ok v.view) → is_ok r ≡ true
        by_unit (Ok y) k = refl
        by_unit (Err y) k = absurd cc

    moved : (P : Scope → UnitRecord → Type 0) → P (view_scope scope v.view) v.view.unit → P inner unit
    moved P p = subst (λ s. P s unit) (sym v.leads) (subst (λ y. P (view_scope scope v.view) y) v.unit p)

    -- the functions that are cached are those of the view
    pub functions_right : AreFunctionsOf inner unit old.functions
    functions_right = moved (λ s y. AreFunctionsOf s y old.functions) (subst (λ w. IfSome w (λ r. IfOk r (λ x. AreFunctionsOf (view_scope scope x) x.unit old.functions))) v.is h.functions)

    -- the function in the unit is that in the view
    pub function_is_in : function_in scope u (first_answer_of old) probe ≡ function_at inner unit probe
    function_is_in = ap (function_by scope probe) v.is ∙ moved (λ s y. function_at (view_scope scope v.view) v.view.unit probe ≡ function_at s y probe) refl

    -- the functions of the view take the memory that those of the unit take
    pub functions_take_in : (shares : Bool) → functions_in_take_memory shares scope u (first_answer_of old) ≡ false → functions_take_memory shares inner.file.sections unit ≡ false
    unfolding functions_in_take_memory
    functions_take_in shares none = moved (λ s y. functions_take_memory shares s.file.sections y ≡ false) (sym (ap (view_takes_memory shares scope) v.is) ∙ none)

    pub few_in : exceeds_inline_room (inlined_of_unit scope u (first_answer_of old) probe) ≡ false → exceeds_inline_room (inlined_of_found (function_at inner unit probe)) ≡ false
    unfolding inlined_of_unit
    few_in few = sym (ap (λ f. exceeds_inline_room (inlined_of_found f)) function_is_in) ∙ few

    -- the unit stays right where other functions of its view are cached
    pub functions_keep : (new : LazyFunctions R) → AreFunctionsOf inner unit new → AreEntriesOf scope u (record { view = old.view; functions = new })
    functions_keep new right = record {
      view = h.view;
      functions = subst (λ w. IfSome w (λ r. IfOk r (λ x. AreFunctionsOf (view_scope scope x) x.unit new))) (sym v.is)
          (subst (λ s. AreFunctionsOf s v.view.unit new) v.leads (subst (λ y. AreFunctionsOf inner y new) (sym v.unit) right));
      unread = λ none. (let no : true ≡ false = sym (has_a_view old.view.state decided h.view.verdict) ∙ none in absurd cc);
    }

    -- what is known of the unit is what is known of the function
    pub function_entries : (fs : LazyFunctions R) → has_entries_by probe old.view.state fs ≡ cached_has_function probe fs
    function_entries fs = by_cached old.view.state decided h.view.verdict
      where
        by_cached : (s : ViewState R) → is_decided s ≡ true → IfSome (verdict_in scope.file.sections u s) (λ cached. cached ≡ here) → has_entries_by probe s fs ≡ cached_has_function probe fs
        by_cached states.Undecided d k = cc
        by_cached states.Open d k = cc
        by_cached states.Main d k = refl
        by_cached (states.Unnamed y) d k = let no = k ∙ v.is in absurd cc
        by_cached (states.Answered a) d k = by_unit a.unit (k ∙ v.is)
          where
            by_unit : (r : Result (Option (Box UnitRecord Global)) Error) → Some (unboxed r >>= λ y. Ok (view_by scope.file.sections u (as_sections a) y)) ≡ Some (Ok v.view) → has_answered probe r fs ≡ cached_has_function probe fs
            by_unit (Ok y) k = refl
            by_unit (Err y) k = absurd cc
