-- The views of units (on specs/UnitView.antt and specs/UnitViewCached.antt).
use Rattle.addr2line_units.proofs.Common.{◌≡◌, ◌≢◌, ◌∙◌, ℕ, ap, sym, refl, subst, not, ⊎_elim, Bool, true, false, List, [], ◌∷◌, Option, Some, None, is_some, is_none, option_map, IfSome, IfOk, Result, Ok, Err, if◌then◌else◌, Error, OutOfMemory, ◌>>=◌, fault_of, Section, Sections, UnitHeaderFields, UnitRecord, attr_string_of, unit_record_of, all_headers, IsScope, Scope, UnitView, ViewState, IsViewOf, answer_in, answer_of_view, as_sections, split_file_by, split_file_in, split_unit, unboxed, verdict_in, view_by, waits, SplitLoad, View, answered_view, first_unit, first_unit_of, first_view, or_left, or_right, load_by, load_of_unit, main_view, split_name_of, verdict, verdict_by, view_scope, memory_or_not, is_decided, is_open, view_fault, was_checked}
use Rattle.gimli_read.specs.declared.value.AttributeValue.{AttributeValue}
use Rattle.gimli.specs.declared.unit.DwoId.{DwoId}
use Rattle.gimli.specs.Split.{dwo_name_fault, dwo_name_of, relocated, string_fault_if}
use Rattle.gimli.specs.UnitMemory.{unit_takes_memory}
use Rattle.gimli.proofs.UnitLemmas.{read_takes_memory}
use Rattle.addr2line_lines.specs.FileTexts.{optional_string}
use Rattle.addr2line_units.specs.declared.unit.AnsweredLoad.{AnsweredLoad}
use Rattle.addr2line_units.specs.declared.unit.ViewState.TheVariants as states
use Rattle.addr2line_units.specs.LoadsMemory.{stored_first_unit_of, first_unit_takes_memory, unit_read}
use Rattle.addr2line_units.specs.UnitAfter.{AfterViewCheck}
use Rattle.addr2line_units.specs.UnitViewCached.{verdict_or}

decided_by : (d : Sections) (u : UnitRecord) (load : Result (Option SplitLoad) Error) (r : Result View Error) (answer : Option (Option Sections)) → verdict_by d u load None ≡ Some r → verdict_by d u load answer ≡ Some r
decided_by d u (Err e) r answer h = h
decided_by d u (Ok None) r answer h = h
decided_by d u (Ok (Some load)) r answer h = cc

-- a unit that is decided without an answer has its verdict with every answer
pub decided_alone : (d : Sections) (u : UnitRecord) (r : Result View Error) (answer : Option (Option Sections)) → verdict d u None ≡ Some r → verdict d u answer ≡ Some r
decided_alone d u r answer h = decided_by d u (load_of_unit d 0 u) r answer h

open_by : (d : Sections) (u : UnitRecord) (load : Result (Option SplitLoad) Error) (answer : Option Sections) → verdict_by d u load None ≡ None → verdict_by d u load (Some answer) ≡ Some (answered_view d u answer)
open_by d u (Err e) answer h = cc
open_by d u (Ok None) answer h = cc
open_by d u (Ok (Some load)) answer h = refl

-- the verdict of an open unit after an answer is that of the answer
pub verdict_of_open : (d : Sections) (u : UnitRecord) (answer : Option Sections) → verdict d u None ≡ None → verdict d u (Some answer) ≡ Some (answered_view d u answer)
verdict_of_open d u answer h = open_by d u (load_of_unit d 0 u) answer h

alone_by : (d : Sections) (u : UnitRecord) (name : Result (Option Section) Error) (id : Option DwoId) → is_some id ≡ false → verdict_by d u (load_by d 0 u name id) None ≡ Some (Ok (main_view d u))
alone_by d u name None h = refl
alone_by d u name (Some id) h = cc

-- a unit without an identifier of a split unit has the main view
pub verdict_of_main : (d : Sections) (u : UnitRecord) → is_some u.dwo_id ≡ false → verdict d u None ≡ Some (Ok (main_view d u))
unfolding load_of_unit
verdict_of_main d u h = alone_by d u (split_name_of d u) u.dwo_id h

named_by : (d : Sections) (u : UnitRecord) (path : Option Section) (id : Option DwoId) → is_some id ≡ true → verdict_by d u (load_by d 0 u (Ok path) id) None ≡ None
named_by d u path None h = cc
named_by d u path (Some id) h = refl

-- a unit with such an identifier waits for an answer where its split name can be read
pub verdict_of_named : (d : Sections) (u : UnitRecord) (path : Option Section) → is_some u.dwo_id ≡ true → split_name_of d u ≡ Ok path → verdict d u None ≡ None
unfolding load_of_unit
verdict_of_named d u path h e = ap (λ name. verdict_by d u (load_by d 0 u name u.dwo_id) None) e ∙ named_by d u path u.dwo_id h

unnamed_by : (d : Sections) (u : UnitRecord) (e : Error) (id : Option DwoId) → is_some id ≡ true → verdict_by d u (load_by d 0 u (Err e) id) None ≡ Some (Err e)
unnamed_by d u e None h = cc
unnamed_by d u e (Some id) h = refl

-- and has that fault where it can't
pub verdict_of_unnamed : (d : Sections) (u : UnitRecord) (e : Error) → is_some u.dwo_id ≡ true → split_name_of d u ≡ Err e → verdict d u None ≡ Some (Err e)
unfolding load_of_unit
verdict_of_unnamed d u e h k = ap (λ name. verdict_by d u (load_by d 0 u name u.dwo_id) None) k ∙ unnamed_by d u e u.dwo_id h

-- the fault of a split name is that of the name
name_fault : (d : Sections) (u : UnitRecord) → (split_name_of d u >>= λ _. Ok tt) ≡ dwo_name_fault d u
unfolding split_name_of
name_fault d u = by_value (dwo_name_of u)
  where
    by_string : (r : Result Section Error) → ((r >>= λ string. Ok (Some string)) >>= λ _. Ok tt) ≡ fault_of r
    by_string (Ok s) = refl
    by_string (Err e) = refl

    by_value : (r : Result (Option (AttributeValue Section)) Error) → ((r >>= optional_string d u) >>= λ _. Ok tt) ≡ (r >>= string_fault_if d u)
    by_value (Err e) = refl
    by_value (Ok None) = refl
    by_value (Ok (Some value)) = by_string (attr_string_of d u value)

-- so is the verdict of a unit that has one
pub verdict_of_fault : (d : Sections) (u : UnitRecord) (e : Error) → is_some u.dwo_id ≡ true → dwo_name_fault d u ≡ Err e → verdict d u None ≡ Some (Err e)
verdict_of_fault d u e h k = verdict_of_unnamed d u e h (by (split_name_of d u) (name_fault d u ∙ k))
  where
    by : (r : Result (Option Section) Error) → ◌≡◌ {A = Result (Unit {0}) Error} (r >>= λ _. Ok tt) (Err e) → r ≡ Err e
    by (Ok path) x = absurd cc
    by (Err f) x = cc

-- and it is open where it has none
pub verdict_of_no_fault : (d : Sections) (u : UnitRecord) → is_some u.dwo_id ≡ true → dwo_name_fault d u ≡ Ok tt → verdict d u None ≡ None
verdict_of_no_fault d u h k = by (split_name_of d u) refl (name_fault d u ∙ k)
  where
    by : (r : Result (Option Section) Error) → split_name_of d u ≡ r → ◌≡◌ {A = Result (Unit {0}) Error} (r >>= λ _. Ok tt) (Ok tt) → verdict d u None ≡ None
    by (Ok path) e x = verdict_of_named d u path h e
    by (Err f) e x = absurd cc

open_in : {R : Type 0} (d : Sections) (u : UnitRecord) (s : ViewState R) → waits s ≡ true → IfSome (verdict_in d u s) (λ cached. cached ≡ verdict d u (answer_in s)) → verdict d u None ≡ None
open_in d u states.Undecided h right = cc
open_in d u states.Open h right = sym right
open_in d u states.Main h right = cc
open_in d u (states.Unnamed e) h right = cc
open_in d u (states.Answered a) h right = cc

-- a unit whose view waits has no verdict without an answer
pub waiting_is_open : {R : Type 0} (d : Sections) (u : UnitRecord) (s : ViewState R) → waits s ≡ true → IsViewOf d u (record { state = s }) → verdict d u None ≡ None
waiting_is_open d u s h right = open_in d u s h right.verdict

first_by : (d main : _) (split : Sections) (first : Result (Option UnitRecord) Error) → ((first >>= λ u. Ok (option_map (λ x. relocated x main) u)) >>= λ x. Ok (view_by d main (Some split) x)) ≡ (first >>= λ u. Ok (first_view d main split u))
first_by d main split (Err e) = refl
first_by d main split (Ok None) = refl
first_by d main split (Ok (Some u)) = refl

-- the view by an answer's split unit is that which the answer decides for
pub view_by_split_unit : (d : Sections) (main : UnitRecord) (answer : Option Sections) → (split_unit main answer >>= λ x. Ok (view_by d main answer x)) ≡ answered_view d main answer
view_by_split_unit d main None = refl
view_by_split_unit d main (Some split) = first_by d main split (first_unit split)

-- the first unit of sections
module _ (shares : Bool) (d : Sections) where
  abbrev takes : List (Result UnitHeaderFields Error) → Bool
  takes headers = (stored_first_unit_of (unit_read d) headers).takes_memory shares

  abbrev given : List (Result UnitHeaderFields Error) → Result (Option UnitRecord) Error
  given headers = first_unit_of (unit_record_of d) headers

  pub first_shared : shares ≡ true → first_unit_takes_memory shares d ≡ true
  first_shared e = by_headers (all_headers d.debug_info)
    where
      by_headers : (headers : List (Result UnitHeaderFields Error)) → takes headers ≡ true
      by_headers [] = e
      by_headers (header ∷ headers) = or_left _ _ (or_left shares _ e)

  pub first_taken : (header : UnitHeaderFields) (rest : List (Result UnitHeaderFields Error)) → all_headers d.debug_info ≡ Ok header ∷ rest → unit_takes_memory shares d header ≡ true → first_unit_takes_memory shares d ≡ true
  first_taken header rest e h = ap takes e ∙ or_left _ _ (or_right shares _ h)

  -- a first unit that is read had memory taken for it
  pub first_read : (u : UnitRecord) → first_unit d ≡ Ok (Some u) → first_unit_takes_memory shares d ≡ true
  first_read u h = by_headers (all_headers d.debug_info) refl h
    where
      by_record : (header : UnitHeaderFields) (rest : List (Result UnitHeaderFields Error)) (r : Result UnitRecord Error) → all_headers d.debug_info ≡ Ok header ∷ rest → unit_record_of d header ≡ r → (r >>= λ x. Ok (Some x)) ≡ Ok (Some u) → first_unit_takes_memory shares d ≡ true
      by_record header rest (Err e) all k p = absurd cc
      by_record header rest (Ok x) all k p = first_taken header rest all (read_takes_memory shares d header x k)

      by_headers : (headers : List (Result UnitHeaderFields Error)) → all_headers d.debug_info ≡ headers → given headers ≡ Ok (Some u) → first_unit_takes_memory shares d ≡ true
      by_headers [] all p = absurd cc
      by_headers (Err e ∷ rest) all p = absurd cc
      by_headers (Ok header ∷ rest) all p = by_record header rest (unit_record_of d header) all refl p

  pub first_refused : (f : Error) (rest : List (Result UnitHeaderFields Error)) → all_headers d.debug_info ≡ Err f ∷ rest → first_unit d ≡ Err f
  first_refused f rest e = ap given e

  pub first_faulty : (header : UnitHeaderFields) (rest : List (Result UnitHeaderFields Error)) (f : Error) → all_headers d.debug_info ≡ Ok header ∷ rest → unit_record_of d header ≡ Err f → first_unit d ≡ Err f
  first_faulty header rest f e h = ap given e ∙ ap (λ r. r >>= λ (u : UnitRecord). Ok (Some u)) h

-- an answer with its split unit has the view that the answer decides for
pub answered_verdict : {R : Type 0} (d : Sections) (u : UnitRecord) (a : AnsweredLoad R) → unboxed a.unit ≡ split_unit u (as_sections a) → verdict_in d u (states.Answered a) ≡ Some (Some (answered_view d u (as_sections a)))
answered_verdict d u a h = ap (λ w. Some (Some w)) (ap (λ r. r >>= λ x. Ok (view_by d u (as_sections a) x)) h ∙ view_by_split_unit d u (as_sections a))

waited_by : (d : Sections) (n : ℕ) (u : UnitRecord) (name : Result (Option Section) Error) (id : Option DwoId) → verdict_by d u (load_by d 0 u name id) None ≡ None → load_by d n u name id ≢ Ok None
waited_by d n u name None h e = cc
waited_by d n u (Ok path) (Some id) h e = cc
waited_by d n u (Err x) (Some id) h e = cc

-- a unit that waits has a load
pub open_has_load : (d : Sections) (n : ℕ) (u : UnitRecord) → verdict d u None ≡ None → load_of_unit d n u ≢ Ok None
unfolding load_of_unit
open_has_load d n u h = waited_by d n u (split_name_of d u) u.dwo_id h

faultless_by : (d : Sections) (n : ℕ) (u : UnitRecord) (name : Result (Option Section) Error) (id : Option DwoId) (e : Error) → verdict_by d u (load_by d 0 u name id) None ≡ None → load_by d n u name id ≢ Err e
faultless_by d n u name None e h k = cc
faultless_by d n u (Ok path) (Some id) e h k = cc
faultless_by d n u (Err x) (Some id) e h k = cc

-- and no fault
pub open_has_no_fault : (d : Sections) (n : ℕ) (u : UnitRecord) (e : Error) → verdict d u None ≡ None → load_of_unit d n u ≢ Err e
unfolding load_of_unit
open_has_no_fault d n u e h = faultless_by d n u (split_name_of d u) u.dwo_id e h

-- where references lead from a view in a split file, if it is in one
abbrev scope_by : Scope → Option Sections → Scope
scope_by scope None = scope
scope_by scope (Some split) =
    record { file = record { sections = split; units = [] }; sup = scope.sup }

answered_scope : (scope : Scope) (d : Sections) (u : UnitRecord) (answer : Option Sections) (unit : Result (Option UnitRecord) Error) → IfOk (unit >>= λ x. Ok (view_by d u answer x)) (λ v. scope_by scope (split_file_by answer unit) ≡ view_scope scope v)
answered_scope scope d u None (Err e) = tt
answered_scope scope d u None (Ok None) = refl
answered_scope scope d u None (Ok (Some x)) = refl
answered_scope scope d u (Some split) (Err e) = tt
answered_scope scope d u (Some split) (Ok None) = refl
answered_scope scope d u (Some split) (Ok (Some x)) = refl

scope_in : {R : Type 0} (scope : Scope) (d : Sections) (u : UnitRecord) (s : ViewState R) → IfSome (verdict_in d u s) (λ known. IfSome known (λ view. IfOk view (λ v. scope_by scope (split_file_in s) ≡ view_scope scope v)))
scope_in scope d u states.Undecided = tt
scope_in scope d u states.Open = tt
scope_in scope d u states.Main = refl
scope_in scope d u (states.Unnamed e) = tt
scope_in scope d u (states.Answered a) = answered_scope scope d u (as_sections a) (unboxed a.unit)

-- references lead from a view as its split file says, if it is in one
-- a unit that wasn't looked at, and needs no answer, has the main view
first_scope : (scope : Scope) (d : Sections) (u : UnitRecord) → IfSome (verdict d u None) (λ view. IfOk view (λ x. scope ≡ view_scope scope x))
first_scope scope d u = by (load_of_unit d 0 u)
  where
    by : (load : Result (Option SplitLoad) Error) → IfSome (verdict_by d u load None) (λ view. IfOk view (λ x. scope ≡ view_scope scope x))
    by (Ok None) = refl
    by (Ok (Some load)) = tt
    by (Err e) = tt

pub scope_of_split : {R : Type 0} (scope : Scope) (split : Option Sections) (v : UnitView R) → split ≡ split_file_in v.state → (d : Sections) (u : UnitRecord) → IfSome (verdict_or d u v.state) (λ view. IfOk view (λ x. scope_by scope split ≡ view_scope scope x))
scope_of_split {R} scope split v e d u = subst (λ p. IfSome (verdict_or d u v.state) (λ view. IfOk view (λ x. scope_by scope p ≡ view_scope scope x))) (sym e) (by v.state (scope_in scope d u v.state))
  where
    by : (s : ViewState R) → IfSome (verdict_in d u s) (λ known. IfSome known (λ view. IfOk view (λ x. scope_by scope (split_file_in s) ≡ view_scope scope x))) → IfSome (verdict_or d u s) (λ view. IfOk view (λ x. scope_by scope (split_file_in s) ≡ view_scope scope x))
    by states.Undecided h = first_scope scope d u
    by states.Open h = h
    by states.Main h = h
    by (states.Unnamed x) h = h
    by (states.Answered a) h = h

-- what holds of the view that is cached of a unit holds of its view, where it is decided
pub of_cached_view : {R : Type 0} (d : Sections) (u : UnitRecord) (v : UnitView R) (P : Result View Error → Type 0) → IsViewOf d u v → is_decided v.state ≡ true → IfSome (verdict_in d u v.state) (λ known. IfSome known P) → IfSome (verdict d u (answer_of_view v)) P
of_cached_view {R} d u v P h decided p = by v.state (verdict d u (answer_of_view v)) decided h.verdict p
  where
    by : (s : ViewState R) (w : Option (Result View Error)) → is_decided s ≡ true → IfSome (verdict_in d u s) (λ cached. cached ≡ w) → IfSome (verdict_in d u s) (λ known. IfSome known P) → IfSome w P
    by states.Undecided w k e q = absurd cc
    by states.Open w k e q = absurd cc
    by states.Main w k e q = subst (λ o. IfSome o P) e q
    by (states.Unnamed x) w k e q = subst (λ o. IfSome o P) e q
    by (states.Answered a) w k e q = subst (λ o. IfSome o P) e q

-- and its fault is that of its view
pub cached_fault : {R : Type 0} (d : Sections) (u : UnitRecord) (v : UnitView R) (r : Result (Unit {0}) Error) → IsViewOf d u v → is_decided v.state ≡ true → IfSome (verdict_in d u v.state) (λ known. IfSome known (λ view. r ≡ fault_of view)) → r ≡ view_fault (verdict d u (answer_of_view v))
cached_fault {R} d u v r h decided p = by v.state (verdict d u (answer_of_view v)) decided h.verdict p
  where
    by : (s : ViewState R) (w : Option (Result View Error)) → is_decided s ≡ true → IfSome (verdict_in d u s) (λ cached. cached ≡ w) → IfSome (verdict_in d u s) (λ known. IfSome known (λ view. r ≡ fault_of view)) → r ≡ view_fault w
    by states.Undecided w k e q = absurd cc
    by states.Open w k e q = absurd cc
    by states.Main w k e q = q ∙ ap view_fault e
    by (states.Unnamed x) w k e q = q ∙ ap view_fault e
    by (states.Answered a) w k e q = q ∙ ap view_fault e

-- what is cached of the verdict of a unit, or the bytes say, is its verdict
pub verdict_or_is : {R : Type 0} (d : Sections) (u : UnitRecord) (v : UnitView R) → IsViewOf d u v → verdict_or d u v.state ≡ verdict d u (answer_of_view v)
verdict_or_is {R} d u v h = by v.state h.verdict
  where
    by : (s : ViewState R) → IfSome (verdict_in d u s) (λ cached. cached ≡ verdict d u (answer_in s)) → verdict_or d u s ≡ verdict d u (answer_in s)
    by states.Undecided e = refl
    by states.Open e = e
    by states.Main e = e
    by (states.Unnamed x) e = e
    by (states.Answered a) e = e

pub unchecked_has_none : {R : Type 0} (s : ViewState R) → was_checked s ≡ false → answer_in s ≡ None
unchecked_has_none states.Undecided e = refl
unchecked_has_none states.Open e = refl
unchecked_has_none states.Main e = refl
unchecked_has_none (states.Unnamed x) e = refl
unchecked_has_none (states.Answered a) e = absurd cc

-- the view of a unit is right after it was looked at
pub checked_is_right : {R : Type 0} (d : Sections) (u : UnitRecord) (old new : UnitView R) → IsViewOf d u old → AfterViewCheck d u old new → IsViewOf d u new
checked_is_right d u old new h a = by (was_checked old.state) refl
  where
    by : (b : Bool) → was_checked old.state ≡ b → IsViewOf d u new
    by true e = subst (IsViewOf d u) (sym (a.kept e)) h
    by false e = record {
      verdict = subst (λ o. IfSome o (λ cached. cached ≡ verdict d u (answer_of_view new))) (sym (a.read e)) (ap (verdict d u) (sym (a.answer ∙ unchecked_has_none old.state e)));
      waited = λ some. h.waited (sym (ap is_some a.answer) ∙ some);
    }

-- and after it was answered, where it waited
pub answered_is_right : {R : Type 0} (d : Sections) (u : UnitRecord) (given : Option Sections) (v : UnitView R) → verdict d u None ≡ None → answer_of_view v ≡ Some given → verdict_in d u v.state ≡ Some (Some (answered_view d u given)) → IsViewOf d u v
answered_is_right d u given v waiting answer read = record {
  verdict = subst (λ o. IfSome o (λ cached. cached ≡ verdict d u (answer_of_view v))) (sym read) (sym (ap (verdict d u) answer ∙ verdict_of_open d u given waiting));
  waited = λ _. ap is_none waiting;
}

-- where a verdict is cached the unit is decided
pub decided_by_verdict : {R : Type 0} (d : Sections) (u : UnitRecord) (s : ViewState R) (r : Result View Error) → verdict_in d u s ≡ Some (Some r) → is_decided s ≡ true
decided_by_verdict d u states.Undecided r e = absurd cc
decided_by_verdict d u states.Open r e = absurd cc
decided_by_verdict d u states.Main r e = refl
decided_by_verdict d u (states.Unnamed x) r e = refl
decided_by_verdict d u (states.Answered a) r e = refl

-- a unit that waits without an answer is right where it is open
pub waiting_is_right : {R : Type 0} (d : Sections) (u : UnitRecord) (v : UnitView R) → waits v.state ≡ true → answer_of_view v ≡ None → is_open d u None ≡ true → IsViewOf d u v
waiting_is_right {R} d u v w none open_is = record { verdict = by v.state w none; waited = λ _. open_is }
  where
    no_verdict : (o : Option (Result View Error)) → is_none o ≡ true → o ≡ None
    no_verdict None e = refl
    no_verdict (Some r) e = absurd cc

    by : (s : ViewState R) → waits s ≡ true → answer_in s ≡ None → IfSome (verdict_in d u s) (λ cached. cached ≡ verdict d u (answer_in s))
    by states.Undecided k e = absurd cc
    by states.Open k e = sym (no_verdict (verdict d u None) open_is)
    by states.Main k e = absurd cc
    by (states.Unnamed x) k e = absurd cc
    by (states.Answered a) k e = absurd cc

-- the load of a unit that waits is refused OutOfMemory alone
pub refused_load : (d : Sections) (n : ℕ) (u : UnitRecord) (may : Bool) (e : Error) → verdict d u None ≡ None → ((may ≡ true → e ≢ OutOfMemory) → load_of_unit d n u ≡ Err e) → e ≡ OutOfMemory
refused_load d n u may e waiting gives = ⊎_elim (λ p. p) (λ q. absurd (open_has_no_fault d n u e waiting (gives (λ m. q)))) (memory_or_not e)

in_order_by : (scope : Scope) (v : View) (split : Bool) → IsScope scope → IsScope (if split then (record { file = record { sections = v.sections; units = [] }; sup = scope.sup }) else scope)
in_order_by scope v true h = record { units = tt; sup_units = h.sup_units }
in_order_by scope v false h = h

-- references lead to units in order from a view too
pub view_scope_in_order : (scope : Scope) (v : View) → IsScope scope → IsScope (view_scope scope v)
view_scope_in_order scope v h = in_order_by scope v v.is_split h

-- what isn't absent is there
pub is_there : {A : Type 0} (id : Option A) (absent : Bool) → absent ≡ false → is_some id ≡ not absent → is_some id ≡ true
is_there id absent h e = e ∙ ap not h
