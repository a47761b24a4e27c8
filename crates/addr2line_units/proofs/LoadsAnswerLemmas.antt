-- Answers to the loads of units, and what is cached of their entries (on specs/EntriesCached.antt).
use Rattle.addr2line_units.proofs.Common.{◌≡◌, ℕ, zero, suc, ◌<◌, Bool, true, false, List, [], ◌∷◌, length, get_or, slice_get, arith, Option, Some, None, Result, Ok, Err, ap, refl, sym, subst, ◌∙◌, set, false≢true, IfErr, OnOk, Error, OutOfMemory, Sections, UnitRecord, Scope, LazyFunctions, CachedUnit, EntriesCache, UnitView, ViewState, answer_of, with_answer, AreEntriesOf, StayEntries, first_answer_of, AreFunctionsOf, were_read, answers_in, IsViewOf, is_decided, answer_of_view, verdict_in, waits, was_checked, FirstAnswers, View, decided_answer, is_open, verdict, view_scope, fault_of, view_fault}
use Rattle.std.specs.Prelude.{IfOk, IfSome, is_none, is_some, if◌then◌else◌}
use Rattle.addr2line_units.specs.declared.entries.LazyFunctions.TheVariants as lazy
use Rattle.addr2line_units.specs.declared.unit.ViewState.TheVariants as states
use Rattle.addr2line_units.specs.UnitAfter.{AfterAnswerIn, AfterForgettingIn, AfterViewAnswer}
use Rattle.addr2line_units.proofs.EntriesKeeps.{KeepsAnswered, KeepsChecked, KeepsForgotten}
use Rattle.addr2line_units.specs.LoadsMemory.{answer_takes_memory}
use Rattle.addr2line_units.specs.UnitView.{answered_view}
use Rattle.addr2line_units.proofs.EntriesLemmas.{checked_decides, keeps_checked, undecided_view}
use Rattle.addr2line_units.proofs.UnitViewLemmas.{answered_is_right, decided_by_verdict, verdict_of_open, waiting_is_open, waiting_is_right}
use Rattle.addr2line_units.proofs.UnitsCachedLemmas.{stay_entries_set}
use Rattle.addr2line_units.proofs.UnitsCaches.{StayAllEntries, decided_at}

-- what waits isn't decided
waiting_is_undecided : {R : Type 0} (s : ViewState R) → waits s ≡ true → is_decided s ≡ false
waiting_is_undecided states.Undecided e = refl
waiting_is_undecided states.Open e = refl
waiting_is_undecided states.Main e = absurd cc
waiting_is_undecided (states.Unnamed x) e = absurd cc
waiting_is_undecided (states.Answered a) e = absurd cc

pub unread_are : {R : Type 0} (scope : Scope) (u : UnitRecord) (f : LazyFunctions R) → were_read f ≡ false → AreFunctionsOf scope u f
unread_are scope u lazy.Unread e = tt
unread_are scope u lazy.Absent e = absurd cc
unread_are scope u (lazy.Read t) e = absurd cc
unread_are scope u (lazy.Faulty x) e = absurd cc

-- where no functions were read the view is all that is cached
unread_entries : {R : Type 0} (scope : Scope) (u : UnitRecord) (v : UnitView R) (f : LazyFunctions R) → IsViewOf scope.file.sections u v → were_read f ≡ false
    → AreEntriesOf scope u (record { view = v; functions = f })
unread_entries {R} scope u v f h e = record { view = h; functions = by (verdict scope.file.sections u (answer_of_view v)); unread = λ k. e }
  where
    by : (w : Option (Result View Error)) → IfSome w (λ view. IfOk view (λ x. AreFunctionsOf (view_scope scope x) x.unit f))
    by None = tt
    by (Some (Ok x)) = unread_are (view_scope scope x) x.unit f e
    by (Some (Err x)) = tt

-- what was looked at waits where the unit is open
pub checked_waits : {R : Type 0} (d : Sections) (u : UnitRecord) (v : UnitView R) → IsViewOf d u v → was_checked v.state ≡ true → waits v.state ≡ is_open d u (answer_of_view v)
checked_waits {R} d u v h k = by v.state (verdict d u (answer_of_view v)) h.verdict k
  where
    by : (s : ViewState R) (w : Option (Result View Error)) → IfSome (verdict_in d u s) (λ cached. cached ≡ w) → was_checked s ≡ true → waits s ≡ is_none w
    by states.Undecided w e l = absurd cc
    by states.Open w e l = ap is_none e
    by states.Main w e l = ap is_none e
    by (states.Unnamed x) w e l = ap is_none e
    by (states.Answered a) w e l = ap is_none e

-- the answer of a unit after one more
pub decided_if_open : (d : Sections) (u : UnitRecord) (answer : Option (Option Sections)) (given : Option Sections) → is_open d u answer ≡ true → decided_answer d u answer given ≡ Some given
decided_if_open d u answer given e = ap (λ b. if b then Some given else answer) e

pub decided_if_not : (d : Sections) (u : UnitRecord) (answer : Option (Option Sections)) (given : Option Sections) → is_open d u answer ≡ false → decided_answer d u answer given ≡ answer
decided_if_not d u answer given e = ap (λ b. if b then Some given else answer) e

pub decided_was_checked : {R : Type 0} (s : ViewState R) → is_decided s ≡ true → was_checked s ≡ true
decided_was_checked states.Undecided e = absurd cc
decided_was_checked states.Open e = absurd cc
decided_was_checked states.Main e = refl
decided_was_checked (states.Unnamed x) e = refl
decided_was_checked (states.Answered a) e = refl

pub decided_waits_not : {R : Type 0} (s : ViewState R) → is_decided s ≡ true → waits s ≡ false
decided_waits_not states.Undecided e = absurd cc
decided_waits_not states.Open e = absurd cc
decided_waits_not states.Main e = refl
decided_waits_not (states.Unnamed x) e = refl
decided_waits_not (states.Answered a) e = refl

-- whether the unit is open, by what waits after it was looked at
pub open_by_check : {R : Type 0} (d : Sections) (u : UnitRecord) (v w : UnitView R) (b : Bool) → IsViewOf d u w → was_checked w.state ≡ true → answer_of_view w ≡ answer_of_view v → b ≡ waits w.state
    → is_open d u (answer_of_view v) ≡ b
open_by_check d u v w b h l same e = ap (λ a. is_open d u a) (sym same) ∙ sym (checked_waits d u w h l) ∙ sym e

-- what was decided before a check of the split file doesn't wait after it
pub never_waits : {R : Type 0} (v w : EntriesCache R) (b : Bool) → is_decided v.view.state ≡ true → (was_checked v.view.state ≡ true → w ≡ v) → b ≡ waits w.view.state → b ≡ true → ⊥
never_waits v w b h same e t =
    let f : waits w.view.state ≡ false = ap (λ x. waits x.view.state) (same (decided_was_checked v.view.state h)) ∙ decided_waits_not v.view.state h in
    let k : true ≡ false = sym t ∙ e ∙ f in cc

-- a unit that was looked at is answered
module _ {R : Type 0} (shares : Bool) (scope : Scope) (u : UnitRecord) (given : Option Sections) (old mid : EntriesCache R) (check : KeepsChecked scope u old mid) where
  -- it doesn't wait
  shut_after : waits mid.view.state ≡ false → KeepsAnswered shares scope u given (Ok tt) old mid
  shut_after shut = record {
    entries = check.entries;
    answer = check.stay.answer ∙ sym (decided_if_not scope.file.sections u (first_answer_of old) given (open_by_check scope.file.sections u old.view mid.view false check.entries.view check.known check.stay.answer (sym shut)));
    known = checked_decides mid.view.state check.known shut;
    refused = tt;
    functions = check.functions;
    kept = λ h. (check.kept (decided_was_checked old.view.state h), refl);
    none = λ _. refl;
    no_memory = λ takes. tt;
  }

  -- it waits
  module _ (waiting : waits mid.view.state ≡ true) where
    never_decided : is_decided old.view.state ≡ true → ⊥
    never_decided h = never_waits old mid true h check.kept (sym waiting) refl

    was_open : is_open scope.file.sections u (first_answer_of old) ≡ true
    was_open = open_by_check scope.file.sections u old.view mid.view true check.entries.view check.known check.stay.answer (sym waiting)

    decided_after : (view : UnitView R) → IsViewOf scope.file.sections u view → answer_of_view view ≡ Some given → is_decided view.state ≡ true → KeepsAnswered shares scope u given (Ok tt) old (record { view = view; functions = mid.functions })
    decided_after view right answer known = record {
      entries = unread_entries scope u view mid.functions right (check.entries.unread (undecided_view mid.view.state (waiting_is_undecided mid.view.state waiting)));
      answer = answer ∙ sym (decided_if_open scope.file.sections u (first_answer_of old) given was_open);
      known = known;
      refused = tt;
      functions = check.functions;
      kept = λ h. absurd (never_decided h);
      none = λ shut. absurd (false≢true (sym shut ∙ was_open));
      no_memory = λ takes. tt;
    }

    undecided_after : (e : Error) → e ≡ OutOfMemory → is_some given ≡ true → (answer_takes_memory shares given ≡ false → answered_view scope.file.sections u given ≡ Err e) → KeepsAnswered shares scope u given (Err e) old mid
    undecided_after e oom some fault = record {
      entries = check.entries;
      answer = tt;
      known = tt;
      refused = (oom, check.stay, some);
      functions = check.functions;
      kept = λ h. absurd (never_decided h);
      none = λ shut. absurd (false≢true (sym shut ∙ was_open));
      no_memory = λ takes. ap (λ a. view_fault (verdict scope.file.sections u a)) (decided_if_open scope.file.sections u (first_answer_of old) given was_open)
          ∙ ap view_fault (verdict_of_open scope.file.sections u given (waiting_is_open scope.file.sections u mid.view.state waiting check.entries.view)) ∙ ap (λ (r : Result View Error). fault_of r) (fault takes);
    }

    answered_after : (result : Result (Unit {0}) Error) (view : UnitView R) → AfterViewAnswer shares scope.file.sections u given result mid.view view → KeepsAnswered shares scope u given result old (record { view = view; functions = mid.functions })
    answered_after (Ok tt) view a = decided_after view (answered_is_right scope.file.sections u given view (waiting_is_open scope.file.sections u mid.view.state waiting check.entries.view) a.answer a.read) a.answer
        (decided_by_verdict scope.file.sections u view.state (answered_view scope.file.sections u given) a.read)
    answered_after (Err e) view a = subst (λ v. KeepsAnswered shares scope u given (Err e) old (record { view = v; functions = mid.functions })) (sym a.refused.1) (undecided_after e a.refused.0 a.refused.2 a.no_memory)

-- after an answer
pub keeps_answered : {R : Type 0} (shares : Bool) (scope : Scope) (u : UnitRecord) (given : Option Sections) (result : Result (Unit {0}) Error) (old new : EntriesCache R) → AreEntriesOf scope u old → AfterAnswerIn shares scope.file.sections u given result old new → KeepsAnswered shares scope u given result old new
keeps_answered {R} shares scope u given result old new h a = subst (λ f. KeepsAnswered shares scope u given result old (record { view = new.view; functions = f })) (sym a.functions) (by (waits a.between.state) refl)
  where
    mid : EntriesCache R
    mid = record { view = a.between; functions = old.functions }

    check : KeepsChecked scope u old mid
    check = keeps_checked scope u old mid h (record { view = a.check; functions = refl })

    by : (b : Bool) → waits a.between.state ≡ b → KeepsAnswered shares scope u given result old (record { view = new.view; functions = old.functions })
    by true e = answered_after shares scope u given old mid check e result new.view (a.answer e)
    by false e =
        let none = a.none e in
        subst (λ r. KeepsAnswered shares scope u given r old (record { view = new.view; functions = old.functions })) (sym none.1)
        (subst (λ v. KeepsAnswered shares scope u given (Ok tt) old (record { view = v; functions = old.functions })) (sym none.0) (shut_after shares scope u given old mid check e))

-- after the answer was forgotten
pub keeps_forgotten : {R : Type 0} (scope : Scope) (u : UnitRecord) (old new : CachedUnit R) → AreEntriesOf scope u old.entries → AfterForgettingIn old new → KeepsForgotten scope u old.entries new.entries
keeps_forgotten {R} scope u old new h a = record { entries = by (first_answer_of old.entries) refl; answer = a.view.answer; kept = a.kept; empty = a.empty }
  where
    by : (o : Option (Option Sections)) → first_answer_of old.entries ≡ o → AreEntriesOf scope u new.entries
    by None e = subst (AreEntriesOf scope u) (sym (a.kept e)) h
    by (Some x) e =
        let some : is_some (first_answer_of old.entries) ≡ true = ap is_some e in
        unread_entries scope u new.entries.view new.entries.functions (waiting_is_right scope.file.sections u new.entries.view (a.view.opens some) a.view.answer (h.view.waited some)) (a.empty some)

-- the first answer of the unit of a number
pub answer_at : {R : Type 0} (vs : List (CachedUnit R)) (n : ℕ) (v : CachedUnit R) → n < length vs → v ≡ get_or vs n v → answer_of (answers_in vs) n ≡ first_answer_of v.entries
answer_at [] n v h e = absurd (omega arith)
answer_at (y ∷ vs) zero v h e = ap (λ (x : CachedUnit _). first_answer_of x.entries) (sym e)
answer_at (y ∷ vs) (suc n) v h e = answer_at vs n v (omega arith) e

pub answers_set : {R : Type 0} (vs : List (CachedUnit R)) (n : ℕ) (w : CachedUnit R) → answers_in (set vs n w) ≡ set (answers_in vs) n (first_answer_of w.entries)
answers_set [] n w = refl
answers_set (y ∷ vs) zero w = refl
answers_set (y ∷ vs) (suc n) w = ap (λ xs. first_answer_of y.entries ∷ xs) (answers_set vs n w)

-- answers stay where that of one unit is set to what it was
pub answers_stay : {R : Type 0} (vs : List (CachedUnit R)) (n : ℕ) (v w : CachedUnit R) → n < length vs → v ≡ get_or vs n v → first_answer_of w.entries ≡ first_answer_of v.entries → answers_in (set vs n w) ≡ answers_in vs
answers_stay [] n v w h e k = absurd (omega arith)
answers_stay (y ∷ vs) zero v w h e k = ap (λ x. x ∷ answers_in vs) (k ∙ ap (λ (z : CachedUnit _). first_answer_of z.entries) e)
answers_stay (y ∷ vs) (suc n) v w h e k = ap (λ xs. first_answer_of y.entries ∷ xs) (answers_stay vs n v w (omega arith) e k)

pub got_unit : (us : List UnitRecord) (n : ℕ) (u : UnitRecord) → n < length us → u ≡ get_or us n u → slice_get us n ≡ Some u
got_unit [] n u h e = absurd (omega arith)
got_unit (x ∷ us) zero u h e = ap Some (sym e)
got_unit (x ∷ us) (suc n) u h e = got_unit us n u (omega arith) e

-- the answers of all units after one more of one unit
pub answered_all : {R : Type 0} (d : Sections) (us : List UnitRecord) (vs : List (CachedUnit R)) (n : ℕ) (u : UnitRecord) (v w : CachedUnit R) (given : Option Sections) → n < length us → n < length vs
    → u ≡ get_or us n u → v ≡ get_or vs n v → first_answer_of w.entries ≡ decided_answer d u (first_answer_of v.entries) given → answers_in (set vs n w) ≡ with_answer d us (answers_in vs) n given
answered_all d us vs n u v w given h k e f new =
    answers_set vs n w
    ∙ ap (λ a. set (answers_in vs) n a) (new ∙ ap (λ a. decided_answer d u a given) (sym (answer_at vs n v k f)))
    ∙ sym (ap (λ o. answers_by o) (got_unit us n u h e))
  where
    answers_by : Option UnitRecord → FirstAnswers
    answers_by o = elim o [ None ↦ answers_in vs | Some x ↦ set (answers_in vs) n (decided_answer d x (answer_of (answers_in vs) n) given) ]

-- the same after a call that may be refused
pub answered_if_ok : {R : Type 0} (d : Sections) (us : List UnitRecord) (vs : List (CachedUnit R)) (n : ℕ) (u : UnitRecord) (v w : CachedUnit R) (given : Option Sections) (r : Result (Unit {0}) Error)
    → n < length us → n < length vs → u ≡ get_or us n u → v ≡ get_or vs n v → OnOk r (first_answer_of w.entries ≡ decided_answer d u (first_answer_of v.entries) given) → OnOk r (answers_in (set vs n w) ≡ with_answer d us (answers_in vs) n given)
answered_if_ok d us vs n u v w given (Ok x) h k e f new = answered_all d us vs n u v w given h k e f new
answered_if_ok d us vs n u v w given (Err x) h k e f new = tt

pub answers_if_refused : {R : Type 0} (vs : List (CachedUnit R)) (n : ℕ) (v w : CachedUnit R) (r : Result (Unit {0}) Error) (P : Type 0) → n < length vs → v ≡ get_or vs n v
    → IfErr r (λ e. (e ≡ OutOfMemory) × StayEntries v.entries w.entries × P) → IfErr r (λ e. (e ≡ OutOfMemory) × (answers_in (set vs n w) ≡ answers_in vs) × StayAllEntries vs (set vs n w) × P)
answers_if_refused vs n v w (Ok x) P h e same = tt
answers_if_refused vs n v w (Err x) P h e same = (same.0, answers_stay vs n v w h e same.1.answer, stay_entries_set vs n v w h e same.1, same.2)

-- whether the unit of a number is decided, by what is cached of it
pub decided_there : {R : Type 0} (vs : List (CachedUnit R)) (n : ℕ) (v : CachedUnit R) → v ≡ get_or vs n v → decided_at vs n ≡ true → is_decided v.entries.view.state ≡ true
decided_there [] n v e h = absurd cc
decided_there (y ∷ vs) zero v e h = ap (λ (x : CachedUnit _). is_decided x.entries.view.state) e ∙ h
decided_there (y ∷ vs) (suc n) v e h = decided_there vs n v e h

pub decided_within : {R : Type 0} (vs : List (CachedUnit R)) (n : ℕ) → decided_at vs n ≡ true → n < length vs
decided_within [] n h = absurd cc
decided_within (v ∷ vs) zero h = omega arith
decided_within (v ∷ vs) (suc n) h = let k = decided_within vs n h in omega (arith, k)
