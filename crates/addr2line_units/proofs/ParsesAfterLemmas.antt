-- What a parse of functions leaves of the functions of a view, and of a unit (on
-- specs/ParsesAfter.antt).
use Rattle.addr2line_units.proofs.Common.{◌≡◌, ◌∙◌, Bool, true, false, [], Option, Some, Result, Ok, Err, None, refl, sym, ap, subst, inr, IfErr, OnOk, AllByRecursion, Error, OutOfMemory, ExactlyUnlessOomIf, WasNotRefused, Sections, UnitRecord, HasDetail, cached_detail, functions_of, functions_take_memory, AreUnread, Scope, LazyFunctions, ReadingDepth, EntriesCache, functions_in_take_memory, AreEntriesOf, first_answer_of, AreFunctionsOf, StayFunctions, cached_fault, cached_functions, functions_fault, is_cached_fault, reading_takes_memory, were_read, known_by, known_fault, known_functions, is_decided, answer_of_view, IsReadyFor, read_of_functions, read_of_view, View, is_open, verdict, ExactlyUnlessOom, StayEntries, knows_detail}
use Rattle.addr2line_units.specs.declared.entries.LazyFunctions.TheVariants as lazy
use Rattle.addr2line_units.specs.declared.parses.ReadingDepth.TheVariants as depths
use Rattle.addr2line_units.proofs.EntriesKeeps.{KeepsAnswered, KeepsReadFunctions}
use Rattle.addr2line_units.specs.ParsesAfter.{AfterReadingOf, AfterReadingUnit, AfterReadingView, IsDecidedAndReady}
use Rattle.addr2line_units.specs.EntriesStayKnown.{IsReadBy}
use Rattle.addr2line_units.proofs.LoadsAnswerLemmas.{decided_if_not, checked_waits}
use Rattle.addr2line_units.proofs.EntriesMemoryLemmas.{exactly_if_none, reading_takes_none}
use Rattle.addr2line_units.proofs.ParsesCachedLemmas.{alone_fault, alone_read, cached_stay, details_cached, details_read, entries_then, view_read}
use Rattle.addr2line_units.proofs.EntriesLemmas.{IsView, functions_stay, functions_take_in, not_open, checked_decides}
use Rattle.addr2line_units.proofs.EntriesLearnedLemmas.{cache_reads_none, functions_learn_none}
use Rattle.addr2line_units.proofs.EntriesReadByLemmas.{never_fault, read_decided, read_were_read}
use Rattle.addr2line_units.proofs.ParsesReadyLemmas.{fault_by_view, fault_of_functions, functions_by_view, known_not_oom, ready_fault, ready_were_read}
use Rattle.addr2line_units.proofs.EntriesStayLemmas.{whole_was_checked}

-- the fault of functions that were read
fault_is : {R : Type 0} (scope : Scope) (view : UnitRecord) (f : LazyFunctions R) → AreFunctionsOf scope view f → were_read f ≡ true → cached_fault f ≡ read_of_functions depths.Functions scope view
fault_is scope view lazy.Unread right read = absurd cc
fault_is scope view lazy.Absent right read = sym (alone_read scope view [] right)
fault_is scope view (lazy.Read t) right read = sym (alone_read scope view t.value.ranges right.ranges)
fault_is scope view (lazy.Faulty e) right read = sym (alone_fault scope view e right)

fault_read : {R : Type 0} (f : LazyFunctions R) → were_read f ≡ true → OnOk (cached_fault f) (IsReadBy depths.Functions (known_functions f))
fault_read lazy.Unread read = absurd cc
fault_read lazy.Absent read = tt
fault_read (lazy.Read t) read = tt
fault_read (lazy.Faulty e) read = tt

read_faultless : {R : Type 0} (f : LazyFunctions R) → IsReadBy depths.Functions (known_functions f) → cached_fault f ≡ Ok tt
read_faultless lazy.Unread h = absurd h
read_faultless lazy.Absent h = refl
read_faultless (lazy.Read t) h = refl
read_faultless (lazy.Faulty e) h = absurd (never_fault depths.Functions (is_cached_fault e) h)

fault_ready : {R : Type 0} (f : LazyFunctions R) → were_read f ≡ true → WasNotRefused (cached_fault f) → IsReadyFor depths.Functions (known_functions f)
fault_ready lazy.Unread read ne = absurd cc
fault_ready lazy.Absent read ne = tt
fault_ready (lazy.Read t) read ne = tt
fault_ready (lazy.Faulty e) read ne = ready_fault depths.Functions e ne

ready_unrefused : {R : Type 0} (f : LazyFunctions R) → IsReadyFor depths.Functions (known_functions f) → WasNotRefused (cached_fault f)
ready_unrefused lazy.Unread h = tt
ready_unrefused lazy.Absent h = tt
ready_unrefused (lazy.Read t) h = tt
ready_unrefused (lazy.Faulty e) h = known_not_oom depths.Functions e h

-- the fault of functions, however they are read
pub fault_of_depth : (depth : ReadingDepth) (scope : Scope) (view : UnitRecord) (e : Error) → functions_of scope.file.sections view ≡ Err e → read_of_functions depth scope view ≡ Err e
fault_of_depth depths.Functions scope view e h = alone_fault scope view e h
fault_of_depth depths.Details scope view e h = fault_of_functions scope view e h

-- functions that are cached, unless they were
module _ {R : Type 0} (shares : Bool) (scope : Scope) (view : UnitRecord) (old new : LazyFunctions R) (right : AreFunctionsOf scope view new) where
  module _ (kept : were_read old ≡ true → new ≡ old) (read : were_read new ≡ true) (unread : were_read old ≡ false → AreUnread (cached_functions new)) where
    pub alone_gives : cached_fault new ≡ read_of_functions depths.Functions scope view
    alone_gives = fault_is scope view new right read

    pub alone_after : KeepsReadFunctions shares depths.Functions scope view (cached_fault new) old new
    alone_after = record {
      functions = right;
      stay = cached_stay scope view old new kept;
      known = record {
        read = fault_read new read;
        whole = λ h. ap (λ f. cached_fault f) (kept (read_were_read depths.Functions old h)) ∙ read_faultless old h;
        ready = λ ne. (refl, fault_ready new read ne);
        memory = λ k. ready_unrefused new k.1;
        exact = λ k. alone_gives;
        same = λ k. ap (λ f. known_functions f) (kept (ready_were_read depths.Functions old k.1));
      };
      kept = λ ready. kept (ready_were_read depths.Functions old ready);
      details = λ is. cache_reads_none old new kept unread;
      no_memory = λ none. of_fault (cached_fault new) alone_gives;
    }
      where
        of_fault : (r : Result (Unit {0}) Error) → r ≡ read_of_functions depths.Functions scope view → IfErr r (λ e. read_of_functions depths.Functions scope view ≡ Err e)
        of_fault (Ok x) is = tt
        of_fault (Err e) is = sym is

  -- memory was refused
  module _ (depth : ReadingDepth) (e : Error) (oom : e ≡ OutOfMemory) (same : new ≡ old) (unread : were_read old ≡ true → ⊥) (fault : functions_take_memory shares scope.file.sections view ≡ false → functions_of scope.file.sections view ≡ Err e) where
    pub refused_after : KeepsReadFunctions shares depth scope view (Err e) old new
    refused_after = record {
      functions = right;
      stay = cached_stay scope view old new (λ read. same);
      known = record {
        read = tt;
        whole = λ h. absurd (unread (read_were_read depth old h));
        ready = λ ne. absurd (ne oom);
        memory = λ k. absurd (unread (ready_were_read depth old (subst (λ f. IsReadyFor depth (known_functions f)) same k.1)));
        exact = λ k. absurd (unread (ready_were_read depth old k.1));
        same = λ k. ap (λ f. known_functions f) same;
      };
      kept = λ ready. same;
      details = λ is n. ap (λ f. cached_detail (cached_functions f) n) same;
      no_memory = λ none. fault_of_depth depth scope view e (fault none);
    }

  -- functions that are read with their details
  pub details_after : (result : Result (Unit {0}) Error) → AreFunctionsOf scope view old → ExactlyUnlessOomIf (reading_takes_memory shares scope view old) (λ x. x) result (functions_fault scope view) → StayFunctions old new
      → OnOk result (were_read new ≡ true) → OnOk result (AllByRecursion HasDetail (cached_functions new).functions) → (WasNotRefused result → IsReadyFor depths.Details (known_functions new)) → (IsReadyFor depths.Details (known_functions new) → WasNotRefused result)
      → (IsReadyFor depths.Details (known_functions old) → result ≡ functions_fault scope view) → (IsReadyFor depths.Details (known_functions old) → new ≡ old) → KeepsReadFunctions shares depths.Details scope view result old new
  details_after result before gives stay read details ready memory exact same = record {
    functions = right;
    stay = stay;
    known = record {
      read = details_read scope view (reading_takes_memory shares scope view old) new result right gives read details;
      whole = λ h. details_cached shares scope view old result before h gives;
      ready = λ ne. (refl, ready ne);
      memory = λ k. memory k.1;
      exact = λ k. exact k.1;
      same = λ k. ap (λ f. known_functions f) (same k.1);
    };
    kept = same;
    details = λ is. absurd cc;
    no_memory = λ none. exactly_if_none (reading_takes_memory shares scope view old) (λ y. y) result (functions_fault scope view) (reading_takes_none shares scope view old before none) gives;
  }

-- a view with a fault
pub fault_after : (depth : ReadingDepth) (reading : Result (Unit {0}) Error) (e : Error) → reading ≡ Err e → AfterReadingOf depth reading (Err e) false (known_fault e) false (known_fault e)
fault_after depth reading e is = record {
  read = tt;
  whole = λ h. absurd (never_fault depth (is_cached_fault e) h);
  ready = λ ne. (refl, ready_fault depth e ne);
  memory = λ k. known_not_oom depth e k.1;
  exact = λ k. sym is;
  same = λ k. refl;
}

-- the view of a unit that is decided
module _ {R : Type 0} (shares : Bool) (depth : ReadingDepth) (scope : Scope) (u : UnitRecord) (old : EntriesCache R) (before : AreEntriesOf scope u old) (decided : is_decided old.view.state ≡ true) where
  abbrev answered : Option (Result View Error)
  answered = verdict scope.file.sections u (first_answer_of old)

  abbrev reading : Result (Unit {0}) Error
  reading = read_of_view depth scope answered

  abbrev with_functions : LazyFunctions R → EntriesCache R
  with_functions f = record { view = old.view; functions = f }

  module _ (x : Error) (is : answered ≡ Some (Err x)) where
    pub view_refused : reading ≡ Err x
    view_refused = ap (read_of_view depth scope) is

    pub refused_view_after : AfterReadingView shares depth scope u (Err x) old old
    refused_view_after = record {
      view = refl;
      stay = functions_stay scope u old.functions;
      known = subst (λ k. AfterReadingOf depth reading (Err x) false k false k) (sym (fault_by_view scope.file.sections u answered x old.view.state old.functions decided before.view.verdict is)) (fault_after depth reading x view_refused);
      details = λ _ n. refl;
      no_memory = λ none. view_refused;
    }

  module _ (inner : Scope) (x : UnitRecord) (v : IsView scope u 0 old before decided inner x) where
    view_reads : reading ≡ read_of_functions depth inner x
    view_reads = ap (read_of_view depth scope) v.is ∙ view_read depth scope v.view inner x v.unit v.leads

    known_is : (f : LazyFunctions R) → known_by old.view.state f ≡ known_functions f
    known_is f = functions_by_view scope.file.sections u answered v.view old.view.state f decided before.view.verdict v.is

    pub view_gives : (result : Result (Unit {0}) Error) → ExactlyUnlessOom (λ y. y) result (read_of_functions depth inner x) → ExactlyUnlessOom (λ y. y) result reading
    view_gives result gives = subst (ExactlyUnlessOom (λ y. y) result) (sym view_reads) gives

    pub view_after : {result : Result (Unit {0}) Error} {new : LazyFunctions R} → KeepsReadFunctions shares depth inner x result old.functions new → AfterReadingView shares depth scope u result old (with_functions new)
    view_after {result} {new} a = record {
      view = refl;
      stay = a.stay;
      known = subst (λ r. AfterReadingOf depth r result false (known_by old.view.state old.functions) false (known_by old.view.state new)) (sym view_reads)
          (subst (λ k. AfterReadingOf depth (read_of_functions depth inner x) result false k false (known_by old.view.state new)) (sym (known_is old.functions))
          (subst (λ k. AfterReadingOf depth (read_of_functions depth inner x) result false (known_functions old.functions) false k) (sym (known_is new)) a.known));
      details = a.details;
      no_memory = λ none. subst (λ r. IfErr result (λ e. r ≡ Err e)) (sym view_reads) (a.no_memory (functions_take_in scope u 0 old before decided inner x v shares none));
    }

-- a unit that was decided by none where it was open, and whose functions were read then
module _ {R : Type 0} (shares : Bool) (depth : ReadingDepth) (scope : Scope) (u : UnitRecord) (old mid new : EntriesCache R) (before : AreEntriesOf scope u old) (given : KeepsAnswered shares scope u None (Ok tt) old mid) (result : Result (Unit {0}) Error)
    (a : AfterReadingView shares depth scope u result mid new) where
  same : is_decided old.view.state ≡ true → mid ≡ old
  same h = (given.kept h).0

  abbrev d : Sections
  d = scope.file.sections

  answer_then : first_answer_of new ≡ first_answer_of mid
  answer_then = ap (λ v. answer_of_view v) a.view

  shut_now : is_open d u (first_answer_of new) ≡ false
  shut_now = ap (is_open d u) answer_then ∙ not_open scope u 0 mid given.entries given.known

  -- of what was known of a unit that wasn't open
  was_decided : IsDecidedAndReady depth (is_open d u (first_answer_of old)) (known_by old.view.state old.functions) → is_decided old.view.state ≡ true
  was_decided k =
      let checked = whole_was_checked depth old.view.state old.functions k.1 in
      checked_decides old.view.state checked (checked_waits d u old.view before.view checked ∙ k.0)

  still_ready : IsDecidedAndReady depth (is_open d u (first_answer_of old)) (known_by old.view.state old.functions) → IsDecidedAndReady depth false (known_by mid.view.state mid.functions)
  still_ready k = (refl, subst (λ (v : EntriesCache R). IsReadyFor depth (known_by v.view.state v.functions)) (sym (same (was_decided k))) k.1)

  -- the view is as it was
  with_view : new ≡ record { view = mid.view; functions = new.functions }
  with_view = ap (λ v. record { view = v; functions = new.functions }) a.view

  pub unit_after : AfterReadingUnit shares depth scope u result old new
  unit_after = record {
    answer = λ _. answer_then ∙ given.answer;
    begun = inr (answer_then ∙ given.answer);
    stay = λ was. subst (StayEntries old) (sym with_view) (entries_then old mid new.functions (same was) a.stay);
    known = record {
      read = a.known.read;
      whole = λ h. a.known.whole (subst (λ (v : EntriesCache R). IsReadBy depth (known_by v.view.state v.functions)) (sym (same (read_decided depth old.view.state old.functions h))) h);
      ready = λ ne. (shut_now, (a.known.ready ne).1);
      memory = λ k. a.known.memory (refl, k.1);
      exact = λ k. a.known.exact (still_ready k) ∙ ap (λ x. read_of_view depth scope (verdict d u x)) given.answer;
      same = λ k. a.known.same (still_ready k) ∙ ap (λ (v : EntriesCache R). known_by v.view.state v.functions) (same (was_decided k));
    };
    details = λ is offset. subst (λ (w : EntriesCache R). knows_detail offset (known_by w.view.state w.functions) ≡ true → knows_detail offset (known_by old.view.state old.functions) ≡ true) (sym with_view)
        (functions_learn_none scope u offset old mid new.functions before given.functions same a.stay (a.details is));
    no_memory = λ none. subst (λ x. IfErr result (λ e. read_of_view depth scope (verdict d u x) ≡ Err e)) given.answer
        (a.no_memory (subst (λ x. functions_in_take_memory shares scope u x ≡ false) (decided_if_not d u (first_answer_of new) None shut_now ∙ answer_then) none));
  }
