-- What is cached of the entries of a unit, and read of them, in a parse of functions (on
-- specs/ParsesAfter.antt).
use Rattle.addr2line_units.proofs.Common.{◌≡◌, ℕ, ◌<◌, Bool, true, false, not, ◌&&◌, ◌||◌, List, [], ◌∷◌, length, get_or, Option, Some, None, Result, Ok, Err, is_some, refl, ap, sym, subst, ◌∙◌, OnOk, AllByRecursion, Error, takes_memory_after, ◌>>=◌, ExactlyUnlessOomIf, UnitRecord, Detail, FunctionRange, entries_of, functions_of, CachedFunction, HasDetail, IsDetailOf, all_read_once, read_fault, Scope, LazyFunctions, ReadingDepth, CachedUnit, EntriesCache, answer_of, read_of_functions, read_of_number, read_of_unit, read_of_view, StayEntries, first_answer_of, AreFunctionsOf, StayFunctions, details_at, functions_fault, cached_functions, is_cached_fault, reading_takes_memory, were_read, answers_in, known_functions, View, view_scope, map}
use Rattle.addr2line_lines.proofs.DetailMemory.{detail_takes_memory as takes}
use Rattle.addr2line_units.specs.declared.entries.LazyFunctions.TheVariants as lazy
use Rattle.addr2line_units.specs.declared.parses.ReadingDepth.TheVariants as depths
use Rattle.addr2line_units.specs.EntriesStayKnown.{IsReadBy}
use Rattle.addr2line_units.proofs.LoadsAnswerLemmas.{answer_at, got_unit}
use Rattle.addr2line_units.proofs.EntriesLemmas.{functions_stay}
use Rattle.addr2line_units.proofs.EntriesFunctionLemmas.{fault_is, no_fault_of}
use Rattle.addr2line_units.proofs.EntriesKnownTableLemmas.{all_are_read, all_have_detail}
use Rattle.addr2line_units.proofs.EntriesReadByLemmas.{never_fault}

-- functions that were cached stay
pub cached_stay : {R : Type 0} (scope : Scope) (u : UnitRecord) (old mid : LazyFunctions R) → (were_read old ≡ true → mid ≡ old) → StayFunctions old mid
cached_stay scope u lazy.Unread mid kept = tt
cached_stay scope u lazy.Absent mid kept = kept refl
cached_stay {R} scope u (lazy.Read t) mid kept = subst (λ (m : LazyFunctions R). StayFunctions (lazy.Read t) m) (sym (kept refl)) (functions_stay {R = R} scope u (lazy.Read t))
cached_stay scope u (lazy.Faulty e) mid kept = kept refl

-- the first fault of the functions of a view alone
pub alone_read : (scope : Scope) (view : UnitRecord) (ranges : List FunctionRange) → functions_of scope.file.sections view ≡ Ok ranges → read_of_functions depths.Functions scope view ≡ Ok tt
alone_read scope view ranges h = ap (λ (r : Result (List FunctionRange) Error). r >>= λ _. Ok tt) h

pub alone_fault : (scope : Scope) (view : UnitRecord) (e : Error) → functions_of scope.file.sections view ≡ Err e → read_of_functions depths.Functions scope view ≡ Err e
alone_fault scope view e h = ap (λ (r : Result (List FunctionRange) Error). r >>= λ _. Ok tt) h

-- functions that were read with all details are known with them
pub details_read : {R : Type 0} (scope : Scope) (view : UnitRecord) (may : Bool) (f : LazyFunctions R) (r : Result (Unit {0}) Error) → AreFunctionsOf scope view f → ExactlyUnlessOomIf may (λ x. x) r (functions_fault scope view)
    → OnOk r (were_read f ≡ true) → OnOk r (AllByRecursion HasDetail (cached_functions f).functions) → OnOk r (IsReadBy depths.Details (known_functions f))
details_read scope view may f (Err e) right gives read details = tt
details_read scope view may lazy.Unread (Ok x) right gives read details = absurd cc
details_read scope view may lazy.Absent (Ok x) right gives read details = tt
details_read scope view may (lazy.Read t) (Ok x) right gives read details = all_are_read t.value.functions details
details_read scope view may (lazy.Faulty e) (Ok x) right gives read details =
    absurd (let no = sym (ap (λ (r : Result (List FunctionRange) Error). r >>= λ ranges. details_at scope view (entries_of ranges)) right) ∙ gives in cc)

-- where all details are cached none has a fault, and no memory is taken
no_detail_fault : (scope : Scope) (view : UnitRecord) (fs : List CachedFunction) → AllByRecursion HasDetail fs → AllByRecursion (IsDetailOf scope view) fs → details_at scope view (map (λ (f : CachedFunction). f.offset) fs) ≡ Ok tt
no_detail_fault scope view [] all right = refl
no_detail_fault scope view (f ∷ fs) all right =
    ap (λ (r : Result Detail Error). r >>= λ _. details_at scope view (map (λ (f : CachedFunction). f.offset) fs)) (right.0 (Ok all.0.0) all.0.1)
    ∙ no_detail_fault scope view fs all.1 right.1

no_detail_memory : (shares : Bool) (scope : Scope) (view : UnitRecord) (fs : List CachedFunction) → AllByRecursion HasDetail fs → (all_read_once scope view fs).takes_memory shares ≡ false
no_detail_memory shares scope view [] all = refl
no_detail_memory shares scope view (f ∷ fs) all =
    ap (λ (o : Option (Result Detail Error)). (not (is_some o) && (shares || takes scope view f.offset)) || takes_memory_after (read_fault scope view (Some f)) (λ _. (all_read_once scope view fs).takes_memory shares)) all.0.1
    ∙ by_rest (no_detail_memory shares scope view fs all.1) (read_fault scope view (Some f))
  where
    by_rest : (all_read_once scope view fs).takes_memory shares ≡ false → (r : Result (Unit {0}) Error) → takes_memory_after r (λ _. (all_read_once scope view fs).takes_memory shares) ≡ false
    by_rest rest (Ok x) = rest
    by_rest rest (Err e) = refl

exactly_ok : (may : Bool) (r given : Result (Unit {0}) Error) → may ≡ false → given ≡ Ok tt → ExactlyUnlessOomIf may (λ x. x) r given → r ≡ Ok tt
exactly_ok may (Ok x) given m g h = refl
exactly_ok may (Err e) given m g h = absurd (let no = sym (h (λ t. absurd (let k : true ≡ false = sym t ∙ m in cc))) ∙ g in cc)

pub details_cached : {R : Type 0} (shares : Bool) (scope : Scope) (view : UnitRecord) (f : LazyFunctions R) (r : Result (Unit {0}) Error) → AreFunctionsOf scope view f → IsReadBy depths.Details (known_functions f)
    → ExactlyUnlessOomIf (reading_takes_memory shares scope view f) (λ x. x) r (functions_fault scope view) → r ≡ Ok tt
details_cached shares scope view lazy.Unread r right h gives = absurd h
details_cached shares scope view (lazy.Faulty e) r right h gives = absurd (never_fault depths.Details (is_cached_fault e) h)
details_cached shares scope view lazy.Absent r right h gives = exactly_ok false r (functions_fault scope view) refl (no_fault_of scope view right) gives
details_cached shares scope view (lazy.Read t) r right h gives =
    let all = all_have_detail t.value.functions h in
    exactly_ok ((all_read_once scope view t.value.functions).takes_memory shares) r (functions_fault scope view) (no_detail_memory shares scope view t.value.functions all)
    (fault_is scope view t.value right ∙ no_detail_fault scope view t.value.functions all right.details) gives

-- what is read of a view, by its unit and where references lead from it
pub view_read : (r : ReadingDepth) (scope : Scope) (view : View) (inner : Scope) (x : UnitRecord) → view.unit ≡ x → inner ≡ view_scope scope view → read_of_view r scope (Some (Ok view)) ≡ read_of_functions r inner x
view_read r scope view inner x unit leads = ap (λ (s : Scope). read_of_functions r s view.unit) (sym leads) ∙ ap (read_of_functions r inner) unit

-- entries that were decided stay where functions of their view are read
pub entries_then : {R : Type 0} (v mid : EntriesCache R) (f : LazyFunctions R) → mid ≡ v → StayFunctions mid.functions f → StayEntries v (record { view = mid.view; functions = f })
entries_then {R} v mid f same stay =
    subst (λ (x : EntriesCache R). StayEntries x (record { view = mid.view; functions = f })) same (record { answer = refl; view = λ e. refl; functions = stay })

-- what is read of the unit of a number
pub number_is : {R : Type 0} (r : ReadingDepth) (scope : Scope) (us : List UnitRecord) (vs : List (CachedUnit R)) (n : ℕ) (u : UnitRecord) (v : CachedUnit R) → n < length us → n < length vs → u ≡ get_or us n u → v ≡ get_or vs n v
    → read_of_number r scope us (answers_in vs) n ≡ read_of_unit r scope u (first_answer_of v.entries)
number_is r scope us vs n u v h k e f =
    ap (λ (o : Option UnitRecord). by_unit o) (got_unit us n u h e) ∙ ap (read_of_unit r scope u) (answer_at vs n v k f)
  where
    by_unit : Option UnitRecord → Result (Unit {0}) Error
    by_unit o = elim o [ None ↦ Ok tt | Some x ↦ read_of_unit r scope x (answer_of (answers_in vs) n) ]
