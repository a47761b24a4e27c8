-- Of which functions details become known where a unit is asked (on specs/EntriesKnown.antt and
-- specs/EntriesKnownCached.antt).
use Rattle.addr2line_units.proofs.Common.{Box, Global, ◌≡◌, ◌≢◌, ◌⊎◌, inl, inr, ◌∙◌, ap, sym, refl, subst, ℕ, ◌<◌, ◌==◌, nat_lt, cond, lt-ltb, eqb-true, Bool, true, false, List, get_or, length, position, Option, Some, None, option_and_then, option_map, slice_get, Result, Ok, Err, if◌then◌else◌, cases_eq, slice_get-map, slice_get_read, slice_get_within, set, position_or_len, Error, ◌>>=◌, Sections, UnitRecord, AreUnread, CachedFunction, FunctionTable, cached_detail, function_place_at, function_offset_at, Scope, some_at, LazyFunctions, CachedUnit, EntriesCache, ViewState, AreEntriesOf, StayEntries, first_answer_of, AreFunctionsOf, ReadsNoDetail, ReadsNoOther, StayFunctions, cached_functions, has_detail, is_cached_fault, no_functions, were_read, known_answer, known_by, known_fault, known_function, known_functions, known_in, known_table, is_decided, as_sections, unboxed, verdict_in, view_by, AllKnown, FunctionsKnown, HasNoFunctions, KnownEntries, KnownFunction, LearnsNoDetails, LearnsNoFunctions, NothingKnown, is_detail_known, knows_detail, knows_detail_at, function_offset_among, function_offset_by, function_offset_in, View, verdict, view_scope, get_set_other, get_set_same}
use Rattle.std.proofs.lemmas.List.Folds.{find_at}
use Rattle.std.proofs.lemmas.List.Quantifiers.{position-Some}
use Rattle.std.specs.Prelude.{IfOk, IfSome, is_some, unwrap_or}
use Rattle.addr2line_units.specs.declared.entries.LazyFunctions.TheVariants as lazy
use Rattle.addr2line_units.specs.declared.unit.ViewState.TheVariants as states
use Rattle.addr2line_units.proofs.LoadsAnswerLemmas.{decided_was_checked}
use Rattle.addr2line_units.proofs.EntriesFunctionLemmas.{first_same, unread_at}
use Rattle.addr2line_units.proofs.EntriesKnownLemmas.{known_unchanged}
use Rattle.addr2line_units.proofs.EntriesKnownTableLemmas.{detail_known, find_known}
use Rattle.addr2line_units.proofs.Facts.{never}
use Rattle.addr2line_units.proofs.EntriesLemmas.{undecided_view}

-- the place of the first function whose entry begins at an offset
abbrev first_at : ℕ → FunctionTable → ℕ
first_at offset t = position_or_len (λ (f : CachedFunction). f.offset == offset) t.functions

-- its detail, by the table
table_detail : (offset : ℕ) (t : FunctionTable) → knows_detail offset (known_table t) ≡ has_detail (cached_detail t (first_at offset t))
table_detail offset t =
    ap (λ (o : Option KnownFunction). unwrap_or (option_map (λ (f : KnownFunction). is_detail_known f.detail) o) false) (find_known offset t.functions ∙ ap (λ (o : Option CachedFunction). option_map known_function o) (find_at (λ (f : CachedFunction). f.offset == offset) t.functions))
    ∙ by (slice_get t.functions (first_at offset t))
  where
    by : (o : Option CachedFunction) → unwrap_or (option_map (λ (f : KnownFunction). is_detail_known f.detail) (option_map known_function o)) false ≡ has_detail (option_and_then (λ (f : CachedFunction). f.detail) o)
    by None = refl
    by (Some f) = detail_known f.detail

-- what has a detail is a function
detail_there : (t : FunctionTable) (n : ℕ) → has_detail (cached_detail t n) ≡ true → (f : CachedFunction) × (slice_get t.functions n ≡ Some f)
detail_there t n e = by (slice_get t.functions n) refl e
  where
    by : (o : Option CachedFunction) → slice_get t.functions n ≡ o → has_detail (option_and_then (λ (f : CachedFunction). f.detail) o) ≡ true → (f : CachedFunction) × (slice_get t.functions n ≡ Some f)
    by None at h = absurd cc
    by (Some f) at h = (f, at)

-- a place that is the first of two offsets is that of one
same_offset : (fs : List CachedFunction) (a b n : ℕ) → n < length fs → position (λ (f : CachedFunction). f.offset == a) fs ≡ Some n → position_or_len (λ (f : CachedFunction). f.offset == b) fs ≡ n → a ≡ b
same_offset fs a b n within first is =
    let f = some_at fs n within in
    let x = position-Some (λ (f : CachedFunction). f.offset == a) fs n f.0 first in
    let y = position-Some (λ (f : CachedFunction). f.offset == b) fs n f.0 (ap (λ k. cond (nat_lt k (length fs)) (Some k) None) is ∙ ap (λ c. cond c (Some n) None) (lt-ltb _ _ within)) in
    sym (eqb-true _ _ x.1) ∙ eqb-true _ _ y.1

-- no detail becomes known but that of the function at the probe
table_learns : (probe offset : ℕ) (old new : FunctionTable) → ReadsNoOther probe old new → knows_detail offset (known_table new) ≡ true
    → (has_detail (cached_detail old (first_at offset new)) ≡ true) ⊎ (function_offset_at probe new.ranges ≡ Some offset)
table_learns probe offset old new alone e = by_place (function_place_at probe new) refl
  where
    n : ℕ
    n = first_at offset new

    known : has_detail (cached_detail new n) ≡ true
    known = sym (table_detail offset new) ∙ e

    before : function_place_at probe new ≢ Some n → has_detail (cached_detail old n) ≡ true
    before ne = ap has_detail (sym (alone n ne)) ∙ known

    here : (o : Option ℕ) → function_offset_at probe new.ranges ≡ o → option_and_then (λ a. position (λ (f : CachedFunction). f.offset == a) new.functions) o ≡ Some n → function_offset_at probe new.ranges ≡ Some offset
    here None at p = absurd cc
    here (Some a) at p =
        let f = detail_there new n known in
        at ∙ ap Some (same_offset new.functions a offset n (slice_get_within new.functions n f.0 f.1) p refl)

    by_place : (o : Option ℕ) → function_place_at probe new ≡ o → (has_detail (cached_detail old n) ≡ true) ⊎ (function_offset_at probe new.ranges ≡ Some offset)
    by_place None p = inl (before (λ q. let no : None ≡ Some n = sym p ∙ q in cc))
    by_place (Some m) p = elim (cases_eq m n) [
      | inl same ↦ inr (here (function_offset_at probe new.ranges) refl (p ∙ ap Some same))
      | inr ne ↦ inl (before (λ q. ne (let same : Some m ≡ Some n = sym p ∙ q in cc)))
    ]

fault_has_none : (offset : ℕ) (e : Error) → knows_detail offset (known_fault e) ≡ false
fault_has_none offset e = by (is_cached_fault e)
  where
    by : (b : Bool) → knows_detail offset (if b then AllKnown else NothingKnown) ≡ false
    by true = refl
    by false = refl

module _ {R : Type 0} (offset : ℕ) where
  -- the functions of a view that were read
  are_read : (f : LazyFunctions R) → knows_detail offset (known_functions f) ≡ true → were_read f ≡ true
  are_read lazy.Unread e = never e
  are_read lazy.Absent e = refl
  are_read (lazy.Read t) e = refl
  are_read (lazy.Faulty x) e = refl

  functions_learn : (probe : ℕ) (f g : LazyFunctions R) → StayFunctions f g → ReadsNoOther probe (cached_functions f) (cached_functions g) → knows_detail offset (known_functions g) ≡ true
      → (knows_detail offset (known_functions f) ≡ true) ⊎ ((t : Box FunctionTable Global) × (g ≡ lazy.Read t) × (function_offset_at probe t.value.ranges ≡ Some offset))
  functions_learn probe f lazy.Unread stay alone e = never e
  functions_learn probe f lazy.Absent stay alone e = never e
  functions_learn probe f (lazy.Faulty x) stay alone e = never (sym (fault_has_none offset x) ∙ e)
  functions_learn probe lazy.Unread (lazy.Read u) stay alone e = elim (table_learns probe offset no_functions u.value alone e) [ inl h ↦ never h | inr h ↦ inr (u, refl, h) ]
  functions_learn probe lazy.Absent (lazy.Read u) stay alone e = absurd cc
  functions_learn probe (lazy.Read t) (lazy.Read u) stay alone e = elim (table_learns probe offset t.value u.value alone e) [
    | inl h ↦ inl (table_detail offset t.value ∙ ap (λ n. has_detail (cached_detail t.value n)) (sym (first_same offset t.value.functions u.value.functions stay.functions)) ∙ h)
    | inr h ↦ inr (u, refl, h)
  ]
  functions_learn probe (lazy.Faulty x) (lazy.Read u) stay alone e = absurd cc

  -- a view whose functions are known can be read
  answer_read : {X : Type 0} (r : Result X Error) (g : LazyFunctions R) → knows_detail offset (known_answer r g) ≡ true → (x : X) × (r ≡ Ok x)
  answer_read (Ok x) g e = (x, refl)
  answer_read (Err x) g e = never (sym (fault_has_none offset x) ∙ e)

  view_read : (d : Sections) (u : UnitRecord) (s : ViewState R) (g : LazyFunctions R) → knows_detail offset (known_by s g) ≡ true → (x : View) × (verdict_in d u s ≡ Some (Some (Ok x)))
  view_read d u states.Undecided g e = never e
  view_read d u states.Open g e = never e
  view_read d u states.Main g e = (_, refl)
  view_read d u (states.Unnamed x) g e = never (sym (fault_has_none offset x) ∙ e)
  view_read d u (states.Answered a) g e =
      let x = answer_read a.unit g e in
      (_, ap (λ r. Some (Some (unboxed r >>= λ y. Ok (view_by d u (as_sections a) y)))) x.1)

  -- of such a view what is known of the functions is what is known of them
  same_answered : {X : Type 0} (r : Result X Error) (f g : LazyFunctions R) → knows_detail offset (known_answer r g) ≡ true → knows_detail offset (known_answer r f) ≡ knows_detail offset (known_functions f)
  same_answered (Ok x) f g e = refl
  same_answered (Err x) f g e = never (sym (fault_has_none offset x) ∙ e)

  same_known : (s : ViewState R) (f g : LazyFunctions R) → knows_detail offset (known_by s g) ≡ true → knows_detail offset (known_by s f) ≡ knows_detail offset (known_functions f)
  same_known states.Undecided f g e = never e
  same_known states.Open f g e = never e
  same_known states.Main f g e = refl
  same_known (states.Unnamed x) f g e = never (sym (fault_has_none offset x) ∙ e)
  same_known (states.Answered a) f g e = same_answered a.unit f g e

decided_if_read : (decided read : Bool) → (decided ≡ false → read ≡ false) → read ≡ true → decided ≡ true
decided_if_read true read h e = refl
decided_if_read false read h e = never (sym (h refl) ∙ e)

-- a unit that was asked
module _ {R : Type 0} (scope : Scope) (u : UnitRecord) (probe offset : ℕ) (v w : EntriesCache R) (before : AreEntriesOf scope u v) (after : AreEntriesOf scope u w) (stay : StayEntries v w) where
  -- the function at the probe by what is cached is that of the view
  by_view : (x : View) → verdict scope.file.sections u (first_answer_of v) ≡ Some (Ok x) → (t : Box FunctionTable Global) → w.functions ≡ lazy.Read t → function_offset_at probe t.value.ranges ≡ Some offset → function_offset_in scope u (first_answer_of v) probe ≡ Some offset
  unfolding function_offset_in
  by_view x is t read at =
      let there = subst (λ o. IfSome o (λ view. IfOk view (λ y. AreFunctionsOf (view_scope scope y) y.unit w.functions))) (ap (verdict scope.file.sections u) stay.answer ∙ is) after.functions in
      let table = subst (AreFunctionsOf (view_scope scope x) x.unit) read there in
      ap (function_offset_by scope probe) is ∙ ap (function_offset_among probe) table.ranges ∙ at

  pub entries_learn : ReadsNoOther probe (cached_functions v.functions) (cached_functions w.functions) → knows_detail offset (known_by w.view.state w.functions) ≡ true
      → (knows_detail offset (known_by v.view.state v.functions) ≡ true) ⊎ (function_offset_in scope u (first_answer_of v) probe ≡ Some offset)
  entries_learn alone e =
      elim (functions_learn offset probe v.functions w.functions stay.functions alone (sym (same_known offset w.view.state w.functions w.functions e) ∙ e)) [
        | inl h ↦ inl (was_known h)
        | inr h ↦ inr (by_view x.0 view_is h.0 h.1 h.2)
      ]
    where
      x : (y : View) × (verdict_in scope.file.sections u w.view.state ≡ Some (Some (Ok y)))
      x = view_read offset scope.file.sections u w.view.state w.functions e

      view_is : verdict scope.file.sections u (first_answer_of v) ≡ Some (Ok x.0)
      view_is = sym (ap (verdict scope.file.sections u) stay.answer) ∙ sym (subst (λ o. IfSome o (λ cached. cached ≡ verdict scope.file.sections u (first_answer_of w))) x.1 after.view.verdict)

      was_known : knows_detail offset (known_functions v.functions) ≡ true → knows_detail offset (known_by v.view.state v.functions) ≡ true
      was_known h =
          let decided = decided_if_read (is_decided v.view.state) (were_read v.functions) (λ e. before.unread (undecided_view v.view.state e)) (are_read offset v.functions h) in
          let same = stay.view (decided_was_checked v.view.state decided) in
          same_known offset v.view.state v.functions w.functions (ap (λ y. knows_detail offset (known_by y.state w.functions)) (sym same) ∙ e) ∙ h

-- no functions are known that were not read
unread_has_none : {R : Type 0} (s : ViewState R) (f : LazyFunctions R) → were_read f ≡ false → HasNoFunctions (known_by s f)
unread_has_none s lazy.Absent e = absurd cc
unread_has_none s (lazy.Read t) e = absurd cc
unread_has_none s (lazy.Faulty x) e = absurd cc
unread_has_none {R = R} s lazy.Unread e = by s
  where
    of_fault : (b : Bool) → HasNoFunctions (if b then AllKnown else NothingKnown)
    of_fault true = tt
    of_fault false = tt

    of_answer : {X : Type 0} (r : Result X Error) → HasNoFunctions (known_answer {R = R} r lazy.Unread)
    of_answer (Ok x) = tt
    of_answer (Err x) = of_fault (is_cached_fault x)

    by : (s : ViewState R) → HasNoFunctions (known_by s lazy.Unread)
    by states.Undecided = tt
    by states.Open = tt
    by states.Main = tt
    by (states.Unnamed x) = of_fault (is_cached_fault x)
    by (states.Answered a) = of_answer a.unit

-- what is known of a unit is what was, or no function of it is
abbrev pub UnitLearnsNone : {R : Type 0} → EntriesCache R → EntriesCache R → Type 0
UnitLearnsNone v w = (known_by w.view.state w.functions ≡ known_by v.view.state v.functions) ⊎ HasNoFunctions (known_by w.view.state w.functions)

decided_or_unread : {R : Type 0} (scope : Scope) (u : UnitRecord) (v w : EntriesCache R) → AreEntriesOf scope u v → w.functions ≡ v.functions → (is_decided v.view.state ≡ true → known_by w.view.state w.functions ≡ known_by v.view.state v.functions) → UnitLearnsNone v w
decided_or_unread scope u v w before functions same = by (is_decided v.view.state) refl
  where
    by : (b : Bool) → is_decided v.view.state ≡ b → UnitLearnsNone v w
    by true e = inl (same e)
    by false e = inr (unread_has_none w.view.state w.functions (ap were_read functions ∙ before.unread (undecided_view v.view.state e)))

-- a unit that was answered, by which nothing is changed of its functions
pub answered_learns : {R : Type 0} (scope : Scope) (u : UnitRecord) (v w : EntriesCache R) → AreEntriesOf scope u v → w.functions ≡ v.functions → (is_decided v.view.state ≡ true → w ≡ v) → UnitLearnsNone v w
answered_learns scope u v w before functions same = decided_or_unread scope u v w before functions (λ e. ap (λ y. known_by y.view.state y.functions) (same e))

-- a unit that was looked at, by which nothing is changed of its functions
pub checked_learns : {R : Type 0} (scope : Scope) (u : UnitRecord) (v w : EntriesCache R) → AreEntriesOf scope u v → StayEntries v w → w.functions ≡ v.functions → UnitLearnsNone v w
checked_learns scope u v w before stay functions = decided_or_unread scope u v w before functions
    (λ e. ap (known_by w.view.state) functions ∙ ap (λ y. known_by y.state v.functions) (stay.view (decided_was_checked v.view.state e)))

-- a unit that was forgotten
pub forgotten_learns : {R : Type 0} (v w : EntriesCache R) → (first_answer_of v ≡ None → w ≡ v) → (is_some (first_answer_of v) ≡ true → were_read w.functions ≡ false) → UnitLearnsNone v w
forgotten_learns v w same unread = by (first_answer_of v) same unread
  where
    by : {X : Type 0} (a : Option X) → (a ≡ None → w ≡ v) → (is_some a ≡ true → were_read w.functions ≡ false) → UnitLearnsNone v w
    by None h k = inl (ap (λ y. known_by y.view.state y.functions) (h refl))
    by (Some a) h k = inr (unread_has_none w.view.state w.functions (k refl))

-- where no function becomes known no detail does
none_has_no_detail : (offset : ℕ) (k : KnownEntries) → HasNoFunctions k → knows_detail offset k ≡ true → ⊥
none_has_no_detail offset NothingKnown h e = never e
none_has_no_detail offset AllKnown h e = never e
none_has_no_detail offset (FunctionsKnown ranges functions) h e = absurd h

pub unit_learns_none : {R : Type 0} (offset : ℕ) (v w : EntriesCache R) → UnitLearnsNone v w → knows_detail offset (known_by w.view.state w.functions) ≡ true → knows_detail offset (known_by v.view.state v.functions) ≡ true
unit_learns_none offset v w h e = elim h [
  | inl same ↦ ap (knows_detail offset) (sym same) ∙ e
  | inr none ↦ absurd (none_has_no_detail offset (known_by w.view.state w.functions) none e)
]

pub learns_no_details : (old new : List KnownEntries) → LearnsNoFunctions old new → LearnsNoDetails old new
learns_no_details old new h n offset e = elim (h n) [
  | inl same ↦ ap (λ o. unwrap_or (option_map (knows_detail offset) o) false) (sym same) ∙ e
  | inr none ↦ absurd (by (slice_get new n) none e)
]
  where
    by : (o : Option KnownEntries) → IfSome o HasNoFunctions → unwrap_or (option_map (knows_detail offset) o) false ≡ true → ⊥
    by None k f = never f
    by (Some x) k f = none_has_no_detail offset x k f

pub learns_none_twice : (old mid new : List KnownEntries) → LearnsNoFunctions old mid → LearnsNoFunctions mid new → LearnsNoFunctions old new
learns_none_twice old mid new a b n = elim (b n) [
  | inl same ↦ elim (a n) [ inl e ↦ inl (same ∙ e) | inr none ↦ inr (subst (λ o. IfSome o HasNoFunctions) (sym same) none) ]
  | inr none ↦ inr none
]

-- functions that were read, or were before, without a detail
pub cache_reads_none : {R : Type 0} (f g : LazyFunctions R) → (were_read f ≡ true → g ≡ f) → (were_read f ≡ false → AreUnread (cached_functions g)) → ReadsNoDetail (cached_functions f) (cached_functions g)
cache_reads_none lazy.Unread g same unread n = unread_at (cached_functions g).functions n (unread refl)
cache_reads_none lazy.Absent g same unread n = ap (λ x. cached_detail (cached_functions x) n) (same refl)
cache_reads_none (lazy.Read t) g same unread n = ap (λ x. cached_detail (cached_functions x) n) (same refl)
cache_reads_none (lazy.Faulty e) g same unread n = ap (λ x. cached_detail (cached_functions x) n) (same refl)

module _ {R : Type 0} (offset : ℕ) where
  functions_keep : (f g : LazyFunctions R) → StayFunctions f g → ReadsNoDetail (cached_functions f) (cached_functions g) → knows_detail offset (known_functions g) ≡ true → knows_detail offset (known_functions f) ≡ true
  functions_keep f lazy.Unread stay none e = never e
  functions_keep f lazy.Absent stay none e = never e
  functions_keep f (lazy.Faulty x) stay none e = never (sym (fault_has_none offset x) ∙ e)
  functions_keep lazy.Unread (lazy.Read u) stay none e = never (sym (ap has_detail (none (first_at offset u.value))) ∙ sym (table_detail offset u.value) ∙ e)
  functions_keep lazy.Absent (lazy.Read u) stay none e = absurd cc
  functions_keep (lazy.Read t) (lazy.Read u) stay none e =
      table_detail offset t.value ∙ ap (λ n. has_detail (cached_detail t.value n)) (sym (first_same offset t.value.functions u.value.functions stay.functions))
      ∙ sym (ap has_detail (none (first_at offset u.value))) ∙ sym (table_detail offset u.value) ∙ e
  functions_keep (lazy.Faulty x) (lazy.Read u) stay none e = absurd cc

-- a unit that was answered, of which functions were read then without a detail
pub functions_learn_none : {R : Type 0} (scope : Scope) (u : UnitRecord) (offset : ℕ) (v w : EntriesCache R) (f : LazyFunctions R) → AreEntriesOf scope u v → w.functions ≡ v.functions → (is_decided v.view.state ≡ true → w ≡ v) → StayFunctions w.functions f
    → ReadsNoDetail (cached_functions w.functions) (cached_functions f) → knows_detail offset (known_by w.view.state f) ≡ true → knows_detail offset (known_by v.view.state v.functions) ≡ true
functions_learn_none scope u offset v w f before functions same stay none e =
    unit_learns_none offset v w (answered_learns scope u v w before functions same)
    (same_known offset w.view.state w.functions f e ∙ functions_keep offset w.functions f stay none (sym (same_known offset w.view.state f f e) ∙ e))

-- what is known of a unit of which nothing is changed
pub detail_unchanged : {R : Type 0} (old new : List (CachedUnit R)) (offset n : ℕ) → slice_get new n ≡ slice_get old n → knows_detail_at (known_in new) offset n ≡ true → knows_detail_at (known_in old) offset n ≡ true
detail_unchanged old new offset n same e = ap (λ o. unwrap_or (option_map (knows_detail offset) o) false) (sym (known_unchanged old new n same)) ∙ e

-- what is known of the unit of a number, of which another is put in its place
module _ {R : Type 0} (vs : List (CachedUnit R)) (n : ℕ) (v w : CachedUnit R) (within : n < length vs) (at : v ≡ get_or vs n v) (offset : ℕ) where
  pub detail_set : (k : ℕ) → k ≡ n → knows_detail_at (known_in (set vs n w)) offset k ≡ knows_detail offset (known_by w.entries.view.state w.entries.functions)
  detail_set k e =
      ap (λ j. unwrap_or (option_map (knows_detail offset) (slice_get (known_in (set vs n w)) j)) false) e
      ∙ ap (λ o. unwrap_or (option_map (knows_detail offset) o) false) (slice_get-map (λ (x : CachedUnit R). known_by x.entries.view.state x.entries.functions) (set vs n w) n ∙ ap (option_map (λ (x : CachedUnit R). known_by x.entries.view.state x.entries.functions)) (get_set_same vs n w within))

  pub detail_at : (k : ℕ) → k ≡ n → knows_detail_at (known_in vs) offset k ≡ knows_detail offset (known_by v.entries.view.state v.entries.functions)
  detail_at k e =
      ap (λ j. unwrap_or (option_map (knows_detail offset) (slice_get (known_in vs) j)) false) e
      ∙ ap (λ o. unwrap_or (option_map (knows_detail offset) o) false) (slice_get-map (λ (x : CachedUnit R). known_by x.entries.view.state x.entries.functions) vs n ∙ ap (option_map (λ (x : CachedUnit R). known_by x.entries.view.state x.entries.functions)) (slice_get_read vs (length vs) n v refl within at))

  -- what becomes known of it alone becomes known
  pub set_details : (knows_detail offset (known_by w.entries.view.state w.entries.functions) ≡ true → knows_detail offset (known_by v.entries.view.state v.entries.functions) ≡ true) → (k : ℕ) → knows_detail_at (known_in (set vs n w)) offset k ≡ true → knows_detail_at (known_in vs) offset k ≡ true
  set_details none k e = elim (cases_eq k n) [
    | inl is ↦ detail_at k is ∙ none (sym (detail_set k is) ∙ e)
    | inr ne ↦ detail_unchanged vs (set vs n w) offset k (get_set_other vs n k w ne) e
  ]

-- of the unit of a number alone no function becomes known
pub set_learns : {R : Type 0} (vs : List (CachedUnit R)) (n : ℕ) (v w : CachedUnit R) → n < length vs → v ≡ get_or vs n v → UnitLearnsNone v.entries w.entries → LearnsNoFunctions (known_in vs) (known_in (set vs n w))
set_learns {R} vs n v w within at none k = elim (cases_eq k n) [
  | inl is ↦ elim none [
    | inl same ↦ inl (now is ∙ ap Some same ∙ sym (was is))
    | inr h ↦ inr (subst (λ o. IfSome o HasNoFunctions) (sym (now is)) h)
  ]
  | inr ne ↦ inl (known_unchanged vs (set vs n w) k (get_set_other vs n k w ne))
]
  where
    now : k ≡ n → slice_get (known_in (set vs n w)) k ≡ Some (known_by w.entries.view.state w.entries.functions)
    now e = ap (slice_get (known_in (set vs n w))) e ∙ slice_get-map (λ (x : CachedUnit R). known_by x.entries.view.state x.entries.functions) (set vs n w) n ∙ ap (option_map (λ (x : CachedUnit R). known_by x.entries.view.state x.entries.functions)) (get_set_same vs n w within)

    was : k ≡ n → slice_get (known_in vs) k ≡ Some (known_by v.entries.view.state v.entries.functions)
    was e = ap (slice_get (known_in vs)) e ∙ slice_get-map (λ (x : CachedUnit R). known_by x.entries.view.state x.entries.functions) vs n ∙ ap (option_map (λ (x : CachedUnit R). known_by x.entries.view.state x.entries.functions)) (slice_get_read vs (length vs) n v refl within at)
