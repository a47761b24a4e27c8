-- Answers to the loads of units, and the loads that are listed (on specs/Loads.antt and
-- specs/LoadsListed.antt).
use Rattle.addr2line_units.proofs.Common.{◌≡◌, ℕ, zero, suc, ◌<◌, ◌==◌, ◌||◌, ◌++◌, nat_cmp, nat_tests, not, cond, Bool, true, false, List, [], ◌∷◌, filter, length, get_or, slice_get, arith, subst, Option, Some, None, Result, Ok, Err, ap, refl, sym, ◌∙◌, set, Error, UnknownToken, ◌>>=◌, ExactlyUnlessOom, Section, Sections, UnitRecord, CachedUnit, answer_of, with_answer, first_answer_of, answers_in, parts_or_fault, before_others, forget_result, is_of_other, load_of_number, load_result, unit_of_token, view_fault, FirstAnswers, SplitLoad, View, awaited_by, awaited_load, decided_answer, is_open, load_by, load_of_unit, split_name_of, verdict, verdict_by, AreEntriesOf, EntriesCache, OnOk, Scope, false≢true, waits, ⊎_elim, memory_or_not}
use Rattle.std.proofs.lemmas.List.{append_assoc}
use Rattle.std.specs.Option.{option_to_list}
use Rattle.std.specs.Prelude.{IfSome, is_none, is_some, if◌then◌else◌}
use Rattle.gimli.specs.declared.unit.DwoId.{DwoId}
use Rattle.std.specs.BTreeMap.{is_at}
use Rattle.addr2line_units.specs.LoadsListed.{MarksLoad, MarksUnit, if_new, is_marked, is_new}
use Rattle.addr2line_units.specs.UnitAfter.{AfterCheck, AfterNewLoadIn, load_unless_marked}
use Rattle.addr2line_units.proofs.EntriesKeeps.{KeepsChecked, KeepsListed}
use Rattle.addr2line_units.proofs.EntriesLemmas.{keeps_checked}
use Rattle.addr2line_units.proofs.UnitViewLemmas.{open_has_load, open_has_no_fault, waiting_is_open}
use Rattle.addr2line_units.proofs.LoadsAnswerLemmas.{answer_at, open_by_check}
use Rattle.addr2line_units.proofs.Facts.{both_or, filter_all, filter_twice, no_answer}

-- a view with a unit has no fault
pub no_view_fault : (w : Option (Result View Error)) (p : Sections × UnitRecord) → IfSome w (λ r. parts_or_fault r ≡ Ok p) → view_fault w ≡ Ok tt
no_view_fault None p h = refl
no_view_fault (Some (Ok v)) p h = refl
no_view_fault (Some (Err e)) p h = absurd cc

-- a number of no unit
pub no_unit : (us : List UnitRecord) (n : ℕ) → slice_get us n ≡ None → unit_of_token us n ≡ Err UnknownToken
no_unit us n e = by (slice_get us n) e
  where
    by : (o : Option UnitRecord) → o ≡ None → ◌≡◌ {A = Result UnitRecord Error} (elim o [ None ↦ Err UnknownToken | Some u ↦ Ok u ]) (Err UnknownToken)
    by None k = refl
    by (Some u) k = absurd cc

pub this_unit : (us : List UnitRecord) (n : ℕ) (u : UnitRecord) → slice_get us n ≡ Some u → unit_of_token us n ≡ Ok u
this_unit us n u e = by (slice_get us n) e
  where
    by : (o : Option UnitRecord) → o ≡ Some u → ◌≡◌ {A = Result UnitRecord Error} (elim o [ None ↦ Err UnknownToken | Some x ↦ Ok x ]) (Ok u)
    by None k = absurd cc
    by (Some x) k = let same : x ≡ u = cc in ap Ok same

pub unknown_load : (d : Sections) (us : List UnitRecord) (answers : FirstAnswers) (n : ℕ) (given : Option Sections) → slice_get us n ≡ None → load_result d us answers n given ≡ Err UnknownToken
unknown_load d us answers n given e = ap (λ r. r >>= λ u. view_fault (verdict d u (decided_answer d u (answer_of answers n) given))) (no_unit us n e)

pub known_forget : (us : List UnitRecord) (n : ℕ) (u : UnitRecord) → slice_get us n ≡ Some u → forget_result us n ≡ Ok tt
known_forget us n u e = ap (λ r. r >>= λ _. Ok tt) (this_unit us n u e)

pub unknown_answer : (d : Sections) (us : List UnitRecord) (answers : FirstAnswers) (n : ℕ) (given : Option Sections) → slice_get us n ≡ None → with_answer d us answers n given ≡ answers
unknown_answer d us answers n given e = by (slice_get us n) e
  where
    by : (o : Option UnitRecord) → o ≡ None → elim o [ None ↦ answers | Some u ↦ set answers n (decided_answer d u (answer_of answers n) given) ] ≡ answers
    by None k = refl
    by (Some u) k = absurd cc

answer_of_set : (answers : FirstAnswers) (n : ℕ) (a : Option (Option Sections)) → n < length answers → answer_of (set answers n a) n ≡ a
answer_of_set [] n a h = absurd (omega (arith, h))
answer_of_set (x ∷ answers) zero a h = refl
answer_of_set (x ∷ answers) (suc n) a h = answer_of_set answers n a (omega (arith, h))

-- the first answer of a unit after one more
pub answer_after : (d : Sections) (us : List UnitRecord) (answers : FirstAnswers) (n : ℕ) (given : Option Sections) (u : UnitRecord) → slice_get us n ≡ Some u → n < length answers
    → answer_of (with_answer d us answers n given) n ≡ decided_answer d u (answer_of answers n) given
answer_after d us answers n given u e h = by (slice_get us n) e
  where
    by : (o : Option UnitRecord) → o ≡ Some u → answer_of (elim o [ None ↦ answers | Some x ↦ set answers n (decided_answer d x (answer_of answers n) given) ]) n ≡ decided_answer d u (answer_of answers n) given
    by None k = absurd cc
    by (Some x) k = let same : x ≡ u = cc in answer_of_set answers n _ h ∙ ap (λ y. decided_answer d y (answer_of answers n) given) same

pub as_many_answers : {R : Type 0} (vs : List (CachedUnit R)) → length (answers_in vs) ≡ length vs
as_many_answers [] = refl
as_many_answers (v ∷ vs) = ap suc (as_many_answers vs)

pub exactly_this : {X : Type 0} (r given : Result X Error) → r ≡ given → ExactlyUnlessOom (λ x. x) r given
exactly_this (Ok x) given e = sym e
exactly_this (Err x) given e = λ ne. sym e

-- the load that a unit waits for names its number
abbrev unit_in : Option SplitLoad → ℕ
unit_in None = 0
unit_in (Some l) = l.unit

pub awaited_unit : (d : Sections) (n : ℕ) (u : UnitRecord) (answer : Option (Option Sections)) (l : SplitLoad) → awaited_load d n u answer ≡ Some l → l.unit ≡ n
unfolding load_of_unit
awaited_unit d n u answer l e = by_id u.dwo_id (split_name_of d u) answer e
  where
    by_id : (id : Option DwoId) (name : Result (Option Section) Error) (a : Option (Option Sections)) → awaited_by (load_by d n u name id) a ≡ Some l → l.unit ≡ n
    by_id None name a k = absurd cc
    by_id (Some id) (Err x) a k = absurd cc
    by_id (Some id) (Ok path) None k = sym (ap unit_in k)
    by_id (Some id) (Ok path) (Some x) k = absurd cc

-- a unit is open where it waits for a load
pub open_awaits : (d : Sections) (n : ℕ) (u : UnitRecord) (answer : Option (Option Sections)) → is_open d u answer ≡ is_some (awaited_load d n u answer)
unfolding load_of_unit
open_awaits d n u answer = by_id u.dwo_id (split_name_of d u) answer
  where
    by_id : (id : Option DwoId) (name : Result (Option Section) Error) (a : Option (Option Sections)) → is_none (verdict_by d u (load_by d 0 u name id) a) ≡ is_some (awaited_by (load_by d n u name id) a)
    by_id None name a = refl
    by_id (Some id) (Err x) a = refl
    by_id (Some id) (Ok path) None = refl
    by_id (Some id) (Ok path) (Some x) = refl

-- what waits waits for the load of its unit
pub awaits_this : (d : Sections) (n : ℕ) (u : UnitRecord) (answer : Option (Option Sections)) (l : SplitLoad) → load_of_unit d n u ≡ Ok (Some l) → is_some (awaited_load d n u answer) ≡ true → awaited_load d n u answer ≡ Some l
awaits_this d n u answer l e h = by answer (load_of_unit d n u) e h
  where
    by : (a : Option (Option Sections)) (r : Result (Option SplitLoad) Error) → r ≡ Ok (Some l) → is_some (awaited_by r a) ≡ true → awaited_by r a ≡ Some l
    by None r k w = ap (λ y. awaited_by y None) k
    by (Some a) (Err x) k w = absurd cc
    by (Some a) (Ok None) k w = absurd cc
    by (Some a) (Ok (Some x)) k w = absurd cc

-- one more unit is marked
pub marks_more : (number : ℕ) (old now : List ℕ) → ((q : ℕ) → is_marked now q ≡ cond (is_at (nat_cmp number) q) true (is_marked old q)) → MarksUnit number old now
marks_more number old now h n = h n ∙ same_number number n (is_marked old n)
  where
    same_number : (k q : ℕ) (b : Bool) → cond (is_at (nat_cmp k) q) true b ≡ ((q == k) || b)
    same_number k q b = grind (arith, nat_tests)

-- a load is listed where its unit isn't marked, and its unit is marked then
module _ (marks : List ℕ) (n : ℕ) where
  pub not_new : (o : Option SplitLoad) → is_some o ≡ true → ((l : SplitLoad) → o ≡ Some l → l.unit ≡ n) → not (is_marked marks n) ≡ false → if_new marks o ≡ None
  not_new None h own e = absurd cc
  not_new (Some l) h own e = ap (λ b. if b then Some l else None) (ap (λ m. not (is_marked marks m)) (own l refl) ∙ e)

  pub is_new_load : (l : SplitLoad) → l.unit ≡ n → not (is_marked marks n) ≡ true → if_new marks (Some l) ≡ Some l
  is_new_load l own e = ap (λ b. if b then Some l else None) (ap (λ m. not (is_marked marks m)) own ∙ e)

  pub marks_load : (now : List ℕ) (o : Option SplitLoad) → is_some o ≡ true → ((l : SplitLoad) → o ≡ Some l → l.unit ≡ n) → MarksUnit n marks now → MarksLoad o marks now
  marks_load now None h own e = absurd cc
  marks_load now (Some l) h own e = subst (λ m. MarksUnit m marks now) (sym (own l refl)) e

pub marks_none : (marks : List ℕ) (o : Option SplitLoad) → o ≡ None → MarksLoad o marks marks
marks_none marks o e = subst (λ x. MarksLoad x marks marks) (sym e) refl

-- after the load of the unit of a number was looked for
module _ {R : Type 0} (scope : Scope) (n : ℕ) (u : UnitRecord) (marks marked : List ℕ) (old new : EntriesCache R) (h : AreEntriesOf scope u old) where
  abbrev d : Sections
  d = scope.file.sections

  abbrev awaited : Option SplitLoad
  awaited = awaited_load d n u (first_answer_of old)

  module _ (check : AfterCheck d u old new) where
    checked : KeepsChecked scope u old new
    checked = keeps_checked scope u old new h check

    -- it doesn't wait
    not_listed : waits new.view.state ≡ false → KeepsListed scope n u marks marks (Ok None) old new
    not_listed shut =
        let was = open_by_check d u old.view new.view false checked.entries.view checked.known checked.stay.answer (sym shut) in
        let none : awaited ≡ None = no_answer awaited (sym (open_awaits d n u (first_answer_of old)) ∙ was) in
        record { checked = checked; gives = sym (ap (if_new marks) none); marks_load = marks_none marks awaited none; none = λ _. refl; refused = tt }

    -- it waits
    module _ (waiting : waits new.view.state ≡ true) where
      was_open : is_open d u (first_answer_of old) ≡ true
      was_open = open_by_check d u old.view new.view true checked.entries.view checked.known checked.stay.answer (sym waiting)

      some : is_some awaited ≡ true
      some = sym (open_awaits d n u (first_answer_of old)) ∙ was_open

      no_verdict : verdict d u None ≡ None
      no_verdict = waiting_is_open d u new.view.state waiting checked.entries.view

      given : (b : Bool) (l : Option SplitLoad) → is_marked marks n ≡ b → (if b then Ok None else load_of_unit d n u) ≡ Ok l → l ≡ if_new marks awaited
      given true l m e =
          let none : l ≡ None = cc in
          none ∙ sym (not_new marks n awaited some (awaited_unit d n u (first_answer_of old)) (ap not m))
      given false None m e = absurd (open_has_load d n u no_verdict e)
      given false (Some l) m e =
          let this : awaited ≡ Some l = awaits_this d n u (first_answer_of old) l e some in
          sym (ap (if_new marks) this ∙ is_new_load marks n l (awaited_unit d n u (first_answer_of old) l this) (ap not m))

      never_faulty : (b : Bool) (e : Error) → (if b then Ok None else load_of_unit d n u) ≡ Err e → ⊥
      never_faulty true e k = cc
      never_faulty false e k = open_has_no_fault d n u e no_verdict k

      listed : (r : Result (Option SplitLoad) Error) → ExactlyUnlessOom (λ l. l) r (load_unless_marked d n u marks) → OnOk r (MarksUnit n marks marked) → KeepsListed scope n u marks marked r old new
      listed (Ok l) e m = record {
        checked = checked;
        gives = given (is_marked marks n) l refl e;
        marks_load = marks_load marks n marked awaited some (awaited_unit d n u (first_answer_of old)) m;
        none = λ shut. absurd (false≢true (sym shut ∙ was_open));
        refused = tt;
      }
      listed (Err x) e m = record {
        checked = checked;
        gives = tt;
        marks_load = tt;
        none = λ shut. absurd (false≢true (sym shut ∙ was_open));
        refused = ⊎_elim (λ p. p) (λ q. absurd (never_faulty (is_marked marks n) x (e q))) (memory_or_not x);
      }

  pub keeps_listed : (r : Result (Option SplitLoad) Error) → AfterNewLoadIn d n u marks marked r old new → KeepsListed scope n u marks marked r old new
  keeps_listed r a = by (waits new.view.state) refl
    where
      by : (b : Bool) → waits new.view.state ≡ b → KeepsListed scope n u marks marked r old new
      by true e = listed a.check e r (a.load e) (a.marks_unit e)
      by false e =
          let none = a.none e in
          subst (λ x. KeepsListed scope n u marks marked x old new) (sym none.0) (subst (λ m. KeepsListed scope n u marks m (Ok None) old new) (sym none.1) (not_listed a.check e))

pub none_marked : (loads : List SplitLoad) → filter (is_new []) loads ≡ loads
none_marked loads = filter_all (is_new []) (λ x. refl) loads

-- the loads that are new, the first of them in front
next_listed : (o : Option SplitLoad) (old now : List ℕ) (loads : List SplitLoad) → MarksLoad o old now → filter (is_new old) (before_others o loads) ≡ option_to_list (if_new old o) ++ filter (is_new now) loads
next_listed None old now loads e = ap (λ m. filter (is_new m) loads) (sym e)
next_listed (Some l) old now loads e = by (is_new old l) (filter_twice (is_new old) (is_of_other l.unit) (is_new now) (λ x. ap not (e x.unit) ∙ both_or (x.unit == l.unit) (is_marked old x.unit)) loads)
  where
    by : (b : Bool) → filter (is_new old) (filter (is_of_other l.unit) loads) ≡ filter (is_new now) loads
        → cond b (l ∷ filter (is_new old) (filter (is_of_other l.unit) loads)) (filter (is_new old) (filter (is_of_other l.unit) loads)) ≡ option_to_list (if b then Some l else None) ++ filter (is_new now) loads
    by true k = ap (λ z. l ∷ z) k
    by false k = k

-- the loads that are listed so far and those that are new make up all
module _ (listed : List SplitLoad) (o : Option SplitLoad) (old now : List ℕ) (loads all : List SplitLoad) where
  pub listed_more : (found : Option SplitLoad) → found ≡ if_new old o → MarksLoad o old now → listed ++ filter (is_new old) (before_others o loads) ≡ all → (listed ++ option_to_list found) ++ filter (is_new now) loads ≡ all
  listed_more found f m h =
      append_assoc listed (option_to_list found) (filter (is_new now) loads)
      ∙ ap (λ z. listed ++ z) (ap (λ z. option_to_list z ++ filter (is_new now) loads) f ∙ sym (next_listed o old now loads m)) ∙ h

-- the load of the unit of a number, by what is cached of it
pub load_there : {R : Type 0} (d : Sections) (us : List UnitRecord) (vs : List (CachedUnit R)) (n : ℕ) (u : UnitRecord) (v : CachedUnit R) → slice_get us n ≡ Some u → n < length vs → v ≡ get_or vs n v
    → load_of_number d us (answers_in vs) n ≡ awaited_load d n u (first_answer_of v.entries)
load_there d us vs n u v e h at = by (slice_get us n) e
  where
    by : (o : Option UnitRecord) → o ≡ Some u → elim o [ None ↦ None | Some x ↦ awaited_load d n x (answer_of (answers_in vs) n) ] ≡ awaited_load d n u (first_answer_of v.entries)
    by None k = absurd cc
    by (Some x) k = let same : x ≡ u = cc in ap (λ y. awaited_load d n y (answer_of (answers_in vs) n)) same ∙ ap (awaited_load d n u) (answer_at vs n v h at)

pub no_load : (d : Sections) (us : List UnitRecord) (answers : FirstAnswers) (n : ℕ) → slice_get us n ≡ None → load_of_number d us answers n ≡ None
no_load d us answers n e = by (slice_get us n) e
  where
    by : (o : Option UnitRecord) → o ≡ None → ◌≡◌ {A = Option SplitLoad} (elim o [ None ↦ None | Some x ↦ awaited_load d n x (answer_of answers n) ]) None
    by None k = refl
    by (Some x) k = absurd cc
