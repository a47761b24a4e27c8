-- Laws of the loads that an address waits for (on specs/LoadsLaws.antt).
use Rattle.addr2line_units.proofs.Common.{◌≡◌, ◌≢◌, ◌⊎◌, inl, inr, ℕ, zero, suc, ◌<◌, ◌≤◌, ◌==◌, ◌&&◌, not, cond, Bool, true, false, List, [], ◌∷◌, filter, length, slice_get, arith, subst, Option, Some, None, option_map, Result, Ok, Err, ap, refl, sym, ◌∙◌, eq-eqb, eqb_tells, set, slice_get_within, Error, ◌>>=◌, Sections, UnitRecord, Scope, UnitRange, Waits, answer_of, asked_frames, frames_of_number, or_stop, stop_along, with_answer, before_others, is_of_other, is_open_at, load_of_number, loads_along, LeadTo, FramesResult, frames_in, IndexedUnit, unit_records, FirstAnswers, SplitLoad, awaited_by, awaited_load, decided_answer, is_open, load_of_unit, get_set_other}
use Rattle.std.proofs.Math.Bool.{and_comm, and_self}
use Rattle.std.specs.Prelude.{is_some, unwrap_or}
use Rattle.addr2line_units.specs.LoadsLaws.{IsListed, LeaveFewer, LeaveOthers, NeedLoadsToWait, WaitForListed, loads_of}
use Rattle.addr2line_units.proofs.LoadsAnswerLemmas.{decided_if_not, decided_if_open}
use Rattle.addr2line_units.proofs.LoadsLemmas.{answer_after, awaited_unit, open_awaits}
use Rattle.addr2line_units.proofs.FramesWaitLemmas.{open_of_none, same_number, told_by_unit}
use Rattle.addr2line_units.proofs.Facts.{filter_twice, no_answer}

-- whether a load is that of another unit, by the numbers
other_not : (n : ℕ) (l : SplitLoad) → l.unit ≡ n → is_of_other n l ≡ false
other_not n l e = ap not (eq-eqb l.unit n e)

other_yes : (n : ℕ) (l : SplitLoad) → l.unit ≢ n → is_of_other n l ≡ true
other_yes n l ne = elim (eqb_tells l.unit n) [ inl p ↦ absurd (ne p.1) | inr q ↦ ap not q.0 ]

-- a load that is listed is listed without those of another unit
keep_listed : (n m : ℕ) (loads : List SplitLoad) → n ≢ m → IsListed n loads → IsListed n (filter (is_of_other m) loads)
keep_listed n m [] ne h = absurd h
keep_listed n m (l ∷ loads) ne (inl e) =
    subst (λ b. IsListed n (cond b (l ∷ filter (is_of_other m) loads) (filter (is_of_other m) loads))) (sym (other_yes m l (λ k. ne (sym e ∙ k)))) (inl e)
keep_listed n m (l ∷ loads) ne (inr h) = by (is_of_other m l) (keep_listed n m loads ne h)
  where
    by : (b : Bool) → IsListed n (filter (is_of_other m) loads) → IsListed n (cond b (l ∷ filter (is_of_other m) loads) (filter (is_of_other m) loads))
    by true k = inr k
    by false k = k

listed_before : (n : ℕ) (o : Option SplitLoad) (loads : List SplitLoad) → IsListed n loads → IsListed n (before_others o loads)
listed_before n None loads h = h
listed_before n (Some l) loads h = elim (eqb_tells l.unit n) [
  | inl p ↦ inl p.1
  | inr q ↦ inr (keep_listed n l.unit loads (λ e. q.1 (sym e)) h)
]

module _ (load : ℕ → Option SplitLoad) (own : (k : ℕ) (l : SplitLoad) → load k ≡ Some l → l.unit ≡ k) where
  -- the load of a unit that a range leads to is listed
  listed_first : (n m : ℕ) (o : Option SplitLoad) (loads : List SplitLoad) → load m ≡ o → n ≡ m → is_some (load n) ≡ true → IsListed n (before_others o loads)
  listed_first n m None loads e same h = let k : is_some (load m) ≡ true = subst (λ x. is_some (load x) ≡ true) same h in let f : is_some (load m) ≡ false = ap is_some e in let g : true ≡ false = sym k ∙ f in absurd cc
  listed_first n m (Some l) loads e same h = inl (own m l e ∙ sym same)

  pub listed_there : (n : ℕ) → is_some (load n) ≡ true → (ranges : List UnitRange) → LeadTo ranges n → IsListed n (loads_along load ranges)
  listed_there n h [] k = absurd k
  listed_there n h (r ∷ ranges) (inl e) = listed_first n r.unit (load r.unit) (loads_along load ranges) refl e h
  listed_there n h (r ∷ ranges) (inr k) = listed_before n (load r.unit) (loads_along load ranges) (listed_there n h ranges k)

taken_here : (n : ℕ) (o : Option SplitLoad) (loads : List SplitLoad) → ((l : SplitLoad) → o ≡ Some l → l.unit ≡ n) → filter (is_of_other n) (before_others o loads) ≡ filter (is_of_other n) loads
taken_here n None loads own = refl
taken_here n (Some l) loads own =
    ap (λ b. cond b (l ∷ filter (is_of_other n) (filter (is_of_other l.unit) loads)) (filter (is_of_other n) (filter (is_of_other l.unit) loads))) (other_not n l (own l refl))
    ∙ ap (λ m. filter (is_of_other n) (filter (is_of_other m) loads)) (own l refl)
    ∙ filter_twice (is_of_other n) (is_of_other n) (is_of_other n) (λ x. sym (and_self (is_of_other n x))) loads

taken_past : (n : ℕ) (o : Option SplitLoad) (loads : List SplitLoad) → ((l : SplitLoad) → o ≡ Some l → l.unit ≢ n) → before_others o (filter (is_of_other n) loads) ≡ filter (is_of_other n) (before_others o loads)
taken_past n None loads ne = refl
taken_past n (Some l) loads ne =
    ap (λ xs. l ∷ xs) (filter_twice (is_of_other l.unit) (is_of_other n) (λ x. is_of_other n x && is_of_other l.unit x) (λ x. refl) loads
    ∙ sym (filter_twice (is_of_other n) (is_of_other l.unit) (λ x. is_of_other n x && is_of_other l.unit x) (λ x. and_comm (is_of_other n x) (is_of_other l.unit x)) loads))
    ∙ sym (ap (λ b. cond b (l ∷ filter (is_of_other n) (filter (is_of_other l.unit) loads)) (filter (is_of_other n) (filter (is_of_other l.unit) loads))) (other_yes n l (ne l refl)))

module _ (load later : ℕ → Option SplitLoad) (n : ℕ) (own : (k : ℕ) (l : SplitLoad) → load k ≡ Some l → l.unit ≡ k) (gone : later n ≡ None) (others : (k : ℕ) → k ≢ n → later k ≡ load k) where
  taken_along : (ranges : List UnitRange) → loads_along later ranges ≡ filter (is_of_other n) (loads_along load ranges)
  taken_along [] = refl
  taken_along (r ∷ ranges) = by (eqb_tells r.unit n) (taken_along ranges)
    where
      by : ((r.unit == n) ≡ true) × (r.unit ≡ n) ⊎ ((r.unit == n) ≡ false) × (r.unit ≢ n) → loads_along later ranges ≡ filter (is_of_other n) (loads_along load ranges)
          → before_others (later r.unit) (loads_along later ranges) ≡ filter (is_of_other n) (before_others (load r.unit) (loads_along load ranges))
      by (inl p) rest =
          ap (λ o. before_others o (loads_along later ranges)) (ap later p.1 ∙ gone) ∙ rest
          ∙ sym (taken_here n (load r.unit) (loads_along load ranges) (λ l e. own r.unit l e ∙ p.1))
      by (inr q) rest =
          ap (λ o. before_others o (loads_along later ranges)) (others r.unit q.1)
          ∙ ap (before_others (load r.unit)) rest
          ∙ taken_past n (load r.unit) (loads_along load ranges) (λ l e k. q.1 (sym (own r.unit l e) ∙ k))

-- fewer are left without one that is listed
no_more : (n : ℕ) (loads : List SplitLoad) → length (filter (is_of_other n) loads) ≤ length loads
no_more n [] = omega arith
no_more n (l ∷ loads) = by (is_of_other n l) (no_more n loads)
  where
    by : (b : Bool) → length (filter (is_of_other n) loads) ≤ length loads → length (cond b (l ∷ filter (is_of_other n) loads) (filter (is_of_other n) loads)) ≤ suc (length loads)
    by true h = omega (arith, h)
    by false h = omega (arith, h)

fewer_than : (n : ℕ) (loads : List SplitLoad) → IsListed n loads → length (filter (is_of_other n) loads) < length loads
fewer_than n [] h = absurd h
fewer_than n (l ∷ loads) (inl e) =
    let rest = no_more n loads in
    subst (λ b. length (cond b (l ∷ filter (is_of_other n) loads) (filter (is_of_other n) loads)) < suc (length loads)) (sym (other_not n l e)) (omega (arith, rest))
fewer_than n (l ∷ loads) (inr h) = by (is_of_other n l) (fewer_than n loads h)
  where
    by : (b : Bool) → length (filter (is_of_other n) loads) < length loads → length (cond b (l ∷ filter (is_of_other n) loads) (filter (is_of_other n) loads)) < suc (length loads)
    by true k = omega (arith, k)
    by false k = omega (arith, k)

-- the load of the unit of a number, if there is such a unit
module _ (d : Sections) (us : List UnitRecord) where
  abbrev load_or_none : ℕ → Option (Option Sections) → Option UnitRecord → Option SplitLoad
  load_or_none n a o = elim o [ None ↦ None | Some u ↦ awaited_load d n u a ]

  pub load_own : (answers : FirstAnswers) (k : ℕ) (l : SplitLoad) → load_of_number d us answers k ≡ Some l → l.unit ≡ k
  load_own answers k l e = by (slice_get us k) e
    where
      by : (o : Option UnitRecord) → ◌≡◌ {A = Option SplitLoad} (elim o [ None ↦ None | Some u ↦ awaited_load d k u (answer_of answers k) ]) (Some l) → l.unit ≡ k
      by None f = absurd cc
      by (Some u) f = awaited_unit d k u (answer_of answers k) l f

  -- what is decided waits for no load
  pub answered_load : (n : ℕ) (u : UnitRecord) (answer : Option (Option Sections)) (given : Option Sections) → awaited_load d n u (decided_answer d u answer given) ≡ None
  answered_load n u answer given = by (is_open d u answer) refl
    where
      none : (r : Result (Option SplitLoad) Error) → awaited_by r (Some given) ≡ None
      none (Err e) = refl
      none (Ok None) = refl
      none (Ok (Some l)) = refl

      by : (b : Bool) → is_open d u answer ≡ b → awaited_load d n u (decided_answer d u answer given) ≡ None
      by true e = ap (awaited_load d n u) (decided_if_open d u answer given e) ∙ none (load_of_unit d n u)
      by false e = ap (awaited_load d n u) (decided_if_not d u answer given e) ∙ no_answer (awaited_load d n u answer) (sym (open_awaits d n u answer) ∙ e)

  pub load_gone : (answers : FirstAnswers) (n : ℕ) (given : Option Sections) → length us ≡ length answers → load_of_number d us (with_answer d us answers n given) n ≡ None
  load_gone answers n given many = by (slice_get us n) refl
    where
      by : (o : Option UnitRecord) → slice_get us n ≡ o → load_of_number d us (with_answer d us answers n given) n ≡ None
      by None e = ap (load_or_none n (answer_of (with_answer d us answers n given) n)) e
      by (Some u) e =
          let within = slice_get_within us n u e in
          ap (load_or_none n (answer_of (with_answer d us answers n given) n)) e
          ∙ ap (awaited_load d n u) (answer_after d us answers n given u e (omega (arith, within, many)))
          ∙ answered_load n u (answer_of answers n) given

  answers_others : (answers : FirstAnswers) (n : ℕ) (given : Option Sections) (k : ℕ) → k ≢ n → answer_of (with_answer d us answers n given) k ≡ answer_of answers k
  answers_others answers n given k ne = by (slice_get us n)
    where
      by : (o : Option UnitRecord) → answer_of (elim o [ None ↦ answers | Some u ↦ set answers n (decided_answer d u (answer_of answers n) given) ]) k ≡ answer_of answers k
      by None = refl
      by (Some u) = ap (λ x. unwrap_or x None) (get_set_other answers n k (decided_answer d u (answer_of answers n) given) ne)

  pub load_others : (answers : FirstAnswers) (n : ℕ) (given : Option Sections) (k : ℕ) → k ≢ n → load_of_number d us (with_answer d us answers n given) k ≡ load_of_number d us answers k
  load_others answers n given k ne = ap (λ a. load_or_none k a (slice_get us k)) (answers_others answers n given k ne)

  -- a unit that is open waits for its load
  open_load : (answers : FirstAnswers) (n : ℕ) → is_open_at d us answers n ≡ true → is_some (load_of_number d us answers n) ≡ true
  open_load answers n e = by (slice_get us n) e
    where
      by : (o : Option UnitRecord) → ◌≡◌ {A = Bool} (elim o [ None ↦ false | Some u ↦ is_open d u (answer_of answers n) ]) true
          → is_some (elim o [ None ↦ None | Some u ↦ awaited_load d n u (answer_of answers n) ]) ≡ true
      by None f = absurd cc
      by (Some u) f = sym (open_awaits d n u (answer_of answers n)) ∙ f

-- after an answer to a load the others are left
pub others_left : LeaveOthers
others_left d us answers n given ranges many =
    taken_along (load_of_number d us answers) (load_of_number d us (with_answer d us answers n given)) n (load_own d us answers) (load_gone d us answers n given many) (load_others d us answers n given) ranges

-- fewer loads are left after an answer to one of them
pub fewer_left : LeaveFewer
fewer_left d us answers n given ranges many h =
    subst (λ xs. length xs < length (loads_of d us answers ranges))
    (sym (others_left d us answers n given ranges many))
    (fewer_than n (loads_of d us answers ranges) h)

-- a lookup that waits was told so by a unit that a range leads to
module _ (frames : ℕ → FramesResult) (n : ℕ) where
  waits_by : (r : UnitRange) (ranges : List UnitRange) (x : FramesResult) → frames r.unit ≡ x → (x >>= or_stop r.unit (stop_along frames ranges)) ≡ Ok (Waits n)
      → (stop_along frames ranges ≡ Ok (Waits n) → (frames n ≡ Ok None) × LeadTo ranges n) → (frames n ≡ Ok None) × LeadTo (r ∷ ranges) n
  waits_by r ranges (Err x) e w further = absurd cc
  waits_by r ranges (Ok None) e w further =
      let same = same_number r.unit n w in
      (subst (λ j. frames j ≡ Ok None) same e, inl (sym same))
  waits_by r ranges (Ok (Some [])) e w further = let k = further w in (k.0, inr k.1)
  waits_by r ranges (Ok (Some (f ∷ fs))) e w further = absurd cc

  waits_along : (ranges : List UnitRange) → stop_along frames ranges ≡ Ok (Waits n) → (frames n ≡ Ok None) × LeadTo ranges n
  waits_along [] w = absurd cc
  waits_along (r ∷ ranges) w = waits_by r ranges (frames r.unit) refl w (λ v. waits_along ranges v)

record_at : (units : List IndexedUnit) (n : ℕ) → slice_get (unit_records units) n ≡ option_map (λ (u : IndexedUnit). u.unit) (slice_get units n)
record_at [] n = refl
record_at (u ∷ units) zero = refl
record_at (u ∷ units) (suc n) = record_at units n

-- that unit is open
open_there : (scope : Scope) (units : List IndexedUnit) (answers : FirstAnswers) (probe n : ℕ) → frames_of_number scope units answers probe n ≡ Ok None
    → is_open_at scope.file.sections (unit_records units) answers n ≡ true
open_there scope units answers probe n e = ap open_by (record_at units n) ∙ by (slice_get units n) e
  where
    open_by : Option UnitRecord → Bool
    open_by o = elim o [ None ↦ false | Some u ↦ is_open scope.file.sections u (answer_of answers n) ]

    by : (o : Option IndexedUnit) → ◌≡◌ {A = FramesResult} (elim o [ None ↦ Ok (Some []) | Some u ↦ frames_in scope u (answer_of answers n) probe ]) (Ok None) → open_by (option_map (λ (u : IndexedUnit). u.unit) o) ≡ true
    by None f = absurd cc
    by (Some u) f = open_of_none scope u (answer_of answers n) probe f

pub waits_listed : WaitForListed
waits_listed faults scope units answers probe n ranges w =
    let d = scope.file.sections in
    let us = unit_records units in
    let told = waits_along (asked_frames faults scope units answers probe) n ranges w in
    let open_is = open_there scope units answers probe n (told_by_unit faults (frames_of_number scope units answers probe n) told.0) in
    (open_is, listed_there (load_of_number d us answers) (load_own d us answers) n (open_load d us answers n open_is) ranges told.1)

pub never_waits_alone : NeedLoadsToWait
never_waits_alone faults scope units answers probe n ranges none w =
    subst (IsListed n) none (waits_listed faults scope units answers probe n ranges w).1
