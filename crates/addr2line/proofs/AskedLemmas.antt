-- What was asked for by a lookup that waits is asked for after an answer (on
-- specs/AfterLookups.antt).
use Rattle.addr2line.proofs.Common.{◌≡◌, ◌≢◌, ◌⊎◌, ◌||◌, inl, inr, ℕ, zero, suc, Bool, true, false, ◌&&◌, not, List, [], ◌∷◌, slice_get, if◌then◌else◌, Option, Some, None, option_map, Result, Ok, Err, refl, sym, ap, subst, ◌∙◌, eqb_tells, slice_get-map, set, is_none, Error, ◌>>=◌, Sections, UnitRecord, Scope, OnFault, UnitRange, cover, LookupAsks, LookupStop, Waits, after_fault, answer_of, asked_frames, asks_lines_of, ends_lookup, function_offset_of, main_scope, or_stop, stop_along, with_answer, KnownEntries, LearnsDetailsAt, LearnsNoDetails, ParsesOnly, has_parsed, is_open_at, FramesResult, asks_lines_in, frames_in, function_in, function_offset_by, function_offset_in, UnitIndex, index_units, IndexedUnit, unit_records, FirstAnswers, View, decided_answer, is_open, verdict, waits_listed, AfterAnswering, answered, ContextState, AfterFrames, ReadsAsked, asked_of, lookup_stop, stop_in, get_set_other}
use Rattle.std.specs.Prelude.{is_ok, unwrap_or}
use Rattle.std.specs.List.{AllByRecursion}
use Rattle.addr2line_units.specs.declared.frames.Asks.TheVariants as lookups
use Rattle.addr2line_units.specs.EntriesKnown.{is_known_at}
use Rattle.addr2line_units.specs.IndexCover.{before_place}
use Rattle.addr2line_units.specs.UnitsAfter.{HasPassedTo}
use Rattle.addr2line_units.proofs.FramesWalkedLemmas.{IsPassed, as_passed, of_passed}
use Rattle.addr2line_units.specs.UnitsState.{UnitsState}
use Rattle.addr2line.specs.AfterLookups.{HasPassed}
use Rattle.addr2line_units.proofs.FramesLookupLemmas.{parses_more}
use Rattle.addr2line_units.proofs.EntriesLearnedLemmas.{learns_no_details}
use Rattle.addr2line_units.proofs.FramesWaitLemmas.{same_number}
use Rattle.addr2line.proofs.FilesLookupLemmas.{none_if_open}

-- what ends no lookup is no unit that waits
never_waits : (x : FramesResult) → ends_lookup x ≡ false → x ≢ Ok None
never_waits x e q = let f : true ≡ false = sym (ap ends_lookup q) ∙ e in cc

-- no lines are asked for of a unit that waits
no_lines_if_open : (scope : Scope) (u : UnitRecord) (answer : Option (Option Sections)) (probe : ℕ) → is_open scope.file.sections u answer ≡ true → asks_lines_in scope u answer probe ≡ false
unfolding asks_lines_in
no_lines_if_open scope u answer probe e = ap (λ b. not b && is_ok (function_in scope u answer probe)) e

-- no function stands at an address in a unit that waits
no_offset_if_open : (scope : Scope) (u : UnitRecord) (answer : Option (Option Sections)) (probe : ℕ) → is_open scope.file.sections u answer ≡ true → function_offset_in scope u answer probe ≡ None
unfolding function_offset_in
no_offset_if_open scope u answer probe e = by (verdict scope.file.sections u answer) e
  where
    by : (v : Option (Result View Error)) → is_none v ≡ true → function_offset_by scope probe v ≡ None
    by None h = refl
    by (Some v) h = absurd cc

-- a lookup asks the unit that it waits for
asks_waiting : (f : ℕ → FramesResult) (n : ℕ) (ranges : List UnitRange) → stop_along f ranges ≡ Ok (Waits n) → LookupAsks f ranges n
asks_waiting f n [] e = absurd cc
asks_waiting f n (r ∷ ranges) e = step (f r.unit) (stop_along f ranges) e (asks_waiting f n ranges)
  where
    step : (x : FramesResult) (rest : Result LookupStop Error) → (x >>= or_stop r.unit rest) ≡ Ok (Waits n) → (rest ≡ Ok (Waits n) → LookupAsks f ranges n) → (n ≡ r.unit) ⊎ ((ends_lookup x ≡ false) × LookupAsks f ranges n)
    step (Ok None) rest w later = inl (sym (same_number r.unit n w))
    step (Ok (Some [])) rest w later = inr (refl, later w)
    step (Ok (Some (x ∷ xs))) rest w later = absurd cc
    step (Err e) rest w later = absurd cc

-- the unit of a number that waits for an answer
pub record IsOpenThere (d : Sections) (units : List IndexedUnit) (answers : FirstAnswers) (n : ℕ) : Type 0 where
  pub unit : IndexedUnit
  pub unit_is : slice_get units n ≡ Some unit
  pub open_is : is_open d unit.unit (answer_of answers n) ≡ true

open_there : (d : Sections) (units : List IndexedUnit) (answers : FirstAnswers) (n : ℕ) → is_open_at d (unit_records units) answers n ≡ true → IsOpenThere d units answers n
open_there d units answers n o = by (slice_get units n) refl (subst (λ x. elim x [ None ↦ false | Some u ↦ is_open d u (answer_of answers n) ] ≡ true) (slice_get-map (λ (u : IndexedUnit). u.unit) units n) o)
  where
    by : (x : Option IndexedUnit) → slice_get units n ≡ x → elim (option_map (λ (u : IndexedUnit). u.unit) x) [ None ↦ false | Some u ↦ is_open d u (answer_of answers n) ] ≡ true → IsOpenThere d units answers n
    by None e p = absurd cc
    by (Some u) e p = record { unit = u; unit_is = e; open_is = p }

-- the first answers of other units stay
pub other_answers : (d : Sections) (us : List UnitRecord) (answers : FirstAnswers) (n : ℕ) (given : Option Sections) (k : ℕ) → k ≢ n → answer_of (with_answer d us answers n given) k ≡ answer_of answers k
other_answers d us answers n given k ne = by (slice_get us n)
  where
    by : (o : Option UnitRecord) → answer_of (elim o [ None ↦ answers | Some u ↦ set answers n (decided_answer d u (answer_of answers n) given) ]) k ≡ answer_of answers k
    by None = refl
    by (Some u) = ap (λ o. unwrap_or o None) (get_set_other answers n k _ ne)

-- an answer that stands where one was set is that one
answer_set : (answer : Option (Option Sections)) (answers : FirstAnswers) (n : ℕ) (first : Option Sections) → answer_of (set answers n answer) n ≡ Some first → answer ≡ Some first
answer_set answer [] n first e = absurd cc
answer_set answer (a ∷ answers) zero first e = e
answer_set answer (a ∷ answers) (suc n) first e = answer_set answer answers n first e

-- a first answer after one more was there before, or is that one, of its unit
pub answer_before : (d : Sections) (answers : FirstAnswers) (n : ℕ) (given : Option Sections) (k : ℕ) (first : Option Sections) → answer_of (answered d answers n given) k ≡ Some first
    → (answer_of answers k ≡ Some first) ⊎ ((k ≡ n) × (given ≡ first))
answer_before d answers n given k first = by (index_units d)
  where
    by_open : (b : Bool) → (if b then Some given else answer_of answers n) ≡ Some first → (answer_of answers n ≡ Some first) ⊎ (given ≡ first)
    by_open true e = let same : given ≡ first = cc in inr same
    by_open false e = inl e

    own : (o : Option UnitRecord) → answer_of (elim o [ None ↦ answers | Some u ↦ set answers n (decided_answer d u (answer_of answers n) given) ]) n ≡ Some first → (answer_of answers n ≡ Some first) ⊎ (given ≡ first)
    own None e = inl e
    own (Some u) e = by_open (is_open d u (answer_of answers n)) (answer_set (decided_answer d u (answer_of answers n) given) answers n first e)

    by : (r : Result UnitIndex Error) → answer_of (elim r [ Err e ↦ answers | Ok m ↦ with_answer d (unit_records m.units) answers n given ]) k ≡ Some first → (answer_of answers k ≡ Some first) ⊎ ((k ≡ n) × (given ≡ first))
    by (Err e) h = inl h
    by (Ok m) h = elim (eqb_tells k n) [
      | inl p ↦ elim (own (slice_get (unit_records m.units) n) (subst (λ i. answer_of (with_answer d (unit_records m.units) answers n given) i ≡ Some first) p.1 h)) [
        | inl q ↦ inl (subst (λ i. answer_of answers i ≡ Some first) (sym p.1) q)
        | inr q ↦ inr (p.1, q)
      ]
      | inr q ↦ inl (sym (other_answers d (unit_records m.units) answers n given k q.1) ∙ h)
    ]

-- among units, of which one waits for an answer
module _ (faults : OnFault) (scope : Scope) (units : List IndexedUnit) (answers : FirstAnswers) (n : ℕ) (w : IsOpenThere scope.file.sections units answers n) (given : Option Sections) (probe : ℕ) where
  abbrev now : FirstAnswers
  now = with_answer scope.file.sections (unit_records units) answers n given

  other_now : (k : ℕ) → k ≢ n → answer_of now k ≡ answer_of answers k
  other_now = other_answers scope.file.sections (unit_records units) answers n given

  abbrev frames_of_answer : Option (Option Sections) → Option IndexedUnit → FramesResult
  frames_of_answer a o = elim o [ None ↦ Ok (Some []) | Some u ↦ frames_in scope u a probe ]

  -- the unit that waits has no frames yet
  waits_here : (j : ℕ) → j ≡ n → asked_frames faults scope units answers probe j ≡ Ok None
  waits_here j q = subst (λ i. asked_frames faults scope units answers probe i ≡ Ok None) (sym q)
      (ap (after_fault faults) (ap (frames_of_answer (answer_of answers n)) w.unit_is ∙ none_if_open scope w.unit (answer_of answers n) probe w.open_is))

  -- a unit that doesn't wait is asked for the same
  same_asked : (k : ℕ) → asked_frames faults scope units answers probe k ≢ Ok None → asked_frames faults scope units now probe k ≡ asked_frames faults scope units answers probe k
  same_asked k ne = elim (eqb_tells k n) [
    | inl p ↦ absurd (ne (waits_here k p.1))
    | inr q ↦ ap (λ a. after_fault faults (frames_of_answer a (slice_get units k))) (other_now k q.1)
  ]

  still_asked : (ranges : List UnitRange) (k : ℕ) → LookupAsks (asked_frames faults scope units answers probe) ranges k → LookupAsks (asked_frames faults scope units now probe) ranges k
  still_asked [] k asked = absurd asked
  still_asked (r ∷ ranges) k asked = elim asked [
    | inl e ↦ inl e
    | inr more ↦ inr (
      ap ends_lookup (same_asked r.unit (never_waits (asked_frames faults scope units answers probe r.unit) more.0)) ∙ more.0,
      still_asked ranges k more.1,
    )
  ]

  still_lines : (k : ℕ) → asks_lines_of scope units answers probe k ≡ true → asks_lines_of scope units now probe k ≡ true
  still_lines k e = elim (eqb_tells k n) [
    | inl p ↦ absurd (not_here k p.1 e)
    | inr q ↦ ap (λ a. lines_by a (slice_get units k)) (other_now k q.1) ∙ e
  ]
    where
      lines_by : Option (Option Sections) → Option IndexedUnit → Bool
      lines_by a o = elim o [ None ↦ false | Some u ↦ asks_lines_in scope u.unit a probe ]

      not_here : (j : ℕ) → j ≡ n → asks_lines_of scope units answers probe j ≡ true → ⊥
      not_here j q h =
          let at : asks_lines_of scope units answers probe n ≡ true = subst (λ i. asks_lines_of scope units answers probe i ≡ true) q h in
          let f : false ≡ true = sym (ap (lines_by (answer_of answers n)) w.unit_is ∙ no_lines_if_open scope w.unit.unit (answer_of answers n) probe w.open_is) ∙ at in
          cc

  still_there : (k offset : ℕ) → function_offset_of scope units answers probe k ≡ Some offset → function_offset_of scope units now probe k ≡ Some offset
  still_there k offset e = elim (eqb_tells k n) [
    | inl p ↦ absurd (not_here k p.1 e)
    | inr q ↦ ap (λ a. offset_by a (slice_get units k)) (other_now k q.1) ∙ e
  ]
    where
      offset_by : Option (Option Sections) → Option IndexedUnit → Option ℕ
      offset_by a o = elim o [ None ↦ None | Some u ↦ function_offset_in scope u.unit a probe ]

      not_here : (j : ℕ) → j ≡ n → function_offset_of scope units answers probe j ≡ Some offset → ⊥
      not_here j q h =
          let at : function_offset_of scope units answers probe n ≡ Some offset = subst (λ i. function_offset_of scope units answers probe i ≡ Some offset) q h in
          let f : None ≡ Some offset = sym (ap (offset_by (answer_of answers n)) w.unit_is ∙ no_offset_if_open scope w.unit.unit (answer_of answers n) probe w.open_is) ∙ at in
          cc

  -- what was passed over stays so, by what is known of other units
  module _ (parsed : List Bool) (known later : List KnownEntries) (steps more : ℕ) (stop next : LookupStop) (same : (k : ℕ) → k ≢ n → slice_get later k ≡ slice_get known k) where
    abbrev first_state : UnitsState
    first_state = record { scope = scope; units = units; answers = answers; parsed = parsed; known = known; steps = steps; stop = stop }

    abbrev next_state : UnitsState
    next_state = record { scope = scope; units = units; answers = now; parsed = parsed; known = later; steps = more; stop = next }

    never_none : (x : FramesResult) → x ≡ Ok (Some []) → x ≢ Ok None
    never_none x e q = let f : ◌≡◌ {A = FramesResult} (Ok None) (Ok (Some [])) = sym q ∙ e in cc

    not_waiting : (k : ℕ) → asked_frames faults scope units answers probe k ≡ Ok (Some []) → k ≢ n
    not_waiting k e is = never_none (asked_frames faults scope units answers probe k) e (waits_here k is)

    still_passed_over : (k : ℕ) → IsPassed (lookups.Frames faults) probe first_state k → IsPassed (lookups.Frames faults) probe next_state k
    still_passed_over k p =
        let other = not_waiting k p.nothing in
        record {
          nothing = same_asked k (never_none (asked_frames faults scope units answers probe k) p.nothing) ∙ p.nothing;
          known = ap (λ x. known_by x (asks_lines_of scope units now probe k)) (same k other)
              ∙ ap (λ a. known_by (slice_get known k) (lines_of a (slice_get units k))) (other_now k other) ∙ p.known;
        }
      where
        known_by : Option KnownEntries → Bool → Bool
        known_by x asks = unwrap_or (option_map (is_known_at probe) x) true && (not asks || has_parsed parsed k)

        lines_of : Option (Option Sections) → Option IndexedUnit → Bool
        lines_of a o = elim o [ None ↦ false | Some u ↦ asks_lines_in scope u.unit a probe ]

    still_all_passed_over : (rs : List UnitRange) → AllByRecursion (λ (r : UnitRange). IsPassed (lookups.Frames faults) probe first_state r.unit) rs → AllByRecursion (λ (r : UnitRange). IsPassed (lookups.Frames faults) probe next_state r.unit) rs
    still_all_passed_over [] all = tt
    still_all_passed_over (r ∷ rs) all = (still_passed_over r.unit all.0, still_all_passed_over rs all.1)

    pub still_passed_to : (ranges : List UnitRange) (place : Option UnitRange) → HasPassedTo (lookups.Frames faults) probe first_state ranges place → HasPassedTo (lookups.Frames faults) probe next_state ranges place
    still_passed_to ranges place passed =
        let rs = before_place place ranges in
        as_passed (lookups.Frames faults) probe next_state rs (still_all_passed_over rs (of_passed (lookups.Frames faults) probe first_state rs passed))

-- after an answer to the unit that a lookup waits for, what it had passed over stays so
pub passed_answered : (faults : OnFault) (probe n : ℕ) (given : Option Sections) (place : Option UnitRange) (old new : ContextState) → lookup_stop faults old.sections old.answers probe ≡ Ok (Waits n) → AfterAnswering n given (Ok tt) old new → HasPassed faults old probe place → HasPassed faults new probe place
passed_answered faults probe n given place old new waits a passed m e =
    let is : index_units old.sections ≡ Ok m = sym (ap index_units a.sections) ∙ e in
    let scope = main_scope old.sections m in
    let us = unit_records m.units in
    let stop : stop_along (asked_of faults old.sections old.answers probe m) (cover probe m.ranges) ≡ Ok (Waits n) = sym (ap (λ r. r >>= stop_in faults old.sections old.answers probe) is) ∙ waits in
    let there = open_there old.sections m.units old.answers n (waits_listed faults scope m.units old.answers probe n (cover probe m.ranges) stop).0 in
    let now : new.answers ≡ with_answer old.sections us old.answers n given = a.answers ∙ ap (λ (r : Result UnitIndex Error). elim r [ Err f ↦ old.answers | Ok x ↦ with_answer old.sections (unit_records x.units) old.answers n given ]) is in
    let all = still_passed_to faults scope m.units old.answers n there given probe old.parsed old.known new.known old.steps new.steps old.stop new.stop a.others (cover probe m.ranges) place (passed m is) in
    subst (λ d. HasPassedTo (lookups.Frames faults) probe (by_parts d new.answers new.parsed) (cover probe m.ranges) place) (sym a.sections)
    (subst (λ x. HasPassedTo (lookups.Frames faults) probe (by_parts old.sections x new.parsed) (cover probe m.ranges) place) (sym now)
    (subst (λ p. HasPassedTo (lookups.Frames faults) probe (by_parts old.sections (with_answer old.sections us old.answers n given) p) (cover probe m.ranges) place) (sym a.parsed) all))
  where
    by_parts : Sections → FirstAnswers → List Bool → UnitsState
    by_parts d answers parsed = record { scope = main_scope d m; units = m.units; answers = answers; parsed = parsed; known = new.known; steps = new.steps; stop = new.stop }

-- what is read along a lookup of the probe, by sections and first answers
module _ (faults : OnFault) (probe : ℕ) where
  abbrev Asks : Sections → FirstAnswers → UnitIndex → ℕ → Type 0
  Asks d answers m k = LookupAsks (asked_of faults d answers probe m) (cover probe m.ranges) k

  abbrev AsksLines : Sections → FirstAnswers → UnitIndex → ℕ → Type 0
  AsksLines d answers m k = Asks d answers m k × (asks_lines_of (main_scope d m) m.units answers probe k ≡ true)

  abbrev LinesBy : Sections → FirstAnswers → List Bool → List Bool → Type 0
  LinesBy d answers old new = (m : UnitIndex) → index_units d ≡ Ok m → ParsesOnly (AsksLines d answers m) old new

  abbrev EntriesBy : Sections → FirstAnswers → List KnownEntries → List KnownEntries → Type 0
  EntriesBy d answers old new = (m : UnitIndex) → index_units d ≡ Ok m → (k : ℕ) → (slice_get new k ≡ slice_get old k) ⊎ Asks d answers m k

  abbrev DetailsBy : Sections → FirstAnswers → List KnownEntries → List KnownEntries → Type 0
  DetailsBy d answers old new = (m : UnitIndex) → index_units d ≡ Ok m → LearnsDetailsAt (function_offset_of (main_scope d m) m.units answers probe) old new

  reads_by : (d : Sections) (answers : FirstAnswers) (old new : ContextState) → new.sections ≡ d → new.answers ≡ answers → LinesBy d answers old.parsed new.parsed → EntriesBy d answers old.known new.known → DetailsBy d answers old.known new.known → ReadsAsked faults probe old new
  reads_by d answers old new s a lines entries details = record {
    lines = subst (λ x. LinesBy x new.answers old.parsed new.parsed) (sym s) (subst (λ x. LinesBy d x old.parsed new.parsed) (sym a) lines);
    entries = subst (λ x. EntriesBy x new.answers old.known new.known) (sym s) (subst (λ x. EntriesBy d x old.known new.known) (sym a) entries);
    details = subst (λ x. DetailsBy x new.answers old.known new.known) (sym s) (subst (λ x. DetailsBy d x old.known new.known) (sym a) details);
  }

  pub reads_nothing : (c : ContextState) → ReadsAsked faults probe c c
  reads_nothing c = record { lines = λ m e n p. inl p; entries = λ m e n. inl refl; details = λ m e n o k. inl k }

  -- one more step of the lookup
  pub reads_more : {X : Type 0} (r : Result X Error) (first mid new : ContextState) → AfterFrames faults probe r mid new → ReadsAsked faults probe first mid → ReadsAsked faults probe first new
  reads_more r first mid new a h = reads_by mid.sections mid.answers first new a.sections a.answers
      (λ m e. parses_more _ _ first.parsed mid.parsed new.parsed (h.lines m e) (a.only m e) (λ n q. q))
      (λ m e k. elim (a.learns m e k) [
        | inl x ↦ elim (h.entries m e k) [ inl y ↦ inl (x ∙ y) | inr q ↦ inr q ]
        | inr q ↦ inr q
      ])
      (λ m e k offset known. elim (a.details m e k offset known) [ inl before ↦ h.details m e k offset before | inr here ↦ inr here ])

  -- the answer to the load that it waits for
  module _ (n : ℕ) (first mid new : ContextState) (waits : lookup_stop faults mid.sections mid.answers probe ≡ Ok (Waits n)) (h : ReadsAsked faults probe first mid) where
    stop_is : (m : UnitIndex) → index_units mid.sections ≡ Ok m → stop_along (asked_of faults mid.sections mid.answers probe m) (cover probe m.ranges) ≡ Ok (Waits n)
    stop_is m e = sym (ap (λ r. r >>= stop_in faults mid.sections mid.answers probe) e) ∙ waits

    waits_in : (m : UnitIndex) → index_units mid.sections ≡ Ok m → Asks mid.sections mid.answers m n
    waits_in m e = asks_waiting (asked_of faults mid.sections mid.answers probe m) n (cover probe m.ranges) (stop_is m e)

    -- what was asked for still is by these first answers
    by_answers : (answers : FirstAnswers) → new.sections ≡ mid.sections → new.answers ≡ answers → new.parsed ≡ mid.parsed → ((k : ℕ) → k ≢ n → slice_get new.known k ≡ slice_get mid.known k)
        → ((m : UnitIndex) → index_units mid.sections ≡ Ok m → (k : ℕ) → Asks mid.sections mid.answers m k → Asks mid.sections answers m k)
        → ((m : UnitIndex) → index_units mid.sections ≡ Ok m → (k : ℕ) → asks_lines_of (main_scope mid.sections m) m.units mid.answers probe k ≡ true → asks_lines_of (main_scope mid.sections m) m.units answers probe k ≡ true)
        → LearnsNoDetails mid.known new.known
        → ((m : UnitIndex) → index_units mid.sections ≡ Ok m → (k offset : ℕ) → function_offset_of (main_scope mid.sections m) m.units mid.answers probe k ≡ Some offset → function_offset_of (main_scope mid.sections m) m.units answers probe k ≡ Some offset)
        → ReadsAsked faults probe first new
    by_answers answers s a parsed others asks lines learns there = reads_by mid.sections answers first new s a
        (λ m e k p. elim (h.lines m e k (subst (λ x. has_parsed x k ≡ true) parsed p)) [
          | inl before ↦ inl before
          | inr q ↦ inr (asks m e k q.0, lines m e k q.1)
        ])
        (λ m e k. elim (eqb_tells k n) [
          | inl p ↦ inr (asks m e k (subst (λ i. Asks mid.sections mid.answers m i) (sym p.1) (waits_in m e)))
          | inr q ↦ elim (h.entries m e k) [ inl y ↦ inl (others k q.1 ∙ y) | inr asked ↦ inr (asks m e k asked) ]
        ])
        (λ m e k offset known. elim (h.details m e k offset (learns k offset known)) [ inl before ↦ inl before | inr here ↦ inr (there m e k offset here) ])

    pub reads_answered : (given : Option Sections) (r : Result (Unit {0}) Error) → AfterAnswering n given r mid new → ReadsAsked faults probe first new
    reads_answered given (Ok x) a = by_answers (answered mid.sections mid.answers n given) a.sections a.answers a.parsed a.others
        (λ m e k q. subst (λ x. Asks mid.sections x m k) (sym (now_is m e)) (still_asked faults (main_scope mid.sections m) m.units mid.answers n (opens m e) given probe (cover probe m.ranges) k q))
        (λ m e k q. subst (λ x. asks_lines_of (main_scope mid.sections m) m.units x probe k ≡ true) (sym (now_is m e)) (still_lines faults (main_scope mid.sections m) m.units mid.answers n (opens m e) given probe k q))
        (learns_no_details mid.known new.known a.functions)
        (λ m e k offset q. subst (λ x. function_offset_of (main_scope mid.sections m) m.units x probe k ≡ Some offset) (sym (now_is m e)) (still_there faults (main_scope mid.sections m) m.units mid.answers n (opens m e) given probe k offset q))
      where
        now_is : (m : UnitIndex) → index_units mid.sections ≡ Ok m → answered mid.sections mid.answers n given ≡ with_answer mid.sections (unit_records m.units) mid.answers n given
        now_is m e = ap (λ (r : Result UnitIndex Error). elim r [ Err f ↦ mid.answers | Ok x ↦ with_answer mid.sections (unit_records x.units) mid.answers n given ]) e

        opens : (m : UnitIndex) → index_units mid.sections ≡ Ok m → IsOpenThere mid.sections m.units mid.answers n
        opens m e = open_there mid.sections m.units mid.answers n (waits_listed faults (main_scope mid.sections m) m.units mid.answers probe n (cover probe m.ranges) (stop_is m e)).0
    reads_answered given (Err f) a = by_answers mid.answers a.sections a.refused.1 a.parsed a.others (λ m e k q. q) (λ m e k q. q) (learns_no_details mid.known new.known a.functions) (λ m e k offset q. q)
