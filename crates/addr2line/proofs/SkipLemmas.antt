-- A lookup that doesn't wait, where each unit that has no answer is answered none (on
-- specs/Lookups.antt).
use Rattle.addr2line.proofs.Common.{◌≡◌, ◌≢◌, ℕ, zero, suc, get_or, Bool, true, false, List, [], ◌∷◌, slice_get, Option, Some, None, option_and_then, option_map, unwrap_or, Result, Ok, Err, refl, sym, ap, subst, ◌∙◌, if◌then◌else◌, set, slice_get-map, is_none, Error, ◌>>=◌, ExactlyUnlessOom, Sections, UnitRecord, Scope, LookupResult, Load, Output, OnFault, UnitRange, cover, FrameRecord, LookupStop, Waits, Finds, FindsNothing, after_fault, answer_of, asked_frames, frames_of_number, is_waiting, main_scope, or_stop, readable_view, stop_along, view_of_number, with_answer, IfLoad, IfOutput, SkipsTo, FramesResult, frames_by, frames_in, function_by, UnitIndex, index_units, IndexedUnit, unit_records, FirstAnswers, SplitLoad, View, decided_answer, is_open, load_of_unit, verdict, verdict_by, answered, ended_with, found_at, lookup_stop, stop_in, view_found, with_none, frames_by_lines}
use Rattle.std.proofs.Math.Seq.{map-set_same}
use Rattle.addr2line_lines.specs.UnitLines.{unit_lines}
use Rattle.addr2line_units.proofs.FramesFoundLemmas.{always_along, decided_by_frames, found_along, found_by_unit, has_frames}

-- a unit that is decided has its verdict where none is answered to the others
decided_by : (d : Sections) (u : UnitRecord) (l : Result (Option SplitLoad) Error) (a : Option (Option Sections)) (v : Result View Error) → verdict_by d u l a ≡ Some v → verdict_by d u l (Some (unwrap_or a None)) ≡ Some v
decided_by d u l (Some x) v e = e
decided_by d u (Err f) None v e = e
decided_by d u (Ok None) None v e = e
decided_by d u (Ok (Some load)) None v e = absurd cc

decided_unit : (scope : Scope) (probe : ℕ) (u : IndexedUnit) (a : Option (Option Sections)) → frames_in scope u a probe ≢ Ok None → frames_in scope u (Some (unwrap_or a None)) probe ≡ frames_in scope u a probe
unfolding frames_by_lines
decided_unit scope probe u a ne = by (verdict scope.file.sections u.unit a) refl
  where
    frames_at : Option (Result View Error) → FramesResult
    frames_at w = if is_none w then Ok None else (frames_by u.language (unit_lines scope.file.sections u.unit) probe (function_by scope probe w) >>= λ frames. Ok (Some frames))

    by : (w : Option (Result View Error)) → verdict scope.file.sections u.unit a ≡ w → frames_at (verdict scope.file.sections u.unit (Some (unwrap_or a None))) ≡ frames_at (verdict scope.file.sections u.unit a)
    by None e = absurd (ne (ap frames_at e))
    by (Some v) e = ap frames_at (decided_by scope.file.sections u.unit (load_of_unit scope.file.sections 0 u.unit) a v e ∙ sym e)

decided_number : (scope : Scope) (units : List IndexedUnit) (answers : FirstAnswers) (probe n : ℕ) → frames_of_number scope units answers probe n ≢ Ok None
    → frames_of_number scope units (with_none answers) probe n ≡ frames_of_number scope units answers probe n
decided_number scope units answers probe n ne = of_unit (slice_get units n) ne
  where
    frames_at : Option IndexedUnit → Option (Option Sections) → FramesResult
    frames_at o a = elim o [ None ↦ Ok (Some []) | Some u ↦ frames_in scope u a probe ]

    of_answer : (u : IndexedUnit) (o : Option (Option (Option Sections))) → frames_in scope u (unwrap_or o None) probe ≢ Ok None
        → frames_in scope u (unwrap_or (option_map (λ a. Some (unwrap_or a None)) o) None) probe ≡ frames_in scope u (unwrap_or o None) probe
    of_answer u None h = refl
    of_answer u (Some a) h = decided_unit scope probe u a h

    of_unit : (o : Option IndexedUnit) → frames_at o (answer_of answers n) ≢ Ok None → frames_at o (answer_of (with_none answers) n) ≡ frames_at o (answer_of answers n)
    of_unit None h = refl
    of_unit (Some u) h =
        ap (λ o. frames_in scope u (unwrap_or o None) probe) (slice_get-map (λ (a : Option (Option Sections)). Some (unwrap_or a None)) answers n)
        ∙ of_answer u (slice_get answers n) h

decided_asked : (faults : OnFault) (scope : Scope) (units : List IndexedUnit) (answers : FirstAnswers) (probe n : ℕ) → asked_frames faults scope units answers probe n ≢ Ok None
    → asked_frames faults scope units (with_none answers) probe n ≡ asked_frames faults scope units answers probe n
decided_asked faults scope units answers probe n ne =
    ap (after_fault faults) (decided_number scope units answers probe n (λ e. ne (ap (after_fault faults) e)))

-- along ranges
decided_step : (n : ℕ) (a b : Result LookupStop Error) (r s : FramesResult) → (r ≢ Ok None → s ≡ r) → is_waiting (r >>= or_stop n a) ≡ false → (is_waiting a ≡ false → b ≡ a) → (s >>= or_stop n b) ≡ (r >>= or_stop n a)
decided_step n a b (Err e) s same w rest = ap (λ x. x >>= or_stop n b) (same (λ q. absurd cc))
decided_step n a b (Ok None) s same w rest = absurd cc
decided_step n a b (Ok (Some [])) s same w rest = ap (λ x. x >>= or_stop n b) (same (λ q. absurd cc)) ∙ rest w
decided_step n a b (Ok (Some (x ∷ xs))) s same w rest = ap (λ x. x >>= or_stop n b) (same (λ q. absurd cc))

pub decided_stop_along : (f h : ℕ → FramesResult) → ((n : ℕ) → f n ≢ Ok None → h n ≡ f n) → (ranges : List UnitRange) → is_waiting (stop_along f ranges) ≡ false → stop_along h ranges ≡ stop_along f ranges
decided_stop_along f h same [] w = refl
decided_stop_along f h same (r ∷ ranges) w = decided_step r.unit (stop_along f ranges) (stop_along h ranges) (f r.unit) (h r.unit) (same r.unit) w (decided_stop_along f h same ranges)

decided_stop : (faults : OnFault) (d : Sections) (answers : FirstAnswers) (probe : ℕ) → is_waiting (lookup_stop faults d answers probe) ≡ false → lookup_stop faults d (with_none answers) probe ≡ lookup_stop faults d answers probe
decided_stop faults d answers probe w = of_index (index_units d) w
  where
    of_index : (r : Result UnitIndex Error) → is_waiting (r >>= stop_in faults d answers probe) ≡ false → (r >>= stop_in faults d (with_none answers) probe) ≡ (r >>= stop_in faults d answers probe)
    of_index (Err e) h = refl
    of_index (Ok m) h = decided_stop_along _ _ (decided_asked faults (main_scope d m) m.units answers probe) (cover probe m.ranges) h

-- the view of a unit in which a lookup has found something
found_view : (d : Sections) (m : UnitIndex) (answers : FirstAnswers) (probe n : ℕ) (o : Option IndexedUnit) → has_frames (elim o [ None ↦ Ok (Some []) | Some u ↦ frames_in (main_scope d m) u (answer_of answers n) probe ]) ≡ true
    → option_and_then (λ u. verdict d u (answer_of answers n)) (option_map (λ (u : IndexedUnit). u.unit) o) ≢ None
unfolding has_frames
found_view d m answers probe n None h e = absurd cc
found_view d m answers probe n (Some u) h e =
    let closed = decided_by_frames (main_scope d m) u (answer_of answers n) probe h in
    let f : ◌≡◌ {A = Bool} true false = sym (ap is_none e) ∙ closed in
    cc

decided_verdict : (d : Sections) (u : UnitRecord) (o : Option (Option (Option Sections))) → verdict d u (unwrap_or o None) ≢ None → verdict d u (unwrap_or (option_map (λ a. Some (unwrap_or a None)) o) None) ≡ verdict d u (unwrap_or o None)
decided_verdict d u None ne = refl
decided_verdict d u (Some a) ne = by (verdict d u a) refl
  where
    by : (w : Option (Result View Error)) → verdict d u a ≡ w → verdict d u (Some (unwrap_or a None)) ≡ verdict d u a
    by None e = absurd (ne e)
    by (Some v) e = decided_by d u (load_of_unit d 0 u) a v e ∙ sym e

decided_view : (d : Sections) (us : List UnitRecord) (answers : FirstAnswers) (n : ℕ) → view_of_number d us answers n ≢ None → view_of_number d us (with_none answers) n ≡ view_of_number d us answers n
decided_view d us answers n ne = by (slice_get us n) ne
  where
    by : (o : Option UnitRecord) → option_and_then (λ u. verdict d u (answer_of answers n)) o ≢ None → option_and_then (λ u. verdict d u (answer_of (with_none answers) n)) o ≡ option_and_then (λ u. verdict d u (answer_of answers n)) o
    by None h = refl
    by (Some u) h =
        ap (λ o. verdict d u (unwrap_or o None)) (slice_get-map (λ (a : Option (Option Sections)). Some (unwrap_or a None)) answers n)
        ∙ decided_verdict d u (slice_get answers n) h

-- the view in which a lookup has found something
decided_seen : (faults : OnFault) (d : Sections) (answers : FirstAnswers) (probe n : ℕ) (frames : List FrameRecord) → lookup_stop faults d answers probe ≡ Ok (Finds n frames) → view_found d (with_none answers) (Finds n frames) ≡ view_found d answers (Finds n frames)
decided_seen faults d answers probe n frames is = of_index (index_units d) is
  where
    view_in : FirstAnswers → Result UnitIndex Error → Option View
    view_in a r = elim r [ Err e ↦ None | Ok m ↦ readable_view (view_of_number d (unit_records m.units) a n) ]

    of_index : (r : Result UnitIndex Error) → (r >>= stop_in faults d answers probe) ≡ Ok (Finds n frames) → view_in (with_none answers) r ≡ view_in answers r
    of_index (Err e) h = refl
    of_index (Ok m) h =
        let asked = asked_frames faults (main_scope d m) m.units answers probe in
        let along = found_along (λ _. true) asked n frames (cover probe m.ranges) (always_along asked (cover probe m.ranges)) h in
        let there = found_by_unit faults (frames_of_number (main_scope d m) m.units answers probe n) along.0 in
        let known = subst (λ o. option_and_then (λ u. verdict d u (answer_of answers n)) o ≢ None) (sym (slice_get-map (λ (u : IndexedUnit). u.unit) m.units n)) (found_view d m answers probe n (slice_get m.units n) there) in
        ap readable_view (decided_view d (unit_records m.units) answers n known)

-- what a lookup that ended has found
module _ {V : Type 0} (faults : OnFault) (value_of : LookupStop → Option View → V) (d : Sections) where
  abbrev value_at : FirstAnswers → LookupStop → Result (Option V) Error
  value_at answers s = Ok (ended_with (value_of s (view_found d answers s)) s)

  pub decided_found : (answers : FirstAnswers) (probe : ℕ) → found_at faults value_of d answers probe ≢ Ok None → found_at faults value_of d (with_none answers) probe ≡ found_at faults value_of d answers probe
  decided_found answers probe ne =
      ap (λ r. r >>= value_at (with_none answers)) (decided_stop faults d answers probe (ended (lookup_stop faults d answers probe) ne)) ∙ of_stop (lookup_stop faults d answers probe) refl
    where
      ended : (r : Result LookupStop Error) → (r >>= value_at answers) ≢ Ok None → is_waiting r ≡ false
      ended (Err e) h = refl
      ended (Ok (Waits n)) h = absurd (h refl)
      ended (Ok (Finds n frames)) h = refl
      ended (Ok FindsNothing) h = refl

      of_stop : (r : Result LookupStop Error) → lookup_stop faults d answers probe ≡ r → (r >>= value_at (with_none answers)) ≡ (r >>= value_at answers)
      of_stop (Err e) is = refl
      of_stop (Ok (Waits n)) is = refl
      of_stop (Ok FindsNothing) is = refl
      of_stop (Ok (Finds n frames)) is = ap (λ (view : Option View). Ok (Some (value_of (Finds n frames) view))) (decided_seen faults d answers probe n frames is)

-- none as the answer of one more unit
none_closed : (d : Sections) (u : UnitRecord) (a : Option (Option Sections)) → ◌≡◌ {A = Option (Option Sections)} (Some (unwrap_or (decided_answer d u a None) None)) (Some (unwrap_or a None))
none_closed d u (Some x) = ap (λ (a : Option (Option Sections)). Some (unwrap_or a None)) (of_load (load_of_unit d 0 u))
  where
    of_load : (l : Result (Option SplitLoad) Error) → (if is_none (verdict_by d u l (Some x)) then Some None else Some x) ≡ Some x
    of_load (Err e) = refl
    of_load (Ok None) = refl
    of_load (Ok (Some load)) = refl
none_closed d u None = of_open (is_open d u None)
  where
    of_open : (b : Bool) → ◌≡◌ {A = Option (Option Sections)} (Some (unwrap_or (if b then Some None else None) None)) (Some None)
    of_open true = refl
    of_open false = refl

pub none_after : (d : Sections) (answers : FirstAnswers) (n : ℕ) → with_none (answered d answers n None) ≡ with_none answers
none_after d answers n = of_index (index_units d)
  where
    some_none : Option (Option Sections) → Option (Option Sections)
    some_none a = Some (unwrap_or a None)

    read_at : (xs : FirstAnswers) (k : ℕ) → unwrap_or (slice_get xs k) None ≡ get_or xs k None
    read_at [] k = refl
    read_at (x ∷ xs) zero = refl
    read_at (x ∷ xs) (suc k) = read_at xs k

    of_unit : (o : Option UnitRecord) → with_none (elim o [ None ↦ answers | Some u ↦ set answers n (decided_answer d u (answer_of answers n) None) ]) ≡ with_none answers
    of_unit None = refl
    of_unit (Some u) = map-set_same (λ (a : Option (Option Sections)). Some (unwrap_or a None)) answers n (decided_answer d u (answer_of answers n) None) None
        (none_closed d u (answer_of answers n) ∙ ap (λ (a : Option (Option Sections)). some_none a) (read_at answers n))

    of_index : (r : Result UnitIndex Error) → with_none (elim r [ Err e ↦ answers | Ok m ↦ with_answer d (unit_records m.units) answers n None ]) ≡ with_none answers
    of_index (Err e) = refl
    of_index (Ok m) = of_unit (slice_get (unit_records m.units) n)

-- what a lookup may give after none as an answer it may give before it
module _ {V X : Type 0} (faults : OnFault) (value_of : LookupStop → Option View → V) (see : X → V) where
  pub skip_told : {L D S : Type 0} (d : Sections) (answers : FirstAnswers) (probe n : ℕ) (sections_of : L → Sections) (answers_of : L → FirstAnswers) (probe_of : L → ℕ) (r : LookupResult L (Result X Error) D S)
      → IfLoad r (λ c. (sections_of c ≡ d) × (answers_of c ≡ answered d answers n None) × (probe_of c ≡ probe))
      → IfOutput r (λ o. ExactlyUnlessOom (λ x. Some (see x)) o (found_at faults value_of d (answered d answers n None) probe))
      → (o : Result X Error) → SkipsTo (λ c p. ExactlyUnlessOom (λ x. Some (see x)) p (found_at faults value_of (sections_of c) (with_none (answers_of c)) (probe_of c))) r o
      → ExactlyUnlessOom (λ x. Some (see x)) o (found_at faults value_of d (with_none answers) probe)
  skip_told d answers probe n sections_of answers_of probe_of (Load c) load output o skips =
      subst (λ a. ExactlyUnlessOom (λ x. Some (see x)) o (found_at faults value_of d a probe)) (none_after d answers n)
      (subst (λ p. ExactlyUnlessOom (λ x. Some (see x)) o (found_at faults value_of d (with_none (answered d answers n None)) p)) load.2
      (subst (λ a. ExactlyUnlessOom (λ x. Some (see x)) o (found_at faults value_of d (with_none a) (probe_of c))) load.1
      (subst (λ s. ExactlyUnlessOom (λ x. Some (see x)) o (found_at faults value_of s (with_none (answers_of c)) (probe_of c))) load.0 skips)))
  skip_told d answers probe n sections_of answers_of probe_of (Output p) load output o skips =
      subst (λ q. ExactlyUnlessOom (λ x. Some (see x)) q (found_at faults value_of d (with_none answers) probe)) skips (of_output p output)
    where
      then_none : found_at faults value_of d (answered d answers n None) probe ≢ Ok None → found_at faults value_of d (with_none answers) probe ≡ found_at faults value_of d (answered d answers n None) probe
      then_none ne = ap (λ a. found_at faults value_of d a probe) (sym (none_after d answers n)) ∙ decided_found faults value_of d (answered d answers n None) probe ne

      of_output : (q : Result X Error) → ExactlyUnlessOom (λ x. Some (see x)) q (found_at faults value_of d (answered d answers n None) probe) → ExactlyUnlessOom (λ x. Some (see x)) q (found_at faults value_of d (with_none answers) probe)
      of_output (Ok x) h = then_none (λ e. ok_none (sym h ∙ e)) ∙ h
        where
          ok_none : ◌≡◌ {A = Result (Option V) Error} (Ok (Some (see x))) (Ok None) → ⊥
          ok_none k = cc
      of_output (Err f) h = λ ne. then_none (λ e. err_none (sym (h ne) ∙ e)) ∙ h ne
        where
          err_none : ◌≡◌ {A = Result (Option V) Error} (Err f) (Ok None) → ⊥
          err_none k = cc
