-- Answers to loads, whatever calls come after them (on specs/AnswerLaws.antt).
use Rattle.addr2line.proofs.Common.{◌≡◌, ◌≢◌, ◌⊎◌, inl, inr, ℕ, zero, suc, ◌++◌, ◌==◌, Bool, true, false, List, [], ◌∷◌, length, slice_get, Option, Some, None, Result, Ok, Err, refl, sym, ap, subst, ◌∙◌, set, length-map, length-set, eqb_tells, is_none, Error, ◌>>=◌, Sections, UnitRecord, Scope, OnFault, Stop, Skip, UnitRange, cover, LookupStop, Waits, Finds, FindsNothing, answer_of, is_waiting, main_scope, with_answer, before_others, forgotten, load_of_number, loads_along, LeadTo, IndexedUnit, unit_records, UnitIndex, index_units, FirstAnswers, SplitLoad, awaited_load, decided_answer, load_of_unit, verdict_by, answered_load, listed_there, load_gone, load_others, load_own, never_waits_alone, answered, Given, Answered, Abandoned, HistoryCall, AsksLocation, AsksRange, AsksFrames, AsksUnit, AsksLoads, AnswersLoad, Forgets, ParsesLines, ParsesFunctions, answers_after, answers_given, answers_left, where_waiting, parsed_answers, lookup_stop, stop_in, get_set_other}
use Rattle.std.specs.List.{AllByRecursion}
use Rattle.std.specs.Prelude.{is_some, unwrap_or, if◌then◌else◌}
use Rattle.addr2line_units.specs.declared.parses.ReadingDepth.{ReadingDepth}
use Rattle.addr2line_units.specs.Parses.{answers_after_parse, read_of_unit, unless_fault}
use Rattle.addr2line_units.specs.LoadsLaws.{IsListed}
use Rattle.addr2line_units.specs.LoadsLaws as laws
use Rattle.addr2line.specs.AnswerLaws.{FirstAnswersStay, ForgetsNone, IsAnsweredBy, WaitsForNoneAnswered, answering}
use Rattle.addr2line.proofs.HistoryLawLemmas.{answers_are, as_many, loads_are}

-- no load is listed where none of the units that ranges lead to has one
none_along : (load : ℕ → Option SplitLoad) (ranges : List UnitRange) → ((k : ℕ) → LeadTo ranges k → is_some (load k) ≡ true → ⊥) → loads_along load ranges ≡ []
none_along load [] h = refl
none_along load (r ∷ ranges) h = by (load r.unit) refl (none_along load ranges (λ k lead. h k (inr lead)))
  where
    by : (o : Option SplitLoad) → load r.unit ≡ o → loads_along load ranges ≡ [] → before_others o (loads_along load ranges) ≡ []
    by None e rest = rest
    by (Some l) e rest = absurd (h r.unit (inl refl) (ap is_some e))

-- what holds of each load that is listed holds of one of them
of_listed : (P : ℕ → Type 0) (n : ℕ) (loads : List SplitLoad) → IsListed n loads → AllByRecursion (λ load. P load.unit) loads → P n
of_listed P n [] h all = absurd h
of_listed P n (l ∷ loads) (inl e) all = subst P e all.0
of_listed P n (l ∷ loads) (inr h) all = of_listed P n loads h all.1

-- the first answer of a unit after a parse of all functions: as it was, or none where it was open
at_parse : (depth : ReadingDepth) (scope : Scope) (us : List UnitRecord) (answers : FirstAnswers) (k : ℕ)
    → (answer_of (answers_after_parse depth scope us answers) k ≡ answer_of answers k)
    ⊎ ((u : UnitRecord) × (slice_get us k ≡ Some u) × (answer_of (answers_after_parse depth scope us answers) k ≡ decided_answer scope.file.sections u (answer_of answers k) None))
at_parse depth scope [] answers k = inl refl
at_parse depth scope (u ∷ us) [] k = inl refl
at_parse depth scope (u ∷ us) (a ∷ answers) zero = inr (u, refl, refl)
at_parse depth scope (u ∷ us) (a ∷ answers) (suc k) = by (read_of_unit depth scope u a) (at_parse depth scope us answers k)
  where
    after : Result (Unit {0}) Error → Option (Option Sections)
    after r = answer_of (decided_answer scope.file.sections u a None ∷ unless_fault r (answers_after_parse depth scope us answers) answers) (suc k)

    by : (r : Result (Unit {0}) Error)
        → (answer_of (answers_after_parse depth scope us answers) k ≡ answer_of answers k)
        ⊎ ((v : UnitRecord) × (slice_get us k ≡ Some v) × (answer_of (answers_after_parse depth scope us answers) k ≡ decided_answer scope.file.sections v (answer_of answers k) None))
        → (after r ≡ answer_of answers k)
        ⊎ ((v : UnitRecord) × (slice_get us k ≡ Some v) × (after r ≡ decided_answer scope.file.sections v (answer_of answers k) None))
    by (Ok x) h = h
    by (Err x) h = inl refl

parse_length : (depth : ReadingDepth) (scope : Scope) (us : List UnitRecord) (answers : FirstAnswers) → length (answers_after_parse depth scope us answers) ≡ length answers
parse_length depth scope [] answers = refl
parse_length depth scope (u ∷ us) [] = refl
parse_length depth scope (u ∷ us) (a ∷ answers) = ap suc (by (read_of_unit depth scope u a) (parse_length depth scope us answers))
  where
    by : (r : Result (Unit {0}) Error) → length (answers_after_parse depth scope us answers) ≡ length answers → length (unless_fault r (answers_after_parse depth scope us answers) answers) ≡ length answers
    by (Ok x) h = h
    by (Err x) h = refl

module _ (d : Sections) (m : UnitIndex) (probe : ℕ) (e : index_units d ≡ Ok m) where
  abbrev us : List UnitRecord
  us = unit_records m.units

  abbrev load : FirstAnswers → ℕ → Option SplitLoad
  load answers = load_of_number d us answers

  abbrev load_by : ℕ → Option (Option Sections) → Option SplitLoad
  load_by k a = elim (slice_get us k) [ None ↦ None | Some u ↦ awaited_load d k u a ]

  -- each unit that covers the probe and waits has an answer among these
  abbrev WaitFor : List (ℕ × Option Sections) → FirstAnswers → Type 0
  WaitFor given answers = ((k : ℕ) → LeadTo (cover probe m.ranges) k → is_some (load answers k) ≡ true → IsAnsweredBy given k)
      × (length us ≡ length answers)

  not_some : (o : Option SplitLoad) → o ≡ None → is_some o ≡ true → ⊥
  not_some o is there = let f : ◌≡◌ {A = Bool} true false = sym there ∙ ap is_some is in absurd cc

  -- after one more answer
  one_answered : (given more : List (ℕ × Option Sections)) (answers : FirstAnswers) (n : ℕ) (x : Option Sections)
      → ((k : ℕ) → k ≢ n → IsAnsweredBy given k → IsAnsweredBy more k) → WaitFor given answers → WaitFor more (answered d answers n x)
  one_answered given more answers n x further w = subst (WaitFor more) (sym (answers_are Stop d m probe e answers n x)) (
    λ k lead there. by k lead there (eqb_tells k n),
    w.1 ∙ sym (as_many Stop d m probe e answers n x),
  )
    where
      by : (k : ℕ) → LeadTo (cover probe m.ranges) k → is_some (load (with_answer d us answers n x) k) ≡ true → ((k == n) ≡ true) × (k ≡ n) ⊎ ((k == n) ≡ false) × (k ≢ n) → IsAnsweredBy more k
      by k lead there (inl q) = absurd (not_some (load (with_answer d us answers n x) k) (ap (load (with_answer d us answers n x)) q.1 ∙ load_gone d us answers n x w.1) there)
      by k lead there (inr q) = further k q.1 (w.0 k lead (sym (ap is_some (load_others d us answers n x k q.1)) ∙ there))

  -- after answers to a lookup of some address, where no unit waits
  all_given : (faults : OnFault) (asked : ℕ) (answers : FirstAnswers) (given : List Given) → WaitFor [] answers → WaitFor [] (answers_given faults d asked answers given)
  all_given faults asked answers [] w = w
  all_given faults asked answers (Abandoned ∷ given) w = w
  all_given faults asked answers (Answered x ∷ given) w = by (λ n. all_given faults asked (answered d answers n x) given (one_answered [] [] answers n x (λ k ne h. h) w)) (lookup_stop faults d answers asked)
    where
      by : ((n : ℕ) → WaitFor [] (answers_given faults d asked (answered d answers n x) given)) → (s : Result LookupStop Error) → WaitFor [] (where_waiting (λ n. answers_given faults d asked (answered d answers n x) given) answers s)
      by further (Ok (Waits n)) = further n
      by further (Ok (Finds n frames)) = w
      by further (Ok FindsNothing) = w
      by further (Err f) = w

  -- after a unit is forgotten that doesn't cover the probe
  all_forgotten : (answers : FirstAnswers) (n : ℕ) → (LeadTo (cover probe m.ranges) n → ⊥) → WaitFor [] answers → WaitFor [] (forgotten answers n)
  all_forgotten answers n other w = (λ k lead there. w.0 k lead (sym (same k (λ q. other (subst (LeadTo (cover probe m.ranges)) q lead))) ∙ there), w.1 ∙ sym (length-set answers n None))
    where
      same : (k : ℕ) → k ≢ n → is_some (load (forgotten answers n) k) ≡ is_some (load answers k)
      same k ne = ap (λ o. is_some (load_by k (unwrap_or o None))) (get_set_other answers n k None ne)

  -- after a parse of all functions
  all_parsed : (depth : ReadingDepth) (answers : FirstAnswers) → WaitFor [] answers → WaitFor [] (parsed_answers depth d answers)
  all_parsed depth answers w = subst (WaitFor []) (sym (ap (λ (r : Result UnitIndex Error). elim r [ Err x ↦ answers | Ok i ↦ answers_after_parse depth (main_scope d i) (unit_records i.units) answers ]) e)) (
    λ k lead there. by k lead there (at_parse depth (main_scope d m) us answers k),
    w.1 ∙ sym (parse_length depth (main_scope d m) us answers),
  )
    where
      after : FirstAnswers
      after = answers_after_parse depth (main_scope d m) us answers

      by : (k : ℕ) → LeadTo (cover probe m.ranges) k → is_some (load after k) ≡ true
          → (answer_of after k ≡ answer_of answers k) ⊎ ((u : UnitRecord) × (slice_get us k ≡ Some u) × (answer_of after k ≡ decided_answer d u (answer_of answers k) None)) → IsAnsweredBy [] k
      by k lead there (inl same) = w.0 k lead (sym (ap (λ a. is_some (load_by k a)) same) ∙ there)
      by k lead there (inr (u, is, next)) =
          let here = ap (λ (o : Option UnitRecord). elim o [ None ↦ None | Some v ↦ awaited_load d k v (decided_answer d u (answer_of answers k) None) ]) is in
          absurd (not_some (load after k) (ap (load_by k) next ∙ here ∙ answered_load d us k u (answer_of answers k) None) there)

  -- after a call
  after_call : (answers : FirstAnswers) (call : HistoryCall) → ForgetsNone (LeadTo (cover probe m.ranges)) call → WaitFor [] answers → WaitFor [] (answers_left d answers call)
  after_call answers (AsksLocation p) f w = w
  after_call answers (AsksRange low high) f w = w
  after_call answers (AsksFrames p given) f w = all_given Stop p answers given w
  after_call answers (AsksUnit p given) f w = all_given Skip p answers given w
  after_call answers (AsksLoads p) f w = w
  after_call answers (AnswersLoad n x) f w = one_answered [] [] answers n x (λ k ne h. h) w
  after_call answers (Forgets n) f w = all_forgotten answers n f w
  after_call answers ParsesLines f w = w
  after_call answers (ParsesFunctions depth) f w = all_parsed depth answers w

  after_calls : (answers : FirstAnswers) (calls : List HistoryCall) → AllByRecursion (ForgetsNone (LeadTo (cover probe m.ranges))) calls → WaitFor [] answers → WaitFor [] (answers_after d answers calls)
  after_calls answers [] f w = w
  after_calls answers (call ∷ calls) f w = after_calls (answers_left d answers call) calls f.1 (after_call answers call f.0 w)

  after_answers : (given : List (ℕ × Option Sections)) (calls : List HistoryCall) (answers : FirstAnswers) → AllByRecursion (ForgetsNone (LeadTo (cover probe m.ranges))) calls → WaitFor given answers
      → WaitFor [] (answers_after d answers (answering given ++ calls))
  after_answers [] calls answers f w = after_calls answers calls f w
  after_answers (x ∷ given) calls answers f w = after_answers given calls (answered d answers x.0 x.1) f (one_answered (x ∷ given) given answers x.0 x.1 further w)
    where
      further : (k : ℕ) → k ≢ x.0 → IsAnsweredBy (x ∷ given) k → IsAnsweredBy given k
      further k ne (inl q) = absurd (ne (sym q))
      further k ne (inr h) = h

  -- so no lookup of the probe waits
  waits_not : (faults : OnFault) (answers : FirstAnswers) → WaitFor [] answers → is_waiting (lookup_stop faults d answers probe) ≡ false
  waits_not faults answers w = by (lookup_stop faults d answers probe) refl
    where
      by : (s : Result LookupStop Error) → lookup_stop faults d answers probe ≡ s → is_waiting s ≡ false
      by (Ok (Waits n)) is = absurd (never_waits_alone faults (main_scope d m) m.units answers probe n (cover probe m.ranges) (none_along (load answers) (cover probe m.ranges) w.0) (sym (ap (λ r. r >>= stop_in faults d answers probe) e) ∙ is))
      by (Ok (Finds n frames)) is = refl
      by (Ok FindsNothing) is = refl
      by (Err f) is = refl

  -- each that waits has an answer where each load that is listed has one
  all_answered : (answers : FirstAnswers) (given : List (ℕ × Option Sections)) → length us ≡ length answers → AllByRecursion (λ l. IsAnsweredBy given l.unit) (laws.loads_of d us answers (cover probe m.ranges)) → WaitFor given answers
  all_answered answers given many all = (
    λ k lead there. of_listed (IsAnsweredBy given) k (laws.loads_of d us answers (cover probe m.ranges)) (listed_there (load answers) (load_own d us answers) k there (cover probe m.ranges) lead) all,
    many,
  )

-- an answer stays where that of some unit is set to it
stays_set : (x : Option (Option Sections)) (answers : FirstAnswers) (k n : ℕ) → answer_of answers n ≡ x → answer_of (set answers k x) n ≡ x
stays_set x [] k n is = is
stays_set x (a ∷ answers) zero zero is = refl
stays_set x (a ∷ answers) zero (suc n) is = is
stays_set x (a ∷ answers) (suc k) zero is = is
stays_set x (a ∷ answers) (suc k) (suc n) is = stays_set x answers k n is

-- the first answer of one unit
module _ (d : Sections) (m : UnitIndex) (e : index_units d ≡ Ok m) (n : ℕ) (first : Option Sections) where
  abbrev records : List UnitRecord
  records = unit_records m.units

  -- a unit with an answer is decided
  answer_stays : (u : UnitRecord) (given : Option Sections) → decided_answer d u (Some first) given ≡ Some first
  answer_stays u given = by (load_of_unit d 0 u)
    where
      by : (l : Result (Option SplitLoad) Error) → (if is_none (verdict_by d u l (Some first)) then Some given else Some first) ≡ Some first
      by (Err x) = refl
      by (Ok None) = refl
      by (Ok (Some load)) = refl

  stays_one : (answers : FirstAnswers) (k : ℕ) (x : Option Sections) → answer_of answers n ≡ Some first → answer_of (answered d answers k x) n ≡ Some first
  stays_one answers k x is = subst (λ xs. answer_of xs n ≡ Some first) (sym (answers_are Stop d m 0 e answers k x)) (by (slice_get records k) (eqb_tells n k))
    where
      by : (o : Option UnitRecord) → ((n == k) ≡ true) × (n ≡ k) ⊎ ((n == k) ≡ false) × (n ≢ k)
          → answer_of (elim o [ None ↦ answers | Some u ↦ set answers k (decided_answer d u (answer_of answers k) x) ]) n ≡ Some first
      by None q = is
      by (Some u) (inl q) =
          let same = ap (λ j. decided_answer d u (answer_of answers j) x) (sym q.1) ∙ ap (λ a. decided_answer d u a x) is ∙ answer_stays u x in
          ap (λ a. answer_of (set answers k a) n) same ∙ stays_set (Some first) answers k n is
      by (Some u) (inr q) = ap (λ o. unwrap_or o None) (get_set_other answers k n (decided_answer d u (answer_of answers k) x) q.1) ∙ is

  stays_given : (faults : OnFault) (asked : ℕ) (answers : FirstAnswers) (given : List Given) → answer_of answers n ≡ Some first → answer_of (answers_given faults d asked answers given) n ≡ Some first
  stays_given faults asked answers [] is = is
  stays_given faults asked answers (Abandoned ∷ given) is = is
  stays_given faults asked answers (Answered x ∷ given) is = by (λ k. stays_given faults asked (answered d answers k x) given (stays_one answers k x is)) (lookup_stop faults d answers asked)
    where
      by : ((k : ℕ) → answer_of (answers_given faults d asked (answered d answers k x) given) n ≡ Some first) → (s : Result LookupStop Error) → answer_of (where_waiting (λ k. answers_given faults d asked (answered d answers k x) given) answers s) n ≡ Some first
      by further (Ok (Waits k)) = further k
      by further (Ok (Finds k frames)) = is
      by further (Ok FindsNothing) = is
      by further (Err f) = is

  stays_parsed : (depth : ReadingDepth) (answers : FirstAnswers) → answer_of answers n ≡ Some first → answer_of (parsed_answers depth d answers) n ≡ Some first
  stays_parsed depth answers is = ap (λ (r : Result UnitIndex Error). answer_of (elim r [ Err x ↦ answers | Ok i ↦ answers_after_parse depth (main_scope d i) (unit_records i.units) answers ]) n) e
      ∙ by (at_parse depth (main_scope d m) records answers n)
    where
      after : FirstAnswers
      after = answers_after_parse depth (main_scope d m) records answers

      by : (answer_of after n ≡ answer_of answers n) ⊎ ((u : UnitRecord) × (slice_get records n ≡ Some u) × (answer_of after n ≡ decided_answer d u (answer_of answers n) None)) → answer_of after n ≡ Some first
      by (inl same) = same ∙ is
      by (inr (u, there, next)) = next ∙ ap (λ a. decided_answer d u a None) is ∙ answer_stays u None

  stays_after : (answers : FirstAnswers) (call : HistoryCall) → ForgetsNone (λ k. k ≡ n) call → answer_of answers n ≡ Some first → answer_of (answers_left d answers call) n ≡ Some first
  stays_after answers (AsksLocation p) f is = is
  stays_after answers (AsksRange low high) f is = is
  stays_after answers (AsksFrames p given) f is = stays_given Stop p answers given is
  stays_after answers (AsksUnit p given) f is = stays_given Skip p answers given is
  stays_after answers (AsksLoads p) f is = is
  stays_after answers (AnswersLoad k x) f is = stays_one answers k x is
  stays_after answers (Forgets k) f is = ap (λ o. unwrap_or o None) (get_set_other answers k n None (λ same. f (sym same))) ∙ is
  stays_after answers ParsesLines f is = is
  stays_after answers (ParsesFunctions depth) f is = stays_parsed depth answers is

pub first_answers_stay : FirstAnswersStay
first_answers_stay d m answers n first [] e is f = is
first_answers_stay d m answers n first (call ∷ calls) e is f =
    first_answers_stay d m (answers_left d answers call) n first calls e (stays_after d m e n first answers call f.0 is) f.1

pub waits_for_none : WaitsForNoneAnswered
waits_for_none faults d m probe answers given calls e many all forgets =
    let us_many = length-map m.units (λ (u : IndexedUnit). u.unit) ∙ many in
    let listed = subst (λ ls. AllByRecursion (λ (l : SplitLoad). IsAnsweredBy given l.unit) ls) (loads_are faults d m probe e answers) all in
    waits_not d m probe e faults _ (after_answers d m probe e given calls answers forgets (all_answered d m probe e answers given us_many listed))
