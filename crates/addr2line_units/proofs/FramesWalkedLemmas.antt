-- Walks over the units of a context, one unit after another (on specs/UnitsAfter.antt).
use Rattle.addr2line_units.proofs.Common.{◌≡◌, ◌≢◌, first_so, second_so, list_all, inl, inr, ℕ, ◌++◌, ◌+◌, ◌≤◌, ◌&&◌, ◌||◌, Bool, true, false, not, List, [], ◌∷◌, AllByRecursion, append_assoc, filter, IsInOrder, slice_get, Some, None, Result, Ok, Err, refl, sym, ap, subst, ◌∙◌, arith, false≢true, ⊤, IfErr, Error, OutOfMemory, ◌>>=◌, Scope, Asks, UnitRange, FindsNothing, Finds, LookupAsks, LookupStop, Waits, asked_of_unit, asks_lines_of, ends_lookup, found_in_unit, function_offset_of, has_stopped, holds_along, or_stop, stop_along, LearnsDetailsAt, knows_at, steps_along, steps_in, ParsesOnly, has_parsed, IndexedUnit, FramesResult, AfterAsk, stop_at, IsFaultAt, UnitsState, asked_by, has_all_at, has_asked_at, has_asked_few_at, stop_of, takes_none_at, FirstAnswers}
use Rattle.std.proofs.Math.Nat.{le_trans, lt_of_le_of_lt}
use Rattle.addr2line_units.specs.declared.frames.Asks.TheVariants as lookups
use Rattle.addr2line_units.specs.UnitsAfter.{AfterWalkAlong, HasPassedTo, IsFaultAlong, is_passed, WereAsked, WereAskedFor}
use Rattle.addr2line_units.specs.IndexCover.{ends_sooner, is_before}
use Rattle.addr2line_units.proofs.IndexPlaceLemmas.{up_to}
use Rattle.addr2line_units.proofs.FramesLookupLemmas.{faults_there, goes_on, holds_both, holds_ended, holds_first, holds_rest, parses_more}
use Rattle.addr2line_units.proofs.EntriesStayLemmas.{known_twice}
use Rattle.addr2line_units.proofs.LocationsWalkLemmas.{lines_first, lines_over}
use Rattle.addr2line_units.proofs.UnitsLinesLemmas.{steps_first, steps_of_one, steps_within}

-- the unit of the first range is asked
asked_first : (frames : ℕ → FramesResult) (r : UnitRange) (rest ranges all : List UnitRange) → ranges ≡ r ∷ rest → ((n : ℕ) → LookupAsks frames ranges n → LookupAsks frames all n)
    → LookupAsks frames all r.unit
asked_first frames r rest ranges all e asked = asked r.unit (subst (λ xs. LookupAsks frames xs r.unit) (sym e) (inl refl))

-- so many steps were taken in lines, with the most that are left, where a location is asked for
abbrev pub StepsLeftWithin : Asks → ℕ → ℕ → UnitsState → UnitsState → Type 0
StepsLeftWithin lookups.Location left most old now = now.steps + left ≤ old.steps + most
StepsLeftWithin (lookups.Frames faults) left most old now = Unit {0}

-- a lookup has passed over the unit of a number
pub record IsPassed (asks : Asks) (probe : ℕ) (s : UnitsState) (n : ℕ) : Type 0 where
  pub nothing : asked_by asks probe s n ≡ Ok (Some [])
  pub known : has_asked_at asks probe s n ≡ true

-- the units of ranges were passed over
abbrev pub HavePassed : Asks → ℕ → UnitsState → List UnitRange → Type 0
HavePassed asks probe s ranges = AllByRecursion (λ (r : UnitRange). IsPassed asks probe s r.unit) ranges

-- what ends no lookup has nothing
ends_not : (x : FramesResult) → not (ends_lookup x) ≡ true → x ≡ Ok (Some [])
ends_not (Ok (Some [])) e = refl
ends_not (Ok (Some (f ∷ fs))) e = absurd cc
ends_not (Ok None) e = absurd cc
ends_not (Err f) e = absurd cc

pub of_passed : (asks : Asks) (probe : ℕ) (s : UnitsState) (rs : List UnitRange) → list_all (λ (r : UnitRange). is_passed asks probe s r.unit) rs ≡ true → HavePassed asks probe s rs
of_passed asks probe s [] e = tt
of_passed asks probe s (r ∷ rs) e =
    let both = first_so (is_passed asks probe s r.unit) _ e in
    (record { nothing = ends_not (asked_by asks probe s r.unit) (first_so (not (ends_lookup (asked_by asks probe s r.unit))) _ both); known = second_so (not (ends_lookup (asked_by asks probe s r.unit))) _ both }, of_passed asks probe s rs (second_so (is_passed asks probe s r.unit) _ e))

pub as_passed : (asks : Asks) (probe : ℕ) (s : UnitsState) (rs : List UnitRange) → HavePassed asks probe s rs → list_all (λ (r : UnitRange). is_passed asks probe s r.unit) rs ≡ true
as_passed asks probe s [] all = refl
as_passed asks probe s (r ∷ rs) all = both _ _ (both _ _ (ap (λ x. not (ends_lookup x)) all.0.nothing) all.0.known) (as_passed asks probe s rs all.1)
  where
    both : (a b : Bool) → a ≡ true → b ≡ true → (a && b) ≡ true
    both true b e h = h
    both false b e h = e

-- a walk that has gone on so far
pub record Walked (asks : Asks) (probe : ℕ) (all rest : List UnitRange) (old now : UnitsState) : Type 0 where
  pub asked : WereAskedFor asks (LookupAsks (asked_by asks probe old) all) (steps_along old.scope.file.sections old.units all) probe old now
  pub steps : StepsLeftWithin asks (steps_along old.scope.file.sections old.units rest) (steps_along old.scope.file.sections old.units all) old now
  pub stop : now.stop ≡ FindsNothing
  pub rest_is : stop_of asks probe old rest ≡ stop_of asks probe old all
  pub less : (holds : ℕ → Bool) → holds_along holds (asked_by asks probe old) all ≡ true → holds_along holds (asked_by asks probe old) rest ≡ true
  pub more : (holds : ℕ → Bool) → ((n : ℕ) → has_asked_at asks probe now n ≡ true → holds n ≡ true) → holds_along holds (asked_by asks probe old) rest ≡ true → holds_along holds (asked_by asks probe old) all ≡ true
  pub comes : (n : ℕ) → LookupAsks (asked_by asks probe old) rest n → LookupAsks (asked_by asks probe old) all n
  pub before : List UnitRange
  pub all_are : before ++ rest ≡ all
  pub passed : HavePassed asks probe now before

-- nothing was asked yet
asked_none : (asks : Asks) (asked : ℕ → Type 0) (most probe : ℕ) (old : UnitsState) → WereAskedFor asks asked most probe old (record old { stop = FindsNothing })
asked_none lookups.Location asked most probe old = record { lines = lines_first asked old; raised = omega arith; counted = λ found. absurd (false≢true found); cost = omega arith }
asked_none (lookups.Frames faults) asked most probe old =
    record { scope = refl; units = refl; answers = refl; parsed = λ n e. e; known = λ n. record { at = λ p e. e; whole = λ k h. h }; only = λ n e. inl e; learns = λ n. inl refl; details = λ n o e. inl e; raised = omega arith }

steps_none : (asks : Asks) (most : ℕ) (old : UnitsState) → StepsLeftWithin asks most most old (record old { stop = FindsNothing })
steps_none lookups.Location most old = omega arith
steps_none (lookups.Frames faults) most old = tt

pub walked_first : (asks : Asks) (probe : ℕ) (all : List UnitRange) (old : UnitsState) → Walked asks probe all all old (record old { stop = FindsNothing })
walked_first asks probe all old = record {
  asked = asked_none asks (LookupAsks (asked_by asks probe old) all) (steps_along old.scope.file.sections old.units all) probe old;
  steps = steps_none asks (steps_along old.scope.file.sections old.units all) old;
  stop = refl;
  rest_is = refl;
  less = λ holds e. e;
  more = λ holds f e. e;
  comes = λ n e. e;
  before = [];
  all_are = refl;
  passed = tt;
}

-- what is said of a state that has the same units and answers
pub at_old : (mid old : UnitsState) → mid.scope ≡ old.scope → mid.units ≡ old.units → mid.answers ≡ old.answers → (P : Scope → List IndexedUnit → FirstAnswers → Type 0) → P mid.scope mid.units mid.answers → P old.scope old.units old.answers
at_old mid old a b c P h = subst (λ x. P old.scope old.units x) c (subst (λ x. P old.scope x mid.answers) b (subst (λ x. P x mid.units mid.answers) a h))

-- one unit
step_err : (n : ℕ) (e : Error) (r : FramesResult) → (r >>= or_stop n (Ok FindsNothing)) ≡ Err e → r ≡ Err e
step_err n e (Err x) h = ap (λ y. y) (same x e h)
  where
    same : (x e : Error) → ◌≡◌ {A = Result LookupStop Error} (Err x) (Err e) → ◌≡◌ {A = FramesResult} (Err x) (Err e)
    same x e h = cc
step_err n e (Ok None) h = absurd cc
step_err n e (Ok (Some [])) h = absurd cc
step_err n e (Ok (Some (f ∷ fs))) h = absurd cc

step_on : (n : ℕ) (s : LookupStop) (r : FramesResult) → (r >>= or_stop n (Ok FindsNothing)) ≡ Ok s → has_stopped s ≡ false → (r ≡ Ok (Some [])) × (s ≡ FindsNothing)
step_on n s (Err x) h k = absurd cc
step_on n s (Ok None) h k = let same : Waits n ≡ s = cc in absurd (no (ap has_stopped same ∙ k))
  where
    no : true ≡ false → ⊥
    no e = cc
step_on n s (Ok (Some [])) h k = (refl, let same : FindsNothing ≡ s = cc in sym same)
step_on n s (Ok (Some (f ∷ fs))) h k = let same : Finds n (f ∷ fs) ≡ s = cc in absurd (no (ap has_stopped same ∙ k))
  where
    no : true ≡ false → ⊥
    no e = cc

step_stop : (n : ℕ) (s : LookupStop) (r : FramesResult) → (r >>= or_stop n (Ok FindsNothing)) ≡ Ok s → has_stopped s ≡ true → (ends_lookup r ≡ true) × ((rest : Result LookupStop Error) → (r >>= or_stop n rest) ≡ Ok s)
step_stop n s (Err x) h k = absurd cc
step_stop n s (Ok None) h k = (refl, λ rest. h)
step_stop n s (Ok (Some [])) h k = let same : FindsNothing ≡ s = cc in absurd (no (ap has_stopped same ∙ k))
  where
    no : false ≡ true → ⊥
    no e = cc
step_stop n s (Ok (Some (f ∷ fs))) h k = (refl, λ rest. h)

has_all_more : (probe : ℕ) (mid now : UnitsState) → WereAsked (λ n. ⊤) probe mid now → (n : ℕ) → has_all_at probe mid n ≡ true → has_all_at probe now n ≡ true
has_all_more probe mid now a n e =
    ap (λ s. knows_at now.known probe n && (not (asks_lines_of s now.units now.answers probe n) || has_parsed now.parsed n)) a.scope
    ∙ ap (λ us. knows_at now.known probe n && (not (asks_lines_of mid.scope us now.answers probe n) || has_parsed now.parsed n)) a.units
    ∙ ap (λ xs. knows_at now.known probe n && (not (asks_lines_of mid.scope mid.units xs probe n) || has_parsed now.parsed n)) a.answers
    ∙ of_bools (knows_at mid.known probe n) (knows_at now.known probe n) (asks_lines_of mid.scope mid.units mid.answers probe n) (has_parsed mid.parsed n) (has_parsed now.parsed n) ((a.known n).at probe) (a.parsed n) e
  where
    of_bools : (a b c d e : Bool) → (a ≡ true → b ≡ true) → (d ≡ true → e ≡ true) → (a && (not c || d)) ≡ true → (b && (not c || e)) ≡ true
    of_bools true true true true true h k q = refl
    of_bools true true true true false h k q = k refl
    of_bools true true true false e h k q = cc
    of_bools true true false d e h k q = refl
    of_bools true false c d e h k q = absurd (let no : false ≡ true = h refl in cc)
    of_bools false b c d e h k q = cc

any_asked : (asks : ℕ → Type 0) (probe : ℕ) (old new : UnitsState) → WereAsked asks probe old new → WereAsked (λ n. ⊤) probe old new
any_asked asks probe old new a = record {
  scope = a.scope;
  units = a.units;
  answers = a.answers;
  parsed = a.parsed;
  known = a.known;
  only = λ n e. elim (a.only n e) [ inl p ↦ inl p | inr q ↦ inr (tt, q.1) ];
  learns = λ n. elim (a.learns n) [ inl p ↦ inl p | inr q ↦ inr tt ];
  details = a.details;
  raised = a.raised;
}

-- units that were asked are the same
scope_same : (asks : Asks) (asked : ℕ → Type 0) (most probe : ℕ) (old now : UnitsState) → WereAskedFor asks asked most probe old now → now.scope ≡ old.scope
scope_same lookups.Location asked most probe old now a = ap (λ (s : UnitsState). s.scope) a.lines.same
scope_same (lookups.Frames faults) asked most probe old now a = a.scope

units_same : (asks : Asks) (asked : ℕ → Type 0) (most probe : ℕ) (old now : UnitsState) → WereAskedFor asks asked most probe old now → now.units ≡ old.units
units_same lookups.Location asked most probe old now a = ap (λ (s : UnitsState). s.units) a.lines.same
units_same (lookups.Frames faults) asked most probe old now a = a.units

answers_same : (asks : Asks) (asked : ℕ → Type 0) (most probe : ℕ) (old now : UnitsState) → WereAskedFor asks asked most probe old now → now.answers ≡ old.answers
answers_same lookups.Location asked most probe old now a = ap (λ (s : UnitsState). s.answers) a.lines.same
answers_same (lookups.Frames faults) asked most probe old now a = a.answers

-- and all that was known stays so
pub has_more : (asks : Asks) (asked : ℕ → Type 0) (most probe : ℕ) (mid now : UnitsState) → WereAskedFor asks asked most probe mid now → (n : ℕ) → has_asked_at asks probe mid n ≡ true → has_asked_at asks probe now n ≡ true
has_more lookups.Location asked most probe mid now a n e = a.lines.parsed n e
has_more (lookups.Frames faults) asked most probe mid now a n e = has_all_more probe mid now (any_asked asked probe mid now a) n e

-- what was passed over stays so
still_passed : (asks : Asks) (asked : ℕ → Type 0) (most probe : ℕ) (mid now : UnitsState) → WereAskedFor asks asked most probe mid now → (n : ℕ) → IsPassed asks probe mid n → IsPassed asks probe now n
still_passed asks asked most probe mid now a n p = record {
  nothing = at_old mid now (sym (scope_same asks asked most probe mid now a)) (sym (units_same asks asked most probe mid now a)) (sym (answers_same asks asked most probe mid now a)) (λ s us xs. asked_of_unit asks s us xs probe n ≡ Ok (Some [])) p.nothing;
  known = has_more asks asked most probe mid now a n p.known;
}

pub still_all_passed : (asks : Asks) (asked : ℕ → Type 0) (most probe : ℕ) (mid now : UnitsState) → WereAskedFor asks asked most probe mid now → (rs : List UnitRange) → HavePassed asks probe mid rs → HavePassed asks probe now rs
still_all_passed asks asked most probe mid now a [] all = tt
still_all_passed asks asked most probe mid now a (r ∷ rs) all = (still_passed asks asked most probe mid now a r.unit all.0, still_all_passed asks asked most probe mid now a rs all.1)

-- one range more
one_more : (P : UnitRange → Type 0) (xs : List UnitRange) (x : UnitRange) → AllByRecursion P xs → P x → AllByRecursion P (xs ++ (x ∷ []))
one_more P [] x all p = (p, tt)
one_more P (y ∷ ys) x all p = (all.0, one_more P ys x all.1 p)

-- one more unit was asked
asked_over : (asks : Asks) (asked : ℕ → Type 0) (k most probe : ℕ) (old mid now : UnitsState) → WereAskedFor asks asked most probe old mid → WereAskedFor asks (λ n. n ≡ k) (steps_in mid.scope.file.sections (slice_get mid.units k)) probe mid now → asked k
    → (left rest : ℕ) → StepsLeftWithin asks left most old mid → left ≡ steps_in old.scope.file.sections (slice_get old.units k) + rest → WereAskedFor asks asked most probe old now × StepsLeftWithin asks rest most old now
asked_over lookups.Location asked k most probe old mid now w a first left rest bound is = (
  record {
    lines = lines_over asked k old mid now w.lines a.lines first;
    raised = le_trans w.raised a.raised;
    counted = λ found. lt_of_le_of_lt w.raised (a.counted found);
    cost = steps_of_one _ _ _ within;
  },
  within,
)
  where
    within : now.steps + rest ≤ old.steps + most
    within = steps_within mid.steps now.steps (old.steps + most) (steps_in old.scope.file.sections (slice_get old.units k)) rest left
        (subst (λ (s : UnitsState). now.steps ≤ mid.steps + steps_in s.scope.file.sections (slice_get s.units k)) w.lines.same a.cost) bound is
asked_over (lookups.Frames faults) asked k most probe old mid now w a first left rest bound is = (
  record {
    scope = a.scope ∙ w.scope;
    units = a.units ∙ w.units;
    answers = a.answers ∙ w.answers;
    parsed = λ n e. a.parsed n (w.parsed n e);
    known = known_twice old.known mid.known now.known w.known a.known;
    only = parses_more (λ n. asked n × (asks_lines_of old.scope old.units old.answers probe n ≡ true)) (λ n. (n ≡ k) × (asks_lines_of old.scope old.units old.answers probe n ≡ true)) old.parsed mid.parsed now.parsed w.only
        (at_old mid old w.scope w.units w.answers (λ s us xs. ParsesOnly (λ n. (n ≡ k) × (asks_lines_of s us xs probe n ≡ true)) mid.parsed now.parsed) a.only)
        (λ n q. (subst asked (sym q.0) first, q.1));
    learns = λ n. elim (a.learns n) [
      | inl p ↦ elim (w.learns n) [ inl q ↦ inl (p ∙ q) | inr q ↦ inr q ]
      | inr p ↦ inr (subst asked (sym p) first)
    ];
    details = λ n offset e. elim (at_old mid old w.scope w.units w.answers (λ s us xs. LearnsDetailsAt (function_offset_of s us xs probe) mid.known now.known) a.details n offset e) [
      | inl before ↦ w.details n offset before
      | inr here ↦ inr here
    ];
    raised = let x = w.raised in let y = a.raised in omega (arith, x, y);
  },
  tt,
)

module _ (shares : Bool) (asks : Asks) (probe : ℕ) (all : List UnitRange) (r : UnitRange) (rest ranges : List UnitRange) (is : ranges ≡ r ∷ rest) (old mid now : UnitsState) (w : Walked asks probe all ranges old mid) where
  abbrev frames : ℕ → FramesResult
  frames = asked_by asks probe old

  abbrev most : ℕ
  most = steps_along old.scope.file.sections old.units all

  -- what is said of the units so far is so of those before them
  as_old : (P : Scope → List IndexedUnit → FirstAnswers → Type 0) → P mid.scope mid.units mid.answers → P old.scope old.units old.answers
  as_old = at_old mid old (scope_same asks (LookupAsks frames all) most probe old mid w.asked) (units_same asks (LookupAsks frames all) most probe old mid w.asked) (answers_same asks (LookupAsks frames all) most probe old mid w.asked)

  module _ {X : Type 0} (result : Result X Error) (a : AfterAsk shares asks r.unit probe result mid now) where
    both : WereAskedFor asks (LookupAsks frames all) most probe old now × StepsLeftWithin asks (steps_along old.scope.file.sections old.units rest) most old now
    both = asked_over asks (LookupAsks frames all) r.unit most probe old mid now w.asked a.asked (asked_first frames r rest ranges all is w.comes) (steps_along old.scope.file.sections old.units ranges)
        (steps_along old.scope.file.sections old.units rest) w.steps (ap (steps_along old.scope.file.sections old.units) is ∙ steps_first old.scope.file.sections old.units r rest)

    has_more_now : (n : ℕ) → has_asked_at asks probe mid n ≡ true → has_asked_at asks probe now n ≡ true
    has_more_now = has_more asks (λ n. n ≡ r.unit) (steps_in mid.scope.file.sections (slice_get mid.units r.unit)) probe mid now a.asked

    -- and what was passed over stays so
    still_before : HavePassed asks probe now w.before
    still_before = still_all_passed asks (λ n. n ≡ r.unit) (steps_in mid.scope.file.sections (slice_get mid.units r.unit)) probe mid now a.asked w.before w.passed

    -- where the walk takes no memory, a refusal is the fault of a unit that it asks
    alone : holds_along (takes_none_at shares asks probe now) frames all ≡ true → IfErr result (IsFaultAlong asks probe old all)
    alone none = by result (a.no_memory (holds_first frames r rest (takes_none_at shares asks probe now) (subst (λ xs. holds_along (takes_none_at shares asks probe now) frames xs ≡ true) is (w.less (takes_none_at shares asks probe now) none))))
      where
        by : (q : Result X Error) → IfErr q (IsFaultAt asks probe mid r.unit) → IfErr q (IsFaultAlong asks probe old all)
        by (Ok x) h = tt
        by (Err e) h = (r.unit, asked_first frames r rest ranges all is w.comes, as_old (λ s us xs. found_in_unit asks s us xs probe r.unit ≡ Err e) h)

    -- the walk ends there
    ended : ends_lookup (frames r.unit) ≡ true → AfterWalkAlong shares asks probe all result old now
    ended ends = record {
      asked = both.0;
      stop = a.stop;
      ready = λ told. w.more (has_asked_at asks probe now) has_more_now (subst (λ xs. holds_along (has_asked_at asks probe now) frames xs ≡ true) (sym is) (holds_ended frames r rest (has_asked_at asks probe now) (a.ready told) ends));
      memory = λ few. a.memory (holds_first frames r rest (has_asked_few_at asks probe now) (subst (λ xs. holds_along (has_asked_few_at asks probe now) frames xs ≡ true) is (w.less (has_asked_few_at asks probe now) few)));
      no_memory = alone;
    }

  here : (P : FramesResult → Type 0) → P (asked_by asks probe mid r.unit) → P (frames r.unit)
  here P h = as_old (λ s us xs. P (asked_of_unit asks s us xs probe r.unit)) h

  -- a fault ends it
  module _ {X : Type 0} (e : Error) (a : AfterAsk {X = X} shares asks r.unit probe (Err e) mid now) (gives : e ≢ OutOfMemory → stop_at asks probe mid r.unit ≡ Err e) where
    frames_err : e ≢ OutOfMemory → frames r.unit ≡ Err e
    frames_err ne = step_err r.unit e (frames r.unit) (here (λ x. (x >>= or_stop r.unit (Ok FindsNothing)) ≡ Err e) (gives ne))

    pub fault_gives : e ≢ OutOfMemory → stop_of asks probe old all ≡ Err e
    fault_gives ne = sym w.rest_is ∙ ap (stop_along frames) is ∙ faults_there frames r rest e (frames_err ne)

    pub fault_after : AfterWalkAlong {X = X} shares asks probe all (Err e) old now
    fault_after = record {
      asked = (both (Err e) a).0;
      stop = a.stop;
      ready = λ told. (ended (Err e) a (ap ends_lookup (frames_err told))).ready told;
      memory = λ few. a.memory (holds_first frames r rest (has_asked_few_at asks probe now) (subst (λ xs. holds_along (has_asked_few_at asks probe now) frames xs ≡ true) is (w.less (has_asked_few_at asks probe now) few)));
      no_memory = alone (Err e) a;
    }

  module _ {X : Type 0} (x : X) (a : AfterAsk {X = X} shares asks r.unit probe (Ok x) mid now) (gives : stop_at asks probe mid r.unit ≡ Ok now.stop) where
    gave : (frames r.unit >>= or_stop r.unit (Ok FindsNothing)) ≡ Ok now.stop
    gave = here (λ y. (y >>= or_stop r.unit (Ok FindsNothing)) ≡ Ok now.stop) gives

    pub stop_gives : has_stopped now.stop ≡ true → stop_of asks probe old all ≡ Ok now.stop
    stop_gives k = sym w.rest_is ∙ ap (stop_along frames) is ∙ (step_stop r.unit now.stop (frames r.unit) gave k).1 (stop_along frames rest)

    -- the ranges before that at which the walk stops were passed over
    pub stop_passed : IsInOrder ends_sooner all → HasPassedTo asks probe now all (Some r)
    stop_passed up =
        let are : w.before ++ (r ∷ rest) ≡ all = ap (λ xs. w.before ++ xs) (sym is) ∙ w.all_are in
        as_passed asks probe now (filter (is_before r) all) (subst (λ xs. HavePassed asks probe now (filter (is_before r) xs)) are
        (up_to (λ (x : UnitRange). IsPassed asks probe now x.unit) r w.before rest (subst (IsInOrder ends_sooner) (sym are) up) (still_before (Ok x) a)))

    pub stop_after : has_stopped now.stop ≡ true → AfterWalkAlong {X = X} shares asks probe all (Ok x) old now
    stop_after k = ended (Ok x) a (step_stop r.unit now.stop (frames r.unit) gave k).0

    pub walked_on : has_stopped now.stop ≡ false → Walked asks probe all rest old now
    walked_on k =
        let on = step_on r.unit now.stop (frames r.unit) gave k in
        let ends : ends_lookup (frames r.unit) ≡ false = ap ends_lookup on.0 in
        record {
          asked = (both (Ok x) a).0;
          steps = (both (Ok x) a).1;
          stop = on.1;
          rest_is = sym (goes_on frames r rest on.0) ∙ sym (ap (stop_along frames) is) ∙ w.rest_is;
          less = λ holds h. holds_rest frames r rest holds ends (subst (λ xs. holds_along holds frames xs ≡ true) is (w.less holds h));
          more = λ holds f h. w.more holds (λ n e. f n (has_more_now (Ok x) a n e)) (subst (λ xs. holds_along holds frames xs ≡ true) (sym is) (holds_both frames r rest holds (f r.unit (a.ready tt)) h));
          comes = λ n h. w.comes n (subst (λ xs. LookupAsks frames xs n) (sym is) (inr (ends, h)));
          before = w.before ++ (r ∷ []);
          all_are = append_assoc w.before (r ∷ []) rest ∙ ap (λ xs. w.before ++ xs) (sym is) ∙ w.all_are;
          passed = one_more (λ (x : UnitRange). IsPassed asks probe now x.unit) w.before r (still_before (Ok x) a) (record {
            nothing = at_old old now now_scope now_units now_answers (λ s us xs. asked_of_unit asks s us xs probe r.unit ≡ Ok (Some [])) on.0;
            known = a.ready tt;
          });
        }
      where
        same : WereAskedFor asks (LookupAsks frames all) most probe old now
        same = (both (Ok x) a).0

        now_scope : old.scope ≡ now.scope
        now_scope = sym (scope_same asks (LookupAsks frames all) most probe old now same)

        now_units : old.units ≡ now.units
        now_units = sym (units_same asks (LookupAsks frames all) most probe old now same)

        now_answers : old.answers ≡ now.answers
        now_answers = sym (answers_same asks (LookupAsks frames all) most probe old now same)

-- what a walk leaves doesn't depend on what it gives
pub ok_as : {X Y : Type 0} (shares : Bool) (asks : Asks) (probe : ℕ) (all : List UnitRange) (x : X) (y : Y) (old now : UnitsState) → AfterWalkAlong {X = X} shares asks probe all (Ok x) old now → AfterWalkAlong {X = Y} shares asks probe all (Ok y) old now
ok_as shares asks probe all x y old now a = record { asked = a.asked; ready = a.ready; memory = a.memory; no_memory = λ none. tt; stop = tt }

pub err_as : {X Y : Type 0} (shares : Bool) (asks : Asks) (probe : ℕ) (all : List UnitRange) (e : Error) (old now : UnitsState) → AfterWalkAlong {X = X} shares asks probe all (Err e) old now → AfterWalkAlong {X = Y} shares asks probe all (Err e) old now
err_as shares asks probe all e old now a = record { asked = a.asked; ready = a.ready; memory = a.memory; no_memory = a.no_memory; stop = a.stop }

-- no range is left
module _ (asks : Asks) (probe : ℕ) (all ranges : List UnitRange) (is : ranges ≡ []) (old now : UnitsState) (w : Walked asks probe all ranges old now) where
  pub end_gives : stop_of asks probe old all ≡ Ok now.stop
  end_gives = sym w.rest_is ∙ ap (stop_along (asked_by asks probe old)) is ∙ ap (λ s. Ok s) (sym w.stop)
