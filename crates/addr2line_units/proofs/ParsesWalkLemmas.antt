-- Parses of the functions of units, one unit after another, by what each leaves (on
-- specs/UnitsAfter.antt and specs/ParsesAfter.antt).
use Rattle.addr2line_units.proofs.Common.{◌≡◌, ◌≢◌, ◌⊎◌, ◌∙◌, inl, inr, ℕ, zero, suc, ◌+◌, ◌<◌, ◌≤◌, ◌==◌, cond, arith, Bool, true, false, List, [], ◌∷◌, length, slice_get, Option, Some, None, option_and_then, option_map, Result, Ok, Err, refl, sym, ap, subst, cases_eq, slice_get_past, AllByRecursion, Error, OutOfMemory, Sections, UnitRecord, function_offset_at, ReadingDepth, CountsUnits, FindsNothing, answer_of, with_answer, AreKnownToFault, AreReadBefore, AreReadyFor, IsKnownToFault, IsReadyFor, IsReadyOf, ReadsNoMemory, first_decided, parse_of_takes_memory, read_of_number, read_of_units, AllKnown, FunctionsKnown, IsRead, KnownEntries, KnownFunction, LearnsNoDetails, NothingKnown, is_detail_known, is_known_at, known_function_at, knows_at, is_open_at, UnitsState, is_open, OnFault, UnitRange, asked_frames, stop_along, all_lines, answers_after_parse, fault_of, unit_records}
use Rattle.std.specs.Prelude.{IfSome, unwrap_or}
use Rattle.addr2line_units.specs.declared.parses.ReadingDepth.TheVariants as depths
use Rattle.addr2line_units.specs.ParsesAfter.{AfterReadingAt}
use Rattle.addr2line_units.specs.UnitsAfter.{AfterReading, StayRead}
use Rattle.addr2line_units.specs.EntriesStayKnown.{IsReadBy, StaysKnownOf}
use Rattle.addr2line_units.specs.declared.frames.Asks.TheVariants as lookups
use Rattle.addr2line_units.specs.ParsesLaws.{IsReached}
use Rattle.addr2line_units.specs.UnitsState.{stop_of}
use Rattle.addr2line_units.proofs.ParsesReachedLemmas.{reached_all}
use Rattle.addr2line_units.proofs.UnitsAtLemmas.{counted_records}
use Rattle.addr2line_units.proofs.ParsesLemmas.{after_end, after_stop, before_more, decided_more, number_behind, open_behind, read_end, read_stop, shut_before}
use Rattle.addr2line_units.proofs.ParsesReadyLemmas.{before_decided, number_decided}
use Rattle.addr2line_units.proofs.EntriesStayLemmas.{known_of_twice, same_stays_known}
use Rattle.addr2line_units.proofs.Facts.{all_of, at_or_behind, below_next, one_of}

-- functions that were read with all details are known
details_known : (fs : List KnownFunction) → AllByRecursion (λ (f : KnownFunction). f.detail ≡ IsRead) fs → AreKnownToFault fs
details_known [] h = tt
details_known (f ∷ fs) h = subst (λ k. IsKnownToFault k (AreKnownToFault fs)) (sym h.0) (details_known fs h.1)

entries_known : (depth : ReadingDepth) (k : KnownEntries) → IsReadBy depth k → IsReadyFor depth k
entries_known depth NothingKnown h = h
entries_known depth AllKnown h = tt
entries_known depths.Functions (FunctionsKnown ranges functions) h = tt
entries_known depths.Details (FunctionsKnown ranges functions) h = details_known functions h

some_known : (depth : ReadingDepth) (o : Option KnownEntries) → IfSome o (IsReadBy depth) → IfSome o (IsReadyFor depth)
some_known depth None h = tt
some_known depth (Some k) h = entries_known depth k h

-- with all details what stands at any probe is known
first_known : (fs : List KnownFunction) (offset : ℕ) → AllByRecursion (λ (f : KnownFunction). f.detail ≡ IsRead) fs → unwrap_or (option_map (λ (f : KnownFunction). is_detail_known f.detail) (known_function_at fs offset)) true ≡ true
first_known [] offset h = refl
first_known (f ∷ fs) offset h = by (f.offset == offset) (first_known fs offset h.1)
  where
    by : (b : Bool) → unwrap_or (option_map (λ (g : KnownFunction). is_detail_known g.detail) (known_function_at fs offset)) true ≡ true
        → unwrap_or (option_map (λ (g : KnownFunction). is_detail_known g.detail) (cond b (Some f) (known_function_at fs offset))) true ≡ true
    by true rest = ap is_detail_known h.0
    by false rest = rest

probe_known : (probe : ℕ) (k : KnownEntries) → IsReadBy depths.Details k → is_known_at probe k ≡ true
probe_known probe NothingKnown h = absurd h
probe_known probe AllKnown h = refl
probe_known probe (FunctionsKnown ranges functions) h = by (function_offset_at probe ranges)
  where
    by : (o : Option ℕ) → unwrap_or (option_map (λ (f : KnownFunction). is_detail_known f.detail) (option_and_then (known_function_at functions) o)) true ≡ true
    by None = refl
    by (Some offset) = first_known functions offset h

all_known : (known : List KnownEntries) → AllByRecursion (IsReadBy depths.Details) known → (probe n : ℕ) → knows_at known probe n ≡ true
all_known [] h probe n = refl
all_known (k ∷ known) h probe zero = probe_known probe k h.0
all_known (k ∷ known) h probe (suc n) = all_known known h.1 probe n

-- a parse that has come to the unit of a number: those before it are read, and those from it on are
-- as they were
pub record ReadSoFar (depth : ReadingDepth) (k : ℕ) (old now : UnitsState) : Type 0 where
  pub stays : StayRead old now
  pub answers : now.answers ≡ first_decided old.scope.file.sections k old.scope.file.units old.answers
  pub before : AreReadBefore depth old.scope old.scope.file.units old.answers k
  pub known : (n : ℕ) → is_open_at old.scope.file.sections old.scope.file.units old.answers n ≡ false → StaysKnownOf n old.known now.known
  pub details : depth ≡ depths.Functions → LearnsNoDetails old.known now.known
  pub read : (n : ℕ) → n < k → IfSome (slice_get now.known n) (IsReadBy depth)
  pub same : AreReadyFor depth old.scope old.scope.file.units old.answers old.known → (now.answers ≡ old.answers) × (now.known ≡ old.known)
  pub behind : (n : ℕ) → k ≤ n → slice_get now.known n ≡ slice_get old.known n

pub read_first : (depth : ReadingDepth) (old : UnitsState) → ReadSoFar depth 0 old (record old { stop = FindsNothing })
read_first depth old = record {
  stays = refl;
  answers = refl;
  before = λ n below. absurd (omega (arith, below));
  known = λ n shut. record { at = λ probe q. q; whole = λ needed q. q };
  details = λ is n offset e. e;
  read = λ n below. absurd (omega (arith, below));
  same = λ ready. (refl, refl);
  behind = λ n past. refl;
}

module _ (shares : Bool) (depth : ReadingDepth) (k : ℕ) (old mid now : UnitsState) (w : ReadSoFar depth k old mid) {count : ℕ} (counts : CountsUnits count (record old { stop = FindsNothing })) (within : k < count) where
  abbrev d : Sections
  d = old.scope.file.sections

  abbrev us : List UnitRecord
  us = old.scope.file.units

  abbrev so_far : UnitsState
  so_far = record old { answers = mid.answers; known = mid.known; stop = FindsNothing }

  below : k < length us
  below = subst (λ m. k < m) (counted_records _ counts) within

  many : length us ≡ length old.answers
  many = sym (counted_records _ counts) ∙ counts.answers

  -- what is read of the unit is what was to be read of it before
  reads : read_of_number depth mid.scope mid.scope.file.units mid.answers k ≡ read_of_number depth old.scope us old.answers k
  reads =
      ap (λ (s : UnitsState). read_of_number depth s.scope s.scope.file.units s.answers k) w.stays
      ∙ ap (λ x. read_of_number depth old.scope us x k) w.answers ∙ number_behind depth old.scope us old.answers k

  shut_is : is_open_at d us mid.answers k ≡ is_open_at d us old.answers k
  shut_is = ap (λ x. is_open_at d us x k) w.answers ∙ open_behind d us old.answers k

  still_ready : IsReadyOf depth old.scope us old.answers old.known k → IsReadyOf depth old.scope us mid.answers mid.known k
  still_ready h = (shut_is ∙ h.0, subst (λ o. IfSome o (IsReadyFor depth)) (sym (w.behind k (omega arith))) h.1)

  one_more : now.answers ≡ with_answer d us mid.answers k None → now.answers ≡ first_decided d (suc k) us old.answers
  one_more e = e ∙ ap (λ x. with_answer d us x k None) w.answers ∙ decided_more d us old.answers k below many

  module _ {result : Result (Unit {0}) Error} (given : AfterReadingAt shares depth k result mid now) where
    a : AfterReadingAt shares depth k result so_far now
    a = subst (λ s. AfterReadingAt shares depth k result s now) w.stays given

    begun : (now.answers ≡ first_decided d k us old.answers) ⊎ (now.answers ≡ first_decided d (suc k) us old.answers)
    begun = elim a.begun [ inl e ↦ inl (e ∙ w.answers) | inr e ↦ inr (one_more e) ]

    before_now : AreReadBefore depth old.scope us now.answers k
    before_now = elim begun [
      | inl e ↦ before_decided depth old.scope us old.answers now.answers k k e w.before
      | inr e ↦ before_decided depth old.scope us old.answers now.answers (suc k) k e w.before
    ]

    known_now : (n : ℕ) → is_open_at d us old.answers n ≡ false → StaysKnownOf n old.known now.known
    known_now n shut = known_of_twice n old.known mid.known now.known (w.known n shut) (elim (cases_eq n k) [
      | inl is ↦ subst (λ m. StaysKnownOf m mid.known now.known) (sym is) (a.known (shut_is ∙ subst (λ m. is_open_at d us old.answers m ≡ false) is shut))
      | inr ne ↦ same_stays_known n mid.known now.known (a.others n ne)
    ])

    known_behind : (n : ℕ) → k < n → slice_get now.known n ≡ slice_get old.known n
    known_behind n past = a.others n (λ e. absurd (omega (arith, e, past))) ∙ w.behind n (omega (arith, past))

    still_read : (n : ℕ) → n < k → IfSome (slice_get now.known n) (IsReadBy depth)
    still_read n l = subst (λ o. IfSome o (IsReadBy depth)) (sym (a.others n (λ e. absurd (omega (arith, e, l))))) (w.read n l)

    details_now : depth ≡ depths.Functions → LearnsNoDetails old.known now.known
    details_now is n offset e = w.details is n offset (a.details is n offset e)

    same_now : AreReadyFor depth old.scope us old.answers old.known → (now.answers ≡ old.answers) × (now.known ≡ old.known)
    same_now ready =
        let step = a.same (still_ready (ready k w.before)) in
        let rest = w.same ready in
        (step.0 ∙ rest.0, step.1 ∙ rest.1)

  -- a fault ends it
  module _ {e : Error} (given : AfterReadingAt shares depth k (Err e) mid now) (gives : e ≢ OutOfMemory → read_of_number depth mid.scope mid.scope.file.units mid.answers k ≡ Err e) where
    fault_there : read_of_number depth mid.scope mid.scope.file.units mid.answers k ≡ Err e → read_of_number depth old.scope us old.answers k ≡ Err e
    fault_there fault = sym reads ∙ fault

    pub read_fault : e ≢ OutOfMemory → read_of_units depth old.scope us old.answers ≡ Err e
    read_fault ne = read_stop depth old.scope us old.answers k e many w.before (fault_there (gives ne))

    ready_now : e ≢ OutOfMemory → AreReadyFor depth old.scope us now.answers now.known
    ready_now ne n before = elim (at_or_behind (suc n) k) [
      | inl l ↦ (ap (λ x. is_open_at d us x n) is ∙ shut_before d us old.answers (suc k) n (omega (arith, l)) many, some_known depth (slice_get now.known n) (still_read given n (omega (arith, l))))
      | inr l ↦ elim (below_next k n l) [
        | inl past ↦ absurd (let no = sym (fault_there (gives ne)) ∙ sym (number_decided depth old.scope us old.answers (suc k) k) ∙ ap (λ x. read_of_number depth old.scope us x k) (sym is) ∙ before k past in cc)
        | inr here ↦ subst (λ m. IsReadyOf depth old.scope us now.answers now.known m) here ((a given).ready ne)
      ]
    ]
      where
        is : now.answers ≡ first_decided d (suc k) us old.answers
        is = one_more ((a given).answers ne)

    read_fault_alone : ReadsNoMemory shares depth old.scope us now.answers now.known → read_of_units depth old.scope us old.answers ≡ Err e
    read_fault_alone none = read_stop depth old.scope us old.answers k e many w.before (elim (none k (before_now given)) [
      | inl ready ↦ fault_there (gives ((a given).memory ready))
      | inr takes ↦ fault_there (given.no_memory (subst (λ (s : UnitsState). parse_of_takes_memory shares s.scope s.scope.file.units now.answers k ≡ false) (sym w.stays) takes))
    ])

    pub read_fault_after : AfterReading shares depth (Err e) old now
    read_fault_after = record {
      stays = (a given).stays;
      answers = λ ne. one_more ((a given).answers ne) ∙ sym (after_stop depth old.scope us old.answers k e many w.before (fault_there (gives ne)));
      begun = (k, record { decided = (w.before, begun given); read = still_read given; behind = known_behind given; memory = (a given).memory });
      known = λ probe n shut q. (known_now given n shut).at probe q;
      whole = λ needed n shut q. (known_now given n shut).whole needed q;
      details = details_now given;
      read = tt;
      whole_known = λ all. (a given).whole (subst (λ o. IfSome o (IsReadBy depth)) (sym (w.behind k (omega arith))) (one_of (IsReadBy depth) old.known all k));
      ready = ready_now;
      memory = λ ready. (a given).memory (ready k (before_now given));
      no_memory = read_fault_alone;
      exact = λ ready. sym (read_stop depth old.scope us old.answers k e many w.before
          (sym (ap (λ x. read_of_number depth old.scope us x k) w.answers ∙ number_behind depth old.scope us old.answers k) ∙ sym ((a given).exact (still_ready (ready k w.before)))));
      same = same_now given;
      all = λ is. tt;
      reached = λ is lines. tt;
    }

  -- else it goes on
  module _ (given : AfterReadingAt shares depth k (Ok tt) mid now) (gives : read_of_number depth mid.scope mid.scope.file.units mid.answers k ≡ Ok tt) where
    next : suc k ≡ k + 1
    next = omega arith

    pub read_on : ReadSoFar depth (k + 1) old now
    read_on = subst (λ m. ReadSoFar depth m old now) next (record {
      stays = (a given).stays;
      answers = one_more ((a given).answers tt);
      before = before_more depth old.scope us old.answers k w.before (sym reads ∙ gives);
      known = known_now given;
      details = details_now given;
      read = λ n l. elim (below_next n k l) [
        | inl less ↦ still_read given n less
        | inr here ↦ subst (λ m. IfSome (slice_get now.known m) (IsReadBy depth)) (sym here) (a given).read
      ];
      same = same_now given;
      behind = λ n past. known_behind given n past;
    })

-- no unit is left
module _ (depth : ReadingDepth) (k : ℕ) (old now : UnitsState) (w : ReadSoFar depth k old now) {count : ℕ} (counts : CountsUnits count (record old { stop = FindsNothing })) (end : count ≤ k) where
  abbrev sections : Sections
  sections = old.scope.file.sections

  abbrev records : List UnitRecord
  records = old.scope.file.units

  past : length records ≤ k
  past = subst (λ m. m ≤ k) (counted_records _ counts) end

  beside : length records ≡ length old.answers
  beside = sym (counted_records _ counts) ∙ counts.answers

  pub read_last : read_of_units depth old.scope records old.answers ≡ Ok tt
  read_last = read_end depth old.scope records old.answers k beside past w.before

  none_behind : (n : ℕ) → k ≤ n → slice_get now.known n ≡ None
  none_behind n l =
      let known = subst (λ m. m ≤ k) counts.known end in
      w.behind n l ∙ slice_get_past old.known n (omega (arith, known, l))

  read_all : (n : ℕ) → IfSome (slice_get now.known n) (IsReadBy depth)
  read_all n = elim (at_or_behind (suc n) k) [
    | inl l ↦ w.read n (omega (arith, l))
    | inr l ↦ subst (λ o. IfSome o (IsReadBy depth)) (sym (none_behind n (omega (arith, l)))) tt
  ]

  all_shut : (n : ℕ) → is_open_at sections records now.answers n ≡ false
  all_shut n = elim (at_or_behind (suc n) k) [
    | inl l ↦ ap (λ x. is_open_at sections records x n) w.answers ∙ shut_before sections records old.answers k n (omega (arith, l)) beside
    | inr l ↦ none_open (slice_get_past records n (omega (arith, past, l)))
  ]
    where
      of_unit : Option UnitRecord → Bool
      of_unit o = elim o [ None ↦ false | Some u ↦ is_open sections u (answer_of now.answers n) ]

      none_open : slice_get records n ≡ None → is_open_at sections records now.answers n ≡ false
      none_open none = ap (λ o. of_unit o) none

  -- where the details are read and all lines can be, no lookup waits or has a fault
  module _ (is : depth ≡ depths.Details) (lines : fault_of (all_lines sections old.units) ≡ Ok tt) (faults : OnFault) (probe : ℕ) (ranges : List UnitRange) where
    as_indexed : length old.units ≡ length old.answers
    as_indexed = sym counts.units ∙ counts.answers

    read_indexed : read_of_units depths.Details old.scope (unit_records old.units) old.answers ≡ Ok tt
    read_indexed = ap (λ us. read_of_units depths.Details old.scope us old.answers) counts.are ∙ subst (λ r. read_of_units r old.scope records old.answers ≡ Ok tt) is read_last

    answers_are : answers_after_parse depths.Details old.scope (unit_records old.units) old.answers ≡ now.answers
    answers_are = ap (λ us. answers_after_parse depths.Details old.scope us old.answers) counts.are ∙ ap (λ r. answers_after_parse r old.scope records old.answers) (sym is)
        ∙ after_end depth old.scope records old.answers k beside past w.before ∙ sym w.answers

    reached : IsReached (stop_of (lookups.Frames faults) probe now ranges)
    reached = subst (λ (s : UnitsState). IsReached (stop_of (lookups.Frames faults) probe s ranges)) (sym w.stays)
        (subst (λ xs. IsReached (stop_along (asked_frames faults old.scope old.units xs probe) ranges)) answers_are
        (reached_all faults old.scope old.units old.answers probe ranges as_indexed read_indexed lines))

  pub read_last_after : {shares : Bool} → AfterReading shares depth (Ok tt) old now
  read_last_after = record {
    stays = w.stays;
    answers = λ _. w.answers ∙ sym (after_end depth old.scope records old.answers k beside past w.before);
    begun = (k, record { decided = (w.before, inl w.answers); read = w.read; behind = λ n l. w.behind n (omega (arith, l)); memory = λ ready. tt });
    known = λ probe n shut q. (w.known n shut).at probe q;
    whole = λ needed n shut q. (w.known n shut).whole needed q;
    details = w.details;
    read = all_of (IsReadBy depth) now.known read_all;
    whole_known = λ all. refl;
    ready = λ _ n before. (all_shut n, some_known depth (slice_get now.known n) (read_all n));
    memory = λ ready. tt;
    no_memory = λ none. tt;
    exact = λ ready. sym read_last;
    same = w.same;
    all = λ is. all_known now.known (subst (λ r. AllByRecursion (IsReadBy r) now.known) is (all_of (IsReadBy depth) now.known read_all));
    reached = λ is lines faults probe ranges. reached is lines faults probe ranges;
  }
