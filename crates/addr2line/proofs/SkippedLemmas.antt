-- Lookups of which none is answered to each load (on specs/Skips.antt).
use Rattle.addr2line.proofs.Common.{◌≡◌, ◌≢◌, slice_get, ℕ, zero, suc, ◌+◌, ◌-◌, ◌≤◌, arith, Bool, true, false, List, ◌∷◌, ◌++◌, length, Option, Some, None, Result, Ok, Err, refl, sym, ap, subst, ◌∙◌, IfErr, Error, ◌>>=◌, WasNotRefused, Sections, UnitRecord, cover, OnFault, LookupStop, Waits, Finds, FindsNothing, answer_of, is_waiting, main_scope, with_answer, is_open_at, StaysParsed, has_parsed, unit_records, StaysKnownOf, UnitIndex, index_units, FirstAnswers, is_open, waits_listed, AfterAnswering, answered, ContextState, Given, Answered, answers_given, AfterFrames, IsKnown, IsKnownFew, NeedsNoMemory, ReadsAsked, IsNotOpen, IsFaultOfAsked, loads_at, lookup_stop, stop_in, waits_for, waiting_unit}
use Rattle.std.proofs.lemmas.Bool.{eq-eqb}
use Rattle.addr2line_units.proofs.EntriesStayLemmas.{known_of_twice, same_stays_known}
use Rattle.addr2line.proofs.AskedLemmas.{other_answers, reads_answered, reads_more, reads_nothing}
use Rattle.addr2line.proofs.HistoryLemmas.{HasGiven, given_all, given_ended, given_more}
use Rattle.addr2line.specs.Skips.{AfterSkip, nones, skipped_answers}

-- none as an answer, so often
nones_then : (k : ℕ) (rest : List Given) → nones (suc k) ++ rest ≡ nones k ++ (Answered None ∷ rest)
nones_then zero rest = refl
nones_then (suc k) rest = ap (λ ys. Answered None ∷ ys) (nones_then k rest)

nones_both : (k r : ℕ) → nones k ++ nones r ≡ nones (k + r)
nones_both zero r = ap nones (let e : r ≡ 0 + r = omega arith in e)
nones_both (suc k) r = ap (λ ys. Answered None ∷ ys) (nones_both k r) ∙ ap nones (let e : suc (k + r) ≡ suc k + r = omega arith in e)

-- what a lookup has come to, by what was stored of it
pub stored_waits : (n : ℕ) (stop : LookupStop) → waiting_unit stop ≡ Some n → stop ≡ Waits n
stored_waits n (Waits k) e = ap Waits (same e)
  where
    same : ◌≡◌ {A = Option ℕ} (Some k) (Some n) → k ≡ n
    same u = cc
stored_waits n (Finds k frames) e = absurd cc
stored_waits n FindsNothing e = absurd cc

pub told_waits : (n : ℕ) (stop : LookupStop) (r : Result LookupStop Error) → r ≡ Ok stop → waiting_unit stop ≡ Some n → r ≡ Ok (Waits n)
told_waits n stop r e w = e ∙ ap (λ s. Ok s) (stored_waits n stop w)

pub waits_true : (n : ℕ) (r : Result LookupStop Error) → r ≡ Ok (Waits n) → waits_for n r ≡ true
waits_true n r e = ap (waits_for n) e ∙ eq-eqb n n refl

pub told_ended : (stop : LookupStop) (r : Result LookupStop Error) → r ≡ Ok stop → waiting_unit stop ≡ None → is_waiting r ≡ false
told_ended stop r e w = ap is_waiting e ∙ by stop w
  where
    by : (s : LookupStop) → waiting_unit s ≡ None → is_waiting (Ok s) ≡ false
    by (Waits k) q = absurd cc
    by (Finds k frames) q = refl
    by FindsNothing q = refl

-- the fault of a unit stays that where sections and first answers are the same
pub fault_now : {X : Type 0} (faults : OnFault) (probe : ℕ) (old new : ContextState) (r : Result X Error) → new.sections ≡ old.sections → new.answers ≡ old.answers → IfErr r (IsFaultOfAsked faults old.sections old.answers probe)
    → IfErr r (IsFaultOfAsked faults new.sections new.answers probe)
fault_now faults probe old new r s a h =
    subst (λ d. IfErr r (IsFaultOfAsked faults d new.answers probe)) (sym s) (subst (λ x. IfErr r (IsFaultOfAsked faults old.sections x probe)) (sym a) h)

abbrev Shut : Sections → FirstAnswers → ℕ → Type 0
Shut d answers n = (m : UnitIndex) → index_units d ≡ Ok m → is_open_at d (unit_records m.units) answers n ≡ false

-- a unit that isn't open still isn't after an answer to another, and a lookup waits for no such unit
module _ (faults : OnFault) (probe n : ℕ) (now new : ContextState) (waits : lookup_stop faults now.sections now.answers probe ≡ Ok (Waits n)) where
  not_shut : IsNotOpen now n → ⊥
  not_shut shut = by (index_units now.sections) refl waits
    where
      by : (r : Result UnitIndex Error) → index_units now.sections ≡ r → (r >>= stop_in faults now.sections now.answers probe) ≡ Ok (Waits n) → ⊥
      by (Err e) is w = cc
      by (Ok m) is w =
          let open_is : is_open_at now.sections (unit_records m.units) now.answers n ≡ true = (waits_listed faults (main_scope now.sections m) m.units now.answers probe n (cover probe m.ranges) w).0 in
          let no : true ≡ false = sym open_is ∙ shut m is in
          cc

  not_this : (k : ℕ) → IsNotOpen now k → k ≢ n
  not_this k shut e = not_shut (subst (IsNotOpen now) e shut)

  still_shut : (given : Option Sections) → new.sections ≡ now.sections → new.answers ≡ answered now.sections now.answers n given → (k : ℕ) → IsNotOpen now k → IsNotOpen new k
  still_shut given s a k shut m e = ap (λ d. is_open_at d (unit_records m.units) new.answers k) s ∙ ap (open_by (slice_get (unit_records m.units) k)) same ∙ shut m is
    where
      open_by : Option UnitRecord → Option (Option Sections) → Bool
      open_by o x = elim o [ None ↦ false | Some u ↦ is_open now.sections u x ]

      is : index_units now.sections ≡ Ok m
      is = ap index_units (sym s) ∙ e

      same : answer_of new.answers k ≡ answer_of now.answers k
      same = ap (λ xs. answer_of xs k) (a ∙ ap (λ (r : Result UnitIndex Error). elim r [ Err f ↦ now.answers | Ok x ↦ with_answer now.sections (unit_records x.units) now.answers n given ]) is)
          ∙ other_answers now.sections (unit_records m.units) now.answers n given k (not_this k shut)

-- of so many loads none was the answer, and no more are left than there were less these
pub record HasSkipped (faults : OnFault) (probe : ℕ) (first now : ContextState) : Type 0 where
  pub sections : now.sections ≡ first.sections
  pub count : ℕ
  pub given : HasGiven faults first.sections probe first.answers (nones count) now.answers
  pub left : count + length (loads_at now.sections now.answers probe) ≤ length (loads_at first.sections first.answers probe)
  pub parsed : StaysParsed first.parsed now.parsed
  pub shut : (n : ℕ) → IsNotOpen first n → IsNotOpen now n
  pub known : (n : ℕ) → IsNotOpen first n → StaysKnownOf n first.known now.known
  pub only : ReadsAsked faults probe first now
  pub raised : first.steps ≤ now.steps

module _ (faults : OnFault) (probe : ℕ) (first : ContextState) where
  pub skipped_none : HasSkipped faults probe first first
  skipped_none = record {
    sections = refl;
    count = 0;
    given = λ rest. refl;
    left = omega arith;
    parsed = λ n e. e;
    shut = λ n h. h;
    known = λ n h. same_stays_known n first.known first.known refl;
    only = reads_nothing faults probe first;
    raised = omega arith;
  }

  module _ (now : ContextState) (so : HasSkipped faults probe first now) where
    -- a lookup changes neither sections nor first answers
    pub skipped_look : {X : Type 0} (r : Result X Error) (new : ContextState) → AfterFrames faults probe r now new → HasSkipped faults probe first new
    skipped_look r new a = record {
      sections = a.sections ∙ so.sections;
      count = so.count;
      given = subst (λ x. HasGiven faults first.sections probe first.answers (nones so.count) x) (sym a.answers) so.given;
      left = subst (λ l. so.count + l ≤ length (loads_at first.sections first.answers probe)) (sym (same_left new a.sections a.answers)) so.left;
      parsed = λ n e. a.parsed n (so.parsed n e);
      shut = λ n h. subst (λ d. Shut d new.answers n) (sym a.sections) (subst (λ x. Shut now.sections x n) (sym a.answers) (so.shut n h));
      known = λ n h. known_of_twice n first.known now.known new.known (so.known n h) (a.known n);
      only = reads_more faults probe r first now new a so.only;
      raised = let x = so.raised in let y = a.raised in omega (arith, x, y);
    }
      where
        same_left : (new : ContextState) → new.sections ≡ now.sections → new.answers ≡ now.answers → length (loads_at new.sections new.answers probe) ≡ length (loads_at now.sections now.answers probe)
        same_left n s e = ap (λ d. length (loads_at d n.answers probe)) s ∙ ap (λ x. length (loads_at now.sections x probe)) e

    -- none is the answer to one more load
    pub skipped_more : (n : ℕ) (new : ContextState) → lookup_stop faults now.sections now.answers probe ≡ Ok (Waits n) → AfterAnswering n None (Ok tt) now new → HasSkipped faults probe first new
    skipped_more n new waits a = record {
      sections = a.sections ∙ so.sections;
      count = suc so.count;
      given = subst (λ x. HasGiven faults first.sections probe first.answers (nones (suc so.count)) x) (sym (a.answers ∙ ap (λ d. answered d now.answers n None) so.sections))
          (given_more faults first.sections probe first.answers now.answers (nones so.count) so.given n None (ap (λ d. lookup_stop faults d now.answers probe) (sym so.sections) ∙ waits) (nones (suc so.count)) (nones_then so.count));
      left = let x = so.left in let fewer = a.shorter faults probe (waits_true n _ waits) in omega (arith, x, fewer);
      parsed = λ k e. subst (λ p. has_parsed p k ≡ true) (sym a.parsed) (so.parsed k e);
      shut = λ k h. still_shut faults probe n now new waits None a.sections a.answers k (so.shut k h);
      known = λ k h. known_of_twice k first.known now.known new.known (so.known k h) (same_stays_known k now.known new.known (a.others k (not_this faults probe n now new waits k (so.shut k h))));
      only = reads_answered faults probe n first now new waits so.only None (Ok tt) a;
      raised = subst (λ l. first.steps ≤ l) (sym a.steps) so.raised;
    }

    -- none could not be given
    pub skipped_refused : (n : ℕ) (e : Error) (new : ContextState) → lookup_stop faults now.sections now.answers probe ≡ Ok (Waits n) → AfterAnswering n None (Err e) now new → HasSkipped faults probe first new
    skipped_refused n e new waits a = record {
      sections = a.sections ∙ so.sections;
      count = so.count;
      given = subst (λ x. HasGiven faults first.sections probe first.answers (nones so.count) x) (sym a.refused.1) so.given;
      left = subst (λ l. so.count + l ≤ length (loads_at first.sections first.answers probe))
          (sym (ap (λ d. length (loads_at d new.answers probe)) a.sections ∙ ap (λ x. length (loads_at now.sections x probe)) a.refused.1)) so.left;
      parsed = λ k q. subst (λ p. has_parsed p k ≡ true) (sym a.parsed) (so.parsed k q);
      shut = λ k h. subst (λ d. Shut d new.answers k) (sym a.sections) (subst (λ x. Shut now.sections x k) (sym a.refused.1) (so.shut k h));
      known = λ k h. known_of_twice k first.known now.known new.known (so.known k h) (a.refused.2 k);
      only = reads_answered faults probe n first now new waits so.only None (Err e) a;
      raised = subst (λ l. first.steps ≤ l) (sym a.steps) so.raised;
    }

    -- a lookup that has ended was given none for each load
    pub skip_end : is_waiting (lookup_stop faults now.sections now.answers probe) ≡ false → skipped_answers faults first.sections probe first.answers ≡ now.answers
    skip_end ended =
        let total = length (loads_at first.sections first.answers probe) in
        let h = so.left in
        let e : so.count + (total - so.count) ≡ total = omega (arith, h) in
        ap (λ t. answers_given faults first.sections probe first.answers (nones t)) (sym e)
        ∙ ap (answers_given faults first.sections probe first.answers) (sym (nones_both so.count (total - so.count)))
        ∙ so.given (nones (total - so.count))
        ∙ given_ended faults first.sections probe now.answers (nones (total - so.count)) (ap (λ d. is_waiting (lookup_stop faults d now.answers probe)) (sym so.sections) ∙ ended)

    -- the state that is left
    pub after_skip : {X : Type 0} (shares : Bool) (r : Result X Error) → (WasNotRefused r → is_waiting (lookup_stop faults now.sections now.answers probe) ≡ false) → (WasNotRefused r → IsKnown faults now probe) → (IsKnownFew faults now probe → WasNotRefused r)
        → (NeedsNoMemory shares faults now probe → IfErr r (IsFaultOfAsked faults now.sections now.answers probe)) → AfterSkip shares faults probe r first now
    after_skip shares r ended ready memory alone = record {
      sections = so.sections;
      answers = λ told. sym (skip_end (ended told));
      begun = (so.count, sym (given_all faults first.sections probe first.answers now.answers (nones so.count) so.given));
      parsed = so.parsed;
      known = so.known;
      only = so.only;
      raised = so.raised;
      ready = ready;
      memory = memory;
      no_memory = alone;
    }
