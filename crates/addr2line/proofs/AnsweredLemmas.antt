-- What an answer to the load of a unit makes of a context, and of a lookup that waits for it (on
-- specs/Answers.antt and specs/Lookups.antt).
use Rattle.addr2line.proofs.Common.{◌≡◌, ℕ, ◌<◌, [], length, List, Option, Result, Ok, Err, sym, ap, subst, ◌∙◌, true, IfErr, OnOk, Error, ◌>>=◌, Sections, OnFault, UnitRange, cover, LookupStop, Waits, Finds, FindsNothing, main_scope, with_answer, load_result, UnitIndex, UnitsState, FirstAnswers, waits_listed, AfterAnswering, answered, load_reply, IsContext, as_context, loads_at, lookup_stop, stop_in, waits_for, Bool}
use Rattle.std.proofs.lemmas.Bool.{eqb-true}
use Rattle.addr2line_units.specs.UnitsAfter as left
use Rattle.addr2line_units.specs.LoadsLaws.{IsListed}
use Rattle.addr2line_units.specs.LoadsLaws as laws
use Rattle.addr2line.proofs.ContextLemmas.{at_made, by_made, or_made, still_context}

-- a lookup that waits for the unit of a number
pub waits_is : (n : ℕ) (r : Result LookupStop Error) → waits_for n r ≡ true → r ≡ Ok (Waits n)
waits_is n (Ok (Waits k)) e = ap (λ j. Ok (Waits j)) (eqb-true k n e)
waits_is n (Ok (Finds k frames)) e = absurd cc
waits_is n (Ok FindsNothing) e = absurd cc
waits_is n (Err f) e = absurd cc

module _ (ranges : List UnitRange) (u : UnitsState) (i : IsContext ranges u) where
  abbrev d : Sections
  d = u.scope.file.sections

  pub answers_are : (n : ℕ) (given : Option Sections) → answered d u.answers n given ≡ with_answer d u.scope.file.units u.answers n given
  answers_are n given = or_made ranges u i u.answers (λ s xs rs. with_answer s.file.sections s.file.units u.answers n given)

  pub loads_are : (answers : FirstAnswers) (probe : ℕ) → loads_at d answers probe ≡ laws.loads_of d u.scope.file.units answers (cover probe ranges)
  loads_are answers probe = or_made ranges u i [] (λ s xs rs. laws.loads_of s.file.sections s.file.units answers (cover probe rs))

  -- the fault of a load among the units is that in the context
  pub reply_alone : (n : ℕ) (given : Option Sections) (r : Result (Unit {0}) Error) → IfErr r (λ e. load_result d u.scope.file.units u.answers n given ≡ Err e) → IfErr r (λ e. load_reply d u.answers n given ≡ Err e)
  reply_alone n given (Ok x) h = tt
  reply_alone n given (Err e) h = by_made ranges u i (λ s xs rs. load_result s.file.sections s.file.units u.answers n given) ∙ h

  module _ (now : UnitsState) (stays : left.StayRead u now) where
    pub scope_same : now.scope ≡ u.scope
    scope_same = ap (λ (x : UnitsState). x.scope) stays

    pub units_same : now.units ≡ u.units
    units_same = ap (λ (x : UnitsState). x.units) stays

    -- what a context has after an answer is still what its sections give
    pub read_context : IsContext ranges now
    read_context = still_context ranges u i now scope_same units_same

  module _ {shares : Bool} (n : ℕ) (given : Option Sections) (r : Result (Unit {0}) Error) (now : UnitsState) (a : left.AfterAnswer shares n given r u now) where
    -- fewer loads are left after an answer to one that a lookup waits for
    fewer_after : (faults : OnFault) (probe : ℕ) → waits_for n (lookup_stop faults d u.answers probe) ≡ true → OnOk r (length (loads_at now.scope.file.sections now.answers probe) < length (loads_at d u.answers probe))
    fewer_after faults probe w = by_loads r (a.shorter (cover probe ranges) listed)
      where
        listed : IsListed n (laws.loads_of d u.scope.file.units u.answers (cover probe ranges))
        listed = at_made ranges u i (λ s xs rs. IsListed n (laws.loads_of s.file.sections s.file.units u.answers (cover probe rs)))
            (λ m e. (waits_listed faults (main_scope d m) m.units u.answers probe n (cover probe m.ranges) (sym (ap (λ (x : Result UnitIndex Error). x >>= stop_in faults d u.answers probe) e) ∙ waits_is n _ w)).1)

        now_are : loads_at now.scope.file.sections now.answers probe ≡ laws.loads_of now.scope.file.sections now.scope.file.units now.answers (cover probe ranges)
        now_are = or_made ranges now (read_context now a.stays) [] (λ s xs rs. laws.loads_of s.file.sections s.file.units now.answers (cover probe rs))

        by_loads : (q : Result (Unit {0}) Error) → OnOk q (length (laws.loads_of now.scope.file.sections now.scope.file.units now.answers (cover probe ranges)) < length (laws.loads_of d u.scope.file.units u.answers (cover probe ranges)))
            → OnOk q (length (loads_at now.scope.file.sections now.answers probe) < length (loads_at d u.answers probe))
        by_loads (Ok x) h =
            subst (λ l. length l < length (loads_at d u.answers probe)) (sym now_are)
            (subst (λ l. length (laws.loads_of now.scope.file.sections now.scope.file.units now.answers (cover probe ranges)) < length l) (sym (loads_are u.answers probe)) h)
        by_loads (Err e) h = tt

    pub after_answer : AfterAnswering n given r (as_context u) (as_context now)
    after_answer = record {
      sections = ap (λ (x : UnitsState). x.scope.file.sections) a.stays;
      parsed = ap (λ (x : UnitsState). x.parsed) a.stays;
      steps = ap (λ (x : UnitsState). x.steps) a.stays;
      answers = of_ok r a.answers;
      refused = a.refused;
      others = a.others;
      functions = a.functions;
      shorter = fewer_after;
    }
      where
        of_ok : (q : Result (Unit {0}) Error) → OnOk q (now.answers ≡ with_answer d u.scope.file.units u.answers n given) → OnOk q (now.answers ≡ answered d u.answers n given)
        of_ok (Ok x) h = h ∙ sym (answers_are n given)
        of_ok (Err e) h = tt
