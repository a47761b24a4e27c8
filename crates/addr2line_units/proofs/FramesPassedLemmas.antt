-- Walks of frames that go on at a place up to which units were passed over (on
-- specs/UnitsAfter.antt).
use Rattle.addr2line_units.proofs.Common.{◌≡◌, inl, inr, ℕ, Bool, true, false, List, [], ◌∷◌, ◌++◌, AllByRecursion, Option, Some, IfErr, Result, Ok, Err, ◌∙◌, ap, refl, sym, subst, Error, UnitRange, IsInOrder, LookupAsks, asks_lines_of, ends_lookup, holds_along, stop_along, FramesResult, UnitsState, asked_by, has_asked_at, has_asked_few_at, stop_of, takes_none_at, IsFaultAt}
use Rattle.addr2line_units.specs.declared.frames.Asks.TheVariants.{Frames}
use Rattle.addr2line_units.specs.declared.frames.OnFault.{OnFault}
use Rattle.addr2line_units.specs.IndexCover.{before_place, ends_sooner, from_place}
use Rattle.addr2line_units.specs.Locations.{steps_along}
use Rattle.addr2line_units.specs.UnitsAfter.{AfterWalkAlong, HasPassedTo, IsFaultAlong, WereAsked}
use Rattle.addr2line_units.proofs.FramesLookupLemmas.{goes_on, holds_both, holds_rest}
use Rattle.addr2line_units.proofs.FramesWalkedLemmas.{HavePassed, IsPassed, as_passed, has_more, of_passed, still_all_passed}
use Rattle.addr2line_units.proofs.IndexPlaceLemmas.{before_both, parted}

-- units that were asked among fewer were asked among more
asked_among : (few all : ℕ → Type 0) (probe : ℕ) (old now : UnitsState) → ((n : ℕ) → few n → all n) → WereAsked few probe old now → WereAsked all probe old now
asked_among few all probe old now more a = record {
  scope = a.scope;
  units = a.units;
  answers = a.answers;
  parsed = a.parsed;
  known = a.known;
  only = λ n e. elim (a.only n e) [ inl p ↦ inl p | inr q ↦ inr (more n q.0, q.1) ];
  learns = λ n. elim (a.learns n) [ inl p ↦ inl p | inr q ↦ inr (more n q) ];
  details = a.details;
  raised = a.raised;
}

module _ {X : Type 0} (shares : Bool) (faults : OnFault) (probe : ℕ) (old now : UnitsState) (result : Result X Error) where
  abbrev frames : ℕ → FramesResult
  frames = asked_by (Frames faults) probe old

  -- a fault along some ranges is one along these and one more
  fault_along : (r : UnitRange) (rest : List UnitRange) → ends_lookup (frames r.unit) ≡ false → (q : Result X Error) → IfErr q (IsFaultAlong (Frames faults) probe old rest) → IfErr q (IsFaultAlong (Frames faults) probe old (r ∷ rest))
  fault_along r rest ends (Ok x) h = tt
  fault_along r rest ends (Err e) h = (h.0, inr (ends, h.1), h.2)

  -- a walk behind one unit that was passed over
  behind_one : (r : UnitRange) (rest : List UnitRange) → IsPassed (Frames faults) probe old r.unit → AfterWalkAlong shares (Frames faults) probe rest result old now → AfterWalkAlong shares (Frames faults) probe (r ∷ rest) result old now
  behind_one r rest p a =
      let ends : ends_lookup (frames r.unit) ≡ false = ap ends_lookup p.nothing in
      record {
        asked = asked_among (LookupAsks frames rest) (LookupAsks frames (r ∷ rest)) probe old now (λ n h. inr (ends, h)) a.asked;
        ready = λ told. holds_both frames r rest (has_asked_at (Frames faults) probe now) (has_more (Frames faults) (LookupAsks frames rest) (steps_along old.scope.file.sections old.units rest) probe old now a.asked r.unit p.known) (a.ready told);
        memory = λ few. a.memory (holds_rest frames r rest (has_asked_few_at (Frames faults) probe now) ends few);
        no_memory = λ none. fault_along r rest ends result (a.no_memory (holds_rest frames r rest (takes_none_at shares (Frames faults) probe now) ends none));
        stop = a.stop;
      }

  behind_all : (passed rest : List UnitRange) → HavePassed (Frames faults) probe old passed → AfterWalkAlong shares (Frames faults) probe rest result old now → AfterWalkAlong shares (Frames faults) probe (passed ++ rest) result old now
  behind_all [] rest all a = a
  behind_all (r ∷ passed) rest all a = behind_one r (passed ++ rest) all.0 (behind_all passed rest all.1 a)

  stop_behind : (passed rest : List UnitRange) → HavePassed (Frames faults) probe old passed → stop_of (Frames faults) probe old (passed ++ rest) ≡ stop_of (Frames faults) probe old rest
  stop_behind [] rest all = refl
  stop_behind (r ∷ passed) rest all = goes_on frames r (passed ++ rest) all.0.nothing ∙ stop_behind passed rest all.1

  -- a walk from a place on is one along all ranges, where those before it were passed over
  module _ (place : Option UnitRange) (ranges : List UnitRange) (up : IsInOrder ends_sooner ranges) (passed : HasPassedTo (Frames faults) probe old ranges place) where
    before : HavePassed (Frames faults) probe old (before_place place ranges)
    before = of_passed (Frames faults) probe old (before_place place ranges) passed

    pub stop_from : stop_of (Frames faults) probe old (from_place place ranges) ≡ stop_of (Frames faults) probe old ranges
    stop_from = sym (stop_behind (before_place place ranges) (from_place place ranges) before) ∙ ap (stop_of (Frames faults) probe old) (parted place ranges up)

    module _ (a : AfterWalkAlong shares (Frames faults) probe (from_place place ranges) result old now) where
      pub after_from : AfterWalkAlong shares (Frames faults) probe ranges result old now
      after_from = subst (λ rs. AfterWalkAlong shares (Frames faults) probe rs result old now) (parted place ranges up) (behind_all (before_place place ranges) (from_place place ranges) before a)

      -- and it has passed over all before the place at which it stops
      pub passed_from : (next : Option UnitRange) → HasPassedTo (Frames faults) probe now (from_place place ranges) next → HasPassedTo (Frames faults) probe now ranges next
      passed_from next more = as_passed (Frames faults) probe now (before_place next ranges) (before_both (λ (r : UnitRange). IsPassed (Frames faults) probe now r.unit) place next ranges
          (still_all_passed (Frames faults) (LookupAsks frames (from_place place ranges)) (steps_along old.scope.file.sections old.units (from_place place ranges)) probe old now a.asked (before_place place ranges) before)
          (of_passed (Frames faults) probe now (before_place next (from_place place ranges)) more))
