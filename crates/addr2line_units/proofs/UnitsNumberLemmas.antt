-- What is answered, loaded, listed and forgotten of the unit of a number (on
-- specs/UnitsAfter.antt and specs/UnitsStored.antt).
use Rattle.addr2line_units.proofs.Common.{◌≡◌, inl, inr, ℕ, ◌<◌, Bool, true, false, List, length, get_or, slice_get, Option, Some, None, Result, Ok, Err, refl, sym, ap, subst, ◌∙◌, AreEntriesOf, fault_of, is_decided, verdict_in, set, cases_eq, IfErr, OnOk, Error, UnknownToken, ◌>>=◌, Sections, UnitRecord, Scope, FramesStop, CachedUnit, EntriesCache, first_answer_of, known_in, answers_in, FindsNothing, LookupStop, answer_of, LearnsNoFunctions, is_open_at, load_of_number, load_result, view_fault, AreUnits, as_units_state, UnitsState, awaited_load, decided_answer, is_open, verdict, with_answer, get_set_other}
use Rattle.std.specs.Prelude.{IfSome, is_some}
use Rattle.addr2line_units.specs.UnitAfter.{AfterAnswerIn, AfterForgettingIn, AfterNewLoadIn}
use Rattle.addr2line_units.specs.UnitView.{SplitLoad}
use Rattle.addr2line_units.proofs.EntriesKeeps.{KeepsAnswered, KeepsChecked, KeepsForgotten, KeepsListed}
use Rattle.addr2line_units.proofs.UnitViewLemmas.{cached_fault}
use Rattle.addr2line_units.specs.UnitsAfter.{AfterAnswer, AfterForget, AfterListing, AfterLoad}
use Rattle.addr2line_units.proofs.LoadsAnswerLemmas.{answer_at, answered_if_ok, answers_if_refused, answers_set, decided_there, keeps_answered, keeps_forgotten}
use Rattle.addr2line_units.proofs.UnitsCachedLemmas.{as_many_entries, entries_set, known_by_entries, same_entries_set, same_lines_set, stay_entries_set}
use Rattle.addr2line_units.proofs.EntriesLearnedLemmas.{answered_learns, checked_learns, forgotten_learns, set_learns}
use Rattle.addr2line_units.specs.LoadsLaws.{loads_of}
use Rattle.addr2line_units.proofs.LoadsLawLemmas.{fewer_left}
use Rattle.addr2line_units.proofs.LoadsLemmas.{as_many_answers, keeps_listed, load_there, this_unit, unknown_answer, unknown_load}
use Rattle.addr2line_units.proofs.LoadsOpenLemmas.{not_open_there}
use Rattle.addr2line_units.proofs.UnitsAtLemmas.{all_entries, as_many, cache_within, its_entries, unit_is, unit_within}
use Rattle.addr2line_units.proofs.UnitsStateLemmas.{after_answer, after_forget, after_listing, after_load}
use Rattle.addr2line_units.proofs.UnitsCaches.{HaveSameLines, decided_at}

-- the unit of a number
module _ {R : Type 0} {scope : Scope} {held : List (CachedUnit R)} {last : FramesStop} (i : AreUnits scope held last) (n : ℕ) where
  abbrev d : Sections
  d = scope.file.sections

  abbrev us : List UnitRecord
  us = scope.file.units

  -- there is none
  module _ (none : slice_get us n ≡ None) (given : Option Sections) (steps : ℕ) (was : LookupStop) where
    pub none_answered : {shares : Bool} → AfterAnswer shares n given (Ok tt) (as_units_state scope held steps was) (as_units_state scope held steps FindsNothing)
    none_answered = record {
      stays = refl;
      answers = sym (unknown_answer d us (answers_in held) n given none);
      refused = tt;
      others = λ k ne. refl;
      functions = λ k. inl refl;
      known = λ shut k. record { at = λ probe q. q; whole = λ needed q. q };
      same = λ one e. refl;
      not_open = λ shut. refl;
      no_memory = λ takes. tt;
      shorter = λ ranges listed. subst (λ xs. length (loads_of d us xs ranges) < length (loads_of d us (answers_in held) ranges)) (unknown_answer d us (answers_in held) n given none)
          (fewer_left d us (answers_in held) n given ranges (as_many i ∙ sym (as_many_answers held)) listed);
    }

    pub none_loaded : {shares : Bool} → AfterLoad shares n given (Err UnknownToken) (as_units_state scope held steps was) (as_units_state scope held steps FindsNothing)
    none_loaded = record {
      stays = refl;
      answers = λ told. sym (unknown_answer d us (answers_in held) n given none);
      begun = inl refl;
      refused = λ ne. (refl, λ k. record { at = λ probe q. q; whole = λ needed q. q });
      known = λ shut k. record { at = λ probe q. q; whole = λ needed q. q };
      same = λ one e. refl;
      others = λ k ne. refl;
      functions = λ k. inl refl;
      not_open = λ shut. sym (unknown_load d us (answers_in held) n given none);
      exact = λ takes. sym (unknown_load d us (answers_in held) n given none);
    }

  module _ {u : UnitRecord} (there : slice_get us n ≡ Some u) where
    module _ {c : CachedUnit R} (at : c ≡ get_or held n c) where
      abbrev v : EntriesCache R
      v = c.entries

      within : n < length held
      within = cache_within i n there

      answer_is : answer_of (answers_in held) n ≡ first_answer_of v
      answer_is = answer_at held n c within at

      load_is : (given : Option Sections) → load_result d us (answers_in held) n given ≡ view_fault (verdict d u (decided_answer d u (first_answer_of v) given))
      load_is given =
          ap (λ r. r >>= λ x. view_fault (verdict d x (decided_answer d x (answer_of (answers_in held) n) given))) (this_unit us n u there)
          ∙ ap (λ a. view_fault (verdict d u (decided_answer d u a given))) answer_is

      -- its load, and whether it is open
      pub load_listed : load_of_number d us (answers_in held) n ≡ awaited_load d n u (first_answer_of v)
      load_listed = load_there d us held n u c there within at

      pub shut_there : is_open_at d us (answers_in held) n ≡ false → is_open d u (first_answer_of v) ≡ false
      shut_there = not_open_there d us held n u c there within at

      refused_told : (given : Option Sections) (r : Result (Unit {0}) Error) → IfErr r (λ e. view_fault (verdict d u (decided_answer d u (first_answer_of v) given)) ≡ Err e) → IfErr r (λ e. load_result d us (answers_in held) n given ≡ Err e)
      refused_told given (Ok x) h = tt
      refused_told given (Err e) h = load_is given ∙ h

      module _ (after : CachedUnit R) (lines : after.lines ≡ c.lines) where
        abbrev w : EntriesCache R
        w = after.entries

        abbrev now : List (CachedUnit R)
        now = set held n after

        same_lines_now : HaveSameLines held now
        same_lines_now = same_lines_set held n c after at lines

        -- it stays right
        pub kept_answer : {shares : Bool} {given : Option Sections} {r : Result (Unit {0}) Error} → AfterAnswerIn shares d u given r v w → KeepsAnswered shares scope u given r v w
        kept_answer {shares} {given} {r} a = keeps_answered shares scope u given r v w (its_entries i n there at) a

        pub kept_forgetting : AfterForgettingIn c after → KeepsForgotten scope u v w
        kept_forgetting a = keeps_forgotten scope u c after (its_entries i n there at) a

        pub kept_listing : {marks marked : List ℕ} {r : Result (Option SplitLoad) Error} → AfterNewLoadIn d n u marks marked r v w → KeepsListed scope n u marks marked r v w
        kept_listing {marks} {marked} {r} a = keeps_listed scope n u marks marked v w (its_entries i n there at) r a

        -- the fault of its view
        pub fault_told : {r : Result (Unit {0}) Error} {seen : Scope} → seen ≡ scope → AreEntriesOf scope u w → is_decided w.view.state ≡ true → IfSome (verdict_in seen.file.sections u w.view.state) (λ known. IfSome known (λ view. r ≡ fault_of view)) → r ≡ view_fault (verdict d u (first_answer_of w))
        fault_told {r} is right known gives = cached_fault d u w.view r right.view known (subst (λ (s : Scope). IfSome (verdict_in s.file.sections u w.view.state) (λ known. IfSome known (λ view. r ≡ fault_of view))) is gives)

        pub load_told : (given : Option Sections) (r : Result (Unit {0}) Error) → first_answer_of w ≡ decided_answer d u (first_answer_of v) given → r ≡ view_fault (verdict d u (first_answer_of w)) → r ≡ load_result d us (answers_in held) n given
        load_told given r same e = e ∙ ap (λ a. view_fault (verdict d u a)) same ∙ sym (load_is given)

        -- its load was listed
        pub listed_there : (steps : ℕ) (was : LookupStop) → KeepsChecked scope u v w → AfterListing (λ k. k ≡ n) (as_units_state scope held steps was) (as_units_state scope now steps FindsNothing)
        listed_there steps was a = after_listing scope held (all_entries i) now same_lines_now steps was (λ k. k ≡ n) (stay_entries_set held n c after within at a.stay)
            (λ k. elim (cases_eq k n) [ inl is ↦ inr is | inr ne ↦ inl (get_set_other held n k after ne) ])
            (set_learns held n c after within at (checked_learns scope u v w (its_entries i n there at) a.stay a.functions))

        module _ (given : Option Sections) (steps : ℕ) (was : LookupStop) where
          abbrev old : UnitsState
          old = as_units_state scope held steps was

          abbrev new : UnitsState
          new = as_units_state scope now steps FindsNothing

          module _ {shares : Bool} {r : Result (Unit {0}) Error} (a : KeepsAnswered shares scope u given r v w) where
            same_decided : decided_at held n ≡ true → known_in now ≡ known_in held
            same_decided h = known_by_entries held now (same_entries_set held n c after at (a.kept (decided_there held n c at h)).0)

            many : length us ≡ length now
            many = as_many_entries scope us now (entries_set scope us held n u after (unit_is i n there) (all_entries i) a.entries)

            learns : LearnsNoFunctions (known_in held) (known_in now)
            learns = set_learns held n c after within at (answered_learns scope u v w (its_entries i n there at) a.functions (λ h. (a.kept h).0))

            answers : OnOk r (answers_in now ≡ with_answer d us (answers_in held) n given)
            answers = answered_if_ok d us held n u c after given r (unit_within i n there) within (unit_is i n there) at a.answer

            pub answered_there : AfterAnswer shares n given r old new
            answered_there = after_answer scope held (all_entries i) now same_lines_now steps was n (λ k ne. get_set_other held n k after ne) same_decided many shares given r
                answers (answers_if_refused held n c after r (is_some given ≡ true) within at a.refused) learns (λ h. a.none (shut_there h)) (λ takes. refused_told given r (a.no_memory takes))

          -- the answer was given
          pub loaded_there : {shares : Bool} → KeepsAnswered shares scope u given (Ok tt) v w → (r : Result (Unit {0}) Error) → r ≡ view_fault (verdict d u (first_answer_of w)) → AfterLoad shares n given r old new
          loaded_there {shares} a r fault =
              let told = load_told given r a.answer fault in
              after_load scope held (all_entries i) now same_lines_now steps was n (λ k ne. get_set_other held n k after ne) (same_decided a) (many a) shares given r (λ h. answers a) (inr (answers a)) (λ ne. absurd (ne told)) (λ shut. told) (λ takes. told) (learns a)

          -- memory was refused
          pub refused_there : {shares : Bool} (e : Error) → KeepsAnswered shares scope u given (Err e) v w → AfterLoad shares n given (Err e) old new
          refused_there {shares} e a =
              let r = answers_if_refused held n c after (Err e) (is_some given ≡ true) within at a.refused in
              after_load scope held (all_entries i) now same_lines_now steps was n (λ k ne. get_set_other held n k after ne) (same_decided a) (many a) shares given (Err e) (λ told. absurd (told a.refused.0)) (inl r.1) (λ ne. (r.1, r.2))
              (λ h. absurd (let no = a.none (shut_there h) in cc))
              (λ takes. sym (a.no_memory takes) ∙ sym (load_is given)) (learns a)

        pub forgotten_there : (steps : ℕ) (was : LookupStop) → KeepsForgotten scope u v w → AfterForget n (as_units_state scope held steps was) (as_units_state scope now steps FindsNothing)
        forgotten_there steps was a = after_forget scope held (all_entries i) now same_lines_now steps was n
            (answers_set held n after ∙ ap (λ o. set (answers_in held) n o) a.answer)
            (λ h. known_by_entries held now (same_entries_set held n c after at (a.kept (sym answer_is ∙ h)))) (λ k ne. get_set_other held n k after ne)
            (set_learns held n c after within at (forgotten_learns v w a.kept a.empty))
