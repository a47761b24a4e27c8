-- What a parse of functions leaves of the unit of a number (on specs/ParsesAfter.antt and
-- specs/UnitsStored.antt).
use Rattle.addr2line_units.proofs.Common.{◌≡◌, ◌∙◌, inl, inr, ℕ, zero, suc, ◌<◌, arith, Bool, true, false, List, [], ◌∷◌, length, get_or, slice_get, Option, Some, None, option_map, Result, Ok, Err, refl, sym, ap, subst, set, slice_get-map, slice_get_past, slice_get_read, IfErr, OnOk, Error, Sections, UnitRecord, Scope, FramesStop, ReadingDepth, CachedUnit, EntriesCache, first_answer_of, has_entries, known_by, known_in, answers_in, is_decided, was_checked, FindsNothing, LookupStop, answer_of, IsReadyFor, parse_of_takes_memory, parse_takes_memory, read_of_number, read_of_unit, is_open_at, AreUnits, as_units_state, UnitsState, FirstAnswers, is_open, get_set_other, get_set_same}
use Rattle.std.specs.Prelude.{IfSome, unwrap_or}
use Rattle.addr2line_units.specs.UnitAfter.{AfterEntries}
use Rattle.addr2line_units.specs.ParsesAfter.{AfterReadingAt, AfterReadingUnit}
use Rattle.addr2line_units.specs.EntriesStayKnown.{IsReadBy, StaysKnownOf}
use Rattle.addr2line_units.proofs.LoadsAnswerLemmas.{answered_all, answers_stay, decided_if_not, checked_waits}
use Rattle.addr2line_units.proofs.UnitsCachedLemmas.{entries_more, same_lines_set}
use Rattle.addr2line_units.proofs.EntriesKnownLemmas.{known_is, known_unchanged}
use Rattle.addr2line_units.proofs.EntriesLearnedLemmas.{set_details}
use Rattle.addr2line_units.proofs.LoadsLemmas.{unknown_answer}
use Rattle.addr2line_units.proofs.UnitsStateLemmas.{only_entries}
use Rattle.addr2line_units.proofs.EntriesStayLemmas.{entries_whole, whole_was_checked}
use Rattle.addr2line_units.proofs.UnitsAtLemmas.{all_entries, as_many, cache_within, its_entries, unit_is, unit_within}
use Rattle.addr2line_units.proofs.FramesWaitLemmas.{known_was_checked}
use Rattle.addr2line_units.proofs.EntriesLemmas.{checked_decides}
use Rattle.addr2line_units.proofs.Facts.{slice_get_none}
use Rattle.addr2line_units.proofs.UnitsCaches.{HaveSameLines}

-- what is read of the unit of a number, whether it is open, and whether memory is taken, by its
-- record and its first answer
module _ (us : List UnitRecord) (answers : FirstAnswers) (n : ℕ) where
  module _ (u : UnitRecord) (there : slice_get us n ≡ Some u) (first : Option (Option Sections)) (at : answer_of answers n ≡ first) where
    reading_is : (depth : ReadingDepth) (scope : Scope) → read_of_number depth scope us answers n ≡ read_of_unit depth scope u first
    reading_is depth scope = ap (λ o. of_unit o) there ∙ ap (read_of_unit depth scope u) at
      where
        of_unit : Option UnitRecord → Result (Unit {0}) Error
        of_unit o = elim o [ None ↦ Ok tt | Some x ↦ read_of_unit depth scope x (answer_of answers n) ]

    open_is : (d : Sections) → is_open_at d us answers n ≡ is_open d u first
    open_is d = ap (λ o. of_unit o) there ∙ ap (is_open d u) at
      where
        of_unit : Option UnitRecord → Bool
        of_unit o = elim o [ None ↦ false | Some x ↦ is_open d x (answer_of answers n) ]

    takes_is : (shares : Bool) (scope : Scope) → parse_of_takes_memory shares scope us answers n ≡ parse_takes_memory shares scope u first
    takes_is shares scope = ap (λ o. of_unit o) there ∙ ap (parse_takes_memory shares scope u) at
      where
        of_unit : Option UnitRecord → Bool
        of_unit o = elim o [ None ↦ false | Some x ↦ parse_takes_memory shares scope x (answer_of answers n) ]

  module _ (none : slice_get us n ≡ None) where
    nothing_read : (depth : ReadingDepth) (scope : Scope) → read_of_number depth scope us answers n ≡ Ok tt
    nothing_read depth scope = ap (λ o. of_unit o) none
      where
        of_unit : Option UnitRecord → Result (Unit {0}) Error
        of_unit o = elim o [ None ↦ Ok tt | Some x ↦ read_of_unit depth scope x (answer_of answers n) ]

    not_open : (d : Sections) → is_open_at d us answers n ≡ false
    not_open d = ap (λ o. of_unit o) none
      where
        of_unit : Option UnitRecord → Bool
        of_unit o = elim o [ None ↦ false | Some x ↦ is_open d x (answer_of answers n) ]

-- the first answer and what is known of the unit of a number, by what is cached of it
module _ {R : Type 0} (vs : List (CachedUnit R)) (n : ℕ) (v : CachedUnit R) (there : slice_get vs n ≡ Some v) where
  answer_there : answer_of (answers_in vs) n ≡ first_answer_of v.entries
  answer_there = ap (λ o. unwrap_or o None) (slice_get-map (λ (x : CachedUnit R). first_answer_of x.entries) vs n ∙ ap (option_map (λ (x : CachedUnit R). first_answer_of x.entries)) there)

  known_there : slice_get (known_in vs) n ≡ Some (known_by v.entries.view.state v.entries.functions)
  known_there = slice_get-map (λ (x : CachedUnit R). known_by x.entries.view.state x.entries.functions) vs n ∙ ap (option_map (λ (x : CachedUnit R). known_by x.entries.view.state x.entries.functions)) there

-- nothing is changed of all where it isn't of one
known_stays : {R : Type 0} (vs : List (CachedUnit R)) (n : ℕ) (v w : CachedUnit R) → n < length vs → v ≡ get_or vs n v → known_by w.entries.view.state w.entries.functions ≡ known_by v.entries.view.state v.entries.functions → known_in (set vs n w) ≡ known_in vs
known_stays [] n v w h at same = absurd (omega (arith, h))
known_stays (x ∷ vs) zero v w h at same = ap (λ k. k ∷ known_in vs) (same ∙ ap (λ (c : CachedUnit _). known_by c.entries.view.state c.entries.functions) at)
known_stays (x ∷ vs) (suc n) v w h at same = ap (λ ks. known_by x.entries.view.state x.entries.functions ∷ ks) (known_stays vs n v w (omega (arith, h)) at same)

module _ {R : Type 0} {scope : Scope} {held : List (CachedUnit R)} {last : FramesStop} (i : AreUnits scope held last) (n : ℕ) (shares : Bool) (depth : ReadingDepth) (steps : ℕ) (was : LookupStop) where
  abbrev d : Sections
  d = scope.file.sections

  abbrev us : List UnitRecord
  us = scope.file.units

  abbrev old : UnitsState
  old = as_units_state scope held steps was

  -- there is no such unit
  module _ (none : slice_get us n ≡ None) where
    pub none_gives : read_of_number depth scope us (answers_in held) n ≡ Ok tt
    none_gives = nothing_read us (answers_in held) n none depth scope

    none_known : slice_get (known_in held) n ≡ None
    none_known =
        let past = slice_get_none us n none in
        let many = as_many i in
        slice_get-map (λ (x : CachedUnit R). known_by x.entries.view.state x.entries.functions) held n
        ∙ ap (option_map (λ (x : CachedUnit R). known_by x.entries.view.state x.entries.functions)) (slice_get_past held n (omega (arith, past, many)))

    pub none_after : AfterReadingAt shares depth n (Ok tt) old (as_units_state scope held steps FindsNothing)
    none_after = record {
      stays = refl;
      answers = λ ne. sym (unknown_answer d us (answers_in held) n None none);
      begun = inl refl;
      known = λ shut. record { at = λ probe q. q; whole = λ needed q. q };
      others = λ k ne. refl;
      details = λ is k offset e. e;
      read = subst (λ o. IfSome o (IsReadBy depth)) (sym none_known) tt;
      whole = λ h. refl;
      ready = λ ne. (not_open us (answers_in held) n none d, subst (λ o. IfSome o (IsReadyFor depth)) (sym none_known) tt);
      memory = λ k. tt;
      exact = λ k. sym none_gives;
      same = λ k. (refl, refl);
      no_memory = λ takes. tt;
    }

  module _ {u : UnitRecord} (there : slice_get us n ≡ Some u) {c : CachedUnit R} (at : c ≡ get_or held n c) {after : CachedUnit R} {result : Result (Unit {0}) Error} (left : AfterEntries (AfterReadingUnit shares depth scope u result) scope u c after) where
    abbrev v : EntriesCache R
    v = c.entries

    abbrev w : EntriesCache R
    w = after.entries

    a : AfterReadingUnit shares depth scope u result v w
    a = left.entries

    abbrev now : List (CachedUnit R)
    now = set held n after

    within : n < length held
    within = cache_within i n there

    held_there : slice_get held n ≡ Some c
    held_there = slice_get_read held (length held) n c refl within at

    now_there : slice_get now n ≡ Some after
    now_there = get_set_same held n after within

    answer_was : answer_of (answers_in held) n ≡ first_answer_of v
    answer_was = answer_there held n c held_there

    answer_now : answer_of (answers_in now) n ≡ first_answer_of w
    answer_now = answer_there now n after now_there

    known_was : slice_get (known_in held) n ≡ Some (known_by v.view.state v.functions)
    known_was = known_there held n c held_there

    known_now : slice_get (known_in now) n ≡ Some (known_by w.view.state w.functions)
    known_now = known_there now n after now_there

    open_was : is_open_at d us (answers_in held) n ≡ is_open d u (first_answer_of v)
    open_was = open_is us (answers_in held) n u there (first_answer_of v) answer_was d

    open_now : is_open_at d us (answers_in now) n ≡ is_open d u (first_answer_of w)
    open_now = open_is us (answers_in now) n u there (first_answer_of w) answer_now d

    pub reading_was : read_of_number depth scope us (answers_in held) n ≡ read_of_unit depth scope u (first_answer_of v)
    reading_was = reading_is us (answers_in held) n u there (first_answer_of v) answer_was depth scope

    -- a unit that isn't open is decided where something is known of it, and what was known stays
    decided : was_checked v.view.state ≡ true → is_open_at d us (answers_in held) n ≡ false → is_decided v.view.state ≡ true
    decided checked shut = checked_decides v.view.state checked (checked_waits d u v.view (its_entries i n there at).view checked ∙ sym open_was ∙ shut)

    stays_known : is_open_at d us (answers_in held) n ≡ false → StaysKnownOf n (known_in held) (known_in now)
    stays_known shut = record {
      at = λ probe q.
          let has = sym (ap (λ o. unwrap_or (option_map (λ (x : CachedUnit R). has_entries probe x.entries) o) true) held_there) ∙ sym (known_is probe held n) ∙ q in
          known_is probe now n ∙ ap (λ o. unwrap_or (option_map (λ (x : CachedUnit R). has_entries probe x.entries) o) true) now_there
          ∙ entries_more probe v w (a.stay (decided (known_was_checked probe v has) shut)) has;
      whole = λ needed q.
          let ready = subst (λ o. IfSome o (IsReadyFor needed)) known_was q in
          subst (λ o. IfSome o (IsReadyFor needed)) (sym known_now) (entries_whole needed v w (a.stay (decided (whole_was_checked needed v.view.state v.functions ready) shut)) ready);
    }

    -- where all was known nothing is changed
    still_answer : is_open d u (first_answer_of v) ≡ false → first_answer_of w ≡ first_answer_of v
    still_answer shut = elim a.begun [
      | inl same ↦ same
      | inr more ↦ more ∙ decided_if_not d u (first_answer_of v) None shut
    ]

    same_lines_now : HaveSameLines held now
    same_lines_now = same_lines_set held n c after at left.lines

    pub after_there : AfterReadingAt shares depth n result old (as_units_state scope now steps FindsNothing)
    after_there = record {
      stays = only_entries scope held (all_entries i) now same_lines_now steps was;
      answers = λ ne. answered_all d us held n u c after None (unit_within i n there) within (unit_is i n there) at (a.answer ne);
      begun = elim a.begun [
        | inl same ↦ inl (answers_stay held n c after within at same)
        | inr more ↦ inr (answered_all d us held n u c after None (unit_within i n there) within (unit_is i n there) at more)
      ];
      known = stays_known;
      others = λ k ne. known_unchanged held now k (get_set_other held n k after ne);
      details = λ is k offset. set_details held n c after within at offset (a.details is offset) k;
      read = subst (λ o. OnOk result (IfSome o (IsReadBy depth))) (sym known_now) a.known.read;
      whole = λ h. a.known.whole (subst (λ o. IfSome o (IsReadBy depth)) known_was h);
      ready = λ ne. let k = a.known.ready ne in (open_now ∙ k.0, subst (λ o. IfSome o (IsReadyFor depth)) (sym known_now) k.1);
      memory = λ k. a.known.memory (sym open_now ∙ k.0, subst (λ o. IfSome o (IsReadyFor depth)) known_now k.1);
      exact = λ k. a.known.exact (sym open_was ∙ k.0, subst (λ o. IfSome o (IsReadyFor depth)) known_was k.1) ∙ sym reading_was;
      same = λ k.
          let shut = sym open_was ∙ k.0 in
          (answers_stay held n c after within at (still_answer shut), known_stays held n c after within at (a.known.same (shut, subst (λ o. IfSome o (IsReadyFor depth)) known_was k.1)));
      no_memory = λ none. subst (λ given. IfErr result (λ e. given ≡ Err e)) (sym reading_was)
          (a.no_memory (sym (takes_is us (answers_in now) n u there (first_answer_of w) answer_now shares scope) ∙ none));
    }
