-- What the units of a context are after one of them was asked (on specs/UnitsAfter.antt and
-- specs/UnitsStored.antt).
use Rattle.addr2line_units.proofs.Common.{◌≡◌, ◌≢◌, ◌⊎◌, inl, inr, ℕ, ◌<◌, ◌≤◌, ◌&&◌, ◌||◌, Bool, true, false, not, List, [], ◌∷◌, length, get_or, slice_get, Option, Some, None, Result, Ok, Err, refl, sym, ap, subst, ◌∙◌, arith, set, IfErr, Error, OutOfMemory, ◌>>=◌, ExactlyUnlessOom, WasNotRefused, Sections, UnitRecord, exceeds_inline_room, Scope, OnFault, FramesStop, UnitRange, CachedUnit, AfterAsk, found_stop, stop_at, functions_in_take_memory, lines_of_take_memory, lines_take_memory, AreFramesIn, first_answer_of, frames_of_place, IsLendable, found_after_fault, as_stop, stop_of_found, indexed_unit, indexed_units, parsed_units, HaveEntriesOf, answers_in, FindsNothing, LookupStop, after_fault, asks_lines_of, ends_lookup, function_offset_of, functions_of_take_memory, inlined_at_number, or_stop, known_in, knows_detail_at, has_parsed, AreUnits, as_units_state, FramesResult, asks_lines_in, frames_in, inlined_of_unit, IsFaultAt, UnitsState, asked_by, takes_none_at, has_all_at, reads_no_memory_at, AreLinesOf, AsksNoMemoryIn, IsCacheOf, cached_lines_result, first_so}
use Rattle.std.specs.Prelude.{IfOk, unwrap_or}
use Rattle.addr2line_units.specs.declared.frames.Asks.TheVariants as lookups
use Rattle.addr2line_units.specs.declared.frames.FramesStop.TheVariants as stops
use Rattle.addr2line_units.specs.declared.entries.UnitFrames.{UnitFrames}
use Rattle.addr2line_units.specs.UnitAfter.{AfterFramesIn}
use Rattle.addr2line_units.specs.EntriesOwn.{AreOwnEntries}
use Rattle.addr2line_units.proofs.UnitsCachedLemmas.{entries_set, reads_set, same_answers, stay_entries_set}
use Rattle.addr2line_units.proofs.FramesFoundLemmas.{lendable_if_told}
use Rattle.addr2line_units.proofs.FramesLookupLemmas.{gives_after, no_stop, oom_before, refused_before, stop_is, stop_there, there_after}
use Rattle.addr2line_units.proofs.EntriesKnownLemmas.{known_is, known_unchanged}
use Rattle.addr2line_units.proofs.EntriesLearnedLemmas.{detail_at, detail_set, detail_unchanged, entries_learn}
use Rattle.addr2line_units.proofs.FramesNumberedLemmas.{asks_are, frames_are, frames_given, functions_take, known_then, lines_only, lines_take, many_are, none_known, nothing_at, offset_is, places_there, then_known, then_no_memory}
use Rattle.addr2line_units.proofs.EntriesFrameLemmas.{frames_are_in}
use Rattle.addr2line_units.proofs.EntriesOwnLemmas.{looked_at_is_cache}
use Rattle.addr2line_units.proofs.EntriesStayLemmas.{stays_known}
use Rattle.addr2line_units.proofs.UnitLinesLemmas.{left_are, left_stay, not_refused_lines}
use Rattle.addr2line_units.proofs.UnitsAtLemmas.{all_entries, as_many, cache_within, its_entries, its_lines, unit_is}
use Rattle.addr2line_units.proofs.UnitsLinesLemmas.{stay_indexed, stay_parsed, stay_set}
use Rattle.addr2line_units.proofs.Facts.{and_not, slice_get_none}
use Rattle.addr2line_units.proofs.UnitsCaches.{AreFoundAt, IsStopIn, StayAllEntries, StayAllLines, frames_found_at, has_entries_at, has_frames_at}
use Rattle.addr2line_units.specs.EntriesCached.{frames_or}

-- a range of the unit of a number
abbrev range_of : ℕ → List UnitRange
range_of n = record { unit = n; range = record { begin = 0; end = 0 } } ∷ []

holds_alone : (h : Bool) (x : FramesResult) → h ≡ true → (h && (ends_lookup x || true)) ≡ true
holds_alone h x e = by (ends_lookup x) h e
  where
    by : (b h : Bool) → h ≡ true → (h && (b || true)) ≡ true
    by true true e = refl
    by false true e = refl
    by b false e = cc

module _ {R : Type 0} {scope : Scope} {cs : List (CachedUnit R)} {last : FramesStop} (i : AreUnits scope cs last) (probe n : ℕ) (steps : ℕ) (was : LookupStop) where
  abbrev us : List UnitRecord
  us = scope.file.units

  abbrev d : Sections
  d = scope.file.sections

  abbrev old : UnitsState
  old = as_units_state scope cs steps was

  -- there is no unit of that number
  module _ (none : slice_get us n ≡ None) where
    past : length cs ≤ n
    past = subst (λ m. m ≤ n) (as_many i) (slice_get_none us n none)

    of_faults : (faults : OnFault) (r : FramesResult) → r ≡ Ok (Some []) → (after_fault faults r >>= or_stop n (Ok FindsNothing)) ≡ Ok FindsNothing
    of_faults faults r e = ap (λ x. after_fault faults x >>= or_stop n (Ok FindsNothing)) e

    pub none_gives : (faults : OnFault) → stop_at (lookups.Frames faults) probe old n ≡ Ok FindsNothing
    none_gives faults = of_faults faults _ (nothing_at scope probe us cs n past)

    pub none_after : (shares : Bool) (faults : OnFault) → AfterAsk {X = Unit {0}} shares (lookups.Frames faults) n probe (Ok tt) old (as_units_state scope cs steps FindsNothing)
    none_after shares faults = record {
      asked = record { scope = refl; units = refl; answers = refl; parsed = λ m e. e; known = λ m. record { at = λ p e. e; whole = λ k h. h }; only = λ m e. inl e; learns = λ m. inl refl; details = λ m o e. inl e; raised = omega arith };
      ready = λ h. ap (λ b. b && (not (asks_lines_of scope (indexed_units us cs) (answers_in cs) probe n) || has_parsed (parsed_units cs) n)) (known_is probe cs n) ∙ none_known scope probe us cs n past;
      memory = λ h. tt;
      no_memory = λ h. tt;
      stop = tt;
    }

  module _ {u : UnitRecord} (there : slice_get us n ≡ Some u) where
    module _ {c : CachedUnit R} (at : c ≡ get_or cs n c) where
      within : n < length cs
      within = cache_within i n there

      unit : u ≡ get_or us n u
      unit = unit_is i n there

      own : HaveEntriesOf scope us cs
      own = all_entries i

      -- its frames by what is cached of its lines are its frames
      pub gives_in : (w : CachedUnit R) (result : Result UnitFrames Error) → ExactlyUnlessOom (frames_of_place w.lines w.entries) result (frames_or scope u probe c)
          → ExactlyUnlessOom (frames_of_place w.lines w.entries) result (frames_in scope (indexed_unit u c.lines) (first_answer_of c.entries) probe)
      gives_in w result gives = subst (ExactlyUnlessOom (frames_of_place w.lines w.entries) result) (frames_are_in scope u probe c (its_lines i n there at)) gives

      module _ (w : CachedUnit R) where
        abbrev now_cs : List (CachedUnit R)
        now_cs = set cs n w

        module _ (faults : OnFault) (result : Result UnitFrames Error) (gives : ExactlyUnlessOom (frames_of_place w.lines w.entries) result (frames_in scope (indexed_unit u c.lines) (first_answer_of c.entries) probe)) where
          given : ExactlyUnlessOom (frames_found_at now_cs n) (found_after_fault faults result) (asked_by (lookups.Frames faults) probe old n)
          given = gives_after faults (frames_found_at now_cs n) result _ refl
              (frames_given scope probe us cs n own within u c w unit at result gives)

          of_found : (f : UnitFrames) → or_stop n (Ok FindsNothing) (frames_found_at now_cs n f) ≡ Ok (as_stop now_cs (found_stop n f))
          of_found f = by (stop_of_found n f) refl
            where
              by : (o : Option FramesStop) → stop_of_found n f ≡ o → or_stop n (Ok FindsNothing) (frames_found_at now_cs n f) ≡ Ok (as_stop now_cs (unwrap_or o stops.FindsNothing))
              by None e = ap (or_stop n (Ok FindsNothing)) (no_stop now_cs n f e)
              by (Some stop) e = stop_is now_cs n f stop (Ok FindsNothing) e

          pub asked_ok : (f : UnitFrames) → found_after_fault faults result ≡ Ok f → stop_at (lookups.Frames faults) probe old n ≡ Ok (as_stop now_cs (found_stop n f))
          asked_ok f e =
              ap (λ x. x >>= or_stop n (Ok FindsNothing)) (subst (λ q. ExactlyUnlessOom (frames_found_at now_cs n) q (asked_by (lookups.Frames faults) probe old n)) e given) ∙ of_found f

          pub asked_err : (x : Error) → found_after_fault faults result ≡ Err x → x ≢ OutOfMemory → stop_at (lookups.Frames faults) probe old n ≡ Err x
          asked_err x e ne = ap (λ y. y >>= or_stop n (Ok FindsNothing)) (subst (λ q. ExactlyUnlessOom (frames_found_at now_cs n) q (asked_by (lookups.Frames faults) probe old n)) e given ne)

          stop_right : IfOk result (AreFramesIn w.lines w.entries) → (f : UnitFrames) → found_after_fault faults result ≡ Ok f → IsStopIn now_cs (found_stop n f)
          stop_right ok f e = by (stop_of_found n f) refl
            where
              places : IfOk result (AreFoundAt now_cs n)
              places = places_there scope probe us cs n own within u c w unit at result ok

              found : AreFoundAt now_cs n f
              found = subst (λ q. IfOk q (AreFoundAt now_cs n)) e (there_after faults now_cs n result places)

              by : (o : Option FramesStop) → stop_of_found n f ≡ o → IsStopIn now_cs (unwrap_or o stops.FindsNothing)
              by None q = tt
              by (Some stop) q = stop_there now_cs n f stop q found

          -- what is known after it
          module _ {shares : Bool} {later : ℕ} (e : AfterFramesIn shares scope u probe result c w steps later) (own_entries_now : AreOwnEntries w.unit w.entries) where
            lines_now : AreLinesOf d u w.lines.lines
            lines_now = left_are e.lines (its_lines i n there at)

            -- it is its own
            pub cache_now : IsCacheOf scope u w
            cache_now = looked_at_is_cache scope u w e.unit own_entries_now lines_now

            not_oom : WasNotRefused (cached_lines_result w.lines.lines)
            not_oom = not_refused_lines d u w.lines.lines lines_now

            refused_frames : AsksNoMemoryIn shares scope u (first_answer_of c.entries) probe w.lines w.entries → IfErr result (λ y. frames_in scope (indexed_unit u c.lines) (first_answer_of c.entries) probe ≡ Err y)
            refused_frames takes = subst (λ given. IfErr result (λ y. given ≡ Err y)) (frames_are_in scope u probe c (its_lines i n there at)) (e.no_memory takes not_oom)

            stay_lines : StayAllLines cs now_cs
            stay_lines = stay_set cs n c w within at (left_stay e.lines)

            stay_entries : StayAllEntries cs now_cs
            stay_entries = stay_entries_set cs n c w within at e.stay

            units_same : indexed_units us now_cs ≡ indexed_units us cs
            units_same = stay_indexed us cs now_cs stay_lines

            answers_same : answers_in now_cs ≡ answers_in cs
            answers_same = same_answers cs now_cs stay_entries

            abbrev asks : ℕ → Bool
            asks m = asks_lines_of scope (indexed_units us cs) (answers_in cs) probe m

            known_there : WasNotRefused result → has_frames_at asks probe now_cs n ≡ true
            known_there told = known_then scope probe us cs n own within u c w unit at (e.ready told) (e.known told)

            -- what is stored can be lent
            pub stop_lendable : (f : UnitFrames) → found_after_fault faults result ≡ Ok f → IsLendable now_cs (found_stop n f)
            stop_lendable f is =
                lendable_if_told scope probe faults us now_cs (indexed_units us cs) (answers_in cs) asks (range_of n) (Ok (found_stop n f)) (entries_set scope us cs n u w unit own cache_now.entries)
                (sym units_same) (sym answers_same) (stop_right e.frames f is) (asked_ok f is)
                (λ _. holds_alone (has_frames_at asks probe now_cs n) (asked_by (lookups.Frames faults) probe old n) (known_there (oom_before faults result (subst WasNotRefused (sym is) tt))))

            module _ (stop : LookupStop) where
              abbrev new : UnitsState
              new = as_units_state scope now_cs later stop

              all_is : has_all_at probe new n ≡ has_frames_at asks probe now_cs n
              all_is =
                  ap (λ b. b && (not (asks_lines_of scope (indexed_units us now_cs) (answers_in now_cs) probe n) || has_parsed (parsed_units now_cs) n)) (known_is probe now_cs n)
                  ∙ ap (λ xs. has_entries_at probe now_cs n && (not (asks_lines_of scope xs (answers_in now_cs) probe n) || has_parsed (parsed_units now_cs) n)) units_same
                  ∙ ap (λ a. has_entries_at probe now_cs n && (not (asks_lines_of scope (indexed_units us cs) a probe n) || has_parsed (parsed_units now_cs) n)) answers_same

              many_is : exceeds_inline_room (inlined_at_number scope (indexed_units us now_cs) (answers_in now_cs) probe n) ≡ exceeds_inline_room (inlined_of_unit scope u (first_answer_of c.entries) probe)
              many_is =
                  ap (λ xs. exceeds_inline_room (inlined_at_number scope xs (answers_in now_cs) probe n)) units_same
                  ∙ ap (λ a. exceeds_inline_room (inlined_at_number scope (indexed_units us cs) a probe n)) answers_same
                  ∙ many_are scope probe us cs n own within u c w unit at

              -- where the lookup takes no memory there, a refusal is the fault of the unit
              pub refused_alone : (x : Error) → found_after_fault faults result ≡ Err x → takes_none_at shares (lookups.Frames faults) probe new n ≡ true → IsFaultAt (lookups.Frames faults) probe old n x
              refused_alone x is none =
                  frames_are scope probe us cs n own within u c w unit at
                  ∙ subst (λ q. IfErr q (λ y. frames_in scope (indexed_unit u c.lines) (first_answer_of c.entries) probe ≡ Err y)) (refused_before faults result x is)
                  (refused_frames (then_no_memory scope probe us cs n own within u c w unit at shares (sym none_is ∙ first_so _ _ none) (sym many_is ∙ and_not _ _ none)))
                where
                  none_is : reads_no_memory_at shares probe new n ≡ ((has_entries_at probe now_cs n || not (functions_in_take_memory shares scope u (first_answer_of c.entries)))
                      && (not (asks_lines_in scope u (first_answer_of c.entries) probe) || (has_parsed (parsed_units now_cs) n || not (lines_take_memory shares u))))
                  none_is =
                      ap (λ b. (b || not (functions_of_take_memory shares scope (indexed_units us now_cs) (answers_in now_cs) n)) && (not (asks_lines_of scope (indexed_units us now_cs) (answers_in now_cs) probe n) || (has_parsed (parsed_units now_cs) n || not (lines_of_take_memory shares (indexed_units us now_cs) n)))) (known_is probe now_cs n)
                      ∙ ap (λ xs. (has_entries_at probe now_cs n || not (functions_of_take_memory shares scope xs (answers_in now_cs) n)) && (not (asks_lines_of scope xs (answers_in now_cs) probe n) || (has_parsed (parsed_units now_cs) n || not (lines_of_take_memory shares xs n)))) units_same
                      ∙ ap (λ a. (has_entries_at probe now_cs n || not (functions_of_take_memory shares scope (indexed_units us cs) a n)) && (not (asks_lines_of scope (indexed_units us cs) a probe n) || (has_parsed (parsed_units now_cs) n || not (lines_of_take_memory shares (indexed_units us cs) n)))) answers_same
                      ∙ ap (λ b. (has_entries_at probe now_cs n || not b) && (not (asks n) || (has_parsed (parsed_units now_cs) n || not (lines_of_take_memory shares (indexed_units us cs) n)))) (functions_take scope probe us cs n own within u c w unit at shares)
                      ∙ ap (λ b. (has_entries_at probe now_cs n || not (functions_in_take_memory shares scope u (first_answer_of c.entries))) && (not b || (has_parsed (parsed_units now_cs) n || not (lines_of_take_memory shares (indexed_units us cs) n)))) (asks_are scope probe us cs n own within u c w unit at)
                      ∙ ap (λ b. (has_entries_at probe now_cs n || not (functions_in_take_memory shares scope u (first_answer_of c.entries))) && (not (asks_lines_in scope u (first_answer_of c.entries) probe) || (has_parsed (parsed_units now_cs) n || not b))) (lines_take scope probe us cs n own within u c w unit at shares)

              details_there : (m : ℕ) → m ≡ n → (offset : ℕ) → knows_detail_at (known_in now_cs) offset m ≡ true → (knows_detail_at (known_in cs) offset m ≡ true) ⊎ (function_offset_of scope (indexed_units us cs) (answers_in cs) probe m ≡ Some offset)
              details_there m is offset known = elim (entries_learn scope u probe offset c.entries w.entries (its_entries i n there at) cache_now.entries e.stay e.within.alone (sym (detail_set cs n c w within at offset m is) ∙ known)) [
                | inl h ↦ inl (detail_at cs n c w within at offset m is ∙ h)
                | inr h ↦ inr (ap (function_offset_of scope (indexed_units us cs) (answers_in cs) probe) is ∙ offset_is scope probe us cs n own within u c w unit at ∙ h)
              ]

              pub after_asked : {X : Type 0} (q : Result X Error) → (WasNotRefused q → WasNotRefused result) → (WasNotRefused result → WasNotRefused q) → IfErr q (λ _. stop ≡ FindsNothing)
                  → (takes_none_at shares (lookups.Frames faults) probe new n ≡ true → IfErr q (IsFaultAt (lookups.Frames faults) probe old n)) → AfterAsk shares (lookups.Frames faults) n probe q old new
              after_asked q before then stored alone = record {
                asked = record {
                  scope = refl;
                  units = units_same;
                  answers = answers_same;
                  parsed = stay_parsed cs now_cs stay_lines;
                  known = stays_known cs now_cs stay_entries;
                  only = lines_only scope probe us cs n own within u c w unit at e.kept;
                  learns = λ m. elim (reads_set probe cs n c w at e.within m) [
                    | inl same ↦ inl (known_unchanged cs now_cs m same)
                    | inr x ↦ inr x.0
                  ];
                  details = λ m offset known. elim (reads_set probe cs n c w at e.within m) [
                    | inl same ↦ inl (detail_unchanged cs now_cs offset m same known)
                    | inr x ↦ details_there m x.0 offset known
                  ];
                  raised = e.raised;
                };
                stop = stored;
                ready = λ told. all_is ∙ known_there (before told);
                memory = λ few.
                    let both = then_known scope probe us cs n own within u c w unit at (sym all_is ∙ first_so _ _ few) in
                    then (e.memory both.0 both.1 (sym many_is ∙ and_not _ _ few) not_oom);
                no_memory = alone;
              }
