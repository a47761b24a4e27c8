-- The lines of the unit of a number (on specs/UnitsAsked.antt and specs/UnitsStored.antt).
use Rattle.addr2line_units.proofs.Common.{◌≡◌, inl, ℕ, ◌+◌, ◌<◌, ◌≤◌, Bool, true, false, List, length, get_or, slice_get, Option, Some, None, Result, Ok, Err, refl, sym, ap, subst, ◌∙◌, arith, set, false≢true, IfErr, Error, ExactlyUnlessOom, WasNotRefused, Sections, UnitRecord, LineTable, location_of_row, Scope, FramesStop, LinesCache, CachedUnit, AfterCachingAt, lines_of_take_memory, lines_take_memory, AreLinesOf, StayLines, cached_files, indexed_unit, is_uncached, lines_result, lines_result_at, parsed_units, FindsNothing, LookupStop, is_found, location_in, steps_in, has_parsed, AreUnits, as_units_state, UnitsState, ◌≢◌, ◌>>=◌, LazyLines, AfterAsk, AreRead, IsLendable, IsFaultAt, takes_none_at, location_frames, Finds, as_stop, has_stopped, or_stop, parses_no_memory, row_stop, stop_at, unit_lines, location_at, IndexedUnit, LocationResult, OutOfMemory, Location}
use Rattle.std.proofs.Math.Seq.{lt-length-set}
use Rattle.std.specs.Prelude.{option_map}
use Rattle.addr2line_lines.specs.declared.row.Row.{Row}
use Rattle.addr2line_units.specs.declared.frames.Asks.TheVariants as lookups
use Rattle.addr2line_units.specs.declared.unit.LazyLines.TheVariants.{Absent, Faulty, Read, Unread}
use Rattle.addr2line_units.specs.UnitAfter.{CountsSteps}
use Rattle.addr2line_units.specs.UnitsAfter.{AfterLines}
use Rattle.addr2line_units.proofs.EntriesMemoryLemmas.{either_none, none_refused, alone_if_none}
use Rattle.addr2line_units.proofs.UnitsCachedLemmas.{same_entries_set}
use Rattle.addr2line_units.proofs.UnitsStateLemmas.{after_lines}
use Rattle.addr2line_units.proofs.UnitsAtLemmas.{all_lines, as_many, cache_within, unit_is, unit_within}
use Rattle.addr2line_units.proofs.UnitLinesLemmas.{CachesResult}
use Rattle.addr2line_units.proofs.UnitsLinesLemmas.{answer_cached, lines_read, lines_set, no_parsed, no_unit, only_set, parsed_set, set_parsed, stay_indexed, stay_set, unit_at}
use Rattle.addr2line_units.proofs.Facts.{slice_get_none}
use Rattle.addr2line_units.proofs.UnitsCaches.{StayAllLines}

-- lines in which a row was found were read
read_if_found : (d : Sections) (u : UnitRecord) (probe : ℕ) (lines : LazyLines) (found : Option Location) → AreLinesOf d u lines → is_uncached lines ≡ false → (unit_lines d u >>= λ table. Ok (location_at probe table)) ≡ Ok found → AreRead lines
read_if_found d u probe Unread found own cached e = absurd cc
read_if_found d u probe Absent found own cached e = tt
read_if_found d u probe (Read table) found own cached e = tt
read_if_found d u probe (Faulty f) found own cached e = absurd (no (sym (ap (λ r. r >>= λ table. Ok (location_at probe table)) own.0) ∙ e))
  where
    no : ◌≡◌ {A = LocationResult} (Err f) (Ok found) → ⊥
    no h = cc

module _ {R : Type 0} {scope : Scope} {cs : List (CachedUnit R)} {last : FramesStop} (i : AreUnits scope cs last) (n : ℕ) (steps : ℕ) (was : LookupStop) where
  abbrev d : Sections
  d = scope.file.sections

  abbrev us : List UnitRecord
  us = scope.file.units

  abbrev old : UnitsState
  old = as_units_state scope cs steps was

  -- there is no unit of that number
  module _ (none : slice_get us n ≡ None) where
    past : length cs ≤ n
    past = subst (λ m. m ≤ n) (as_many i) (slice_get_none us n none)

    pub none_row : (probe : ℕ) → stop_at lookups.Location probe old n ≡ Ok FindsNothing
    none_row probe = ap (λ (u : Option IndexedUnit). (location_in d probe u >>= λ location. Ok (Some (location_frames location))) >>= or_stop n (Ok FindsNothing)) (no_unit us cs n past)

    pub none_read : lines_result_at d (slice_get old.units n) ≡ Ok tt
    none_read = ap (lines_result_at d) (no_unit us cs n past)

    none_lines : AfterLines (λ k. k ≡ n) old (as_units_state scope cs steps FindsNothing)
    none_lines = record { same = refl; parsed = λ k e. e; only = λ k e. inl e; kept = λ ready. refl }

    pub none_after_row : (shares : Bool) (probe : ℕ) → AfterAsk {X = Unit {0}} shares lookups.Location n probe (Ok tt) old (as_units_state scope cs steps FindsNothing)
    none_after_row shares probe = record {
      asked = record { lines = none_lines; raised = omega arith; counted = λ found. absurd (false≢true found); cost = omega arith };
      ready = λ told. no_parsed cs n past;
      memory = λ parsed. tt;
      no_memory = λ none. tt;
      stop = tt;
    }

    pub none_after_caching : (shares : Bool) → AfterCachingAt {X = Unit {0}} shares n (Ok tt) old (as_units_state scope cs steps FindsNothing)
    none_after_caching shares = record { lines = none_lines; stop = refl; steps = refl; ready = λ told. no_parsed cs n past; memory = λ none. tt }

  module _ {u : UnitRecord} (there : slice_get us n ≡ Some u) where
    module _ {c : CachedUnit R} (at : c ≡ get_or cs n c) where
      within : n < length cs
      within = cache_within i n there

      indexed : slice_get old.units n ≡ Some (indexed_unit u c.lines)
      indexed = unit_at us cs n u c (unit_within i n there) within (unit_is i n there) at

      takes_is : (shares : Bool) → lines_of_take_memory shares old.units n ≡ lines_take_memory shares u
      takes_is shares = rw (indexed, lines_of_take_memory) refl

      module _ (l : LinesCache) where
        abbrev with_lines : CachedUnit R
        with_lines = record c { lines = l }

        abbrev now : List (CachedUnit R)
        now = set cs n with_lines

        module _ (stays : StayLines c.lines l) where
          stay : StayAllLines cs now
          stay = stay_set cs n c with_lines within at stays

          lines_after : (later : ℕ) (stop : LookupStop) → AfterLines (λ k. k ≡ n) old (as_units_state scope now later stop)
          lines_after later stop = after_lines scope cs now stay (same_entries_set cs n c with_lines at refl) steps later was stop (λ k. k ≡ n) (only_set cs n with_lines)

          -- what a lookup of a location comes to, by what is found in the lines
          abbrev by_location : LocationResult → Result LookupStop Error
          by_location found = (found >>= λ location. Ok (Some (location_frames location))) >>= or_stop n (Ok FindsNothing)

          located_here : (probe : ℕ) → stop_at lookups.Location probe old n ≡ by_location (location_in d probe (Some (indexed_unit u c.lines)))
          located_here probe = ap (λ (o : Option IndexedUnit). by_location (location_in d probe o)) indexed

          -- the row of an address
          pub row_told : (probe : ℕ) (row : Option Row) → location_in d probe (Some (indexed_unit u c.lines)) ≡ Ok (option_map (location_of_row (cached_files l.lines)) row) → stop_at lookups.Location probe old n ≡ Ok (as_stop now (row_stop n row))
          row_told probe None gives = located_here probe ∙ ap by_location gives
          row_told probe (Some row) gives =
              located_here probe ∙ ap by_location gives
              ∙ ap (λ (x : LazyLines). Ok (Finds n (location_frames (Some (location_of_row (cached_files x) row))))) (sym (lines_set cs n with_lines within))

          pub row_fault : (probe : ℕ) (e : Error) → location_in d probe (Some (indexed_unit u c.lines)) ≡ Err e → stop_at lookups.Location probe old n ≡ Err e
          row_fault probe e gives = located_here probe ∙ ap by_location gives

          -- what is stored of it can be lent
          pub row_lendable : (probe : ℕ) (row : Option Row) → AreLinesOf d u l.lines → is_uncached l.lines ≡ false → location_in d probe (Some (indexed_unit u c.lines)) ≡ Ok (option_map (location_of_row (cached_files l.lines)) row) → IsLendable now (row_stop n row)
          row_lendable probe None right cached gives = tt
          row_lendable probe (Some row) right cached gives = record {
            unit = lt-length-set cs n with_lines within;
            function = tt;
            lines = subst AreRead (sym (lines_set cs n with_lines within)) (read_if_found d u probe l.lines _ right cached gives);
          }

          stopped_row : (row : Option Row) → has_stopped (as_stop now (row_stop n row)) ≡ true → is_found {X = Row} (Ok row) ≡ true
          stopped_row None e = absurd (false≢true e)
          stopped_row (Some row) e = refl

          -- where the lookup takes no memory there, a refusal is the fault of the lines
          row_alone : (shares : Bool) (probe : ℕ) (e : Error) (later : ℕ) (stop : LookupStop) → (is_uncached l.lines ≡ false → e ≢ OutOfMemory) → (e ≢ OutOfMemory → location_in d probe (Some (indexed_unit u c.lines)) ≡ Err e)
              → (lines_take_memory shares u ≡ false → location_in d probe (Some (indexed_unit u c.lines)) ≡ Err e) → takes_none_at shares lookups.Location probe (as_units_state scope now later stop) n ≡ true → IsFaultAt lookups.Location probe old n e
          row_alone shares probe e later stop memory gives alone none =
              ap (λ (o : Option IndexedUnit). location_in d probe o >>= λ location. Ok (Some (location_frames location))) indexed
              ∙ ap (λ (r : LocationResult). r >>= λ location. Ok (Some (location_frames location)))
              (alone_if_none (has_parsed (parsed_units now) n) (lines_of_take_memory shares old.units n) e (location_in d probe (Some (indexed_unit u c.lines)))
              (subst (λ xs. parses_no_memory shares xs (parsed_units now) n ≡ true) (stay_indexed us cs now stay) none)
              (λ parsed. memory (set_parsed cs n with_lines within parsed)) gives (λ takes. alone (sym (takes_is shares) ∙ takes)))

          module _ (shares : Bool) (result : Result (Option Row) Error) (later : ℕ) (caches : CachesResult c.lines.lines result l.lines) (memory : is_uncached l.lines ≡ false → WasNotRefused result) (counts : CountsSteps (steps_in d (Some (indexed_unit u c.lines))) (is_found result) steps later) where
            after : {X : Type 0} (probe : ℕ) (q : Result X Error) (stop : LookupStop) → (has_stopped stop ≡ true → is_found result ≡ true) → (WasNotRefused q → WasNotRefused result) → (WasNotRefused result → WasNotRefused q) → IfErr q (λ _. stop ≡ FindsNothing)
                → (takes_none_at shares lookups.Location probe (as_units_state scope now later stop) n ≡ true → IfErr q (IsFaultAt lookups.Location probe old n)) → AfterAsk shares lookups.Location n probe q old (as_units_state scope now later stop)
            after probe q stop found before then stored alone = record {
              asked = record {
                lines = lines_after later stop;
                raised = counts.raised;
                counted = λ stopped. counts.counted (found stopped);
                cost = subst (λ o. later ≤ steps + steps_in d o) (sym indexed) counts.cost;
              };
              ready = λ told. parsed_set cs n with_lines within (answer_cached c.lines.lines result l.lines caches (before told));
              memory = λ parsed. then (memory (set_parsed cs n with_lines within parsed));
              no_memory = alone;
              stop = stored;
            }

            pub row_after : (probe : ℕ) (row : Option Row) → result ≡ Ok row → AfterAsk {X = Unit {0}} shares lookups.Location n probe (Ok tt) old (as_units_state scope now later (as_stop now (row_stop n row)))
            row_after probe row is = after probe (Ok tt) (as_stop now (row_stop n row)) (λ stopped. ap is_found is ∙ stopped_row row stopped) (λ told. subst WasNotRefused (sym is) tt) (λ told. tt) tt (λ none. tt)

            pub fault_after : (probe : ℕ) (e : Error) → result ≡ Err e → (e ≢ OutOfMemory → location_in d probe (Some (indexed_unit u c.lines)) ≡ Err e) → (lines_take_memory shares u ≡ false → location_in d probe (Some (indexed_unit u c.lines)) ≡ Err e)
                → AfterAsk {X = Unit {0}} shares lookups.Location n probe (Err e) old (as_units_state scope now later FindsNothing)
            fault_after probe e is gives alone = after probe (Err e) FindsNothing (λ stopped. absurd (false≢true stopped)) (λ told. subst WasNotRefused (sym is) told) (λ told. subst WasNotRefused is told) refl
                (row_alone shares probe e later FindsNothing (λ cached. subst WasNotRefused is (memory cached)) gives alone)

          -- the lines alone
          pub read_there : (lines : Option LineTable) (result : Result (Unit {0}) Error) → ExactlyUnlessOom (λ _. lines) result (lines_result d u) → ExactlyUnlessOom (λ x. x) result (lines_result_at d (slice_get old.units n))
          read_there lines result gives = lines_read d us cs n u c lines result (all_lines i) within (unit_is i n there) at gives

          pub caching_after : (shares : Bool) (result : Result (Unit {0}) Error) → (WasNotRefused result → is_uncached l.lines ≡ false) → (is_uncached l.lines ≡ false → WasNotRefused result)
              → (lines_take_memory shares u ≡ false → IfErr result (λ e. lines_result d u ≡ Err e)) → AfterCachingAt shares n result old (as_units_state scope now steps FindsNothing)
          caching_after shares result ready memory alone = record {
            lines = lines_after steps FindsNothing;
            stop = refl;
            steps = refl;
            ready = λ told. parsed_set cs n with_lines within (ready told);
            memory = λ none. either_none (has_parsed (parsed_units now) n) (lines_of_take_memory shares old.units n) result none
                (λ parsed. memory (set_parsed cs n with_lines within parsed))
                (λ takes. none_refused shares d u result alone (sym (takes_is shares) ∙ takes));
          }
