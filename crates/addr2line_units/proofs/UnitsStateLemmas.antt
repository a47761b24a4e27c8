-- What calls leave of the units of a context, by what is cached of them (on specs/UnitsAfter.antt
-- and specs/UnitsStored.antt).
use Rattle.addr2line_units.proofs.Common.{◌≡◌, ◌≢◌, ◌⊎◌, inl, inr, ℕ, zero, suc, ◌<◌, ◌≤◌, ◌&&◌, ◌||◌, ◌++◌, Bool, true, false, not, List, [], ◌∷◌, length, get_or, slice_get, Option, Some, None, option_map, unwrap_or, Result, Ok, Err, refl, sym, ap, subst, ◌∙◌, eqb_tells, IfErr, OnOk, Error, OutOfMemory, WasNotRefused, Range, Sections, UnitRecord, Scope, unit_lines, FramesStop, UnitRange, ReadingDepth, LazyLines, CachedUnit, has_entries, IsLendable, as_stop, AreLinesOf, HaveLinesOf, cached_spans, indexed_units, is_uncached, lines_at, parsed_units, HaveEntriesOf, answers_in, waits_at, FindsNothing, LookupStop, Waits, answer_of, ends_lookup, holds_along, with_answer, IsReadyFor, known_in, KnownEntries, LearnsNoFunctions, knows_at, forgotten, is_open_at, load_result, spans_along, spans_in, spans_or_fault, AreParsed, ParsesOnly, has_parsed, IndexedUnit, as_units_state, FramesResult, UnitsState, FirstAnswers, SplitLoad, load_of_unit}
use Rattle.std.specs.Prelude.{IfSome, is_some}
use Rattle.addr2line_units.specs.declared.frames.FramePlace.{FramePlace}
use Rattle.addr2line_units.specs.declared.frames.FramesStop.TheVariants as stops
use Rattle.addr2line_units.specs.declared.unit.LazyLines.TheVariants.{Absent, Faulty, Read, Unread}
use Rattle.addr2line_units.specs.UnitsAfter.{AfterAnswer, AfterForget, AfterLines, AfterListing, AfterLoad}
use Rattle.addr2line_units.specs.LoadsMemory.{answer_takes_memory}
use Rattle.addr2line_units.specs.LocationsRange.{cached_along}
use Rattle.addr2line_units.specs.EntriesStayKnown.{IsReadyAt, StaysKnown}
use Rattle.addr2line_units.specs.LoadsLaws.{IsListed, loads_of}
use Rattle.addr2line_units.proofs.LoadsAnswerLemmas.{got_unit}
use Rattle.addr2line_units.proofs.LoadsLawLemmas.{fewer_left}
use Rattle.addr2line_units.proofs.UnitsCachedLemmas.{answers_by_entries, as_many_entries, known_by_entries, parsed_by_lines, same_answers, units_by_lines}
use Rattle.addr2line_units.proofs.EntriesKnownLemmas.{known_is, known_unchanged}
use Rattle.addr2line_units.proofs.LoadsLemmas.{as_many_answers}
use Rattle.addr2line_units.proofs.EntriesReadByLemmas.{answered_is_decided, known_is_decided, none_asked}
use Rattle.addr2line_units.proofs.EntriesStayLemmas.{none_whole, stays_known, whole_is_decided}
use Rattle.addr2line_units.proofs.UnitsLinesLemmas.{same_parsed, stay_indexed, stay_parsed}
use Rattle.addr2line_units.proofs.UnitsCaches.{HaveSameEntries, HaveSameLines, StayAllEntries, StayAllLines, decided_at}

-- what is stored that waits for a unit waits for one that waits
pub waits_if_stored : {R : Type 0} (views : List (CachedUnit R)) (last : FramesStop) (n : ℕ) → as_stop views last ≡ Waits n → IsLendable views last → waits_at views n ≡ true
waits_if_stored views (stops.Waits k) n e h = subst (λ j. waits_at views j ≡ true) (same_wait e) h
  where
    same_wait : ◌≡◌ {A = LookupStop} (Waits k) (Waits n) → k ≡ n
    same_wait q = cc
waits_if_stored views (stops.Finds p) n e h = absurd cc
waits_if_stored views stops.FindsNothing n e h = absurd cc

-- what is stored of a place can be lent
pub place_if_stored : {R : Type 0} (views : List (CachedUnit R)) (last : FramesStop) (p : FramePlace) → last ≡ stops.Finds p → IsLendable views last → IsLendable views (stops.Finds p)
place_if_stored views last p e h = subst (IsLendable views) e h

-- the load of the unit of a number
pub load_there : (d : Sections) (us : List UnitRecord) (n : ℕ) (u : UnitRecord) → n < length us → u ≡ get_or us n u → (l : SplitLoad) → load_of_unit d n u ≡ Ok (Some l) → option_map (load_of_unit d n) (slice_get us n) ≡ Some (Ok (Some l))
load_there d us n u h e l told = ap (option_map (load_of_unit d n)) (got_unit us n u h e) ∙ ap Some told

-- what cached lines have in ranges is what the lines of the units have
module _ {R : Type 0} (d : Sections) (low high : ℕ) where
  spans_at : (us : List UnitRecord) (rs : List (CachedUnit R)) (n : ℕ) (range : Range) → HaveLinesOf d us rs → has_parsed (parsed_units rs) n ≡ true → spans_in d low high range (slice_get (indexed_units us rs) n) ≡ cached_spans range low high (lines_at rs n)
  spans_at [] [] n range own e = refl
  spans_at [] (r ∷ rs) n range own e = absurd own
  spans_at (u ∷ us) [] n range own e = absurd own
  spans_at (u ∷ us) (r ∷ rs) zero range own e = of_lines r.lines.lines own.0 e
    where
      of_lines : (l : LazyLines) → AreLinesOf d u l → not (is_uncached l) ≡ true → spans_or_fault range low high (unit_lines d u) ≡ cached_spans range low high l
      of_lines Unread h k = absurd (let f : false ≡ true = k in cc)
      of_lines Absent h k = ap (spans_or_fault range low high) h
      of_lines (Read lines) h k = ap (spans_or_fault range low high) h
      of_lines (Faulty f) h k = ap (spans_or_fault range low high) h.0
  spans_at (u ∷ us) (r ∷ rs) (suc n) range own e = spans_at us rs n range own.1 e

  pub spans_cached : (us : List UnitRecord) (rs : List (CachedUnit R)) (ranges : List UnitRange) → HaveLinesOf d us rs → AreParsed (parsed_units rs) ranges → spans_along d (indexed_units us rs) low high ranges ≡ cached_along rs low high ranges
  spans_cached us rs [] own all = refl
  spans_cached us rs (r ∷ ranges) own all =
      ap (λ xs. xs ++ spans_along d (indexed_units us rs) low high ranges) (spans_at us rs r.unit r.range own all.0)
      ∙ ap (λ xs. cached_spans r.range low high (lines_at rs r.unit) ++ xs) (spans_cached us rs ranges own all.1)

-- along ranges what is equal of each number
pub holds_same : (h k : ℕ → Bool) (frames : ℕ → FramesResult) (ranges : List UnitRange) → ((n : ℕ) → h n ≡ k n) → holds_along h frames ranges ≡ holds_along k frames ranges
holds_same h k frames [] e = refl
holds_same h k frames (r ∷ ranges) e =
    ap (λ b. b && (ends_lookup (frames r.unit) || holds_along h frames ranges)) (e r.unit)
    ∙ ap (λ b. k r.unit && (ends_lookup (frames r.unit) || b)) (holds_same h k frames ranges e)

module _ {R : Type 0} (scope : Scope) (held : List (CachedUnit R)) where
  abbrev d : Sections
  d = scope.file.sections

  abbrev us : List UnitRecord
  us = scope.file.units

  -- after lines were parsed
  module _ (now : List (CachedUnit R)) (stay : StayAllLines held now) (same : HaveSameEntries held now) (steps later : ℕ) (was stop : LookupStop) where
    abbrev before : UnitsState
    before = as_units_state scope held steps was

    abbrev after : UnitsState
    after = as_units_state scope now later stop

    abbrev with_units : List IndexedUnit → FirstAnswers → List KnownEntries → UnitsState
    with_units xs answers known = record { scope = scope; units = xs; answers = answers; parsed = parsed_units now; known = known; steps = later; stop = stop }

    pub after_lines : (asks : ℕ → Type 0) → ParsesOnly asks (parsed_units held) (parsed_units now) → AfterLines asks before after
    after_lines asks only = record {
      same = ap (λ xs. with_units xs (answers_in now) (known_in now)) (stay_indexed us held now stay)
          ∙ ap (λ xs. with_units (indexed_units us held) xs (known_in now)) (answers_by_entries held now same)
          ∙ ap (λ xs. with_units (indexed_units us held) (answers_in held) xs) (known_by_entries held now same);
      parsed = stay_parsed held now stay;
      only = only;
      kept = λ ready. same_parsed held now stay (λ n e. elim (only n e) [ inl was ↦ was | inr asked ↦ ready n asked ]);
    }

  -- after answers to loads, and what is known of entries
  module _ (own : HaveEntriesOf scope us held) (entries : List (CachedUnit R)) (lines : HaveSameLines held entries) (steps : ℕ) (was : LookupStop) where
    abbrev old : UnitsState
    old = as_units_state scope held steps was

    abbrev new : UnitsState
    new = as_units_state scope entries steps FindsNothing

    abbrev with_lines : List IndexedUnit → List Bool → UnitsState
    with_lines xs bs = record { scope = scope; units = xs; answers = answers_in entries; parsed = bs; known = known_in entries; steps = steps; stop = FindsNothing }

    -- nothing is changed but answers and what is known
    pub only_entries : new ≡ record old { answers = answers_in entries; known = known_in entries; stop = FindsNothing }
    only_entries = ap (λ xs. with_lines xs (parsed_units entries)) (units_by_lines us held entries lines) ∙ ap (with_lines (indexed_units us held)) (parsed_by_lines held entries lines)

    beside : length us ≡ length (answers_in held)
    beside = as_many_entries scope us held own ∙ sym (as_many_answers held)

    same_or : (n k : ℕ) → (k ≡ n) ⊎ (k ≢ n)
    same_or n k = elim (eqb_tells k n) [ inl p ↦ inl p.1 | inr q ↦ inr q.1 ]

    module _ (n : ℕ) (others : (k : ℕ) → k ≢ n → slice_get entries k ≡ slice_get held k) (same_decided : decided_at held n ≡ true → known_in entries ≡ known_in held) (many : length us ≡ length entries) where
      shut_stays : (probe k : ℕ) → is_open_at d us (answers_in held) n ≡ false → (k ≡ n) ⊎ (k ≢ n) → knows_at (known_in held) probe k ≡ true → knows_at (known_in entries) probe k ≡ true
      shut_stays probe k shut (inr ne) q = known_is probe entries k ∙ ap (λ (o : Option (CachedUnit R)). unwrap_or (option_map (λ x. has_entries probe x.entries) o) true) (others k ne) ∙ sym (known_is probe held k) ∙ q
      shut_stays probe k shut (inl e) q = elim (known_is_decided scope probe us held k own (subst (λ j. is_open_at d us (answers_in held) j ≡ false) (sym e) shut) (sym (known_is probe held k) ∙ q)) [
        | inl decided ↦ ap (λ known. knows_at known probe k) (same_decided (subst (λ j. decided_at held j ≡ true) e decided)) ∙ q
        | inr past ↦ known_is probe entries k ∙ none_asked probe entries k (subst (λ l. l ≤ k) many past)
      ]

      shut_whole : (needed : ReadingDepth) (k : ℕ) → is_open_at d us (answers_in held) n ≡ false → (k ≡ n) ⊎ (k ≢ n) → IsReadyAt needed (known_in held) k → IsReadyAt needed (known_in entries) k
      shut_whole needed k shut (inr ne) q = subst (λ o. IfSome o (IsReadyFor needed)) (sym (known_unchanged held entries k (others k ne))) q
      shut_whole needed k shut (inl e) q = elim (whole_is_decided needed scope us held k own (subst (λ j. is_open_at d us (answers_in held) j ≡ false) (sym e) shut) q) [
        | inl decided ↦ subst (λ known. IsReadyAt needed known k) (sym (same_decided (subst (λ j. decided_at held j ≡ true) e decided))) q
        | inr past ↦ none_whole needed entries k (subst (λ l. l ≤ k) many past)
      ]

      stays_shut : is_open_at d us (answers_in held) n ≡ false → StaysKnown (known_in held) (known_in entries)
      stays_shut shut k = record {
        at = λ probe q. shut_stays probe k shut (same_or n k) q;
        whole = λ needed q. shut_whole needed k shut (same_or n k) q;
      }

      pub after_answer : (shares : Bool) (given : Option Sections) (result : Result (Unit {0}) Error) → OnOk result (answers_in entries ≡ with_answer d us (answers_in held) n given)
          → IfErr result (λ e. (e ≡ OutOfMemory) × (answers_in entries ≡ answers_in held) × StayAllEntries held entries × (is_some given ≡ true)) → LearnsNoFunctions (known_in held) (known_in entries) → (is_open_at d us (answers_in held) n ≡ false → result ≡ Ok tt)
          → (answer_takes_memory shares given ≡ false → IfErr result (λ e. load_result d us (answers_in held) n given ≡ Err e)) → AfterAnswer shares n given result old new
      after_answer shares given result answers refused functions not_open no_memory = record {
        stays = only_entries;
        answers = answers;
        refused = of_err result refused;
        others = λ k ne. known_unchanged held entries k (others k ne);
        functions = functions;
        known = stays_shut;
        same = λ one e. same_decided (answered_is_decided held n one e);
        not_open = not_open;
        no_memory = no_memory;
        shorter = λ ranges listed. fewer result answers ranges listed;
      }
        where
          fewer : (r : Result (Unit {0}) Error) → OnOk r (answers_in entries ≡ with_answer d us (answers_in held) n given) → (ranges : List UnitRange) → IsListed n (loads_of d us (answers_in held) ranges)
              → OnOk r (length (loads_of d us (answers_in entries) ranges) < length (loads_of d us (answers_in held) ranges))
          fewer (Ok x) h ranges listed = subst (λ xs. length (loads_of d us xs ranges) < length (loads_of d us (answers_in held) ranges)) (sym h) (fewer_left d us (answers_in held) n given ranges beside listed)
          fewer (Err e) h ranges listed = tt

          of_err : (r : Result (Unit {0}) Error) → IfErr r (λ e. (e ≡ OutOfMemory) × (answers_in entries ≡ answers_in held) × StayAllEntries held entries × (is_some given ≡ true))
              → IfErr r (λ e. (e ≡ OutOfMemory) × (answers_in entries ≡ answers_in held) × StaysKnown (known_in held) (known_in entries) × (is_some given ≡ true))
          of_err (Ok x) h = tt
          of_err (Err e) h = (h.0, h.1, stays_known held entries h.2, h.3)

      pub after_load : (shares : Bool) (given : Option Sections) (result : Result (Unit {0}) Error) → (WasNotRefused result → answers_in entries ≡ with_answer d us (answers_in held) n given)
          → (answers_in entries ≡ answers_in held) ⊎ (answers_in entries ≡ with_answer d us (answers_in held) n given)
          → (result ≢ load_result d us (answers_in held) n given → (answers_in entries ≡ answers_in held) × StayAllEntries held entries)
          → (is_open_at d us (answers_in held) n ≡ false → result ≡ load_result d us (answers_in held) n given) → (answer_takes_memory shares given ≡ false → result ≡ load_result d us (answers_in held) n given) → LearnsNoFunctions (known_in held) (known_in entries) → AfterLoad shares n given result old new
      after_load shares given result answers begun refused not_open exact functions = record {
        stays = only_entries;
        answers = answers;
        begun = begun;
        refused = λ ne. let r = refused ne in (r.0, stays_known held entries r.1);
        known = stays_shut;
        same = λ one e. same_decided (answered_is_decided held n one e);
        others = λ k ne. known_unchanged held entries k (others k ne);
        functions = functions;
        not_open = not_open;
        exact = exact;
      }

    pub after_forget : (n : ℕ) → answers_in entries ≡ forgotten (answers_in held) n → (answer_of (answers_in held) n ≡ None → known_in entries ≡ known_in held) → ((k : ℕ) → k ≢ n → slice_get entries k ≡ slice_get held k) → LearnsNoFunctions (known_in held) (known_in entries) → AfterForget n old new
    after_forget n answers nothing others functions = record {
      stays = only_entries;
      answers = answers;
      same = nothing;
      others = λ k ne. known_unchanged held entries k (others k ne);
      functions = functions;
    }

    pub after_listing : (asks : ℕ → Type 0) → StayAllEntries held entries → ((k : ℕ) → (slice_get entries k ≡ slice_get held k) ⊎ asks k) → LearnsNoFunctions (known_in held) (known_in entries) → AfterListing asks old new
    after_listing asks stay only functions = record {
      stays = only_entries;
      answers = same_answers held entries stay;
      known = stays_known held entries stay;
      learns = λ k. elim (only k) [ inl same ↦ inl (known_unchanged held entries k same) | inr q ↦ inr q ];
      functions = functions;
    }
