-- Lookups of locations and parses of lines, one unit after another (on specs/UnitsAfter.antt and
-- specs/UnitsAsked.antt).
use Rattle.addr2line_units.proofs.Common.{◌≡◌, ◌≢◌, inl, inr, ℕ, suc, slice_get_past, unwrap_or, ◌+◌, ◌<◌, ◌≤◌, Bool, true, false, List, [], ◌∷◌, drop, length, slice_get, Some, None, Result, Ok, Err, refl, sym, ap, subst, ◌∙◌, arith, AllByRecursion, Error, OutOfMemory, ◌>>=◌, ExactlyUnlessOom, fault_of, Sections, UnitRange, AfterCachingAt, lines_result_at, location_frames, FindsNothing, LookupStop, ends_lookup, located_frames, location_found, or_stop, stop_along, LocationResult, all_lines, first_location, location_in, or_first_location, AllAskFor, AreAllParsed, AreParsed, AsksFor, LeadTo, StaysParsed, has_parsed, parses_no_memory, IndexedUnit, FramesResult, UnitsState, stop_of, Option, reverse, DwLang, InlinedEntry, Location, FoundFunction, found_frames, frames_from, first_frame_location}
use Rattle.addr2line_units.specs.declared.frames.Asks.TheVariants as lookups
use Rattle.addr2line_units.specs.UnitsAfter.{AfterCaching, AfterLineParse, AfterLines}
use Rattle.addr2line_units.proofs.UnitsLinesLemmas.{asks_more, lines_end, lines_more, lines_stop, only_more, parsed_below, readable, ready_at_fault}
use Rattle.addr2line_units.proofs.Facts.{at_or_behind}

-- no lines were parsed yet
pub lines_first : (asks : ℕ → Type 0) (old : UnitsState) → AfterLines asks old (record old { stop = FindsNothing })
lines_first asks old = record { same = refl; parsed = λ n e. e; only = λ n e. inl e; kept = λ ready. refl }

-- those of one more unit
pub lines_over : (asks : ℕ → Type 0) (k : ℕ) (old mid now : UnitsState) → AfterLines asks old mid → AfterLines (λ n. n ≡ k) mid now → asks k → AfterLines asks old now
lines_over asks k old mid now a b asked = record {
  same = b.same ∙ ap (λ (s : UnitsState). record s { parsed = now.parsed; steps = now.steps; stop = now.stop }) a.same;
  parsed = λ n e. b.parsed n (a.parsed n e);
  only = only_more asks old.parsed mid.parsed now.parsed k a.only b.only asked;
  kept = λ ready. b.kept (λ n is. a.parsed n (ready n (subst asks (sym is) asked))) ∙ a.kept ready;
}

-- the location that a lookup of a location finds along ranges is the first one
module _ (d : Sections) (units : List IndexedUnit) (probe : ℕ) where
  pub located_is : (ranges : List UnitRange) → (stop_along (located_frames d units probe) ranges >>= λ stop. Ok (location_found stop)) ≡ first_location d units probe ranges
  located_is [] = refl
  located_is (r ∷ ranges) = of_location (location_in d probe (slice_get units r.unit)) (located_is ranges)
    where
      of_location : (l : LocationResult) → (stop_along (located_frames d units probe) ranges >>= λ stop. Ok (location_found stop)) ≡ first_location d units probe ranges
          → ((l >>= λ location. Ok (Some (location_frames location))) >>= or_stop r.unit (stop_along (located_frames d units probe) ranges) >>= λ stop. Ok (location_found stop)) ≡ (l >>= λ location. or_first_location (first_location d units probe ranges) location)
      of_location (Ok None) e = e
      of_location (Ok (Some x)) e = refl
      of_location (Err x) e = refl

-- the first of the frames that were found has the location of the address
pub first_found : (files : List (List ℕ)) (language : Option DwLang) (f : Option FoundFunction) (location : Option Location) → first_frame_location (found_frames files language f location) ≡ location
first_found files language None None = refl
first_found files language None (Some l) = refl
first_found files language (Some f) location = of_entries (reverse f.inlined)
  where
    of_entries : (es : List InlinedEntry) → first_frame_location (frames_from files language f.offset f.name es location) ≡ location
    of_entries [] = refl
    of_entries (e ∷ es) = refl

-- what is told of a lookup of a location is told of the location that it has found
pub location_told : {X : Type 0} (probe : ℕ) (ranges : List UnitRange) (old : UnitsState) (result : Result X Error) (stop : LookupStop) → ExactlyUnlessOom (λ _. stop) result (stop_of lookups.Location probe old ranges)
    → ExactlyUnlessOom (λ _. location_found stop) result (first_location old.scope.file.sections old.units probe ranges)
location_told probe ranges old (Ok x) stop e =
    sym (located_is old.scope.file.sections old.units probe ranges) ∙ ap (λ (r : Result LookupStop Error). r >>= λ s. Ok (location_found s)) e
location_told probe ranges old (Err x) stop e =
    λ ne. sym (located_is old.scope.file.sections old.units probe ranges) ∙ ap (λ (r : Result LookupStop Error). r >>= λ s. Ok (location_found s)) (e ne)

-- a fault of a unit that is asked for a location is the first one along ranges
pub located_fault : (d : Sections) (units : List IndexedUnit) (probe : ℕ) (ranges : List UnitRange) (n : ℕ) (e : Error) → AsksFor d units probe ranges n → located_frames d units probe n ≡ Err e → first_location d units probe ranges ≡ Err e
located_fault d units probe ranges n e asked fault = sym (located_is d units probe ranges) ∙ ap (λ (r : Result LookupStop Error). r >>= λ s. Ok (location_found s)) (along ranges asked)
  where
    passed : (k : ℕ) (rest : Result LookupStop Error) (r : FramesResult) → ends_lookup r ≡ false → rest ≡ Err e → (r >>= or_stop k rest) ≡ Err e
    passed k rest (Err x) ends h = absurd cc
    passed k rest (Ok None) ends h = absurd cc
    passed k rest (Ok (Some [])) ends h = h
    passed k rest (Ok (Some (f ∷ fs))) ends h = absurd cc

    along : (rs : List UnitRange) → AsksFor d units probe rs n → stop_along (located_frames d units probe) rs ≡ Err e
    along [] asked = absurd asked
    along (r ∷ rs) asked = elim asked [
      | inl is ↦ ap (λ x. x >>= or_stop r.unit (stop_along (located_frames d units probe) rs)) (ap (located_frames d units probe) (sym is) ∙ fault)
      | inr more ↦ passed r.unit (stop_along (located_frames d units probe) rs) (located_frames d units probe r.unit) more.0 (along rs more.1)
    ]

-- a parse of lines along ranges that has gone on so far
pub record CachedSoFar (all rest : List UnitRange) (old now : UnitsState) : Type 0 where
  pub lines : AfterLines (LeadTo all) old now
  pub stop : now.stop ≡ FindsNothing
  pub steps : now.steps ≡ old.steps
  pub less : (such : ℕ → Bool) → AllByRecursion (λ (r : UnitRange). such r.unit ≡ true) all → AllByRecursion (λ (r : UnitRange). such r.unit ≡ true) rest
  pub more : (p : List Bool) → StaysParsed now.parsed p → AreParsed p rest → AreParsed p all
  pub leads : (n : ℕ) → LeadTo rest n → LeadTo all n

pub cached_first : (all : List UnitRange) (old : UnitsState) → CachedSoFar all all old (record old { stop = FindsNothing })
cached_first all old = record { lines = lines_first (LeadTo all) old; stop = refl; steps = refl; less = λ such e. e; more = λ p stays e. e; leads = λ n e. e }

module _ (shares : Bool) (all : List UnitRange) (r : UnitRange) (rest ranges : List UnitRange) (is : ranges ≡ r ∷ rest) (old mid now : UnitsState) (w : CachedSoFar all ranges old mid) where
  led : LeadTo all r.unit
  led = w.leads r.unit (subst (λ xs. LeadTo xs r.unit) (sym is) (inl refl))

  module _ (e : Error) (a : AfterCachingAt {X = Unit {0}} shares r.unit (Err e) mid now) (refused : e ≡ OutOfMemory) where
    pub cached_fault : {X : Type 0} → AfterCaching {X = X} shares all (Err e) old now
    cached_fault = record {
      lines = lines_over (LeadTo all) r.unit old mid now w.lines a.lines led;
      stop = a.stop;
      steps = a.steps ∙ w.steps;
      parsed = tt;
      memory = λ none. a.memory (subst (λ (s : UnitsState). parses_no_memory shares s.units now.parsed r.unit ≡ true) (sym w.lines.same)
          (subst (AllByRecursion (λ (x : UnitRange). parses_no_memory shares old.units now.parsed x.unit ≡ true)) is (w.less (parses_no_memory shares old.units now.parsed) none)).0);
      refused = refused;
    }

  module _ (a : AfterCachingAt {X = Unit {0}} shares r.unit (Ok tt) mid now) where
    pub cached_on : CachedSoFar all rest old now
    cached_on = record {
      lines = lines_over (LeadTo all) r.unit old mid now w.lines a.lines led;
      stop = a.stop;
      steps = a.steps ∙ w.steps;
      less = λ such e. (subst (AllByRecursion (λ (x : UnitRange). such x.unit ≡ true)) is (w.less such e)).1;
      more = λ p stays e. w.more p (λ n parsed. stays n (a.lines.parsed n parsed)) (subst (AreParsed p) (sym is) (stays r.unit (a.ready tt), e));
      leads = λ n e. w.leads n (subst (λ xs. LeadTo xs n) (sym is) (inr e));
    }

module _ (shares : Bool) (all ranges : List UnitRange) (is : ranges ≡ []) (old now : UnitsState) (w : CachedSoFar all ranges old now) where
  pub cached_end : AfterCaching {X = Unit {0}} shares all (Ok tt) old now
  cached_end = record {
    lines = w.lines;
    stop = w.stop;
    steps = w.steps;
    parsed = w.more now.parsed (λ n e. e) (subst (AreParsed now.parsed) (sym is) tt);
    memory = λ none. tt;
    refused = tt;
  }

-- a parse of the lines of all units that has come to the unit of a number
pub record ParsedSoFar (k : ℕ) (old now : UnitsState) : Type 0 where
  pub lines : AfterLines (AllAskFor old.scope.file.sections old.units) old now
  pub stop : now.stop ≡ FindsNothing
  pub steps : now.steps ≡ old.steps
  pub rest : fault_of (all_lines old.scope.file.sections (drop k old.units)) ≡ fault_of (all_lines old.scope.file.sections old.units)
  pub parsed : (n : ℕ) → n < k → has_parsed now.parsed n ≡ true
  pub before : AllAskFor old.scope.file.sections old.units k

pub parsed_first : (old : UnitsState) → ParsedSoFar 0 old (record old { stop = FindsNothing })
parsed_first old = record {
  lines = lines_first (AllAskFor old.scope.file.sections old.units) old;
  stop = refl;
  steps = refl;
  rest = refl;
  parsed = λ n below. absurd (omega (arith, below));
  before = λ n below. absurd (omega (arith, below));
}

module _ (shares : Bool) (k : ℕ) (old mid now : UnitsState) (w : ParsedSoFar k old mid) (within : k < length old.units) where
  both : {X : Type 0} (result : Result X Error) → AfterCachingAt shares k result mid now → AfterLines (AllAskFor old.scope.file.sections old.units) old now
  both result a = lines_over (AllAskFor old.scope.file.sections old.units) k old mid now w.lines a.lines w.before

  module _ (e : Error) (a : AfterCachingAt {X = Unit {0}} shares k (Err e) mid now) (gives : e ≢ OutOfMemory → lines_result_at mid.scope.file.sections (slice_get mid.units k) ≡ Err e) where
    lines_fault : e ≢ OutOfMemory → lines_result_at old.scope.file.sections (slice_get old.units k) ≡ Err e
    lines_fault ne = subst (λ (s : UnitsState). lines_result_at s.scope.file.sections (slice_get s.units k) ≡ Err e) w.lines.same (gives ne)

    pub parse_fault : e ≢ OutOfMemory → fault_of (all_lines old.scope.file.sections old.units) ≡ Err e
    parse_fault ne = sym w.rest ∙ lines_stop old.scope.file.sections old.units k e within (lines_fault ne)

    pub parse_fault_after : AfterLineParse shares (Err e) old now
    parse_fault_after = record {
      lines = both (Err e) a;
      stop = a.stop;
      steps = a.steps ∙ w.steps;
      ready = λ ne. ready_at_fault old.scope.file.sections old.units now.parsed k e (λ n below. a.lines.parsed n (w.parsed n below)) (a.ready ne) (lines_fault ne);
      memory = λ none. a.memory (subst (λ (s : UnitsState). parses_no_memory shares s.units now.parsed k ≡ true) (sym w.lines.same) (none k w.before));
      parsed = tt;
    }

  module _ (a : AfterCachingAt {X = Unit {0}} shares k (Ok tt) mid now) (gives : lines_result_at mid.scope.file.sections (slice_get mid.units k) ≡ Ok tt) where
    read : lines_result_at old.scope.file.sections (slice_get old.units k) ≡ Ok tt
    read = subst (λ (s : UnitsState). lines_result_at s.scope.file.sections (slice_get s.units k) ≡ Ok tt) w.lines.same gives

    pub parsed_on : ParsedSoFar (k + 1) old now
    parsed_on = record {
      lines = both (Ok tt) a;
      stop = a.stop;
      steps = a.steps ∙ w.steps;
      rest = sym (lines_more old.scope.file.sections old.units k within read) ∙ w.rest;
      parsed = parsed_below now.parsed k (λ n below. a.lines.parsed n (w.parsed n below)) (a.ready tt);
      before = asks_more old.scope.file.sections old.units k w.before (readable old.scope.file.sections (slice_get old.units k) read);
    }

module _ (shares : Bool) (k : ℕ) (old now : UnitsState) (w : ParsedSoFar k old now) (units : length old.units ≤ k) (many : length old.parsed ≤ k) where
  pub parsed_end : fault_of (all_lines old.scope.file.sections old.units) ≡ Ok tt
  parsed_end = sym w.rest ∙ lines_end old.scope.file.sections old.units k units

  all : AreAllParsed now.parsed
  all n = elim (at_or_behind (suc n) k) [
    | inl l ↦ w.parsed n (omega (arith, l))
    | inr l ↦ w.lines.parsed n (ap (λ (o : Option Bool). unwrap_or o true) (slice_get_past old.parsed n (omega (arith, many, l))))
  ]

  pub parsed_end_after : AfterLineParse shares (Ok tt) old now
  parsed_end_after = record {
    lines = w.lines;
    stop = w.stop;
    steps = w.steps;
    ready = λ told n asked. all n;
    memory = λ none. tt;
    parsed = all;
  }
