-- What a context has and what its sections give (on specs/Context.antt).
use Rattle.addr2line.proofs.Common.{◌≡◌, ℕ, zero, suc, ◌≤◌, inl, inr, Bool, true, false, List, [], ◌∷◌, map, slice_get, Option, Some, None, option_map, Result, Ok, Err, refl, sym, ap, subst, ◌∙◌, ◌+◌, IfErr, OnOk, Error, ◌>>=◌, Exactly, ExactlyUnlessOom, fault_of, WasNotRefused, Sections, UnitRecord, Scope, UnitRange, cover, cover_range, FindsNothing, main_scope, LocationResult, first_location, all_lines, is_found, lines_of_unit, location_in, location_of, steps_along, or_first_location, spans_along, spans_of, AreAllParsed, AreParsed, AsksFor, LeadTo, ParsesOnly, has_parsed, ready_along, NothingKnown, IndexedUnit, RangedUnit, has_lines, indexed_of, ranged_units, unit_ranges_from, UnitIndex, index_units, sup_units, UnitsState, first_state, new_units, AfterLookup, AfterRangeLookup, ContextState, IsContext, IsReady, IsUncovered, IsReadyForRange, LocatesNoMemory, Stays, lines_of_all, new_context, as_context, has_stopped, ends_lookup, located_frames, location_stop, stop_along, stop_of, holds_along, LookupStop, Waits, Finds, location_found}
use Rattle.std.specs.Prelude.{is_ok}
use Rattle.addr2line_lines.specs.Location.{LineTable, Location, location_at}
use Rattle.addr2line_lines.specs.Rows.{read_all}
use Rattle.addr2line_units.specs.declared.frames.Asks.TheVariants as lookups
use Rattle.addr2line_units.specs.LocationsParsed.{parses_no_memory}
use Rattle.addr2line_units.specs.UnitsAfter as left
use Rattle.addr2line_units.proofs.FramesLookupLemmas.{holds_both, holds_first, holds_rest}
use Rattle.addr2line_units.proofs.LocationsWalkLemmas.{located_fault}
use Rattle.addr2line_units.proofs.UnitsLinesLemmas.{parsed_none_along}
use Rattle.addr2line_units.proofs.Facts.{err_ok, rest_ok}
use Rattle.addr2line.proofs.Facts.{both_more}
use Rattle.addr2line_lines.proofs.Facts.{ok_is}

-- an answer that isn't OutOfMemory is exactly what is given
pub exactly_told : {X Y : Type 0} (see : X → Y) (r : Result X Error) (given : Result Y Error) → ExactlyUnlessOom see r given → WasNotRefused r → Exactly see r given
exactly_told see (Ok x) given g h = g
exactly_told see (Err e) given g h = g h

-- where a location is found, a lookup has found something
pub found_stopped : {X : Type 0} (see : X → Location) (x : Option X) (stop : LookupStop) → option_map see x ≡ location_found stop → is_found {X = X} (Ok x) ≡ true → has_stopped stop ≡ true
found_stopped see None stop e h = absurd (let no : false ≡ true = h in cc)
found_stopped see (Some y) (Waits n) e h = refl
found_stopped see (Some y) (Finds n frames) e h = refl
found_stopped see (Some y) FindsNothing e h = absurd cc

-- a lookup that is ready asks for lines that are parsed
asked_ready : (d : Sections) (us : List IndexedUnit) (p : List Bool) (probe : ℕ) (ranges : List UnitRange) → ready_along d us p probe ranges ≡ true → (n : ℕ) → AsksFor d us probe ranges n → has_parsed p n ≡ true
asked_ready d us p probe [] ready n asked = absurd asked
asked_ready d us p probe (r ∷ ranges) ready n asked = elim asked [
  | inl e ↦ ap (has_parsed p) e ∙ holds_first (located_frames d us probe) r ranges (has_parsed p) ready
  | inr more ↦ asked_ready d us p probe ranges (holds_rest (located_frames d us probe) r ranges (has_parsed p) more.0 ready) n more.1
]

led_ready : (p : List Bool) (ranges : List UnitRange) → AreParsed p ranges → (n : ℕ) → LeadTo ranges n → has_parsed p n ≡ true
led_ready p [] ready n led = absurd led
led_ready p (r ∷ ranges) ready n led = elim led [ inl e ↦ ap (has_parsed p) e ∙ ready.0 | inr more ↦ led_ready p ranges ready.1 n more ]

-- the units of a context are those of its sections
module _ (ranges : List UnitRange) (u : UnitsState) (i : IsContext ranges u) where
  abbrev d : Sections
  d = u.scope.file.sections

  -- what holds of all that is made holds of what a context has, and the other way around
  pub of_made : (P : Scope → List IndexedUnit → List UnitRange → Type 0) → P u.scope u.units ranges → (m : UnitIndex) → index_units d ≡ Ok m → P (main_scope d m) m.units m.ranges
  of_made P h m e = subst (λ (x : UnitIndex). P (main_scope d x) x.units x.ranges) (ok_is i.made m (sym i.indexed ∙ e))
      (subst (λ s. P s i.made.units i.made.ranges) i.scope (subst (λ xs. P u.scope xs i.made.ranges) i.units (subst (λ rs. P u.scope u.units rs) i.ranges h)))

  pub at_made : (P : Scope → List IndexedUnit → List UnitRange → Type 0) → ((m : UnitIndex) → index_units d ≡ Ok m → P (main_scope d m) m.units m.ranges) → P u.scope u.units ranges
  at_made P h = subst (λ s. P s u.units ranges) (sym i.scope) (subst (λ xs. P (main_scope d i.made) xs ranges) (sym i.units) (subst (λ rs. P (main_scope d i.made) i.made.units rs) (sym i.ranges) (h i.made i.indexed)))

  -- what is read of the units
  pub by_made : {X : Type 0} (f : Scope → List IndexedUnit → List UnitRange → Result X Error) → (index_units d >>= λ (m : UnitIndex). f (main_scope d m) m.units m.ranges) ≡ f u.scope u.units ranges
  by_made f =
      ap (λ (r : Result UnitIndex Error). r >>= λ (m : UnitIndex). f (main_scope d m) m.units m.ranges) i.indexed
      ∙ ap (λ s. f s i.made.units i.made.ranges) (sym i.scope) ∙ ap (λ xs. f u.scope xs i.made.ranges) (sym i.units) ∙ ap (λ rs. f u.scope u.units rs) (sym i.ranges)

  pub or_made : {X : Type 0} (x : X) (f : Scope → List IndexedUnit → List UnitRange → X) → elim (index_units d) [ Err e ↦ x | Ok m ↦ f (main_scope d m) m.units m.ranges ] ≡ f u.scope u.units ranges
  or_made {X} x f =
      ap (λ (r : Result UnitIndex Error). of_index r) i.indexed
      ∙ ap (λ s. f s i.made.units i.made.ranges) (sym i.scope) ∙ ap (λ xs. f u.scope xs i.made.ranges) (sym i.units) ∙ ap (λ rs. f u.scope u.units rs) (sym i.ranges)
    where
      of_index : Result UnitIndex Error → X
      of_index r = elim r [ Err e ↦ x | Ok m ↦ f (main_scope d m) m.units m.ranges ]

  pub location_is : (probe : ℕ) → location_of d probe ≡ first_location d u.units probe (cover probe ranges)
  location_is probe = by_made (λ s xs rs. first_location s.file.sections xs probe (cover probe rs))

  pub spans_are : (low high : ℕ) → spans_of d low high ≡ Ok (spans_along d u.units low high (cover_range low high ranges))
  spans_are low high = by_made (λ s xs rs. Ok (spans_along s.file.sections xs low high (cover_range low high rs)))

  pub lines_are : lines_of_all d ≡ fault_of (all_lines d u.units)
  lines_are = by_made (λ s xs rs. fault_of (all_lines s.file.sections xs))

  -- units that are the same are still those of the sections
  module _ (now : UnitsState) (a : now.scope ≡ u.scope) (b : now.units ≡ u.units) where
    pub still_context : IsContext ranges now
    still_context = record {
      made = i.made;
      indexed = ap (λ (s : Scope). index_units s.file.sections) a ∙ i.indexed;
      scope = a ∙ i.scope ∙ ap (λ (s : Scope). main_scope s.file.sections i.made) (sym a);
      units = b ∙ i.units;
      ranges = i.ranges;
    }

  pub of_now : (now : UnitsState) → now.scope ≡ u.scope → now.units ≡ u.units → (P : Scope → List IndexedUnit → List UnitRange → Type 0) → P u.scope u.units ranges
      → (m : UnitIndex) → index_units now.scope.file.sections ≡ Ok m → P (main_scope now.scope.file.sections m) m.units m.ranges
  of_now now a b P h m e =
      subst (λ (s : Scope). index_units s.file.sections ≡ Ok m → P (main_scope s.file.sections m) m.units m.ranges) (sym a) (of_made P h m) e

  pub at_now : (now : UnitsState) → now.scope ≡ u.scope → now.units ≡ u.units → (P : Scope → List IndexedUnit → List UnitRange → Type 0)
      → ((m : UnitIndex) → index_units now.scope.file.sections ≡ Ok m → P (main_scope now.scope.file.sections m) m.units m.ranges) → P u.scope u.units ranges
  at_now now a b P h =
      at_made P (subst (λ (s : Scope). (m : UnitIndex) → index_units s.file.sections ≡ Ok m → P (main_scope s.file.sections m) m.units m.ranges) a h)

  -- after lines were parsed
  module _ (asks : ℕ → Type 0) (now : UnitsState) (l : left.AfterLines asks u now) where
    scope_same : now.scope ≡ u.scope
    scope_same = ap (λ (x : UnitsState). x.scope) l.same

    units_same : now.units ≡ u.units
    units_same = ap (λ (x : UnitsState). x.units) l.same

    pub lines_context : IsContext ranges now
    lines_context = still_context now scope_same units_same

    pub lines_stay : Stays (as_context u) (as_context now)
    lines_stay = record {
      sections = ap (λ (x : UnitsState). x.scope.file.sections) l.same;
      answers = ap (λ (x : UnitsState). x.answers) l.same;
      known = ap (λ (x : UnitsState). x.known) l.same;
      parsed = l.parsed;
    }

    pub of_lines : (P : Scope → List IndexedUnit → List UnitRange → Type 0) → P u.scope u.units ranges → (m : UnitIndex) → index_units now.scope.file.sections ≡ Ok m → P (main_scope now.scope.file.sections m) m.units m.ranges
    of_lines = of_now now scope_same units_same

    pub at_lines : (P : Scope → List IndexedUnit → List UnitRange → Type 0) → ((m : UnitIndex) → index_units now.scope.file.sections ≡ Ok m → P (main_scope now.scope.file.sections m) m.units m.ranges) → P u.scope u.units ranges
    at_lines = at_now now scope_same units_same

  pub location_stop_is : (probe : ℕ) → location_stop d probe ≡ stop_of lookups.Location probe u (cover probe ranges)
  location_stop_is probe = by_made (λ s xs rs. stop_along (located_frames s.file.sections xs probe) (cover probe rs))

  -- after a lookup of a location
  module _ {Y : Type 0} (shares : Bool) (probe : ℕ) (r : Result Y Error) (now : UnitsState) (a : left.AfterWalkAlong shares lookups.Location probe (cover probe ranges) r u now) where
    abbrev asked : ℕ → Type 0
    asked = AsksFor d u.units probe (cover probe ranges)

    abbrev ready_by : List Bool → Scope → List IndexedUnit → List UnitRange → Type 0
    ready_by p s xs rs = ready_along s.file.sections xs p probe (cover probe rs) ≡ true

    pub located_context : IsContext ranges now
    located_context = lines_context asked now a.asked.lines

    pub ready_told : IsReady (as_context u) probe → WasNotRefused r
    ready_told ready = a.memory (more (cover probe ranges) (at_made (ready_by u.parsed) ready))
      where
        more : (rs : List UnitRange) → ready_along d u.units u.parsed probe rs ≡ true → ready_along d u.units now.parsed probe rs ≡ true
        more [] h = refl
        more (x ∷ rs) h = both_more (has_parsed u.parsed x.unit) (ends_lookup (located_frames d u.units probe x.unit)) (ready_along d u.units u.parsed probe rs) (has_parsed now.parsed x.unit) (ready_along d u.units now.parsed probe rs) (a.asked.lines.parsed x.unit) (more rs) h

    pub after_lookup : {X : Type 0} (result : Result (Option X) Error) → (WasNotRefused result → WasNotRefused r) → (WasNotRefused r → WasNotRefused result) → (is_found result ≡ true → has_stopped now.stop ≡ true) → AfterLookup probe result (as_context u) (as_context now)
    after_lookup result f h k = record {
      stays = lines_stay asked now a.asked.lines;
      ready = λ told. of_lines asked now a.asked.lines (ready_by now.parsed) (a.ready (f told));
      memory = λ ready. h (a.memory (at_lines asked now a.asked.lines (ready_by now.parsed) ready));
      only = of_made (λ s xs rs. ParsesOnly (AsksFor s.file.sections xs probe (cover probe rs)) u.parsed now.parsed) a.asked.lines.only;
      same = λ ready. a.asked.lines.kept (asked_ready d u.units u.parsed probe (cover probe ranges) (at_made (ready_by u.parsed) ready));
      raised = a.asked.raised;
      counted = λ found. a.asked.counted (k found);
      cost = of_made (λ s xs rs. now.steps ≤ u.steps + steps_along s.file.sections xs (cover probe rs)) a.asked.cost;
    }

    -- what is stored
    pub stored_now : location_stop now.scope.file.sections probe ≡ stop_of lookups.Location probe u (cover probe ranges)
    stored_now = ap (λ (x : UnitsState). location_stop x.scope.file.sections probe) a.asked.lines.same ∙ location_stop_is probe

    -- where the lookup takes no memory, a refusal is the fault of lines
    pub located_alone : LocatesNoMemory shares (as_context now) probe → IfErr r (λ e. location_of d probe ≡ Err e)
    located_alone none = of_units r (a.no_memory (subst (λ (xs : List IndexedUnit). takes_none_by xs d u.units (cover probe ranges)) (sym (ap (λ (x : UnitsState). x.units) a.asked.lines.same)) given))
      where
        takes_none_by : List IndexedUnit → Sections → List IndexedUnit → List UnitRange → Type 0
        takes_none_by xs s us rs = holds_along (parses_no_memory shares xs now.parsed) (located_frames s us probe) rs ≡ true

        given : takes_none_by u.units d u.units (cover probe ranges)
        given = at_lines asked now a.asked.lines (λ s xs rs. takes_none_by xs s.file.sections xs (cover probe rs)) none

        of_units : (q : Result Y Error) → IfErr q (left.IsFaultAlong lookups.Location probe u (cover probe ranges)) → IfErr q (λ e. location_of d probe ≡ Err e)
        of_units (Ok x) h = tt
        of_units (Err e) h = location_is probe ∙ located_fault d u.units probe (cover probe ranges) h.0 e h.1 h.2

    -- where no unit covers the probe no memory is taken
    pub told_uncovered : cover probe ranges ≡ [] → WasNotRefused r
    told_uncovered none = a.memory (subst (λ rs. ready_along d u.units now.parsed probe rs ≡ true) (sym none) refl)

  -- where the sections tell that no unit covers the probe, none does
  pub covers_none : (probe : ℕ) → IsUncovered (as_context u) probe → cover probe ranges ≡ []
  covers_none probe h = ap (cover probe) i.ranges ∙ ap (λ (m : UnitIndex). cover probe m.ranges) (ok_is i.made h.0 (sym i.indexed ∙ h.1)) ∙ h.2

  -- and where none does, they tell so
  pub uncovered_by : (probe : ℕ) → cover probe ranges ≡ [] → IsUncovered (as_context u) probe
  uncovered_by probe none = (i.made, i.indexed, subst (λ rs. cover probe rs ≡ []) i.ranges none)

  -- where no unit covers the probe nothing is found
  module _ (probe : ℕ) (none : cover probe ranges ≡ []) where
    pub finds_none : {X : Type 0} (see : X → Location) (x : Option X) → first_location d u.units probe (cover probe ranges) ≡ Ok (option_map see x) → x ≡ None
    finds_none see None h = refl
    finds_none see (Some y) h = absurd (let e : ◌≡◌ {A = LocationResult} (Ok None) (Ok (Some (see y))) = sym (ap (first_location d u.units probe) none) ∙ h in cc)

    pub has_no_fault : (e : Error) → first_location d u.units probe (cover probe ranges) ≡ Err e → ⊥
    has_no_fault e h = let f : ◌≡◌ {A = LocationResult} (Ok None) (Err e) = sym (ap (first_location d u.units probe) none) ∙ h in cc

  -- after a lookup of a range
  pub after_range_lookup : {X Y : Type 0} (shares : Bool) (low high : ℕ) (r : Result Y Error) (now : UnitsState) → left.AfterCaching shares (cover_range low high ranges) r u now → (result : Result X Error) → (WasNotRefused result → OnOk r (AreParsed now.parsed (cover_range low high ranges)) → AreParsed now.parsed (cover_range low high ranges))
      → (WasNotRefused r → WasNotRefused result) → AfterRangeLookup low high result (as_context u) (as_context now)
  after_range_lookup shares low high r now a result f h = record {
    stays = lines_stay (LeadTo (cover_range low high ranges)) now a.lines;
    ready = λ told. of_lines (LeadTo (cover_range low high ranges)) now a.lines (λ s xs rs. AreParsed now.parsed (cover_range low high rs)) (f told a.parsed);
    memory = λ ready. h (a.memory (parsed_none_along shares u.units now.parsed (cover_range low high ranges) (at_lines (LeadTo (cover_range low high ranges)) now a.lines (λ s xs rs. AreParsed now.parsed (cover_range low high rs)) ready)));
    only = of_made (λ s xs rs. ParsesOnly (LeadTo (cover_range low high rs)) u.parsed now.parsed) a.lines.only;
    same = λ ready. a.lines.kept (led_ready u.parsed (cover_range low high ranges) (at_made (λ s xs rs. AreParsed u.parsed (cover_range low high rs)) ready));
    steps = a.steps;
  }

-- whether lines can be read, of each unit and along ranges
module _ (d : Sections) where
  first_ok : (u : IndexedUnit) (us : List IndexedUnit) → fault_of (all_lines d (u ∷ us)) ≡ Ok tt → (is_ok (lines_of_unit d u) ≡ true) × (fault_of (all_lines d us) ≡ Ok tt)
  first_ok u us e = of_lines (lines_of_unit d u) (map (lines_of_unit d) us) e
    where
      of_lines : (l : Result LineTable Error) (rest : List (Result LineTable Error)) → fault_of (read_all (l ∷ rest)) ≡ Ok tt → (is_ok l ≡ true) × (fault_of (read_all rest) ≡ Ok tt)
      of_lines (Ok x) rest h = (refl, rest_ok x (read_all rest) h)
      of_lines (Err x) rest h = absurd (err_ok x h)

  each_ok : (us : List IndexedUnit) (probe n : ℕ) → fault_of (all_lines d us) ≡ Ok tt → is_ok (location_in d probe (slice_get us n)) ≡ true
  each_ok [] probe n e = refl
  each_ok (u ∷ us) probe zero e = of_lines (lines_of_unit d u) (first_ok u us e).0
    where
      of_lines : (l : Result LineTable Error) → is_ok l ≡ true → is_ok (l >>= λ lines. Ok (location_at probe lines)) ≡ true
      of_lines (Ok x) h = refl
      of_lines (Err x) h = h
  each_ok (u ∷ us) probe (suc n) e = each_ok us probe n (first_ok u us e).1

  pub along_ok : (us : List IndexedUnit) (probe : ℕ) (ranges : List UnitRange) → fault_of (all_lines d us) ≡ Ok tt → is_ok (first_location d us probe ranges) ≡ true
  along_ok us probe [] e = refl
  along_ok us probe (r ∷ ranges) e = of_location (location_in d probe (slice_get us r.unit)) (each_ok us probe r.unit e) (along_ok us probe ranges e)
    where
      of_location : (l : Result (Option Location) Error) → is_ok l ≡ true → is_ok (first_location d us probe ranges) ≡ true → is_ok (l >>= λ x. or_first_location (first_location d us probe ranges) x) ≡ true
      of_location (Ok None) h k = k
      of_location (Ok (Some x)) h k = refl
      of_location (Err x) h k = h

  -- where the lines of all units are parsed, each lookup is ready
  pub all_ready : (us : List IndexedUnit) (p : List Bool) → AreAllParsed p → (probe : ℕ) (ranges : List UnitRange) → ready_along d us p probe ranges ≡ true
  all_ready us p all probe [] = refl
  all_ready us p all probe (r ∷ ranges) = holds_both (located_frames d us probe) r ranges (has_parsed p) (all r.unit) (all_ready us p all probe ranges)

-- what holds of an answer that is given
pub when_ok : {P : Type 0} (result given : Result (Unit {0}) Error) → ExactlyUnlessOom (λ x. x) result given → (given ≡ Ok tt → P) → OnOk result P
when_ok (Ok tt) given e f = f e
when_ok (Err x) given e f = tt

all_parsed_along : (p : List Bool) → AreAllParsed p → (rs : List UnitRange) → AreParsed p rs
all_parsed_along p all [] = tt
all_parsed_along p all (r ∷ rs) = (all r.unit, all_parsed_along p all rs)

-- where the lines of all units are parsed after an answer, each lookup of an address or of a range is ready then
pub ready_if_ok : (result : Result (Unit {0}) Error) (c : ContextState) → OnOk result (AreAllParsed c.parsed) → OnOk result (((probe : ℕ) → IsReady c probe) × ((low high : ℕ) → IsReadyForRange c low high))
ready_if_ok (Ok tt) c all = (λ probe m is. all_ready c.sections m.units c.parsed all probe (cover probe m.ranges), λ low high m is. all_parsed_along c.parsed all (cover_range low high m.ranges))
ready_if_ok (Err e) c all = tt

-- a context that is made
module _ (d : Sections) where
  abbrev state : List RangedUnit → ContextState
  state units = record { sections = d; answers = map (λ _. None) units; parsed = map has_lines units; known = map (λ _. NothingKnown) units; steps = 0; stop = FindsNothing }

  abbrev made_of : List RangedUnit → List UnitRecord → UnitIndex
  made_of units sup = record { units = map indexed_of units; ranges = unit_ranges_from d 0 units; sup_units = sup }

  abbrev pair_of : List RangedUnit → List UnitRecord → UnitsState × List UnitRange
  pair_of units sup = (first_state d units sup, unit_ranges_from d 0 units)

  pub context_made : (u : UnitsState) (ranges : List UnitRange) → new_units d ≡ Ok (u, ranges) → IsContext ranges u × (new_context d ≡ Ok (as_context u))
  context_made u ranges e = of_units (ranged_units d) refl e
    where
      pair_is : (x y : UnitsState × List UnitRange) → ◌≡◌ {A = Result (UnitsState × List UnitRange) Error} (Ok x) (Ok y) → x ≡ y
      pair_is x y k = cc

      of_sup : (units : List RangedUnit) (r : Result (List UnitRecord) Error) → ranged_units d ≡ Ok units → sup_units d.sup ≡ r → (r >>= λ sup. Ok (pair_of units sup)) ≡ Ok (u, ranges) → IsContext ranges u × ((r >>= λ sup. Ok (state units)) ≡ Ok (as_context u))
      of_sup units (Err f) q l k = absurd cc
      of_sup units (Ok sup) q l k =
          let p = pair_is (pair_of units sup) (u, ranges) k in (
            subst (λ (x : UnitsState × List UnitRange). IsContext x.1 x.0) p (record {
              made = made_of units sup;
              indexed = ap (λ (r : Result (List RangedUnit) Error). r >>= λ xs. sup_units d.sup >>= λ s. Ok (made_of xs s)) q ∙ ap (λ (r : Result (List UnitRecord) Error). r >>= λ s. Ok (made_of units s)) l;
              scope = refl;
              units = refl;
              ranges = refl;
            }),
            ap (λ (x : UnitsState × List UnitRange). Ok (as_context x.0)) p,
          )

      of_units : (r : Result (List RangedUnit) Error) → ranged_units d ≡ r → (r >>= λ units. sup_units d.sup >>= λ sup. Ok (pair_of units sup)) ≡ Ok (u, ranges) → IsContext ranges u × ((r >>= λ units. sup_units d.sup >>= λ sup. Ok (state units)) ≡ Ok (as_context u))
      of_units (Err f) q k = absurd cc
      of_units (Ok units) q k = of_sup units (sup_units d.sup) q refl k

  pub context_fault : (f : Error) → new_units d ≡ Err f → new_context d ≡ Err f
  context_fault f e = of_units (ranged_units d) e
    where
      of_sup : (units : List RangedUnit) (r : Result (List UnitRecord) Error) → (r >>= λ sup. Ok (pair_of units sup)) ≡ Err f → (r >>= λ sup. Ok (state units)) ≡ Err f
      of_sup units (Ok sup) k = absurd cc
      of_sup units (Err x) k = let same : x ≡ f = cc in ap (λ y. Err y) same

      of_units : (r : Result (List RangedUnit) Error) → (r >>= λ units. sup_units d.sup >>= λ sup. Ok (pair_of units sup)) ≡ Err f → (r >>= λ units. sup_units d.sup >>= λ sup. Ok (state units)) ≡ Err f
      of_units (Ok units) k = of_sup units (sup_units d.sup) k
      of_units (Err x) k = let same : x ≡ f = cc in ap (λ y. Err y) same
