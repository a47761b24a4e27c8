-- The units of a context as they are read (on specs/UnitsState.antt and specs/UnitsStored.antt).
use Rattle.addr2line_units.proofs.Common.{◌≡◌, ◌++◌, Bool, true, length, nat_lt, or_left, List, [], ◌∷◌, map, Option, Some, None, option_map, Result, Ok, Err, refl, sym, ap, subst, ◌∙◌, Error, ◌>>=◌, Sections, SupSections, UnitRecord, all_headers, FileRecord, IsScope, Scope, UnitArange, UnitRange, CachedUnit, indexed_units, AreLinesOf, HaveNewCaches, answers_in, FindsNothing, main_scope, units_of, known_in, KnownEntries, NothingKnown, IndexedUnit, RangedUnit, indexed_of, ranged_units, unit_of_header, unit_ranges_from, unit_records, AreUnits, as_units_state, arange_sets_of, aranges_in, UnitsState, first_state, new_units, FirstAnswers, sup_sections, ◌≢◌, OutOfMemory}
use Rattle.addr2line_units.specs.declared.frames.FramesStop.TheVariants as stops
use Rattle.addr2line_units.specs.declared.sup.SupUnits.{SupUnits}
use Rattle.addr2line_units.specs.UnitsCached.{IsFresh}
use Rattle.addr2line_units.specs.UnitsIndexed.{IndexState, aranges_read, index_of, index_read, index_state, indexed_with}
use Rattle.addr2line_units.specs.SupScope.{scope_in}
use Rattle.addr2line_units.specs.UnitsIndex.{UnitIndex, index_units, sup_units}
use Rattle.addr2line_units.proofs.UnitsLinesLemmas.{own_push}
use Rattle.addr2line_units.proofs.UnitsMemoryLemmas.{then_takes}
use Rattle.addr2line_units.proofs.EntriesKnownLemmas.{nothing_known}
use Rattle.addr2line_units.proofs.SupScopeLemmas.{fresh_caches, fresh_push, main_scope_in_order, no_answers, records_beside}
use Rattle.addr2line_lines.proofs.Facts.{ok_is}

-- the first answers of units before any answer
abbrev no_answers_of : {U : Type 0} → List U → FirstAnswers
no_answers_of units = map (λ _. None) units

no_more_answers : (units : List RangedUnit) → no_answers_of units ≡ no_answers_of (unit_records (map indexed_of units))
no_more_answers [] = refl
no_more_answers (u ∷ units) = ap (λ (xs : FirstAnswers). None ∷ xs) (no_more_answers units)

-- what is known of units before anybody asks
abbrev nothing_known_of : {U : Type 0} → List U → List KnownEntries
nothing_known_of units = map (λ _. NothingKnown) units

no_more_known : (units : List RangedUnit) → nothing_known_of units ≡ nothing_known_of (unit_records (map indexed_of units))
no_more_known [] = refl
no_more_known (u ∷ units) = ap (λ (xs : List KnownEntries). NothingKnown ∷ xs) (no_more_known units)

-- a unit more, and beside it its cache
pub one_more : {R : Type 0} (d : Sections) (us : List UnitRecord) (cs : List (CachedUnit R)) (u : UnitRecord) (c : CachedUnit R) → HaveNewCaches d us cs → AreLinesOf d u c.lines.lines → IsFresh c → HaveNewCaches d (us ++ u ∷ []) (cs ++ c ∷ [])
one_more d us cs u c before lines fresh = record { lines = own_push d us cs u c before.lines lines; fresh = fresh_push us cs u c before.fresh fresh }

-- the units with their ranges, as the private functions read them
pub index_is : (d : Sections) → (index_read d).given ≡ (ranged_units d >>= λ units. Ok (index_of d units))
index_is d = of_aranges (aranges_in (arange_sets_of d.debug_aranges))
  where
    units : List UnitArange → Result (List RangedUnit) Error
    units aranges = units_of (unit_of_header d aranges) (all_headers d.debug_info)

    of_units : (r : Result (List RangedUnit) Error) → ((r >>= λ us. Ok (index_of d us)) >>= λ index. Ok index) ≡ (r >>= λ us. Ok (index_of d us))
    of_units (Ok us) = refl
    of_units (Err e) = refl

    of_aranges : (r : Result (List UnitArange) Error) → ((r >>= λ xs. Ok xs) >>= λ aranges. (units aranges >>= λ us. Ok (index_of d us)) >>= λ index. Ok index) ≡ ((r >>= λ aranges. units aranges) >>= λ us. Ok (index_of d us))
    of_aranges (Ok aranges) = of_units (units aranges)
    of_aranges (Err e) = refl

-- they are of these sections
pub indexed_sections : (d : Sections) (aranges : List UnitArange) (m : IndexState) → (indexed_with d aranges).given ≡ Ok m → m.sections ≡ d
indexed_sections d aranges m e = by (units_of (unit_of_header d aranges) (all_headers d.debug_info)) e
  where
    by : (r : Result (List RangedUnit) Error) → (r >>= λ units. Ok (index_of d units)) ≡ Ok m → m.sections ≡ d
    by (Ok units) h = ap (λ (x : IndexState). x.sections) (sym (ok_is (index_of d units) m h))
    by (Err f) h = absurd cc

pub index_sections : (d : Sections) (m : IndexState) → (index_read d).given ≡ Ok m → m.sections ≡ d
index_sections d m e = by (ranged_units d) (sym (index_is d) ∙ e)
  where
    by : (r : Result (List RangedUnit) Error) → (r >>= λ units. Ok (index_of d units)) ≡ Ok m → m.sections ≡ d
    by (Ok units) h = ap (λ (x : IndexState). x.sections) (sym (ok_is (index_of d units) m h))
    by (Err f) h = absurd cc

-- the index of sections, once the units were read with the ranges that are listed for them
module _ {R : Type 0} (first d : Sections) (us : List UnitRecord) (cs : List (CachedUnit R)) (ranges : List UnitRange) (aranges : List UnitArange) {m : IndexState} {of_units : Sections} (units_of_first : of_units ≡ first) (units : (indexed_with of_units aranges).given ≡ Ok m) (is : index_state d us cs ranges ≡ m) where
  units_there : (indexed_with first aranges).given ≡ Ok m
  units_there = subst (λ x. (indexed_with x aranges).given ≡ Ok m) units_of_first units

  is_of_first : d ≡ first
  is_of_first = ap (λ (x : IndexState). x.sections) is ∙ indexed_sections first aranges m units_there

  pub caches_of_first : HaveNewCaches d us cs → HaveNewCaches first us cs
  caches_of_first new = subst (λ x. HaveNewCaches x us cs) is_of_first new

  module _ {of_aranges : Sections} (aranges_of_first : of_aranges ≡ first) (read : (aranges_read of_aranges.debug_aranges).given ≡ Ok aranges) where
    aranges_there : (aranges_read first.debug_aranges).given ≡ Ok aranges
    aranges_there = subst (λ (x : Sections). (aranges_read x.debug_aranges).given ≡ Ok aranges) aranges_of_first read

    pub index_given : {now : List UnitRange} → ranges ≡ now → (index_read first).given ≡ Ok (index_state first us cs now)
    index_given {now} same =
        ap (λ r. r >>= λ xs. (indexed_with first xs).given >>= λ index. Ok index) aranges_there
        ∙ ap (λ r. r >>= λ (index : IndexState). Ok index) units_there
        ∙ ap (λ x. Ok x) (sym is ∙ ap (λ x. index_state x us cs ranges) is_of_first ∙ ap (λ rs. index_state first us cs rs) same)

    -- where it has ranges, memory may be taken for it
    pub index_takes : (shares : Bool) → nat_lt 0 (length ranges) ≡ true → (index_read first).takes_memory shares ≡ true
    index_takes shares some =
        then_takes _ _ _ _ aranges_there (then_takes _ _ _ _ units_there (or_left _ _ (subst (λ (rs : List UnitRange). nat_lt 0 (length rs) ≡ true) (ap (λ (x : IndexState). x.ranges) is) some)))

-- a fault of units that are read with the ranges is one of the index
pub index_fault : (shares : Bool) (first : Sections) (aranges : List UnitArange) (e : Error) {of_aranges of_units : Sections} → of_aranges ≡ first → (aranges_read of_aranges.debug_aranges).given ≡ Ok aranges → of_units ≡ first
    → (((indexed_with of_units aranges).takes_memory shares ≡ true → e ≢ OutOfMemory) → (indexed_with of_units aranges).given ≡ Err e) → ((index_read first).takes_memory shares ≡ true → e ≢ OutOfMemory) → (index_read first).given ≡ Err e
index_fault shares first aranges e of read is refused may =
    let there = subst (λ (x : Sections). (aranges_read x.debug_aranges).given ≡ Ok aranges) of read in
    ap (λ r. r >>= λ xs. (indexed_with first xs).given >>= λ index. Ok index) there
    ∙ ap (λ (r : Result IndexState Error). r >>= λ index. Ok index) (subst (λ x. ((indexed_with x aranges).takes_memory shares ≡ true → e ≢ OutOfMemory) → (indexed_with x aranges).given ≡ Err e) is refused (λ takes. may (then_takes _ _ _ _ there (or_left _ _ takes))))

-- units that are made of the index of sections and of the units of the supplementary file
module _ {R : Type 0} (first d : Sections) (us : List UnitRecord) (cs : List (CachedUnit R)) (ranges : List UnitRange) (sup : SupUnits R) {m : IndexState} {seen : Sections} (given : (index_read first).given ≡ Ok m) (is : index_state d us cs ranges ≡ m)
    (same : seen ≡ d) (sup_given : sup_units seen.sup ≡ Ok sup.units.items) (sup_dwarf : sup.dwarf ≡ option_map sup_sections seen.sup) (new : HaveNewCaches d us cs) where
  of : d ≡ first
  of = ap (λ (x : IndexState). x.sections) is ∙ index_sections first m given

  e : (ranged_units d >>= λ units. Ok (index_of d units)) ≡ Ok (index_state d us cs ranges)
  e = sym (index_is d) ∙ subst (λ x. (index_read x).given ≡ Ok m) (sym of) given ∙ ap (λ x. Ok x) (sym is)

  f : sup_units d.sup ≡ Ok sup.units.items
  f = subst (λ (x : Sections). sup_units x.sup ≡ Ok sup.units.items) same sup_given

  sup_is : sup.dwarf ≡ option_map sup_sections d.sup
  sup_is = subst (λ (x : Sections). sup.dwarf ≡ option_map sup_sections x.sup) same sup_dwarf

  abbrev index : IndexState
  index = index_state d us cs ranges

  abbrev made : UnitIndex
  made = record { units = indexed_units us cs; ranges = ranges; sup_units = sup.units.items }

  -- where references lead
  scope_is : scope_in d us sup ≡ main_scope d made
  scope_is =
      ap (λ (xs : List UnitRecord). scope_at xs (option_map (λ s. file_at s) sup.dwarf)) (sym (records_beside d us cs new.lines))
      ∙ ap (λ (o : Option FileRecord). scope_at (unit_records made.units) o) of_sup
    where
      file_at : Sections → FileRecord
      file_at s = record { sections = s; units = sup.units.items }

      scope_at : List UnitRecord → Option FileRecord → Scope
      scope_at xs o = record { file = record { sections = d; units = xs }; sup = o }

      fused : (o : Option SupSections) → option_map (λ s. file_at s) (option_map sup_sections o) ≡ option_map (λ (s : SupSections). file_at (sup_sections s)) o
      fused None = refl
      fused (Some s) = refl

      of_sup : option_map (λ s. file_at s) sup.dwarf ≡ option_map (λ (s : SupSections). file_at (sup_sections s)) d.sup
      of_sup = ap (λ (o : Option Sections). option_map (λ s. file_at s) o) sup_is ∙ fused d.sup

  what_is_made : index_units d ≡ Ok made
  what_is_made = of_units (ranged_units d) e
    where
      all : List IndexedUnit → List UnitRange → List UnitRecord → Result UnitIndex Error
      all units ranges s = Ok (record { units = units; ranges = ranges; sup_units = s })

      of_units : (r : Result (List RangedUnit) Error) → (r >>= λ units. Ok (index_of d units)) ≡ Ok index
          → (r >>= λ units. sup_units d.sup >>= λ s. all (map indexed_of units) (unit_ranges_from d 0 units) s) ≡ all index.units index.ranges sup.units.items
      of_units (Ok units) h =
          ap (λ (r : Result (List UnitRecord) Error). r >>= λ s. all (map indexed_of units) (unit_ranges_from d 0 units) s) f
          ∙ ap (λ (x : IndexState). all x.units x.ranges sup.units.items) (ok_is (index_of d units) index h)
      of_units (Err x) h = absurd cc

  pub scope_in_order : IsScope (scope_in d us sup)
  scope_in_order = subst IsScope (sym scope_is) (main_scope_in_order d made what_is_made)

  pub are_units : AreUnits (scope_in d us sup) cs stops.FindsNothing
  are_units = record {
    caches = fresh_caches (scope_in d us sup) us cs new.lines new.fresh;
    stop = tt;
  }

  abbrev State : Type 0
  State = UnitsState × List UnitRange

  abbrev state : Scope → IndexState → FirstAnswers → List KnownEntries → Result State Error
  state scope x answers known = Ok (record { scope = scope; units = x.units; answers = answers; parsed = x.parsed; known = known; steps = 0; stop = FindsNothing }, x.ranges)

  abbrev of_index : IndexState → Result State Error
  of_index x = state (main_scope d (record { units = x.units; ranges = x.ranges; sup_units = sup.units.items })) x (no_answers_of (unit_records x.units)) (nothing_known_of (unit_records x.units))

  pub units_made : new_units first ≡ Ok (as_units_state (scope_in d us sup) cs 0 FindsNothing, ranges)
  units_made =
      sym (ap new_units of)
      ∙ of_units (ranged_units d) e
      ∙ ap (λ xs. state (main_scope d made) index xs (nothing_known_of (unit_records (indexed_units us cs)))) (sym none)
      ∙ ap (λ xs. state (main_scope d made) index (answers_in cs) xs) (sym not_known)
      ∙ ap (λ s. state s index (answers_in cs) (known_in cs)) (sym scope_is)
    where
      none : answers_in cs ≡ no_answers_of (unit_records (indexed_units us cs))
      none = no_answers us cs new.fresh ∙ ap (λ (xs : List UnitRecord). no_answers_of xs) (sym (records_beside d us cs new.lines))

      not_known : known_in cs ≡ nothing_known_of (unit_records (indexed_units us cs))
      not_known = nothing_known us cs new.fresh ∙ ap (λ (xs : List UnitRecord). nothing_known_of xs) (sym (records_beside d us cs new.lines))

      of_units : (r : Result (List RangedUnit) Error) → (r >>= λ units. Ok (index_of d units)) ≡ Ok index
          → (r >>= λ units. sup_units d.sup >>= λ s. Ok (first_state d units s, unit_ranges_from d 0 units)) ≡ of_index index
      of_units (Ok units) h =
          ap (λ (r : Result (List UnitRecord) Error). r >>= λ s. Ok (first_state d units s, unit_ranges_from d 0 units)) f
          ∙ ap (λ xs. state (first_state d units sup.units.items).scope (index_of d units) xs (nothing_known_of units)) (no_more_answers units)
          ∙ ap (λ xs. state (first_state d units sup.units.items).scope (index_of d units) (no_answers_of (unit_records (map indexed_of units))) xs) (no_more_known units)
          ∙ ap of_index (ok_is (index_of d units) index h)
      of_units (Err x) h = absurd cc

-- a fault of the supplementary file refuses the units
pub sup_fault : (d : Sections) (i : IndexState) (f : Error) → (ranged_units d >>= λ units. Ok (index_of d units)) ≡ Ok i → sup_units d.sup ≡ Err f → new_units d ≡ Err f
sup_fault d i f e h = of_units (ranged_units d) e
  where
    state : List RangedUnit → List UnitRecord → Result (UnitsState × List UnitRange) Error
    state units s = Ok (first_state d units s, unit_ranges_from d 0 units)

    of_units : (r : Result (List RangedUnit) Error) → (r >>= λ units. Ok (index_of d units)) ≡ Ok i → (r >>= λ units. sup_units d.sup >>= λ s. state units s) ≡ Err f
    of_units (Ok units) k = ap (λ (r : Result (List UnitRecord) Error). r >>= λ s. state units s) h
    of_units (Err x) k = absurd cc

-- a fault of a unit does
pub units_fault : (d : Sections) (f : Error) → (ranged_units d >>= λ units. Ok (index_of d units)) ≡ Err f → new_units d ≡ Err f
units_fault d f e = of_units (ranged_units d) e
  where
    state : List RangedUnit → List UnitRecord → Result (UnitsState × List UnitRange) Error
    state units s = Ok (first_state d units s, unit_ranges_from d 0 units)

    of_units : (r : Result (List RangedUnit) Error) → (r >>= λ units. Ok (index_of d units)) ≡ Err f → (r >>= λ units. sup_units d.sup >>= λ s. state units s) ≡ Err f
    of_units (Ok units) k = absurd cc
    of_units (Err x) k = let is : x ≡ f = cc in ap (λ e. Err e) is
