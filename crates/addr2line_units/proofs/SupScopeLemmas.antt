-- The units that references lead to in a context, and what is cached of their entries at first (on
-- specs/UnitsIndexLaws.antt, specs/FramesLookup.antt and specs/UnitsCached.antt).
use Rattle.addr2line_units.proofs.Common.{◌≡◌, ◌∙◌, ap, sym, refl, subst, Bool, true, false, List, [], ◌∷◌, ◌++◌, map, Option, Some, None, option_map, IfSome, Result, Ok, Err, if◌then◌else◌, DwLang, Error, Range, ◌>>=◌, UnitHeaderFields, Sections, SupSections, UnitRecord, unit_record_of, all_headers, AreInOrder, IsFileInOrder, IsScope, Scope, UnitArange, CachedUnit, HaveLinesOf, indexed_units, main_scope, AreFreshOf, HaveCachesOf, answers_in, units_of, arange_sets_of, aranges_in, indexed_of, unit_records, RangedUnit, listed_in_unit, is_type_unit, ranged_units, unit_ranges_from, unit_of_header, unless_faulty, FirstAnswers, sup_sections}
use Rattle.std.specs.Result.{result_ok}
use Rattle.gimli.proofs.HeaderOrder.{headers_in_order}
use Rattle.addr2line_lines.proofs.UnitOrder.{kept_in_order, record_header}
use Rattle.addr2line_units.specs.UnitsIndex.{UnitIndex, index_units, sup_unit_of_header, sup_units}
use Rattle.addr2line_lines.specs.References.{UnitInScope}
use Rattle.addr2line_units.specs.UnitsCached.{AreOfUnit, IsFresh}
use Rattle.addr2line_units.proofs.EntriesOwnLemmas.{fresh_are_of}
use Rattle.addr2line_units.proofs.UnitViewLemmas.{unchecked_has_none}

-- the unit of a header has it
module _ (d : Sections) (aranges : List UnitArange) (h : UnitHeaderFields) (x : RangedUnit) where
  of_given : (u : UnitRecord) → u.header ≡ h → (r : Result (Option DwLang × List Range) Error)
      → ((r >>= λ y. Ok (record { indexed = record { unit = u; language = y.0 }; listed = y.1 })) >>= λ z. Ok (Some z)) ≡ Ok (Some x) → x.indexed.unit.header ≡ h
  of_given u e (Err f) k = absurd cc
  of_given u e (Ok y) k =
      let same : ◌≡◌ {A = RangedUnit} (record { indexed = record { unit = u; language = y.0 }; listed = y.1 }) x = cc in
      ap (λ (z : RangedUnit). z.indexed.unit.header) (sym same) ∙ e

  of_record : (r : Result UnitRecord Error) → unit_record_of d h ≡ r → unless_faulty d aranges r ≡ Ok (Some x) → x.indexed.unit.header ≡ h
  of_record (Err f) e k = absurd cc
  of_record (Ok u) e k = of_given u (record_header d h u e) (listed_in_unit d aranges u) k

  by_type : (b : Bool) → (if b then Ok None else unless_faulty d aranges (unit_record_of d h)) ≡ Ok (Some x) → x.indexed.unit.header ≡ h
  by_type true k = absurd cc
  by_type false k = of_record (unit_record_of d h) refl k

  ranged_header : unit_of_header d aranges h ≡ Ok (Some x) → x.indexed.unit.header ≡ h
  unfolding unit_of_header
  ranged_header k = by_type (is_type_unit h.unit_type) k

-- so has one of a supplementary file
sup_header : (d : Sections) (h : UnitHeaderFields) (u : UnitRecord) → sup_unit_of_header d h ≡ Ok (Some u) → u.header ≡ h
sup_header d h u k = of_record (unit_record_of d h) refl k
  where
    of_record : (r : Result UnitRecord Error) → unit_record_of d h ≡ r → ◌≡◌ {A = Result (Option UnitRecord) Error} (Ok (result_ok r)) (Ok (Some u)) → u.header ≡ h
    of_record (Err f) e l = absurd cc
    of_record (Ok v) e l =
        let same : ◌≡◌ {A = UnitRecord} v u = cc in
        record_header d h u (e ∙ ap (λ (w : UnitRecord). Ok w) same)

-- the records of units, behind one name
records_of : (units : List RangedUnit) → map (λ (u : RangedUnit). u.indexed.unit) units ≡ unit_records (map indexed_of units)
records_of [] = refl
records_of (u ∷ units) = ap (λ (us : List UnitRecord). u.indexed.unit ∷ us) (records_of units)

map_same : (us : List UnitRecord) → map (λ u. u) us ≡ us
map_same [] = refl
map_same (u ∷ us) = ap (λ (vs : List UnitRecord). u ∷ vs) (map_same us)

-- the units of the sections stand in order
ranged_in_order : (d : Sections) (units : List RangedUnit) → ranged_units d ≡ Ok units → AreInOrder (unit_records (map indexed_of units))
ranged_in_order d units e = of_aranges (aranges_in (arange_sets_of d.debug_aranges)) e
  where
    of_aranges : (r : Result (List UnitArange) Error) → (r >>= λ aranges. units_of (unit_of_header d aranges) (all_headers d.debug_info)) ≡ Ok units → AreInOrder (unit_records (map indexed_of units))
    of_aranges (Err f) k = absurd cc
    of_aranges (Ok aranges) k = subst (λ (us : List UnitRecord). AreInOrder us) (records_of units)
        (kept_in_order (λ (u : RangedUnit). u.indexed.unit) (unit_of_header d aranges) (ranged_header d aranges) (all_headers d.debug_info) units (headers_in_order d.debug_info) k)

-- so do those of the supplementary file, if there is one
sup_in_order : (sup : Option SupSections) (units : List UnitRecord) → sup_units sup ≡ Ok units → AreInOrder units
sup_in_order None units e = subst (λ (us : List UnitRecord). AreInOrder us) (no_units e) tt
  where
    no_units : ◌≡◌ {A = Result (List UnitRecord) Error} (Ok []) (Ok units) → [] ≡ units
    no_units k = cc
sup_in_order (Some s) units e = subst (λ (us : List UnitRecord). AreInOrder us) (map_same units)
    (kept_in_order (λ u. u) (sup_unit_of_header (sup_sections s)) (sup_header (sup_sections s)) (all_headers s.debug_info) units (headers_in_order s.debug_info) e)

-- the units of a context stand in order, and those of the supplementary file
module _ (d : Sections) (m : UnitIndex) where
  index : List RangedUnit → List UnitRecord → UnitIndex
  index units sup = record { units = map indexed_of units; ranges = unit_ranges_from d 0 units; sup_units = sup }

  AreBoth : UnitIndex → Type 0
  AreBoth n = AreInOrder (unit_records n.units) × AreInOrder n.sup_units

  of_sup : (units : List RangedUnit) → ranged_units d ≡ Ok units → (r : Result (List UnitRecord) Error) → sup_units d.sup ≡ r → (r >>= λ sup. Ok (index units sup)) ≡ Ok m → AreBoth m
  unfolding index AreBoth
  of_sup units e (Err f) l k = absurd cc
  of_sup units e (Ok sup) l k =
      let same : index units sup ≡ m = cc in
      subst AreBoth same (ranged_in_order d units e, sup_in_order d.sup sup l)

  of_units : (r : Result (List RangedUnit) Error) → ranged_units d ≡ r → (r >>= λ units. sup_units d.sup >>= λ sup. Ok (index units sup)) ≡ Ok m → AreBoth m
  of_units (Err f) e k = absurd cc
  of_units (Ok units) e k = of_sup units e (sup_units d.sup) refl k

  both_in_order : index_units d ≡ Ok m → AreBoth m
  unfolding index
  both_in_order e = of_units (ranged_units d) refl e

  pub units_in_order : index_units d ≡ Ok m → AreInOrder (unit_records m.units)
  unfolding AreBoth
  units_in_order e = (both_in_order e).0

  pub sup_units_in_order : index_units d ≡ Ok m → AreInOrder m.sup_units
  unfolding AreBoth
  sup_units_in_order e = (both_in_order e).1

  -- references lead to units in order
  pub main_scope_in_order : index_units d ≡ Ok m → IsScope (main_scope d m)
  main_scope_in_order e = record { units = units_in_order e; sup_units = of_file d.sup }
    where
      of_file : (s : Option SupSections) → IsFileInOrder (option_map (λ s. record { sections = sup_sections s; units = m.sup_units }) s)
      of_file None = tt
      of_file (Some s) = sup_units_in_order e

-- the records of units that stand beside their lines
pub records_beside : {R : Type 0} (d : Sections) (us : List UnitRecord) (rs : List (CachedUnit R)) → HaveLinesOf d us rs → unit_records (indexed_units us rs) ≡ us
records_beside d [] [] own = refl
records_beside d [] (r ∷ rs) own = absurd own
records_beside d (u ∷ us) [] own = absurd own
records_beside d (u ∷ us) (r ∷ rs) own = ap (λ (vs : List UnitRecord). u ∷ vs) (records_beside d us rs own.1)

-- before a unit is looked at nothing is cached of its view
-- a unit that wasn't looked at is cached for any
fresh_of_unit : {R : Type 0} (scope : Scope) (u : UnitRecord) (c : CachedUnit R) → IsFresh c → AreOfUnit scope u c
fresh_of_unit scope u c fresh = subst (λ (o : Option UnitInScope). IfSome o (λ x. x ≡ record { scope = scope; unit = u })) (sym fresh.unit) tt

pub fresh_caches : {R : Type 0} (scope : Scope) (us : List UnitRecord) (cs : List (CachedUnit R)) → HaveLinesOf scope.file.sections us cs → AreFreshOf us cs → HaveCachesOf scope us cs
fresh_caches scope [] [] lines fresh = tt
fresh_caches scope [] (c ∷ cs) lines fresh = absurd fresh
fresh_caches scope (u ∷ us) [] lines fresh = absurd fresh
fresh_caches scope (u ∷ us) (c ∷ cs) lines fresh = (record { lines = lines.0; entries = fresh_are_of scope u c.entries fresh.0.entries; unit = fresh_of_unit scope u c fresh.0 }, fresh_caches scope us cs lines.1 fresh.1)

-- no unit has an answer then
pub no_answers : {R : Type 0} (us : List UnitRecord) (vs : List (CachedUnit R)) → AreFreshOf us vs → answers_in vs ≡ map (λ _. None) us
no_answers [] [] fresh = refl
no_answers [] (v ∷ vs) fresh = absurd fresh
no_answers (u ∷ us) [] fresh = absurd fresh
no_answers (u ∷ us) (v ∷ vs) fresh =
    ap (λ (a : Option (Option Sections)). a ∷ answers_in vs) (unchecked_has_none v.entries.view.state fresh.0.entries.view)
    ∙ ap (λ (xs : FirstAnswers). None ∷ xs) (no_answers us vs fresh.1)

-- one more unit that wasn't looked at
pub fresh_push : {R : Type 0} (us : List UnitRecord) (vs : List (CachedUnit R)) (u : UnitRecord) (v : CachedUnit R) → AreFreshOf us vs → IsFresh v → AreFreshOf (us ++ u ∷ []) (vs ++ v ∷ [])
fresh_push [] [] u v fresh one = (one, tt)
fresh_push [] (w ∷ vs) u v fresh one = absurd fresh
fresh_push (x ∷ us) [] u v fresh one = absurd fresh
fresh_push (x ∷ us) (w ∷ vs) u v fresh one = (fresh.0, fresh_push us vs u v fresh.1 one)
