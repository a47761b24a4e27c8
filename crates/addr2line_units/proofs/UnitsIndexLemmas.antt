-- The units of a context as they are read (on specs/UnitsRanged.antt and specs/UnitsIndex.antt and
-- specs/UnitsIndexed.antt).
use Rattle.addr2line_units.proofs.Common.{◌≡◌, ◌≢◌, ◌+◌, ℕ, suc, Bool, true, false, is_ok, if◌then◌else◌, ◌<◌, subst, arith, List, [], ◌∷◌, ◌++◌, length, map, drop, Option, Some, None, Result, Ok, Err, refl, sym, ap, ◌∙◌, nat_lt, length-map, map-append, option_to_list, put_to, Error, OffsetOutOfBounds, OutOfMemory, Section, after, Costed, ExactlyUnlessOom, or_left, UnitHeaderFields, Sections, UnitRecord, unit_by, unit_record_of, UnitArange, UnitRange, IndexedUnit, indexed_of, RangedUnit, has_lines, is_type_unit, range_of_unit, ranged_unit, unit_ranges_from, unit_of_header, unit_ranges, unless_faulty, has_abbreviations, unit_of_header_at_cost, free}
use Rattle.std.proofs.lemmas.Bool.{true_from_ne_false}
use Rattle.std.specs.Result.{result_ok}
use Rattle.std.proofs.lemmas.List.{append-nil, append_assoc, length-append}
use Rattle.gimli_read.specs.Abbrev.{table_at}
use Rattle.gimli_read.specs.Costed.{ExactlyAtCost, room_if}
use Rattle.gimli_read.specs.Reading as reading
use Rattle.gimli_read.specs.Yields.{next_given}
use Rattle.gimli.specs.CachedTables.{CachedTables, cached_unit_takes_memory, is_cached}
use Rattle.gimli.specs.Text.{from_offset}
use Rattle.gimli.specs.UnitMemory.{stored_unit_by}
use Rattle.addr2line_units.specs.UnitsIndexed.{IndexState, appended, with_header}
use Rattle.addr2line_units.specs.UnitsMemory.{stored_unit_of_header}

-- what was left, by what a call gave of it
module _ {X : Type 0} where
  first : Result (Option X × List (Result X Error)) Error → Option X
  first (Ok y) = y.0
  first (Err y) = None

  second : List (Result X Error) → Result (Option X × List (Result X Error)) Error → List (Result X Error)
  second d (Ok y) = y.1
  second d (Err y) = d

  some_is : (x y : X) → ◌≡◌ {A = Option X} (Some x) (Some y) → x ≡ y
  some_is x y e = cc

  pub given_some : (left rest : List (Result X Error)) (x : X) → next_given left ≡ Ok (Some x, rest) → left ≡ Ok x ∷ rest
  unfolding first second
  given_some [] rest x e = let none : ◌≡◌ {A = Option X} None (Some x) = ap first e in absurd cc
  given_some (Ok y ∷ ys) rest x e = ap (λ z. Ok z ∷ ys) (some_is y x (ap first e)) ∙ ap (λ zs. Ok x ∷ zs) (ap (second ys) e)
  given_some (Err y ∷ ys) rest x e = absurd cc

  pub given_none : (left rest : List (Result X Error)) → next_given left ≡ Ok (None, rest) → left ≡ []
  unfolding first
  given_none [] rest e = refl
  given_none (Ok y ∷ ys) rest e = let none : ◌≡◌ {A = Option X} (Some y) None = ap first e in absurd cc
  given_none (Err y ∷ ys) rest e = absurd cc

  pub given_fault : (left : List (Result X Error)) (f : Error) → next_given left ≡ Err f → left ≡ Err f ∷ drop 1 left
  given_fault [] f e = cc
  given_fault (Ok y ∷ ys) f e = cc
  given_fault (Err y ∷ ys) f e = let same : y ≡ f = cc in ap (λ z. Err z ∷ ys) same

-- the ranges of units behind others
ranges_append : (d : Sections) (n : ℕ) (us vs : List RangedUnit) → unit_ranges_from d n (us ++ vs) ≡ unit_ranges_from d n us ++ unit_ranges_from d (n + length us) vs
ranges_append d n [] vs = ap (λ k. unit_ranges_from d k vs) zero
  where
    zero : n ≡ n + 0
    zero = omega arith
ranges_append d n (u ∷ us) vs =
    ap (λ rs. map (range_of_unit n) (unit_ranges d u) ++ rs) (ranges_append d (n + 1) us vs ∙ ap (λ k. unit_ranges_from d (n + 1) us ++ unit_ranges_from d k vs) (number (length us)))
    ∙ sym (append_assoc (map (range_of_unit n) (unit_ranges d u)) (unit_ranges_from d (n + 1) us) (unit_ranges_from d (n + length (u ∷ us)) vs))
  where
    number : (k : ℕ) → (n + 1) + k ≡ n + suc k
    number k = omega arith

-- the units that are read go behind those that were
module _ (m : IndexState) where
  abbrev d : Sections
  d = m.sections

  of_parts : {a b : List IndexedUnit} {p q : List UnitRange} {v w : List Bool} → a ≡ b → p ≡ q → v ≡ w → ◌≡◌ {A = IndexState} (record { sections = d; units = a; ranges = p; parsed = v }) (record { sections = d; units = b; ranges = q; parsed = w })
  of_parts e f g = cc

  pub appended_none : appended m [] ≡ m
  appended_none = of_parts (append-nil m.units) (append-nil m.ranges) (append-nil m.parsed)

  pub appended_more : (us vs : List RangedUnit) → appended m (us ++ vs) ≡ appended (appended m us) vs
  appended_more us vs =
      of_parts
      (ap (λ xs. m.units ++ xs) (map-append indexed_of us vs) ∙ sym (append_assoc m.units (map indexed_of us) (map indexed_of vs)))
      (ap (λ rs. m.ranges ++ rs) (ranges_append d (length m.units) us vs)
      ∙ sym (append_assoc m.ranges (unit_ranges_from d (length m.units) us) (unit_ranges_from d (length m.units + length us) vs))
      ∙ ap (λ k. (m.ranges ++ unit_ranges_from d (length m.units) us) ++ unit_ranges_from d k vs) (sym (length-append m.units (map indexed_of us) ∙ ap (λ k. length m.units + k) (length-map us indexed_of))))
      (ap (λ xs. m.parsed ++ xs) (map-append has_lines us vs) ∙ sym (append_assoc m.parsed (map has_lines us) (map has_lines vs)))

  -- they are of the same sections
  pub header_sections : (unit : Costed (Option RangedUnit)) (now : IndexState) → (put_to appended m unit).given ≡ Ok now → now.sections ≡ m.sections
  header_sections unit now e = by unit.given e
    where
      by : (r : Result (Option RangedUnit) Error) → reading.◌>>=◌ r (λ u. Ok (appended m (option_to_list u))) ≡ Ok now → now.sections ≡ m.sections
      by (Ok u) h = let same : appended m (option_to_list u) ≡ now = cc in ap (λ (i : IndexState). i.sections) (sym same)
      by (Err f) h = absurd cc

-- what is left after one more is less
pub shorter : {X : Type 0} (left rest : List (Result X Error)) (x : X) → left ≡ Ok x ∷ rest → length rest < length left
shorter left rest x e = subst (λ xs. length rest < length xs) (sym e) (omega arith)

-- a unit whose abbreviations begin outside their section
module _ (d : Sections) (h : UnitHeaderFields) (outside : has_abbreviations d h ≡ false) where
  outside_is : from_offset h.debug_abbrev_offset d.debug_abbrev ≡ Err OffsetOutOfBounds
  outside_is = of_bool (nat_lt (length d.debug_abbrev.bytes) h.debug_abbrev_offset) outside
    where
      of_bool : (b : Bool) → is_ok {T = Section} (if b then Err OffsetOutOfBounds else Ok (after h.debug_abbrev_offset d.debug_abbrev)) ≡ false
          → ◌≡◌ {A = Result Section Error} (if b then Err OffsetOutOfBounds else Ok (after h.debug_abbrev_offset d.debug_abbrev)) (Err OffsetOutOfBounds)
      of_bool true e = refl
      of_bool false e = cc

  pub no_record : unit_record_of d h ≡ Err OffsetOutOfBounds
  unfolding unit_record_of unit_by
  no_record = ap (λ r. unit_by d h (reading.◌>>=◌ r table_at)) outside_is

  pub nothing_taken : (shares : Bool) (cache : CachedTables) → cache.dwarf ≡ d → cached_unit_takes_memory shares cache h ≡ false
  unfolding stored_unit_by
  nothing_taken shares cache same = of_bool (is_cached h.debug_abbrev_offset cache) (from_offset h.debug_abbrev_offset cache.dwarf.debug_abbrev) (ap (λ (s : Sections). from_offset h.debug_abbrev_offset s.debug_abbrev) same ∙ outside_is)
    where
      of_bool : (b : Bool) (r : Result Section Error) → r ≡ Err OffsetOutOfBounds → (if b then (stored_unit_by cache.dwarf h (reading.◌>>=◌ r table_at)).takes_memory shares else is_ok r) ≡ false
      of_bool true r e = ap (λ x. (stored_unit_by cache.dwarf h (reading.◌>>=◌ x table_at)).takes_memory shares) e
      of_bool false r e = ap is_ok e

-- a unit for which memory was taken, or whose record is read, has abbreviations
module _ (d : Sections) (h : UnitHeaderFields) where
  unless_outside : ((has_abbreviations d h ≡ false) → ⊥) → has_abbreviations d h ≡ true
  unless_outside f = true_from_ne_false (has_abbreviations d h) f

  pub where_taken : (shares : Bool) (cache : CachedTables) → cache.dwarf ≡ d → ((cached_unit_takes_memory shares cache h ≡ true → OutOfMemory ≢ OutOfMemory) → unit_record_of d h ≡ Err OutOfMemory) → has_abbreviations d h ≡ true
  where_taken shares cache same gives = unless_outside (λ outside.
      let other : ◌≡◌ {A = Result UnitRecord Error} (Err OffsetOutOfBounds) (Err OutOfMemory) =
      sym (no_record d h outside) ∙ gives (λ takes. let no : true ≡ false = sym takes ∙ nothing_taken d h outside shares cache same in absurd cc) in
      cc)

  pub where_read : (u : UnitRecord) → unit_record_of d h ≡ Ok u → has_abbreviations d h ≡ true
  where_read u e = unless_outside (λ outside. let other : ◌≡◌ {A = Result UnitRecord Error} (Err OffsetOutOfBounds) (Ok u) = sym (no_record d h outside) ∙ e in cc)

  pub where_found : (u : UnitRecord) → ◌≡◌ {A = Result (Option UnitRecord) Error} (Ok (result_ok (unit_record_of d h))) (Ok (Some u)) → has_abbreviations d h ≡ true
  where_found u e = unless_outside (λ outside. let other : ◌≡◌ {A = Result (Option UnitRecord) Error} (Ok None) (Ok (Some u)) = sym (ap (λ r. Ok (result_ok r)) (no_record d h outside)) ∙ e in cc)

  pub takes_unit : (shares : Bool) (aranges : List UnitArange) → is_type_unit h.unit_type ≡ false → has_abbreviations d h ≡ true → (unit_of_header_at_cost d aranges h).takes_memory shares ≡ true
  unfolding stored_unit_of_header
  takes_unit shares aranges e k = ap (λ b. (if b then free (Ok tt) else room_if (has_abbreviations d h)).takes_memory shares) e ∙ k

  pub where_kept : (shares : Bool) (aranges : List UnitArange) (u : RangedUnit) → unit_of_header d aranges h ≡ Ok (Some u) → (unit_of_header_at_cost d aranges h).takes_memory shares ≡ true
  unfolding unit_of_header stored_unit_of_header
  where_kept shares aranges u e = of_bool (is_type_unit h.unit_type) e
    where
      read : Bool → Result (Option RangedUnit) Error
      read b = if b then Ok None else unless_faulty d aranges (unit_record_of d h)

      of_bool : (b : Bool) → read b ≡ Ok (Some u) → (if b then free (Ok tt) else room_if (has_abbreviations d h)).takes_memory shares ≡ true
      of_bool true k = absurd cc
      of_bool false k = unless_outside (λ outside. let none : ◌≡◌ {A = Result (Option RangedUnit) Error} (Ok None) (Ok (Some u)) = sym (ap (unless_faulty d aranges) (no_record d h outside)) ∙ k in cc)

  pub kept_fault : (aranges : List UnitArange) (u : UnitRecord) (f : Error) → is_type_unit h.unit_type ≡ false → unit_record_of d h ≡ Ok u → ranged_unit d aranges u ≡ Err f → unit_of_header d aranges h ≡ Err f
  unfolding unit_of_header
  kept_fault aranges u f e rec k = ap (λ b. if b then Ok None else unless_faulty d aranges (unit_record_of d h)) e ∙ ap (unless_faulty d aranges) rec ∙ ap (λ r. reading.◌>>=◌ r (λ x. Ok (Some x))) k

-- the unit of a header that isn't passed over was added, or memory was refused
pub header_gives : {X : Type 0} (m : IndexState) (shares : Bool) (aranges : List UnitArange) (h : UnitHeaderFields) (unit : RangedUnit) (see : X → IndexState) (result : Result X Error) → unit_of_header m.sections aranges h ≡ Ok (Some unit)
    → ExactlyUnlessOom see result (Ok (appended m (unit ∷ []))) → ExactlyAtCost shares see result (with_header aranges m h)
header_gives m shares aranges h unit see (Ok x) read gives = ap (λ r. reading.◌>>=◌ r (λ u. Ok (appended m (option_to_list u)))) read ∙ gives
header_gives m shares aranges h unit see (Err e) read gives = λ may. absurd (let no = gives (may (or_left _ _ (where_kept m.sections h shares aranges unit read))) in cc)
