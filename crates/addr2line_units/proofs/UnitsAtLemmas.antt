-- The unit of a number, what is cached of it, and the units when that is put back (on
-- specs/UnitsStored.antt).
use Rattle.addr2line_units.proofs.Common.{◌≡◌, ℕ, ◌<◌, nat_lt, ltb-false, ltb-true, true, false, List, length, get_or, slice_get, Option, Some, None, refl, sym, ap, subst, ◌∙◌, set, length-map, get_or_from_slice_get, slice_get_past, slice_get_read, slice_get_within, UnitRecord, Scope, FramesStop, LinesCache, CachedUnit, CountsUnits, AreEntriesOf, first_answer_of, IsLendable, known_by, AreLinesOf, HaveLinesOf, is_parsed, HaveEntriesOf, IsCacheOf, LookupStop, AreUnits, as_units_state, IndexedUnit, UnitsState}
use Rattle.addr2line_units.specs.declared.frames.FramesStop.TheVariants as stops
use Rattle.std.specs.Prelude.{IfSome}
use Rattle.addr2line_units.specs.UnitAfter.{WasLookedAt}
use Rattle.addr2line_lines.specs.References.{UnitInScope}
use Rattle.addr2line_units.specs.EntriesOwn.{AreOwnEntries, CachedUnit}
use Rattle.addr2line_units.specs.UnitsCached.{AreOfUnit}
use Rattle.addr2line_units.proofs.EntriesOwnLemmas.{looked_at_is_cache, own_entries}
use Rattle.addr2line_units.proofs.SupScopeLemmas.{records_beside}
use Rattle.addr2line_units.proofs.UnitsCachedLemmas.{as_many_entries, cache_at, cache_set, entries_at, entries_right, lines_right}
use Rattle.addr2line_units.proofs.UnitsLinesLemmas.{as_many_indexed, own_at}

-- where references lead from the units, as the scope says that was asked for
module _ {scope seen : Scope} (is : seen ≡ scope) where
  pub sections_seen : seen.file.sections ≡ scope.file.sections
  sections_seen = ap (λ (s : Scope). s.file.sections) is

  as_indexed_units : seen.file.units ≡ scope.file.units
  as_indexed_units = ap (λ (s : Scope). s.file.units) is

  -- the unit of a number among those, and that there is none
  module _ {units : List UnitRecord} (lent : units ≡ seen.file.units) (n : ℕ) where
    pub unit_got : {u : UnitRecord} → true ≡ nat_lt n (length units) → u ≡ get_or units n u → slice_get scope.file.units n ≡ Some u
    unit_got {u} below at = subst (λ xs. slice_get xs n ≡ Some u) (lent ∙ as_indexed_units) (slice_get_read units _ n u refl (ltb-true _ _ (sym below)) at)

    pub none_got : false ≡ nat_lt n (length units) → slice_get scope.file.units n ≡ None
    none_got past = subst (λ xs. slice_get xs n ≡ None) (lent ∙ as_indexed_units) (slice_get_past units n (ltb-false _ _ (sym past)))

-- so many units the scope has
pub counted_records : {count : ℕ} (s : UnitsState) → CountsUnits count s → count ≡ length s.scope.file.units
counted_records s c = c.units ∙ sym (length-map s.units (λ (u : IndexedUnit). u.unit)) ∙ ap (λ (us : List UnitRecord). length us) c.are

module _ {R : Type 0} {scope : Scope} {held : List (CachedUnit R)} {last : FramesStop} (i : AreUnits scope held last) where
  -- what is cached of all units is their own
  pub all_entries : HaveEntriesOf scope scope.file.units held
  all_entries = entries_right scope scope.file.units held i.caches

  pub all_lines : HaveLinesOf scope.file.sections scope.file.units held
  all_lines = lines_right scope scope.file.units held i.caches

  pub as_many : length scope.file.units ≡ length held
  as_many = as_many_entries scope scope.file.units held all_entries

  pub counts : {n : ℕ} (steps : ℕ) (was : LookupStop) → n ≡ length held → CountsUnits n (as_units_state scope held steps was)
  counts steps was many = record {
    are = records_beside scope.file.sections scope.file.units held all_lines;
    units = many ∙ sym (as_many_indexed scope.file.units held as_many);
    answers = many ∙ sym (length-map held (λ (c : CachedUnit R). first_answer_of c.entries));
    parsed = many ∙ sym (length-map held (λ (c : CachedUnit R). is_parsed c.lines));
    known = many ∙ sym (length-map held (λ (c : CachedUnit R). known_by c.entries.view.state c.entries.functions));
  }

  module _ (n : ℕ) {u : UnitRecord} (there : slice_get scope.file.units n ≡ Some u) where
    pub unit_is : u ≡ get_or scope.file.units n u
    unit_is = sym (get_or_from_slice_get scope.file.units n u u there)

    pub unit_within : n < length scope.file.units
    unit_within = slice_get_within scope.file.units n u there

    pub cache_within : n < length held
    cache_within = subst (λ m. n < m) as_many unit_within

    -- what is cached of it is its own
    module _ {c : CachedUnit R} (at : c ≡ get_or held n c) where
      pub its_lines : AreLinesOf scope.file.sections u c.lines.lines
      its_lines = own_at scope.file.sections scope.file.units held n u c cache_within unit_is at all_lines

      pub its_entries : AreEntriesOf scope u c.entries
      its_entries = entries_at scope scope.file.units held n u c cache_within unit_is at all_entries

      pub its_unit : AreOfUnit scope u c
      its_unit = (cache_at scope scope.file.units held n u c cache_within unit_is at i.caches).unit

    -- and so is all where its own is put back
    pub units_with : (c : CachedUnit R) {stop : FramesStop} → IsCacheOf scope u c → IsLendable (set held n c) stop → AreUnits scope (set held n c) stop
    units_with c own lendable = record {
      caches = cache_set scope scope.file.units held n u c unit_is i.caches own;
      stop = lendable;
    }

    module _ {c : CachedUnit R} (at : c ≡ get_or held n c) (w : CachedUnit R) where
      abbrev lines_same : w.lines ≡ c.lines → AreLinesOf scope.file.sections u w.lines.lines
      lines_same lines = subst (λ (l : LinesCache). AreLinesOf scope.file.sections u l.lines) (sym lines) (its_lines at)

      -- after a call on its entries
      pub units_after : w.lines ≡ c.lines → WasLookedAt scope u w → AreOwnEntries w.unit w.entries → AreUnits scope (set held n w) stops.FindsNothing
      units_after lines is own = units_with w {stop = stops.FindsNothing} (looked_at_is_cache scope u w is own (lines_same lines)) tt

      -- after it was forgotten
      pub units_forgotten : w.lines ≡ c.lines → w.unit ≡ c.unit → AreOwnEntries w.unit w.entries → AreUnits scope (set held n w) stops.FindsNothing
      units_forgotten lines unit own =
          let of_unit = subst (λ (o : Option UnitInScope). IfSome o (λ x. x ≡ record { scope = scope; unit = u })) (sym unit) (its_unit at) in
          units_with w {stop = stops.FindsNothing} (record { lines = lines_same lines; entries = own_entries scope u w of_unit own; unit = of_unit }) tt

      -- after a call on its lines
      pub units_with_lines : AreLinesOf scope.file.sections u w.lines.lines → w.entries ≡ c.entries → w.unit ≡ c.unit → AreUnits scope (set held n w) stops.FindsNothing
      units_with_lines lines entries unit = units_with w {stop = stops.FindsNothing} (record {
        lines = lines;
        entries = subst (AreEntriesOf scope u) (sym entries) (its_entries at);
        unit = subst (λ (o : Option UnitInScope). IfSome o (λ x. x ≡ record { scope = scope; unit = u })) (sym unit) (its_unit at);
      }) tt
