-- The attributes of ranges among others (on specs/FoundRanges.antt).
use Rattle.addr2line_lines.proofs.Common.{◌≡◌, ◌==◌, ◌&&◌, Bool, true, false, length, Some, Result, Ok, Err, refl, ◌∙◌, list_any, DW_AT_high_pc, DW_AT_low_pc, DW_AT_ranges, Error, Abbrev, Section, ◌>>=◌, Exactly, ExactlyUnlessOomIf, NamedValue, rest_of, EntryUnit, attributes_at, EntryCursor, entry_abbreviation_at, Sections, UnitRecord, RangeAttributes, FoundFunctions, next_found_at, is_subprogram, no_range_attributes, range_attributes_after, with_range_attribute, offset_of}
use Rattle.std.proofs.lemmas.Bool.{cond-false}
use Rattle.gimli_read.specs.declared.endian.Encoding.{Encoding}
use Rattle.gimli.specs.WantedAttributes.{HasNoWanted}
use Rattle.gimli.proofs.SinkLemmas.{taken_passes}
use Rattle.gimli.proofs.WantedLemmas.{wanted_end}
use Rattle.addr2line_lines.specs.FoundRanges.{is_function, is_range_specification, is_range_name}
use Rattle.addr2line_lines.proofs.FunctionLemmas.{function_fault, function_found, other_found}
use Rattle.addr2line_lines.proofs.Facts.{none_holds, none_of}

-- an attribute of another name says nothing of ranges
pub rangeless : (d : Sections) (u : UnitRecord) (r : RangeAttributes) (a : NamedValue) → is_range_name a.name ≡ false → with_range_attribute d u r a ≡ Ok r
unfolding with_range_attribute
rangeless d u r a h =
    let p = none_of (a.name.0 == DW_AT_low_pc.0) (a.name.0 == DW_AT_high_pc.0) (a.name.0 == DW_AT_ranges.0) h in
    cond-false _ _ _ p.0 ∙ cond-false _ _ _ p.1 ∙ cond-false _ _ _ p.2

-- an entry whose abbreviation isn't that of functions with ranges is passed over
module _ (d : Sections) (u : UnitRecord) (unit : EntryUnit) where
  pub no_function_found : (may : Bool) (c t s : EntryCursor) (found : FoundFunctions) (a : Abbrev) (e : Encoding) (r : Result (Unit {0}) Error) → (length c.left.bytes == 0) ≡ false → entry_abbreviation_at unit.abbreviations c ≡ Ok (Some a, t) → e ≡ unit.encoding → is_function a ≡ false
      → s.depth ≡ t.depth → Exactly (λ _. s.left) r (rest_of (attributes_at e a.attributes t.left)) → ExactlyUnlessOomIf may (λ _. (found, s)) r (next_found_at d u unit c found)
  no_function_found may c t s found a e r h k q n m g = by_kind (is_subprogram a) refl n r g
    where
      none : HasNoWanted is_range_name a.attributes → (left : Result Section Error) → rest_of (attributes_at e a.attributes t.left) ≡ left → range_attributes_after d u (Ok no_range_attributes) (attributes_at e a.attributes t.left) ≡ (left >>= λ z. Ok no_range_attributes)
      none others left g = wanted_end (taken_passes e is_range_name (with_range_attribute d u) (rangeless d u) (Ok no_range_attributes)) others g

      by_kind : (b : Bool) → is_subprogram a ≡ b → (b && list_any is_range_specification a.attributes) ≡ false → (r : Result (Unit {0}) Error) → Exactly (λ _. s.left) r (rest_of (attributes_at e a.attributes t.left)) → ExactlyUnlessOomIf may (λ _. (found, s)) r (next_found_at d u unit c found)
      by_kind false is n r g = other_found d u unit may c t s found a e r h k q is m g
      by_kind true is n (Ok z) g = function_found d u unit c t s found a e no_range_attributes (offset_of unit c.left) h k q is (none (none_holds is_range_specification a.attributes n) (Ok s.left) g) g m refl
      by_kind true is n (Err f) g = λ ne. function_fault d u unit c t found a e f h k q is (none (none_holds is_range_specification a.attributes n) (Err f) g)

-- the abbreviation of functions with ranges is one of functions
pub function_subprogram : (a : Abbrev) → is_function a ≡ true → is_subprogram a ≡ true
function_subprogram a h = first (is_subprogram a) h
  where
    first : (b : Bool) → (b && list_any is_range_specification a.attributes) ≡ true → b ≡ true
    first true h = refl
    first false h = absurd cc
