-- The attributes of a root entry (on specs/Attributes.antt).
use Rattle.addr2line_units.proofs.Common.{◌≡◌, ◌==◌, false, cond, List, Option, Some, None, Result, Ok, Err, refl, ap, ◌∙◌, pos, option_or, Error, Reading, ◌>>=◌, Sections, UnitRecord, or_parts}
use Rattle.gimli_read.specs.declared.constants.TheConstants.DwAt.{DW_AT_language}
use Rattle.gimli_read.specs.Abbreviations.{Abbrev}
use Rattle.gimli_read.specs.Form.{NamedValue}
use Rattle.gimli.specs.Entry.{attributes_at, entry_code_at, root_attributes, root_specifications}
use Rattle.gimli.specs.EntryCursor.{EntriesLeft, EntryCursor, depth_after_code, entries_at, entries_from, entry_abbreviation_at}
use Rattle.gimli.specs.TakenAttributes.{taken_after, taken_in}
use Rattle.addr2line_lines.specs.declared.function.RangeAttributes.{RangeAttributes}
use Rattle.addr2line_lines.specs.FoundRanges.{is_range_name}
use Rattle.addr2line_lines.proofs.FoundRanges.{rangeless}
use Rattle.addr2line_units.specs.declared.attributes.UnitAttributes.{UnitAttributes}
use Rattle.addr2line_units.specs.Attributes.{language_after, language_of, no_unit_attributes, unit_attributes, with_unit_attribute}
use Rattle.addr2line_units.specs.AttributesWanted.{is_unit_name}

-- an attribute of no such name says nothing
pub unit_others : (d : Sections) (u : UnitRecord) (r : UnitAttributes) (a : NamedValue) → is_unit_name a.name ≡ false → with_unit_attribute d u r a ≡ Ok r
unfolding with_unit_attribute
unit_others d u r a h =
    let p = or_parts (is_range_name a.name) (a.name.0 == DW_AT_language.0) h in
    ap (λ (x : Result RangeAttributes Error). x >>= λ ranges. Ok (record { ranges = ranges; language = language_after r.language a })) (rangeless d u r.ranges a p.0)
    ∙ ap (λ b. Ok (record { ranges = r.ranges; language = cond b (option_or (language_of a.value) r.language) r.language })) p.1

-- what a root entry says, by the place where it begins
module _ (d : Sections) (u : UnitRecord) where
  abbrev attributes_read : Reading (List NamedValue) → Result UnitAttributes Error
  attributes_read read = taken_after (with_unit_attribute d u) (Ok no_unit_attributes) read

  abbrev root_read : Result (Option Abbrev × EntryCursor) Error → Result UnitAttributes Error
  root_read r = r >>= λ root. root_specifications root.0 >>= λ specifications. attributes_read (attributes_at u.header.encoding specifications root.1.left)

  root_is : unit_attributes d u ≡ root_read (entry_abbreviation_at u.abbreviations (record { left = u.header.entries; depth = pos 0 }))
  unfolding root_attributes entry_abbreviation_at
  root_is = by_code (entry_code_at u.abbreviations u.header.entries)
    where
      read : (r : Reading (List NamedValue)) → ((r >>= λ a. Ok a.0) >>= λ attributes. taken_in (with_unit_attribute d u) (Ok no_unit_attributes) attributes) ≡ attributes_read r
      read (Ok x) = refl
      read (Err f) = refl

      by_code : (r : Reading (Option Abbrev))
          → ((r >>= λ root. root_specifications root.0 >>= λ specifications. attributes_at u.header.encoding specifications root.1 >>= λ a. Ok a.0) >>= λ attributes. taken_in (with_unit_attribute d u) (Ok no_unit_attributes) attributes)
          ≡ root_read (r >>= λ code. Ok (code.0, record { left = code.1; depth = depth_after_code code.0 (pos 0) }))
      by_code (Ok (None, t)) = refl
      by_code (Ok (Some a, t)) = read (attributes_at u.header.encoding a.attributes t)
      by_code (Err f) = refl

  pub attributes-by : (left : EntriesLeft) (r : Result (Option Abbrev × EntryCursor) Error) → entries_from u None ≡ Ok left → entry_abbreviation_at left.unit.abbreviations left.cursor ≡ r → unit_attributes d u ≡ root_read r
  attributes-by left r h k =
      let same : entries_at u.header u.abbreviations u.header.entries ≡ left = cc in
      root_is ∙ ap (λ (l : EntriesLeft). root_read (entry_abbreviation_at l.unit.abbreviations l.cursor)) same ∙ ap root_read k

  -- entries are read by the encoding of their unit
  pub encoding-of : (left : EntriesLeft) → entries_from u None ≡ Ok left → left.unit.encoding ≡ u.header.encoding
  encoding-of left h =
      let same : left ≡ entries_at u.header u.abbreviations u.header.entries = cc in
      ap (λ (l : EntriesLeft). l.unit.encoding) same
