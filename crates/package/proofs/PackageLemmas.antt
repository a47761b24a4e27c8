-- Parts that are within their sections (on specs/Package.antt).
use Rattle.package.proofs.Common.{◌≡◌, ◌∙◌, ℕ, ◌+◌, ◌≤◌, ◌&&◌, Bool, true, Option, Result, Ok, Err, refl, ap, sym, length, drop, arith, and_parts, cond-false, le-ltb, Error, Section, after, row_by_id}
use Rattle.std.proofs.Common.{is_ok, length-drop}
use Rattle.std.proofs.lemmas.Bool.{le-leb, leb-true}
use Rattle.package.specs.Common.{ExactlyUnlessOomFor, skipped_at, ◌>>=◌}
use Rattle.gimli_read.proofs.Steps.{same_rest}
use Rattle.gimli_read.specs.Number.{split_at}
use Rattle.package.specs.declared.unit_index.SectionPart.{SectionPart}
use Rattle.package.specs.declared.unit_index.UnitSections.{UnitSections}
use Rattle.package.specs.Package.{Package, are_within, part_bytes, is_within, sections_by_id, sections_if}

-- what stands before a part is there to be passed over
pub skip_is : (part : SectionPart) (s : Section) → is_within part s ≡ true → skipped_at part.offset s ≡ Ok (tt, after part.offset s)
skip_is part s w =
    let l : part.offset + part.size ≤ length s.bytes = leb-true (part.offset + part.size) (length s.bytes) w in
    cond-false _ _ _ (le-ltb (length s.bytes) part.offset (omega arith))

-- and then the part
pub split_is : (part : SectionPart) (s : Section) → is_within part s ≡ true → split_at part.size (after part.offset s) ≡ Ok (part_bytes part s, after part.size (after part.offset s))
split_is part s w =
    let l : part.offset + part.size ≤ length s.bytes = leb-true (part.offset + part.size) (length s.bytes) w in
    let rest = length-drop part.offset s.bytes in
    cond-false _ _ _ (le-ltb (length (drop part.offset s.bytes)) part.size (omega arith))

-- each part of a unit is within its section
pub record AreWithin (parts : UnitSections) (p : Package) : Type 0 where
  pub abbrev_part : is_within parts.debug_abbrev p.debug_abbrev ≡ true
  pub info_part : is_within parts.debug_info p.debug_info ≡ true
  pub line_part : is_within parts.debug_line p.debug_line ≡ true
  pub rnglists_part : is_within parts.debug_rnglists p.debug_rnglists ≡ true
  pub str_offsets_part : is_within parts.debug_str_offsets p.debug_str_offsets ≡ true

pub each_within : (parts : UnitSections) (p : Package) → are_within parts p ≡ true → AreWithin parts p
each_within parts p h =
    let a = is_within parts.debug_abbrev p.debug_abbrev in
    let b = is_within parts.debug_info p.debug_info in
    let c = is_within parts.debug_line p.debug_line in
    let d = is_within parts.debug_rnglists p.debug_rnglists in
    let last = and_parts (a && b && c && d) (is_within parts.debug_str_offsets p.debug_str_offsets) h in
    let fourth = and_parts (a && b && c) d last.0 in
    let third = and_parts (a && b) c fourth.0 in
    let second = and_parts a b third.0 in
    record {
      abbrev_part = second.0;
      info_part = second.1;
      line_part = third.1;
      rnglists_part = fourth.1;
      str_offsets_part = last.1;
    }

-- nothing is within each section
pub nothing_within : (part : SectionPart) (s : Section) → part.offset + part.size ≡ 0 → is_within part s ≡ true
nothing_within part s e = le-leb (part.offset + part.size) (length s.bytes) (omega arith)

-- a copy of a section, behind what stands before a part
pub rest_is : (part : SectionPart) (s copy rest : Section) → is_within part s ≡ true → ◌≡◌ {A = Result Section Error} (Ok s) (Ok copy) → skipped_at part.offset copy ≡ Ok (tt, rest) → rest ≡ after part.offset s
rest_is part s copy rest w same skipped =
    let is : s ≡ copy = cc in
    let left : ◌≡◌ {A = Result (Unit {0} × Section) Error} (Ok (tt, after part.offset s)) (Ok (tt, rest)) = sym (skip_is part s w) ∙ ap (skipped_at part.offset) is ∙ skipped in
    sym (same_rest {A = Unit {0}} {B = Section} (tt, after part.offset s) (tt, rest) left)

-- which isn't refused
pub skip_never : (part : SectionPart) (s copy : Section) (e : Error) → is_within part s ≡ true → ◌≡◌ {A = Result Section Error} (Ok s) (Ok copy) → skipped_at part.offset copy ≡ Err e → ⊥
skip_never part s copy e w same refused =
    let is : s ≡ copy = cc in
    let k : ◌≡◌ {A = Result (Unit {0} × Section) Error} (Ok (tt, after part.offset s)) (Err e) = sym (skip_is part s w) ∙ ap (skipped_at part.offset) is ∙ refused in
    absurd cc

-- a part that was split off is the one that was asked for
pub part_split : {R : Type 0} (see : R → Section) (shares : Bool) (part : SectionPart) (s rest left : Section) (result : Result R Error)
    → is_within part s ≡ true → rest ≡ after part.offset s → ExactlyUnlessOomFor shares is_ok (λ r. (see r, left)) result (split_at part.size rest) → ExactlyUnlessOomFor shares is_ok see result (Ok (part_bytes part s))
part_split see shares part s rest left (Ok r) w at h =
    let split : ◌≡◌ {A = Result (Section × Section) Error} (Ok (part_bytes part s, after part.size (after part.offset s))) (Ok (see r, left)) = sym (split_is part s w) ∙ ap (split_at part.size) (sym at) ∙ h in
    ap (λ (q : Result (Section × Section) Error). q >>= λ x. Ok x.0) split
part_split see shares part s rest left (Err e) w at h = λ m.
    let split : ◌≡◌ {A = Result (Section × Section) Error} (Ok (part_bytes part s, after part.size (after part.offset s))) (Err e) = sym (split_is part s w) ∙ ap (split_at part.size) (sym at) ∙ h (λ a _. m a refl) in
    absurd cc

-- by which row the sections of an identifier are given
pub by_row : (p : Package) (id : ℕ) (row : Option ℕ) → row ≡ row_by_id p.cu_index id → sections_by_id p id ≡ sections_if p row
by_row p id row h = ap (sections_if p) (sym h)
