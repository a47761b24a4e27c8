-- Files of which only pieces were read load as their bytes do (on specs/ImageLaws.antt).
use Rattle.elf.proofs.Common.{◌≡◌, ◌∙◌, ℕ, inl, inr, ◌+◌, ◌*◌, ◌⊎◌, Bool, true, false, ◌&&◌, ◌||◌, ◌==◌, not, nat_lt, layout_number_at, List, Ok, Err, length, drop, ap, arith, refl, subst, sym, and_parts, take_all, SectionHeader, Image, IsWhole, Shows, image_bytes, is_held, header_in, ident_in, layout_of, Loading, ObjectFile, name_table_of, object_file_of, object_file_with, has_wanted, shows_all, shows_count, shows_header, shows_ident, shows_sections, shows_tables}
use Rattle.gimli_read.specs.Reading.{◌>>=◌}
use Rattle.elf.specs.declared.constants.TheConstants.{EHDR_SIZE_MAX, HALF_SIZE}
use Rattle.elf.specs.declared.error.LoaderError.{LoaderError}
use Rattle.elf.specs.declared.header.Ident.{Ident}
use Rattle.elf.specs.declared.layout.Layout.{Layout}
use Rattle.elf.specs.declared.header.FileHeader.{FileHeader}
use Rattle.elf.specs.ImageLaws.{AnswersAlike, ImagesLoadAlike, LoadAlike, SameButBytes}
use Rattle.elf.proofs.PartLemmas.{fields_in_header, fields_in_section, header_alike, header_by_front, header_start, start_in, header_within, ident_alike, number_alike, sections_alike}
use Rattle.elf.proofs.ShownAnswers.{answers_alike}

-- ---- a file of one piece
-- one piece has all bytes of a file
whole_same : (image : Image) (bytes : List ℕ) → Shows image bytes → IsWhole image → image_bytes image ≡ bytes
whole_same image bytes shows whole =
    let n = length (image_bytes image) in
    let all = shows.same 0 n (whole 0 n (omega arith)) in
    let size = shows.len in
    sym (take_all n (image_bytes image) (omega arith)) ∙ all ∙ take_all n bytes (omega (arith, size))

-- a file has the bytes that it was made of
file_bytes : (bytes : List ℕ) (f : ObjectFile) → object_file_of bytes ≡ Ok f → f.bytes ≡ bytes
unfolding object_file_of
file_bytes bytes f e = by_ident (ident_in bytes) e
  where
    by_header : (i : Ident) (r : Loading FileHeader) → (r >>= λ h. Ok (object_file_with bytes i h)) ≡ Ok f → f.bytes ≡ bytes
    by_header i (Err d) e = absurd cc
    by_header i (Ok h) e = let same : object_file_with bytes i h ≡ f = cc in sym (ap (λ (g : ObjectFile). g.bytes) same)

    by_ident : (r : Loading Ident) → (r >>= λ i. header_in i.endian (layout_of i.class) bytes >>= λ h. Ok (object_file_with bytes i h)) ≡ Ok f → f.bytes ≡ bytes
    by_ident (Err d) e = absurd cc
    by_ident (Ok i) e = by_header i (header_in i.endian (layout_of i.class) bytes) e

itself_alike : (f : ObjectFile) → AnswersAlike f f
itself_alike f = record {
  ranges = λ name. refl;
  symbols = λ probe. refl;
  sections = λ name wanted. record { contents = refl; decompressed = refl };
}

itself : (bytes : List ℕ) (r : Loading ObjectFile) → object_file_of bytes ≡ r → LoadAlike bytes r r
itself bytes (Ok f) e = (ap (λ (b : List ℕ). record f { bytes = b }) (file_bytes bytes f e), itself_alike f)
itself bytes (Err d) e = refl

-- ---- a file of which pieces have all that is wanted
-- what that says
record Wanted (image : Image) : Type 0 where
  ident : Ident
  header : FileHeader
  is_ident : ident_in (image_bytes image) ≡ Ok ident
  is_header : header_in ident.endian (layout_of ident.class) (image_bytes image) ≡ Ok header
  front : is_held 0 EHDR_SIZE_MAX image ≡ true
  first : is_held header.start (layout_of ident.class).section_size image ≡ true
  headers : is_held header.start (header.count * (layout_of ident.class).section_size) image ≡ true
  tables : shows_tables image (object_file_with (image_bytes image) ident header) ≡ true
  sections : shows_sections image (object_file_with (image_bytes image) ident header) ≡ true

wanted_of : (image : Image) (ident : Ident) (header : FileHeader) → ident_in (image_bytes image) ≡ Ok ident → header_in ident.endian (layout_of ident.class) (image_bytes image) ≡ Ok header
    → is_held 0 EHDR_SIZE_MAX image ≡ true → shows_all image ident header ≡ true → Wanted image
wanted_of image i h is at front e =
    let size = (layout_of i.class).section_size in
    let file = object_file_with (image_bytes image) i h in
    let p = and_parts (is_held h.start size image) (is_held h.start (h.count * size) image && (shows_tables image file && shows_sections image file)) e in
    let q = and_parts (is_held h.start (h.count * size) image) (shows_tables image file && shows_sections image file) p.1 in
    let r = and_parts (shows_tables image file) (shows_sections image file) q.1 in
    record {
      ident = i;
      header = h;
      is_ident = is;
      is_header = at;
      front = front;
      first = p.0;
      headers = q.0;
      tables = r.0;
      sections = r.1;
    }

-- the file of an identification and a header that bytes have
file_of : (bytes : List ℕ) (i : Ident) (h : FileHeader) → ident_in bytes ≡ Ok i → header_in i.endian (layout_of i.class) bytes ≡ Ok h → object_file_of bytes ≡ Ok (object_file_with bytes i h)
unfolding object_file_of
file_of bytes i h is at =
    let by_ident : Loading Ident → Loading ObjectFile = λ r. r >>= λ j. header_in j.endian (layout_of j.class) bytes >>= λ x. Ok (object_file_with bytes j x) in
    let by_header : Loading FileHeader → Loading ObjectFile = λ r. r >>= λ x. Ok (object_file_with bytes i x) in
    ap by_ident is ∙ ap by_header at

-- the bytes have the same identification
ident_same : (image : Image) (bytes : List ℕ) → Shows image bytes → (w : Wanted image) → ident_in bytes ≡ Ok w.ident
ident_same image bytes shows w = sym (ident_alike (image_bytes image) bytes shows.len (shows.same 0 EHDR_SIZE_MAX w.front)) ∙ w.is_ident

-- and the same header
header_same : (image : Image) (bytes : List ℕ) → Shows image bytes → (w : Wanted image) → header_in w.ident.endian (layout_of w.ident.class) bytes ≡ Ok w.header
header_same image bytes shows w =
    let o = w.ident.endian in
    let l = layout_of w.ident.class in
    let start = w.header.start in
    let fields = fields_in_section w.ident.class in
    let within = fields.7 in
    let size = number_alike o l.section_size l.sh_size l.address_size (drop start (image_bytes image)) (drop start bytes) (shows.same start l.section_size w.first) within in
    let same = header_alike o l (image_bytes image) bytes EHDR_SIZE_MAX start (fields_in_header w.ident.class) (header_within w.ident.class) shows.len (shows.same 0 EHDR_SIZE_MAX w.front) (header_start o l (image_bytes image) w.header w.is_header) size in
    sym same ∙ w.is_header

-- and the same section headers
file_same : (image : Image) (bytes : List ℕ) → Shows image bytes → (w : Wanted image) → SameButBytes bytes (object_file_with (image_bytes image) w.ident w.header) (object_file_with bytes w.ident w.header)
file_same image bytes shows w =
    let i = w.ident in
    let h = w.header in
    let l = layout_of i.class in
    let same = sections_alike i.endian l h.count (drop h.start (image_bytes image)) (drop h.start bytes) (fields_in_section i.class) (shows.same h.start (h.count * l.section_size) w.headers) in
    let with_sections : List SectionHeader → ObjectFile = λ sections. record {
      bytes = bytes;
      class = i.class;
      endian = i.endian;
      is_relocatable = h.is_relocatable;
      sections = sections;
      name_table = name_table_of h.name_index sections;
    } in
    sym (ap with_sections same)

wanted_alike : (image : Image) (bytes : List ℕ) → Shows image bytes → Wanted image → LoadAlike bytes (object_file_of (image_bytes image)) (object_file_of bytes)
wanted_alike image bytes shows w =
    let f = object_file_with (image_bytes image) w.ident w.header in
    let g = object_file_with bytes w.ident w.header in
    let is_f = file_of (image_bytes image) w.ident w.header w.is_ident w.is_header in
    let is_g = file_of bytes w.ident w.header (ident_same image bytes shows w) (header_same image bytes shows w) in
    let same = file_same image bytes shows w in
    let answers : AnswersAlike f g = subst (λ (x : ObjectFile). AnswersAlike f x) (sym same) (answers_alike image bytes shows f w.tables w.sections) in
    let by_bytes : LoadAlike bytes (Ok f) (object_file_of bytes) = subst (λ (r : Loading ObjectFile). LoadAlike bytes (Ok f) r) (sym is_g) (same, answers) in
    subst (λ (r : Loading ObjectFile). LoadAlike bytes r (object_file_of bytes)) (sym is_f) by_bytes

-- ---- a file that is refused
refused_alike : (bytes own : List ℕ) (d : LoaderError) → object_file_of own ≡ Err d → object_file_of bytes ≡ Err d → LoadAlike bytes (object_file_of own) (object_file_of bytes)
refused_alike bytes own d e f =
    let by_bytes : LoadAlike bytes (Err d) (object_file_of bytes) = subst (λ (r : Loading ObjectFile). LoadAlike bytes (Err d) r) (sym f) refl in
    subst (λ (r : Loading ObjectFile). LoadAlike bytes r (object_file_of bytes)) (sym e) by_bytes

-- by its identification
no_ident : (bytes : List ℕ) (d : LoaderError) → ident_in bytes ≡ Err d → object_file_of bytes ≡ Err d
unfolding object_file_of
no_ident bytes d e = ap (λ r. r >>= λ i. header_in i.endian (layout_of i.class) bytes >>= λ h. Ok (object_file_with bytes i h)) e

-- by its header
no_header : (bytes : List ℕ) (i : Ident) (d : LoaderError) → ident_in bytes ≡ Ok i → header_in i.endian (layout_of i.class) bytes ≡ Err d → object_file_of bytes ≡ Err d
unfolding object_file_of
no_header bytes i d is e =
    ap (λ r. r >>= λ j. header_in j.endian (layout_of j.class) bytes >>= λ h. Ok (object_file_with bytes j h)) is
    ∙ ap (λ r. r >>= λ h. Ok (object_file_with bytes i h)) e

-- pieces that have what a header's refusal stands on
header_refused : (image : Image) (bytes : List ℕ) → Shows image bytes → is_held 0 EHDR_SIZE_MAX image ≡ true → (i : Ident) → shows_count image i ≡ true
    → header_in i.endian (layout_of i.class) (image_bytes image) ≡ header_in i.endian (layout_of i.class) bytes
header_refused image bytes shows front i e = by (split (nat_lt (length own) l.header_size) (not (layout_number_at i.endian l.e_shnum HALF_SIZE own == 0)) (nat_lt (length own) (at + l.section_size)) (is_held at l.section_size image) e)
  where
    own : List ℕ
    own = image_bytes image

    l : Layout
    l = layout_of i.class

    at : ℕ
    at = start_in i.endian l own

    split : (a b c d : Bool) → (a || (b || (c || d))) ≡ true → ((a || (b || c)) ≡ true) ⊎ (d ≡ true)
    split true b c d h = inl refl
    split false true c d h = inl refl
    split false false true d h = inl refl
    split false false false d h = inr h

    by : ((nat_lt (length own) l.header_size || (not (layout_number_at i.endian l.e_shnum HALF_SIZE own == 0) || nat_lt (length own) (at + l.section_size))) ≡ true) ⊎ (is_held at l.section_size image ≡ true)
        → header_in i.endian l own ≡ header_in i.endian l bytes
    by (inl h) = header_by_front i.endian l own bytes EHDR_SIZE_MAX (fields_in_header i.class) (header_within i.class) shows.len (shows.same 0 EHDR_SIZE_MAX front) h
    by (inr held) =
        let fields = fields_in_section i.class in
        let within = fields.7 in
        let size = number_alike i.endian l.section_size l.sh_size l.address_size (drop at own) (drop at bytes) (shows.same at l.section_size held) within in
        header_alike i.endian l own bytes EHDR_SIZE_MAX at (fields_in_header i.class) (header_within i.class) shows.len (shows.same 0 EHDR_SIZE_MAX front) refl size

-- pieces that have what is wanted, or what refuses the file
shown_alike : (image : Image) (bytes : List ℕ) → Shows image bytes → has_wanted image ≡ true → LoadAlike bytes (object_file_of (image_bytes image)) (object_file_of bytes)
unfolding has_wanted
shown_alike image bytes shows e =
    let p = and_parts (is_held 0 EHDR_SIZE_MAX image) (shows_ident image (ident_in own)) e in
    by_ident p.0 (ident_in own) refl p.1
  where
    own : List ℕ
    own = image_bytes image

    same : is_held 0 EHDR_SIZE_MAX image ≡ true → ident_in bytes ≡ ident_in own
    same front = sym (ident_alike own bytes shows.len (shows.same 0 EHDR_SIZE_MAX front))

    by_header : is_held 0 EHDR_SIZE_MAX image ≡ true → (i : Ident) → ident_in own ≡ Ok i → (r : Loading FileHeader) → header_in i.endian (layout_of i.class) own ≡ r → shows_header image i r ≡ true
        → LoadAlike bytes (object_file_of own) (object_file_of bytes)
    by_header front i is (Ok h) at s = wanted_alike image bytes shows (wanted_of image i h is at front s)
    by_header front i is (Err d) at s = refused_alike bytes own d (no_header own i d is at) (no_header bytes i d (same front ∙ is) (sym (header_refused image bytes shows front i s) ∙ at))

    by_ident : is_held 0 EHDR_SIZE_MAX image ≡ true → (r : Loading Ident) → ident_in own ≡ r → shows_ident image r ≡ true → LoadAlike bytes (object_file_of own) (object_file_of bytes)
    by_ident front (Err d) is s = refused_alike bytes own d (no_ident own d is) (no_ident bytes d (same front ∙ is))
    by_ident front (Ok i) is s = by_header front i is (header_in i.endian (layout_of i.class) own) refl s

-- ---- the law
pub images_load_alike : ImagesLoadAlike
images_load_alike image bytes shows (inl whole) =
    subst (λ (b : List ℕ). LoadAlike bytes (object_file_of b) (object_file_of bytes)) (sym (whole_same image bytes shows whole)) (itself bytes (object_file_of bytes) refl)
images_load_alike image bytes shows (inr wanted) = shown_alike image bytes shows wanted
