-- Bytes that begin alike, and what is read of them, also by ranges (on specs/Header.antt).
use Rattle.elf.proofs.Common.{◌≡◌, ◌∙◌, ℕ, zero, suc, ◌+◌, ◌-◌, ◌*◌, ◌<◌, ◌≤◌, ◌==◌, Bool, true, false, ◌&&◌, ◌||◌, cond, not, List, [], ◌∷◌, Some, None, Ok, Err, is_some, length, take, drop, get_or, nat_eq, nat_le, nat_lt, ap, arith, refl, subst, sym, eqb-true, nat_tests, drop-take, take-take, get_or-take, length-drop, length-take-le, RunTimeEndian, SectionHeader, AreRangesOf, Image, Shows, image_bytes, image_in, is_held, piece_in, magic, has_magic, class_of, endian_of, headers_in, ident_in, header_in, section_in, sections_in, FieldsInHeader, FieldsInSection, layout_of, layout_number_at, Loading}
use Rattle.std.specs.Prelude.{slice_index}
use Rattle.std.specs.Cmp.Lexicographic.{pointwise}
use Rattle.gimli_read.specs.declared.range.Range.{Range}
use Rattle.gimli_read.specs.Reading.{◌>>=◌}
use Rattle.elf.specs.declared.constants.TheConstants.{EHDR_SIZE_MAX, HALF_SIZE, WORD_SIZE, EI_CLASS, EI_DATA, ET_REL}
use Rattle.elf.specs.declared.error.LoaderError.TheVariants.{NotElf, BadElf}
use Rattle.elf.specs.declared.header.Ident.{Ident}
use Rattle.elf.specs.declared.header.FileHeader.{FileHeader}
use Rattle.elf.specs.declared.layout.Class.{Class}
use Rattle.elf.specs.declared.layout.Class.TheVariants.{Elf32, Elf64}
use Rattle.elf.specs.declared.layout.Layout.{Layout}
use Rattle.elf.proofs.ImageLemmas.{number_of_shown}

-- the same n bytes at the front give the same m bytes at a place within them
pub part_alike : (n k m : ℕ) (xs ys : List ℕ) → take n xs ≡ take n ys → k + m ≤ n → take m (drop k xs) ≡ take m (drop k ys)
part_alike n k m xs ys e h = sym (cut xs) ∙ ap (λ zs. take m (drop k zs)) e ∙ cut ys
  where
    cut : (zs : List ℕ) → take m (drop k (take n zs)) ≡ take m (drop k zs)
    cut zs =
        let fits : n ≡ k + (n - k) = omega (arith, h) in
        ap (λ j. take m (drop k (take j zs))) fits ∙ ap (take m) (drop-take k (n - k) zs) ∙ take-take m (n - k) (drop k zs) (omega (arith, h))

-- and the same number
pub number_alike : (o : RunTimeEndian) (n k m : ℕ) (xs ys : List ℕ) → take n xs ≡ take n ys → k + m ≤ n → layout_number_at o k m xs ≡ layout_number_at o k m ys
unfolding layout_number_at
number_alike o n k m xs ys e h = number_of_shown o m (drop k xs) (drop k ys) (part_alike n k m xs ys e h)

-- and the same byte
pub byte_alike : (n k : ℕ) (xs ys : List ℕ) → take n xs ≡ take n ys → k < n → slice_index xs k ≡ slice_index ys k
byte_alike n k xs ys e h = sym (get_or-take n xs k 0 h) ∙ ap (λ zs. get_or zs k 0) e ∙ get_or-take n ys k 0 h

-- ---- where fields stand
pub fields_in_header : (c : Class) → FieldsInHeader (layout_of c)
fields_in_header Elf32 = (omega arith, omega arith, omega arith, omega arith, omega arith)
fields_in_header Elf64 = (omega arith, omega arith, omega arith, omega arith, omega arith)

pub header_within : (c : Class) → (layout_of c).header_size ≤ EHDR_SIZE_MAX
header_within Elf32 = omega arith
header_within Elf64 = omega arith

pub fields_in_section : (c : Class) → FieldsInSection (layout_of c)
fields_in_section Elf32 = (omega arith, omega arith, omega arith, omega arith, omega arith, omega arith, omega arith, omega arith, omega arith, omega arith)
fields_in_section Elf64 = (omega arith, omega arith, omega arith, omega arith, omega arith, omega arith, omega arith, omega arith, omega arith, omega arith)

-- ---- section headers
section_alike : (o : RunTimeEndian) (l : Layout) (xs ys : List ℕ) → FieldsInSection l → take l.section_size xs ≡ take l.section_size ys → section_in o l xs ≡ section_in o l ys
section_alike o l xs ys f e =
    let n = l.section_size in
    let name = number_alike o n l.sh_name WORD_SIZE xs ys e f.2 in
    let kind = number_alike o n l.sh_type WORD_SIZE xs ys e f.3 in
    let flags = number_alike o n l.sh_flags l.address_size xs ys e f.4 in
    let address = number_alike o n l.sh_addr l.address_size xs ys e f.5 in
    let offset = number_alike o n l.sh_offset l.address_size xs ys e f.6 in
    let size = number_alike o n l.sh_size l.address_size xs ys e f.7 in
    let link = number_alike o n l.sh_link WORD_SIZE xs ys e f.8 in
    let info = number_alike o n l.sh_info WORD_SIZE xs ys e f.9 in
    cc

-- n section headers that have the same bytes
pub sections_alike : (o : RunTimeEndian) (l : Layout) (n : ℕ) (xs ys : List ℕ) → FieldsInSection l → take (n * l.section_size) xs ≡ take (n * l.section_size) ys → sections_in o l n xs ≡ sections_in o l n ys
sections_alike o l zero xs ys f e = refl
sections_alike o l (suc n) xs ys f e =
    let size = l.section_size in
    let front : take size xs ≡ take size ys = part_alike (suc n * size) 0 size xs ys e (omega arith) in
    let rest : take (n * size) (drop size xs) ≡ take (n * size) (drop size ys) = part_alike (suc n * size) size (n * size) xs ys e (omega arith) in
    ap (λ s. s ∷ sections_in o l n (drop size xs)) (section_alike o l xs ys f front) ∙ ap (λ r. section_in o l ys ∷ r) (sections_alike o l n (drop size xs) (drop size ys) f rest)

-- ---- the file's header
-- what e_ident says, by what is read of it
ident_by : Bool → Bool → ℕ → ℕ → Loading Ident
ident_by has_all has_data class order = cond (not has_all) (Err NotElf) (cond (not has_data) (Err BadElf) (class_of class >>= λ c. endian_of order >>= λ o. Ok (record { class = c; endian = o })))

ident_is : (xs : List ℕ) → ident_in xs ≡ ident_by (has_magic xs) (nat_lt EI_DATA (length xs)) (slice_index xs EI_CLASS) (slice_index xs EI_DATA)
unfolding ident_in ident_by
ident_is xs = refl

pub ident_alike : (xs ys : List ℕ) → length xs ≡ length ys → take EHDR_SIZE_MAX xs ≡ take EHDR_SIZE_MAX ys → ident_in xs ≡ ident_in ys
ident_alike xs ys len e =
    let has_all : has_magic xs ≡ has_magic ys = ap (pointwise nat_eq magic) (part_alike EHDR_SIZE_MAX 0 (length magic) xs ys e (omega arith)) in
    let has_data : nat_lt EI_DATA (length xs) ≡ nat_lt EI_DATA (length ys) = ap (nat_lt EI_DATA) len in
    let class = byte_alike EHDR_SIZE_MAX EI_CLASS xs ys e (omega arith) in
    let order = byte_alike EHDR_SIZE_MAX EI_DATA xs ys e (omega arith) in
    ident_is xs ∙ ap (λ b. ident_by b (nat_lt EI_DATA (length xs)) (slice_index xs EI_CLASS) (slice_index xs EI_DATA)) has_all
    ∙ ap (λ b. ident_by (has_magic ys) b (slice_index xs EI_CLASS) (slice_index xs EI_DATA)) has_data
    ∙ ap (λ n. ident_by (has_magic ys) (nat_lt EI_DATA (length ys)) n (slice_index xs EI_DATA)) class
    ∙ ap (λ n. ident_by (has_magic ys) (nat_lt EI_DATA (length ys)) (slice_index ys EI_CLASS) n) order ∙ sym (ident_is ys)

-- where the section headers begin
abbrev pub start_in : RunTimeEndian → Layout → List ℕ → ℕ
start_in o l bytes = layout_number_at o l.e_shoff l.address_size bytes

-- the size of a section header at a place
abbrev pub size_at : RunTimeEndian → Layout → ℕ → List ℕ → ℕ
size_at o l at bytes = layout_number_at o l.sh_size l.address_size (drop at bytes)

-- a header of these parts
abbrev header_with : Bool → ℕ → ℕ → ℕ → FileHeader
header_with is_relocatable start count index = record { is_relocatable = is_relocatable; start = start; count = count; name_index = index }

-- what a header says, by what is read of it
header_by : Layout → (len kind start entry count index size : ℕ) → Loading FileHeader
header_by l len kind start entry count index size = cond (nat_lt len l.header_size) (Err BadElf)
    (cond (start == 0) (Ok (header_with (kind == ET_REL) 0 0 0))
    (cond (not (entry == l.section_size)) (Err BadElf)
    (cond (not (count == 0)) (Ok count) (cond (nat_lt len (start + l.section_size)) (Err BadElf) (Ok size)) >>= λ n.
    cond (nat_lt len (start + n * l.section_size)) (Err BadElf) (Ok (header_with (kind == ET_REL) start n index)))))

header_is : (o : RunTimeEndian) (l : Layout) (xs : List ℕ)
    → header_in o l xs ≡ header_by l (length xs) (layout_number_at o l.e_type HALF_SIZE xs) (start_in o l xs) (layout_number_at o l.e_shentsize HALF_SIZE xs) (layout_number_at o l.e_shnum HALF_SIZE xs) (layout_number_at o l.e_shstrndx HALF_SIZE xs) (size_at o l (start_in o l xs) xs)
unfolding header_in header_by
header_is o l xs = refl

pub header_alike : (o : RunTimeEndian) (l : Layout) (xs ys : List ℕ) (n start : ℕ) → FieldsInHeader l → l.header_size ≤ n → length xs ≡ length ys → take n xs ≡ take n ys
    → start ≡ start_in o l xs → size_at o l start xs ≡ size_at o l start ys → header_in o l xs ≡ header_in o l ys
header_alike o l xs ys n start f all len e at first =
    let kind = number_alike o n l.e_type HALF_SIZE xs ys e (let h = f.0 in omega (arith, h, all)) in
    let begin : start_in o l xs ≡ start_in o l ys = number_alike o n l.e_shoff l.address_size xs ys e (let h = f.1 in omega (arith, h, all)) in
    let entry = number_alike o n l.e_shentsize HALF_SIZE xs ys e (let h = f.2 in omega (arith, h, all)) in
    let count = number_alike o n l.e_shnum HALF_SIZE xs ys e (let h = f.3 in omega (arith, h, all)) in
    let index = number_alike o n l.e_shstrndx HALF_SIZE xs ys e (let h = f.4 in omega (arith, h, all)) in
    let is_xs = header_is o l xs in
    let is_ys = header_is o l ys in
    cc

-- the size that section 0 has isn't looked at where the number of section headers stands elsewhere, or
-- where it is refused before
unread_size : (l : Layout) (len kind start entry count index m n : ℕ) → (nat_lt len l.header_size || (not (count == 0) || nat_lt len (start + l.section_size))) ≡ true
    → header_by l len kind start entry count index m ≡ header_by l len kind start entry count index n
unfolding header_by
unread_size l len kind start entry count index m n h = by (nat_lt len l.header_size) (not (count == 0)) (nat_lt len (start + l.section_size)) h
  where
    then_by : Loading ℕ → Loading FileHeader
    then_by r = cond (start == 0) (Ok (header_with (kind == ET_REL) 0 0 0)) (cond (not (entry == l.section_size)) (Err BadElf) (r >>= λ k. cond (nat_lt len (start + k * l.section_size)) (Err BadElf) (Ok (header_with (kind == ET_REL) start k index))))

    by : (a b c : Bool) → (a || (b || c)) ≡ true
        → cond {A = Loading FileHeader} a (Err BadElf) (then_by (cond b (Ok count) (cond c (Err BadElf) (Ok m)))) ≡ cond {A = Loading FileHeader} a (Err BadElf) (then_by (cond b (Ok count) (cond c (Err BadElf) (Ok n))))
    by true b c e = refl
    by false true c e = refl
    by false false true e = refl
    by false false false e = absurd cc

-- so bytes that begin alike have the same header, or refusal
pub header_by_front : (o : RunTimeEndian) (l : Layout) (xs ys : List ℕ) (n : ℕ) → FieldsInHeader l → l.header_size ≤ n → length xs ≡ length ys → take n xs ≡ take n ys
    → (nat_lt (length xs) l.header_size || (not (layout_number_at o l.e_shnum HALF_SIZE xs == 0) || nat_lt (length xs) (start_in o l xs + l.section_size))) ≡ true → header_in o l xs ≡ header_in o l ys
header_by_front o l xs ys n f all len e h =
    let kind = number_alike o n l.e_type HALF_SIZE xs ys e (let g = f.0 in omega (arith, g, all)) in
    let begin : start_in o l xs ≡ start_in o l ys = number_alike o n l.e_shoff l.address_size xs ys e (let g = f.1 in omega (arith, g, all)) in
    let entry = number_alike o n l.e_shentsize HALF_SIZE xs ys e (let g = f.2 in omega (arith, g, all)) in
    let count = number_alike o n l.e_shnum HALF_SIZE xs ys e (let g = f.3 in omega (arith, g, all)) in
    let index = number_alike o n l.e_shstrndx HALF_SIZE xs ys e (let g = f.4 in omega (arith, g, all)) in
    let is_xs = header_is o l xs in
    let is_ys = header_is o l ys in
    let same = unread_size l (length xs) (layout_number_at o l.e_type HALF_SIZE xs) (start_in o l xs) (layout_number_at o l.e_shentsize HALF_SIZE xs) (layout_number_at o l.e_shnum HALF_SIZE xs) (layout_number_at o l.e_shstrndx HALF_SIZE xs) (size_at o l (start_in o l xs) xs) (size_at o l (start_in o l ys) ys) h in
    cc

-- the header says where they begin
start_by : (l : Layout) (len kind start entry count index size : ℕ) (h : FileHeader) → header_by l len kind start entry count index size ≡ Ok h → h.start ≡ start
unfolding header_by
start_by l len kind start entry count index size h e =
    by_parts (nat_lt len l.header_size) (start == 0) (not (entry == l.section_size)) (cond (not (count == 0)) (Ok count) (cond (nat_lt len (start + l.section_size)) (Err BadElf) (Ok size))) refl e
  where
    last : (n : ℕ) (b : Bool) → cond {A = Loading FileHeader} b (Err BadElf) (Ok (header_with (kind == ET_REL) start n index)) ≡ Ok h → h.start ≡ start
    last n true e = absurd cc
    last n false e = let same : header_with (kind == ET_REL) start n index ≡ h = cc in sym (ap (λ (x : FileHeader). x.start) same)

    by_parts : (a b c : Bool) (r : Loading ℕ) → (start == 0) ≡ b
        → cond {A = Loading FileHeader} a (Err BadElf) (cond b (Ok (header_with (kind == ET_REL) 0 0 0)) (cond c (Err BadElf) (r >>= λ n.
        cond (nat_lt len (start + n * l.section_size)) (Err BadElf) (Ok (header_with (kind == ET_REL) start n index))))) ≡ Ok h → h.start ≡ start
    by_parts true b c r t e = absurd cc
    by_parts false true c r t e = let same : header_with (kind == ET_REL) 0 0 0 ≡ h = cc in sym (ap (λ (x : FileHeader). x.start) same) ∙ sym (eqb-true start 0 t)
    by_parts false false true r t e = absurd cc
    by_parts false false false (Err d) t e = absurd cc
    by_parts false false false (Ok n) t e = last n (nat_lt len (start + n * l.section_size)) e

pub header_start : (o : RunTimeEndian) (l : Layout) (xs : List ℕ) (h : FileHeader) → header_in o l xs ≡ Ok h → h.start ≡ start_in o l xs
header_start o l xs h e = start_by l _ _ _ _ _ _ _ h (sym (header_is o l xs) ∙ e)

-- ---- a range of a file that is read alone
module _ (bytes : List ℕ) (r : Range) (rises : r.begin ≤ r.end) (within : r.end ≤ length bytes) where
  size_read : length (piece_in bytes r).bytes.bytes ≡ r.end - r.begin
  size_read = let left = length-drop r.begin bytes in length-take-le (r.end - r.begin) (drop r.begin bytes) (omega (arith, left, rises, within))

  pub one_range : AreRangesOf bytes (r ∷ [])
  one_range =
      let size = size_read in
      let begins : nat_le r.begin r.end ≡ true = grind (arith, nat_tests) in
      let ends : nat_le r.end (length bytes) ≡ true = grind (arith, nat_tests) in
      record {
        some = omega arith;
        within = ap (λ b. (b && nat_le r.end (length bytes)) && true) begins ∙ ap (λ b. b && true) ends;
        in_order = (omega arith, omega (arith, size, rises, within));
      }

  held_range : is_held r.begin (r.end - r.begin) (image_in bytes (r ∷ [])) ≡ true
  held_range =
      let size = size_read in
      let p = piece_in bytes r in
      let begins : nat_le r.begin r.begin ≡ true = grind (arith, nat_tests) in
      let ends : nat_le (r.begin + (r.end - r.begin)) (r.begin + length p.bytes.bytes) ≡ true = grind (arith, nat_tests) in
      ap (λ b. is_some (cond (b && nat_le (r.begin + (r.end - r.begin)) (r.begin + length p.bytes.bytes)) (Some p) None)) begins ∙ ap (λ b. is_some (cond b (Some p) None)) ends

  -- the section headers that stand in it are those of the file
  headers_shown : (o : RunTimeEndian) (c : Class) (n : ℕ) → r.end ≡ r.begin + n * (layout_of c).section_size → Shows (image_in bytes (r ∷ [])) bytes
      → sections_in o (layout_of c) n (drop r.begin (image_bytes (image_in bytes (r ∷ [])))) ≡ sections_in o (layout_of c) n (drop r.begin bytes)
  headers_shown o c n end shows =
      let own = image_bytes (image_in bytes (r ∷ [])) in
      let size : r.end - r.begin ≡ n * (layout_of c).section_size = omega (arith, end) in
      let same = subst (λ k. take k (drop r.begin own) ≡ take k (drop r.begin bytes)) size (shows.same r.begin (r.end - r.begin) held_range) in
      sections_alike o (layout_of c) n (drop r.begin own) (drop r.begin bytes) (fields_in_section c) same

-- section headers in the file
headers_are : (i : Ident) (h : FileHeader) (bytes : List ℕ) → h.start + h.count * (layout_of i.class).section_size ≤ length bytes → headers_in i h bytes ≡ Some (sections_in i.endian (layout_of i.class) h.count (drop h.start bytes))
headers_are i h bytes within =
    let inside : nat_le (h.start + h.count * (layout_of i.class).section_size) (length bytes) ≡ true = grind (arith, nat_tests) in
    ap (λ b. cond b (Some (sections_in i.endian (layout_of i.class) h.count (drop h.start bytes))) None) inside

-- section headers that are read from a file of their range alone
module _ (i : Ident) (h : FileHeader) (r : Range) (rs : List Range) (bytes : List ℕ) (begin : r.begin ≡ h.start) (end : r.end ≡ h.start + h.count * (layout_of i.class).section_size)
    (within : r.end ≤ length bytes) (ranges : rs ≡ r ∷ []) where
  are_ranges : AreRangesOf bytes rs
  are_ranges = subst (AreRangesOf bytes) (sym ranges) (one_range bytes r (omega (arith, begin, end)) within)

  pub headers_read : (file : Image) (items : List SectionHeader) → Shows file bytes → (AreRangesOf bytes rs → Some file ≡ Some (image_in bytes rs))
      → items ≡ sections_in i.endian (layout_of i.class) h.count (drop r.begin (image_bytes file)) → Some items ≡ headers_in i h bytes
  headers_read file items shows found read =
      let whole : Some file ≡ Some (image_in bytes rs) = found are_ranges in
      let is : file ≡ image_in bytes rs = cc in
      let is_one : file ≡ image_in bytes (r ∷ []) = is ∙ ap (image_in bytes) ranges in
      let rises : r.begin ≤ r.end = omega (arith, begin, end) in
      let end_by : r.end ≡ r.begin + h.count * (layout_of i.class).section_size = end ∙ ap (λ k. k + h.count * (layout_of i.class).section_size) (sym begin) in
      let own : Shows (image_in bytes (r ∷ [])) bytes = subst (λ (f : Image). Shows f bytes) is_one shows in
      let same = headers_shown bytes r rises within i.endian i.class h.count end_by own in
      let all : items ≡ sections_in i.endian (layout_of i.class) h.count (drop h.start bytes) =
      read ∙ ap (λ (f : Image). sections_in i.endian (layout_of i.class) h.count (drop r.begin (image_bytes f))) is_one ∙ same ∙ ap (λ k. sections_in i.endian (layout_of i.class) h.count (drop k bytes)) begin in
      let inside : h.start + h.count * (layout_of i.class).section_size ≤ length bytes = omega (arith, end, within) in
      ap Some all ∙ sym (headers_are i h bytes inside)
