-- What is read is the text of a value, and each such text is read (on specs/Value.antt).
use Rattle.gimli_read.proofs.Common.{◌≡◌, ◌≢◌, ℕ, zero, suc, ◌+◌, ◌<◌, ◌≤◌, ◌==◌, true, false, cond, ltb, List, [], ◌∷◌, ◌++◌, length, take, drop, get_or, Option, Some, None, Ok, Err, refl, sym, ap, subst, ◌∙◌, inl, inr, arith, eq-eqb, position, lt-ltb, eqb-true, eqb-false, ne_eqb, length-append, get_or-take, take_more, get_or_append_left, UnexpectedEof, UnsupportedAddressSize, Format, Dwarf32, Dwarf64, Encoding, AttributeValue, Section, first, after, Reading, mapped, ◌>>=◌, fixed_at, address_at, offset_at, split_at, ended_at, null_terminated_at, is_address_size, offset_size, IsUleb128, IsSleb128, uleb128_in, sleb128_in, uleb128_at, sleb128_at, direct_at, form_within, form_at, value_at, DW_FORM_indirect, FormEncoding, Fixed, Address, Offset, AddressOrOffset, Unsigned, Signed, Block1, Block2, Block4, Block, Text, Empty, form_encoding_of, block_at, address_or_offset_at, encoded_at, IsFixed, IsAddress, IsOffset, IsAddressOrOffset, IsMadeOf, IsBlock, IsEnded, section_of, IsListedValue, IsIndirectValue, IsTextAndRest, ReadsValue, ReadsValueAlone}
use Rattle.std.proofs.lemmas.List.{length-take, append_assoc}
use Rattle.std.proofs.lemmas.List.Sums.{position_or_len_is}
use Rattle.std.proofs.lemmas.List.Quantifiers.{position-Some}
use Rattle.std.proofs.Math.Seq.{get_or-append_seam, drop-append_seam, drop-append-add, take-append_seam}
use Rattle.gimli_read.specs.declared.endian.RunTimeEndian.{RunTimeEndian}
use Rattle.gimli_read.proofs.Steps.{guard_ok, bind_ok, branch_taken, same_rest, same_value}
use Rattle.gimli_read.proofs.Leb128Texts.{uleb128_reads, uleb128_alone, sleb128_reads, sleb128_alone}
use Rattle.gimli_read.proofs.FormLemmas.{form_last, form_more}
use Rattle.gimli_read.proofs.FixedTexts.{not_short, cut_at, take_long, fixed_reads, fixed_alone}

-- each text is read as what it stands for, whatever follows
abbrev AllRead : {A : Type 0} → RunTimeEndian → (List ℕ → A → Type 0) → (Section → Reading A) → Type 0
AllRead {A = A} order is read = (text rest : List ℕ) (x : A) → is text x → read (section_of order (text ++ rest)) ≡ Ok (x, section_of order rest)

-- and nothing else is read
abbrev OnlyRead : {A : Type 0} → RunTimeEndian → (List ℕ → A → Type 0) → (Section → Reading A) → Type 0
OnlyRead {A = A} order is read = (bytes : List ℕ) (x : A) (rest : Section) → read (section_of order bytes) ≡ Ok (x, rest) → (text : List ℕ) × is text x × IsTextAndRest (section_of order bytes) text rest

joined_cut : (s t rest : Section) (front text : List ℕ) → IsTextAndRest s front t → IsTextAndRest t text rest → IsTextAndRest s (front ++ text) rest
joined_cut s t rest front text e f = e ∙ ap (λ u. section_of u.endian (front ++ u.bytes)) f ∙ ap (section_of rest.endian) (sym (append_assoc front text rest.bytes))

one_order : (s rest : Section) (text : List ℕ) → IsTextAndRest s text rest → rest.endian ≡ s.endian
one_order s rest text e = sym (ap (λ u. u.endian) e)

-- readings of a section, one at a time
fixed_of : (order : RunTimeEndian) (n : ℕ) → AllRead order (IsFixed order n) (fixed_at n)
fixed_of order n text rest x u = fixed_reads order n x text rest u

fixed_from : (order : RunTimeEndian) (n : ℕ) → OnlyRead order (IsFixed order n) (fixed_at n)
fixed_from order n bytes x rest e = fixed_alone n x (section_of order bytes) rest e

uleb_of : (order : RunTimeEndian) → AllRead order IsUleb128 uleb128_at
uleb_of order text rest x u = ap (λ r. r >>= λ y. Ok (y.0, section_of order y.1)) (uleb128_reads text rest x u)

uleb_from : (order : RunTimeEndian) → OnlyRead order IsUleb128 uleb128_at
uleb_from order bytes x rest e =
    let b = bind_ok (uleb128_in bytes) (λ y. Ok (y.0, section_of order y.1)) (x, rest) e in
    let v : b.0.0 ≡ x = same_value (b.0.0, section_of order b.0.1) (x, rest) b.2 in
    let r : section_of order b.0.1 ≡ rest = same_rest (b.0.0, section_of order b.0.1) (x, rest) b.2 in
    let t = uleb128_alone bytes b.0.1 b.0.0 b.1 in
    (t.0, subst (λ n. IsUleb128 t.0 n) v t.1, ap (section_of order) t.2 ∙ ap (λ u. section_of u.endian (t.0 ++ u.bytes)) r)

sleb_of : (order : RunTimeEndian) → AllRead order IsSleb128 sleb128_at
sleb_of order text rest x u = ap (λ r. r >>= λ y. Ok (y.0, section_of order y.1)) (sleb128_reads text rest x u)

sleb_from : (order : RunTimeEndian) → OnlyRead order IsSleb128 sleb128_at
sleb_from order bytes x rest e =
    let b = bind_ok (sleb128_in bytes) (λ y. Ok (y.0, section_of order y.1)) (x, rest) e in
    let v : b.0.0 ≡ x = same_value (b.0.0, section_of order b.0.1) (x, rest) b.2 in
    let r : section_of order b.0.1 ≡ rest = same_rest (b.0.0, section_of order b.0.1) (x, rest) b.2 in
    let t = sleb128_alone bytes b.0.1 b.0.0 b.1 in
    (t.0, subst (λ n. IsSleb128 t.0 n) v t.1, ap (section_of order) t.2 ∙ ap (λ u. section_of u.endian (t.0 ++ u.bytes)) r)

address_of : (e : Encoding) (order : RunTimeEndian) → AllRead order (IsAddress e order) (address_at e.address_size)
address_of e order text rest x u = ap (λ b. cond b (fixed_at e.address_size (section_of order (text ++ rest))) (Err UnsupportedAddressSize)) u.0 ∙ fixed_of order e.address_size text rest x u.1

address_from : (e : Encoding) (order : RunTimeEndian) → OnlyRead order (IsAddress e order) (address_at e.address_size)
address_from e order bytes x rest h =
    elim (branch_taken (is_address_size e.address_size) (fixed_at e.address_size (section_of order bytes)) (Err UnsupportedAddressSize) (Ok (x, rest)) h) [
      | inl t ↦ let f = fixed_from order e.address_size bytes x rest t.1 in (f.0, (t.0, f.1), f.2)
      | inr t ↦ absurd (cc (t.1))
    ]

offset_of : (format : Format) (order : RunTimeEndian) → AllRead order (IsFixed order (offset_size format)) (offset_at format)
offset_of Dwarf32 order = fixed_of order 4
offset_of Dwarf64 order = fixed_of order 8

offset_from : (format : Format) (order : RunTimeEndian) → OnlyRead order (IsFixed order (offset_size format)) (offset_at format)
offset_from Dwarf32 order = fixed_from order 4
offset_from Dwarf64 order = fixed_from order 8

address_or_offset_of : (e : Encoding) (order : RunTimeEndian) → AllRead order (IsAddressOrOffset e order) (address_or_offset_at e)
address_or_offset_of e order text rest x (inl u) = ap (λ b. cond b (address_at e.address_size (section_of order (text ++ rest))) (offset_at e.format (section_of order (text ++ rest)))) (eq-eqb _ _ u.0) ∙ address_of e order text rest x u.1
address_or_offset_of e order text rest x (inr u) = ap (λ b. cond b (address_at e.address_size (section_of order (text ++ rest))) (offset_at e.format (section_of order (text ++ rest)))) (ne_eqb _ _ u.0) ∙ offset_of e.format order text rest x u.1

address_or_offset_from : (e : Encoding) (order : RunTimeEndian) → OnlyRead order (IsAddressOrOffset e order) (address_or_offset_at e)
address_or_offset_from e order bytes x rest h =
    elim (branch_taken (e.version == 2) (address_at e.address_size (section_of order bytes)) (offset_at e.format (section_of order bytes)) (Ok (x, rest)) h) [
      | inl t ↦ let f = address_from e order bytes x rest t.1 in (f.0, inl (eqb-true _ _ t.0, f.1), f.2)
      | inr t ↦ let f = offset_from e.format order bytes x rest t.1 in (f.0, inr (eqb-false _ _ t.0, f.1), f.2)
    ]

-- a length and as many bytes
split_whole : (order : RunTimeEndian) (text rest : List ℕ) → split_at (length text) (section_of order (text ++ rest)) ≡ Ok (section_of order text, section_of order rest)
split_whole order text rest = rw (not_short text rest, take-append_seam text rest, drop-append_seam text rest) refl

block_of : (order : RunTimeEndian) (is : List ℕ → ℕ → Type 0) (read : Section → Reading ℕ) → AllRead order is read → AllRead order (IsBlock order is) (λ s. block_at (read s))
block_of order is read reads text rest x u =
    let whole : read (section_of order (text ++ rest)) ≡ Ok (length x.bytes, section_of order (x.bytes ++ rest)) = ap (λ b. read (section_of order b)) (ap (λ b. b ++ rest) u.joined ∙ append_assoc u.front x.bytes rest) ∙ reads u.front (x.bytes ++ rest) (length x.bytes) u.counted in
    ap block_at whole ∙ split_whole order x.bytes rest ∙ ap (λ o. Ok (section_of o x.bytes, section_of order rest)) (sym u.in_order)

block_from : (order : RunTimeEndian) (is : List ℕ → ℕ → Type 0) (read : Section → Reading ℕ) → OnlyRead order is read → OnlyRead order (IsBlock order is) (λ s. block_at (read s))
block_from order is read alone bytes x rest e =
    let b = bind_ok (read (section_of order bytes)) (λ n. split_at n.0 n.1) (x, rest) e in
    let n = b.0.0 in
    let t = b.0.1 in
    let f = alone bytes n t b.1 in
    let p = guard_ok (ltb (length t.bytes) n) UnexpectedEof (first n t, after n t) (x, rest) b.2 in
    let part : first n t ≡ x = ap (λ (q : Section × Section). q.0) p.1 in
    let left : after n t ≡ rest = ap (λ (q : Section × Section). q.1) p.1 in
    let long : n ≡ length (take n t.bytes) = sym (take_long n t.bytes p.0) in
    let same : take n t.bytes ≡ x.bytes = ap (λ u. u.bytes) part in (
      f.0 ++ take n t.bytes,
      record {
        front = f.0;
        joined = ap (λ b. f.0 ++ b) same;
        counted = subst (λ k. is f.0 k) (long ∙ ap length same) f.1;
        in_order = sym (ap (λ u. u.endian) part) ∙ one_order (section_of order bytes) t f.0 f.2;
      },
      joined_cut (section_of order bytes) t rest f.0 (take n t.bytes) f.2 (cut_at n t rest left),
    )

-- bytes up to a zero
zero_at : (xs : List ℕ) (i : ℕ) → i < length xs → ((k : ℕ) → k < i → (get_or xs k 0 == 0) ≡ false) → (get_or xs i 0 == 0) ≡ true → position (λ b. b == 0) xs ≡ Some i
zero_at xs i h before at =
    let e = position_or_len_is (λ b. b == 0) xs i 0 (omega arith) before (λ _. at) in
    rw (e, lt-ltb i (length xs) h) refl

ended_of : (order : RunTimeEndian) → AllRead order (IsEnded order) null_terminated_at
ended_of order text rest x u =
    let chars = x.bytes in
    let whole : text ++ rest ≡ chars ++ 0 ∷ rest = ap (λ b. b ++ rest) u.joined ∙ append_assoc chars (0 ∷ []) rest in
    let place : position (λ b. b == 0) (chars ++ 0 ∷ rest) ≡ Some (length chars) = zero_at (chars ++ 0 ∷ rest) (length chars) (omega (arith, length-append chars (0 ∷ rest))) (λ k h. rw (get_or_append_left chars (0 ∷ rest) 0 k h) (ne_eqb _ _ (u.no_zero k h))) (rw (get_or-append_seam chars 0 rest 0) refl) in
    let left : drop (length chars + 1) (chars ++ 0 ∷ rest) ≡ rest = drop-append-add chars (0 ∷ rest) 1 in
    ap (λ b. null_terminated_at (section_of order b)) whole ∙ ap (ended_at (section_of order (chars ++ 0 ∷ rest))) place ∙ rw (take-append_seam chars (0 ∷ rest), left) (ap (λ o. Ok (section_of o chars, section_of order rest)) (sym u.in_order))

ended_is : (order : RunTimeEndian) (bytes : List ℕ) (x rest : Section) (o : Option ℕ) → position (λ b. b == 0) bytes ≡ o → ended_at (section_of order bytes) o ≡ Ok (x, rest) → (text : List ℕ) × IsEnded order text x × IsTextAndRest (section_of order bytes) text rest
ended_is order bytes x rest None h e = absurd cc
ended_is order bytes x rest (Some n) h e =
    let s = section_of order bytes in
    let p = position-Some (λ b. b == 0) bytes n 0 h in
    let part : first n s ≡ x = same_value (first n s, after (n + 1) s) (x, rest) e in
    let left : after (n + 1) s ≡ rest = same_rest (first n s, after (n + 1) s) (x, rest) e in
    let same : take n bytes ≡ x.bytes = ap (λ u. u.bytes) part in
    let zero_is : get_or bytes n 0 ≡ 0 = eqb-true _ _ p.1 in
    let short : length (take n bytes) ≤ n = omega (arith, length-take n bytes) in (
      take (n + 1) bytes,
      record {
        joined = take_more bytes n 0 p.0 ∙ ap (λ b. take n bytes ++ b ∷ []) zero_is ∙ ap (λ b. b ++ 0 ∷ []) same;
        no_zero = subst (λ b. (k : ℕ) → k < length b → get_or b k 0 ≢ 0) same (λ k l. let in_front : k < n = omega (arith, l, short) in rw (get_or-take n bytes k 0 in_front) (eqb-false _ _ (p.2 k in_front)));
        in_order = sym (ap (λ u. u.endian) part);
      },
      cut_at (n + 1) s rest left,
    )

ended_from : (order : RunTimeEndian) → OnlyRead order (IsEnded order) null_terminated_at
ended_from order bytes x rest e = ended_is order bytes x rest (position (λ b. b == 0) bytes) refl e

-- a value that is made of what is read
mapped_of : {A : Type 0} (order : RunTimeEndian) (is : List ℕ → A → Type 0) (read : Section → Reading A) (make : A → AttributeValue Section) → AllRead order is read → AllRead order (IsMadeOf is make) (λ s. mapped make (read s))
mapped_of order is read make reads text rest v u = ap (mapped make) (reads text rest u.0 u.1) ∙ ap (λ w. Ok (w, section_of order rest)) (sym u.2)

mapped_from : {A : Type 0} (order : RunTimeEndian) (is : List ℕ → A → Type 0) (read : Section → Reading A) (make : A → AttributeValue Section) → OnlyRead order is read → OnlyRead order (IsMadeOf is make) (λ s. mapped make (read s))
mapped_from order is read make alone bytes v rest e =
    let b = bind_ok (read (section_of order bytes)) (λ x. Ok (make x.0, x.1)) (v, rest) e in
    let f = alone bytes b.0.0 b.0.1 b.1 in
    let made : make b.0.0 ≡ v = same_value (make b.0.0, b.0.1) (v, rest) b.2 in
    let left : b.0.1 ≡ rest = same_rest (make b.0.0, b.0.1) (v, rest) b.2 in
    (f.0, (b.0.0, f.1, sym made), f.2 ∙ ap (λ u. section_of u.endian (f.0 ++ u.bytes)) left)

listed_of : (e : Encoding) (order : RunTimeEndian) (o : Option FormEncoding) → AllRead order (IsListedValue e order o) (λ s. encoded_at e o s)
listed_of e order None = λ text rest v u. absurd u
listed_of e order (Some (Fixed n make)) = mapped_of order (IsFixed order n) (fixed_at n) make (fixed_of order n)
listed_of e order (Some (Address make)) = mapped_of order (IsAddress e order) (address_at e.address_size) make (address_of e order)
listed_of e order (Some (Offset make)) = mapped_of order (IsOffset e order) (offset_at e.format) make (offset_of e.format order)
listed_of e order (Some (AddressOrOffset make)) = mapped_of order (IsAddressOrOffset e order) (address_or_offset_at e) make (address_or_offset_of e order)
listed_of e order (Some (Unsigned make)) = mapped_of order IsUleb128 uleb128_at make (uleb_of order)
listed_of e order (Some (Signed make)) = mapped_of order IsSleb128 sleb128_at make (sleb_of order)
listed_of e order (Some (Block1 make)) = mapped_of order (IsBlock order (IsFixed order 1)) (λ s. block_at (fixed_at 1 s)) make (block_of order (IsFixed order 1) (fixed_at 1) (fixed_of order 1))
listed_of e order (Some (Block2 make)) = mapped_of order (IsBlock order (IsFixed order 2)) (λ s. block_at (fixed_at 2 s)) make (block_of order (IsFixed order 2) (fixed_at 2) (fixed_of order 2))
listed_of e order (Some (Block4 make)) = mapped_of order (IsBlock order (IsFixed order 4)) (λ s. block_at (fixed_at 4 s)) make (block_of order (IsFixed order 4) (fixed_at 4) (fixed_of order 4))
listed_of e order (Some (Block make)) = mapped_of order (IsBlock order IsUleb128) (λ s. block_at (uleb128_at s)) make (block_of order IsUleb128 uleb128_at (uleb_of order))
listed_of e order (Some (Text make)) = mapped_of order (IsEnded order) null_terminated_at make (ended_of order)
listed_of e order (Some (Empty made)) = λ text rest v u. ap (λ t. Ok (made, section_of order (t ++ rest))) u.0 ∙ ap (λ w. Ok (w, section_of order rest)) (sym u.1)

listed_from : (e : Encoding) (order : RunTimeEndian) (o : Option FormEncoding) → OnlyRead order (IsListedValue e order o) (λ s. encoded_at e o s)
listed_from e order None = λ bytes v rest h. absurd (cc (h))
listed_from e order (Some (Fixed n make)) = mapped_from order (IsFixed order n) (fixed_at n) make (fixed_from order n)
listed_from e order (Some (Address make)) = mapped_from order (IsAddress e order) (address_at e.address_size) make (address_from e order)
listed_from e order (Some (Offset make)) = mapped_from order (IsOffset e order) (offset_at e.format) make (offset_from e.format order)
listed_from e order (Some (AddressOrOffset make)) = mapped_from order (IsAddressOrOffset e order) (address_or_offset_at e) make (address_or_offset_from e order)
listed_from e order (Some (Unsigned make)) = mapped_from order IsUleb128 uleb128_at make (uleb_from order)
listed_from e order (Some (Signed make)) = mapped_from order IsSleb128 sleb128_at make (sleb_from order)
listed_from e order (Some (Block1 make)) = mapped_from order (IsBlock order (IsFixed order 1)) (λ s. block_at (fixed_at 1 s)) make (block_from order (IsFixed order 1) (fixed_at 1) (fixed_from order 1))
listed_from e order (Some (Block2 make)) = mapped_from order (IsBlock order (IsFixed order 2)) (λ s. block_at (fixed_at 2 s)) make (block_from order (IsFixed order 2) (fixed_at 2) (fixed_from order 2))
listed_from e order (Some (Block4 make)) = mapped_from order (IsBlock order (IsFixed order 4)) (λ s. block_at (fixed_at 4 s)) make (block_from order (IsFixed order 4) (fixed_at 4) (fixed_from order 4))
listed_from e order (Some (Block make)) = mapped_from order (IsBlock order IsUleb128) (λ s. block_at (uleb128_at s)) make (block_from order IsUleb128 uleb128_at (uleb_from order))
listed_from e order (Some (Text make)) = mapped_from order (IsEnded order) null_terminated_at make (ended_from order)
listed_from e order (Some (Empty made)) = λ bytes v rest h. ([], (refl, sym (same_value (made, section_of order bytes) (v, rest) h)), same_rest (made, section_of order bytes) (v, rest) h)

direct_of : (e : Encoding) (order : RunTimeEndian) (form : ℕ) → AllRead order (IsListedValue e order (form_encoding_of form)) (direct_at e form)
direct_of e order form text rest v u = listed_of e order (form_encoding_of form) text rest v u

direct_from : (e : Encoding) (order : RunTimeEndian) (form : ℕ) → OnlyRead order (IsListedValue e order (form_encoding_of form)) (direct_at e form)
direct_from e order form bytes v rest h = listed_from e order (form_encoding_of form) bytes v rest h

-- indirect itself is not listed
not_listed : (e : Encoding) (order : RunTimeEndian) (form : ℕ) (text : List ℕ) (v : AttributeValue Section) → IsListedValue e order (form_encoding_of form) text v → form ≢ DW_FORM_indirect.0
unfolding form_encoding_of
not_listed e order form text v u is = subst (λ f. IsListedValue e order (form_encoding_of f) text v) is u

-- the value of the form that is read first
abbrev indirect_value : Encoding → Section → Reading (AttributeValue Section)
indirect_value e s = form_at s >>= λ real. direct_at e real.0 real.1

indirect_of : (n : ℕ) (e : Encoding) (order : RunTimeEndian) (real : ℕ) (front after rest : List ℕ) (v : AttributeValue Section) → IsUleb128 front real → IsIndirectValue n e order real after v → indirect_value e (section_of order (front ++ (after ++ rest))) ≡ Ok (v, section_of order rest)
indirect_of zero e order real front after rest v l u =
    let read = uleb_of order front (after ++ rest) real l in
    ap (λ r. r >>= λ f. direct_at e f.0 f.1) (form_last _ real _ read (ne_eqb _ _ (not_listed e order real after v u))) ∙ direct_of e order real after rest v u
indirect_of (suc n) e order real front after rest v l (is, (next, next_front, next_after, joined, k, u)) =
    let read = uleb_of order front (after ++ rest) real l in
    let whole : after ++ rest ≡ next_front ++ (next_after ++ rest) = ap (λ b. b ++ rest) joined ∙ append_assoc next_front next_after rest in
    ap (λ r. r >>= λ f. direct_at e f.0 f.1) (form_more _ real _ read (eq-eqb _ _ is)) ∙ ap (λ b. indirect_value e (section_of order b)) whole ∙ indirect_of n e order next next_front next_after rest v k u

value_of : (n : ℕ) (e : Encoding) (order : RunTimeEndian) (form : ℕ) (text rest : List ℕ) (v : AttributeValue Section) → IsIndirectValue n e order form text v → value_at e form (section_of order (text ++ rest)) ≡ Ok (v, section_of order rest)
unfolding value_at
value_of zero e order form text rest v u = ap (λ b. cond b (indirect_value e (section_of order (text ++ rest))) (direct_at e form (section_of order (text ++ rest)))) (ne_eqb _ _ (not_listed e order form text v u)) ∙ direct_of e order form text rest v u
value_of (suc n) e order form text rest v (is, (real, front, after, joined, l, u)) =
    let whole : text ++ rest ≡ front ++ (after ++ rest) = ap (λ b. b ++ rest) joined ∙ append_assoc front after rest in
    ap (λ b. cond b (indirect_value e (section_of order (text ++ rest))) (direct_at e form (section_of order (text ++ rest)))) (eq-eqb _ _ is) ∙ ap (λ b. indirect_value e (section_of order b)) whole ∙ indirect_of n e order real front after rest v l u

pub value_reads : ReadsValue
value_reads e order form text rest v u = value_of u.0 e order form text rest v u.1

-- a form's text, and then the text of a value after n more indirections
record IsNamed (e : Encoding) (s rest : Section) (v : AttributeValue Section) : Type 0 where
  hops : ℕ
  real : ℕ
  front : List ℕ
  after : List ℕ
  form : IsUleb128 front real
  value : IsIndirectValue hops e s.endian real after v
  cut : IsTextAndRest s (front ++ after) rest

indirect_from : (n : ℕ) (e : Encoding) (s : Section) (real : ℕ) (t rest : Section) (v : AttributeValue Section) → form_within n s ≡ Ok (real, t) → direct_at e real t ≡ Ok (v, rest) → IsNamed e s rest v
unfolding form_within
indirect_from zero e s real t rest v h k = absurd cc
indirect_from (suc n) e s real t rest v h k =
    let b = bind_ok (uleb128_at s) (λ f. cond (f.0 == DW_FORM_indirect.0) (form_within n f.1) (Ok f)) (real, t) h in
    let f = b.0.0 in
    let u = b.0.1 in
    let l = uleb_from s.endian s.bytes f u b.1 in
    let order = one_order s u l.0 l.2 in
    elim (branch_taken (f == DW_FORM_indirect.0) (form_within n u) (Ok (f, u)) (Ok (real, t)) b.2) [
      | inl c ↦
          let i = indirect_from n e u real t rest v c.1 k in
          record {
            hops = suc i.hops;
            real = f;
            front = l.0;
            after = i.front ++ i.after;
            form = l.1;
            value = (eqb-true _ _ c.0, (i.real, i.front, i.after, refl, i.form, subst (λ o. IsIndirectValue i.hops e o i.real i.after v) order i.value));
            cut = joined_cut s u rest l.0 (i.front ++ i.after) l.2 i.cut;
          }
      | inr c ↦
          let same : f ≡ real = same_value (f, u) (real, t) c.1 in
          let left : u ≡ t = same_rest (f, u) (real, t) c.1 in
          let d = direct_from e u.endian f u.bytes v rest (ap (λ g. direct_at e g u) same ∙ ap (direct_at e real) left ∙ k) in
          record {
            hops = zero;
            real = f;
            front = l.0;
            after = d.0;
            form = l.1;
            value = subst (λ o. IsListedValue e o (form_encoding_of f) d.0 v) order d.1;
            cut = joined_cut s u rest l.0 d.0 l.2 d.2;
          }
    ]

pub value_alone : ReadsValueAlone
unfolding value_at
value_alone e form s rest v h =
    elim (branch_taken (form == DW_FORM_indirect.0) (indirect_value e s) (direct_at e form s) (Ok (v, rest)) h) [
      | inl c ↦
          let b = bind_ok (form_at s) (λ real. direct_at e real.0 real.1) (v, rest) c.1 in
          let i = indirect_from (length s.bytes + 1) e s b.0.0 b.0.1 rest v b.1 b.2 in
          (i.front ++ i.after, (suc i.hops, (eqb-true _ _ c.0, (i.real, i.front, i.after, refl, i.form, i.value))), i.cut)
      | inr c ↦ let d = direct_from e s.endian form s.bytes v rest c.1 in (d.0, (zero, d.1), d.2)
    ]
