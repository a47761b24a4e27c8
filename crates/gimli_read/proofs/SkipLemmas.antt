-- What a reading leaves is what passing over as many bytes leaves (on specs/Form.antt and specs/ValueSize.antt).
use Rattle.gimli_read.proofs.Common.{◌≡◌, ◌≢◌, ℕ, ◌-◌, ◌≤◌, ◌==◌, Bool, true, false, cond, List, [], ◌∷◌, ◌++◌, length, Option, Some, None, Result, Ok, Err, refl, sym, ap, ◌∙◌, arith, eqb-true, length-append, Encoding, DW_FORM_indirect, DW_FORM_implicit_const, AttributeValue, Section, Specification, skipped_at, null_terminated_at, uleb128_at, FormEncoding, Fixed, Address, Offset, AddressOrOffset, Unsigned, Signed, Block1, Block2, Block4, Block, Text, Empty, form_encoding_of, block_at, encoded_at, encoded_size, Error, Reading, mapped, ◌>>=◌, Exactly, NamedValue, rest_of, direct_at, form_at, value_at, implicit_of, named_value, attribute_at, attributes_at, section_of, IsTextAndRest}
use Rattle.std.proofs.lemmas.List.{append_assoc}
use Rattle.std.proofs.Math.Seq.{drop-append_seam}
use Rattle.gimli_read.specs.declared.size.ValueSize.{ValueSize}
use Rattle.gimli_read.specs.declared.size.ValueSize.TheVariants as sizes
use Rattle.gimli_read.proofs.FixedTexts.{not_short}
use Rattle.gimli_read.proofs.AttributeTexts.{attribute_alone}
use Rattle.gimli_read.proofs.SizeLemmas.{mapped_leaves, rests_more}

cut_skipped : (s rest : Section) (text : List ℕ) (n : ℕ) → IsTextAndRest s text rest → n ≡ length text → skipped_at n s ≡ Ok (tt, rest)
cut_skipped s rest text n cut is =
    ap (skipped_at n) cut ∙ ap (λ k. skipped_at k (section_of rest.endian (text ++ rest.bytes))) is ∙ rw (not_short text rest.bytes, drop-append_seam text rest.bytes) refl

taken_is : (s rest : Section) (text : List ℕ) → IsTextAndRest s text rest → length s.bytes - length rest.bytes ≡ length text
taken_is s rest text cut =
    let whole : length s.bytes ≡ length (text ++ rest.bytes) = ap (λ (u : Section). length u.bytes) cut in
    omega (arith, whole, length-append text rest.bytes)

-- the bytes that an attribute takes
pub attribute_skipped : (e : Encoding) (x : Specification) (s rest : Section) (a : NamedValue) → attribute_at e x s ≡ Ok (a, rest) → skipped_at (length s.bytes - length rest.bytes) s ≡ Ok (tt, rest)
attribute_skipped e x s rest a h =
    let f = attribute_alone e x s rest a h in
    cut_skipped s rest f.0 (length s.bytes - length rest.bytes) f.2 (taken_is s rest f.0 f.2)

-- the bytes that attributes take
pub attributes_text : (e : Encoding) (xs : List Specification) (s rest : Section) → rest_of (attributes_at e xs s) ≡ Ok rest → (text : List ℕ) × IsTextAndRest s text rest
unfolding attributes_at
attributes_text e [] s rest h = let same : s ≡ rest = cc in ([], same)
attributes_text e (x ∷ xs) s rest h = at (λ t. attributes_text e xs t rest) (attribute_at e x s) refl (sym (rests_more e x xs s) ∙ h)
  where
    at : ((t : Section) → rest_of (attributes_at e xs t) ≡ Ok rest → (text : List ℕ) × IsTextAndRest t text rest) → (r : Reading NamedValue) → attribute_at e x s ≡ r
        → (rest_of r >>= λ t. rest_of (attributes_at e xs t)) ≡ Ok rest → (text : List ℕ) × IsTextAndRest s text rest
    at ih (Ok a) j k =
        let f = attribute_alone e x s a.1 a.0 j in
        let m = ih a.1 k in
        (f.0 ++ m.0, f.2 ∙ ap (λ u. section_of u.endian (f.0 ++ u.bytes)) m.1 ∙ ap (section_of rest.endian) (sym (append_assoc f.0 m.0 rest.bytes)))
    at ih (Err d) j k = absurd cc

pub attributes_skipped : (e : Encoding) (xs : List Specification) (s rest : Section) → rest_of (attributes_at e xs s) ≡ Ok rest → skipped_at (length s.bytes - length rest.bytes) s ≡ Ok (tt, rest)
attributes_skipped e xs s rest h =
    let f = attributes_text e xs s rest h in
    cut_skipped s rest f.0 (length s.bytes - length rest.bytes) f.1 (taken_is s rest f.0 f.1)

-- attributes leave no more bytes than there were
pub attributes_leave : (e : Encoding) (xs : List Specification) (s rest : Section) → rest_of (attributes_at e xs s) ≡ Ok rest → length rest.bytes ≤ length s.bytes
attributes_leave e xs s rest h =
    let f = attributes_text e xs s rest h in
    let whole : length s.bytes ≡ length (f.0 ++ rest.bytes) = ap (λ (u : Section). length u.bytes) f.1 in
    omega (arith, whole, length-append f.0 rest.bytes)

-- an answer that passes over bytes is that of a reading which leaves as much
pub skipped_exactly : (r : Result (Unit {0}) Error) (t : Section) (given : Reading (Unit {0})) (whole : Result Section Error) → whole ≡ rest_of given → Exactly (λ x. (x, t)) r given → Exactly (λ _. t) r whole
skipped_exactly (Ok x) t given whole h k = h ∙ ap rest_of k
skipped_exactly (Err e) t given whole h k = h ∙ ap rest_of k

-- what a value leaves, by what says how many bytes it has
abbrev left_by : ValueSize → Reading (AttributeValue Section) → Section → Result Section Error
left_by sizes.Number value s = rest_of (uleb128_at s)
left_by sizes.Block value s = rest_of (block_at (uleb128_at s))
left_by sizes.Text value s = rest_of (null_terminated_at s)
left_by _ value s = rest_of value

encoded_left : (e : Encoding) (f : Option FormEncoding) (s : Section) → rest_of (encoded_at e f s) ≡ left_by (encoded_size f) (encoded_at e f s) s
encoded_left e None s = refl
encoded_left e (Some (Fixed n make)) s = refl
encoded_left e (Some (Address make)) s = refl
encoded_left e (Some (Offset make)) s = refl
encoded_left e (Some (AddressOrOffset make)) s = refl
encoded_left e (Some (Unsigned make)) s = mapped_leaves make (uleb128_at s)
encoded_left e (Some (Signed make)) s = refl
encoded_left e (Some (Block1 make)) s = refl
encoded_left e (Some (Block2 make)) s = refl
encoded_left e (Some (Block4 make)) s = refl
encoded_left e (Some (Block make)) s = mapped_leaves make (block_at (uleb128_at s))
encoded_left e (Some (Text make)) s = mapped_leaves make (null_terminated_at s)
encoded_left e (Some (Empty made)) s = refl

-- the forms that have no value of their own
indirect_other : encoded_size (form_encoding_of DW_FORM_indirect.0) ≡ sizes.Other
unfolding form_encoding_of
indirect_other = refl

constant_other : encoded_size (form_encoding_of DW_FORM_implicit_const.0) ≡ sizes.Other
unfolding form_encoding_of
constant_other = refl

-- an attribute leaves what its value leaves
value_left : (e : Encoding) (x : Specification) (s : Section) → encoded_size (form_encoding_of x.form.0) ≢ sizes.Other → rest_of (attribute_at e x s) ≡ rest_of (direct_at e x.form.0 s)
unfolding attribute_at value_at
value_left e x s h = at (x.form.0 == DW_FORM_implicit_const.0) refl
  where
    direct : (b : Bool) → (x.form.0 == DW_FORM_indirect.0) ≡ b → rest_of (cond b (form_at s >>= λ real. direct_at e real.0 real.1) (direct_at e x.form.0 s)) ≡ rest_of (direct_at e x.form.0 s)
    direct true k = absurd (h (ap (λ f. encoded_size (form_encoding_of f)) (eqb-true _ _ k) ∙ indirect_other))
    direct false k = refl

    at : (b : Bool) → (x.form.0 == DW_FORM_implicit_const.0) ≡ b
        → rest_of (cond b (implicit_of x.constant >>= λ value. Ok (named_value x value, s)) (mapped (named_value x) (value_at e x.form.0 s))) ≡ rest_of (direct_at e x.form.0 s)
    at true k = absurd (h (ap (λ f. encoded_size (form_encoding_of f)) (eqb-true _ _ k) ∙ constant_other))
    at false k = mapped_leaves (named_value x) (value_at e x.form.0 s) ∙ direct (x.form.0 == DW_FORM_indirect.0) refl

-- what an attribute leaves, by what says how many bytes its value has
sized_left : (e : Encoding) (x : Specification) (s : Section) (size : ValueSize) → encoded_size (form_encoding_of x.form.0) ≡ size → size ≢ sizes.Other → rest_of (attribute_at e x s) ≡ left_by size (direct_at e x.form.0 s) s
sized_left e x s size h k = value_left e x s (λ other. k (sym h ∙ other)) ∙ encoded_left e (form_encoding_of x.form.0) s ∙ ap (λ d. left_by d (direct_at e x.form.0 s) s) h

pub number_left : (e : Encoding) (x : Specification) (s : Section) → encoded_size (form_encoding_of x.form.0) ≡ sizes.Number → rest_of (attribute_at e x s) ≡ rest_of (uleb128_at s)
number_left e x s h = sized_left e x s sizes.Number h (λ k. absurd cc)

pub block_left : (e : Encoding) (x : Specification) (s : Section) → encoded_size (form_encoding_of x.form.0) ≡ sizes.Block → rest_of (attribute_at e x s) ≡ rest_of (block_at (uleb128_at s))
block_left e x s h = sized_left e x s sizes.Block h (λ k. absurd cc)

pub text_left : (e : Encoding) (x : Specification) (s : Section) → encoded_size (form_encoding_of x.form.0) ≡ sizes.Text → rest_of (attribute_at e x s) ≡ rest_of (null_terminated_at s)
text_left e x s h = sized_left e x s sizes.Text h (λ k. absurd cc)
