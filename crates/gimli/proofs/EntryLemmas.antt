-- Each level of depth took a byte of the unit (on specs/Entry.antt).
use Rattle.gimli.proofs.Common.{◌≡◌, ℕ, zero, suc, ◌+◌, ◌^◌, ◌<◌, ◌≤◌, ◌++◌, ◌==◌, Bool, true, false, cond, List, [], ◌∷◌, Option, Some, None, IfOk, length, Result, Ok, Err, refl, ap, sym, ◌∙◌, arith, ℤ, pos, negsuc, ◌+ℤ◌, FitsSigned, w64, length-append, unsigned_abs, eqb-true, IfOk-at_ok, Encoding, Error, Abbrev, Specification, with_code, Section, Exactly, Reading, ◌>>=◌, uleb128_at, NamedValue, attribute_at, rest_of, Shorter, shorter_at, uleb128-shorter, skipped_at, depth_after_entry, depth_after_closing, EntryCursor, IsInUnit, entry_abbreviation_at}
use Rattle.std.proofs.lemmas.Grind.{common_steps}
use Rattle.std.proofs.lemmas.Int.{fits_signed_from_abs}
use Rattle.gimli_read.specs.NumberValue.{implicit_number, is_number_form, number_at, number_if}
use Rattle.gimli_read.specs.declared.constants.TheConstants.DwForm.{DW_FORM_implicit_const}
use Rattle.gimli_read.specs.declared.number_value.NumberValue.{NumberValue}
use Rattle.gimli_read.specs.ValueSize.{attribute_size}
use Rattle.gimli_read.proofs.AttributeTexts.{attribute_alone}
use Rattle.gimli_read.proofs.SizeLemmas.{attribute_leaves_size}
use Rattle.gimli.specs.Entry.{attributes_at}
use Rattle.gimli.proofs.CursorLemmas.{abbreviation_is, opening_entry}

-- a code takes a byte at least
pub code_takes : (s t : Section) (n : ℕ) → uleb128_at s ≡ Ok (n, t) → length t.bytes < length s.bytes
code_takes s t n h = shorter_at (uleb128-shorter s) n t h

-- so does the code of an entry
pub abbreviation_takes : (table : List Abbrev) (c d : EntryCursor) (a : Option Abbrev) → entry_abbreviation_at table c ≡ Ok (a, d) → length d.left.bytes < length c.left.bytes
abbreviation_takes table c d a h = IfOk-at_ok Fewer (sym (abbreviation_is table c) ∙ h) (at (uleb128_at c.left) (uleb128-shorter c.left))
  where
    Fewer : Option Abbrev × EntryCursor → Type 0
    Fewer x = length x.1.left.bytes < length c.left.bytes

    found : (o : Option Abbrev) (t : Section) → length t.bytes < length c.left.bytes → IfOk (opening_entry o (record { left = t; depth = c.depth })) Fewer
    found None t k = tt
    found (Some b) t k = k

    picked : (code : ℕ × Section) (b : Bool) → length code.1.bytes < length c.left.bytes → IfOk {T = Option Abbrev × EntryCursor} (cond b (Ok (None, record { left = code.1; depth = depth_after_closing c.depth })) (opening_entry (with_code code.0 table) (record { left = code.1; depth = c.depth }))) Fewer
    picked code true k = k
    picked code false k = found (with_code code.0 table) code.1 k

    at : (r : Reading ℕ) → Shorter (length c.left.bytes) r → IfOk {T = Option Abbrev × EntryCursor} (r >>= λ code. cond (code.0 == 0) (Ok (None, record { left = code.1; depth = depth_after_closing c.depth })) (opening_entry (with_code code.0 table) (record { left = code.1; depth = c.depth }))) Fewer
    at (Ok code) k = picked code (code.0 == 0) k.by
    at (Err e) k = tt

-- an attribute leaves no more bytes than there were
pub attribute_leaves : (e : Encoding) (x : Specification) (s t : Section) (a : NamedValue) → attribute_at e x s ≡ Ok (a, t) → length t.bytes ≤ length s.bytes
attribute_leaves e x s t a h =
    let p = attribute_alone e x s t a h in
    let same : length s.bytes ≡ length (p.0 ++ t.bytes) = ap (λ (u : Section). length u.bytes) p.2 in
    omega (arith, same, length-append p.0 t.bytes)

-- so does one that is passed over
pub rest_leaves : (e : Encoding) (x : Specification) (s t : Section) → rest_of (attribute_at e x s) ≡ Ok t → length t.bytes ≤ length s.bytes
rest_leaves e x s t h = read (attribute_at e x s) refl h
  where
    read : (r : Reading NamedValue) → attribute_at e x s ≡ r → rest_of r ≡ Ok t → length t.bytes ≤ length s.bytes
    read (Ok a) is h = let same : a.1 ≡ t = cc in let left : length a.1.bytes ≡ length t.bytes = ap (λ (y : Section). length y.bytes) same in omega (arith, left, attribute_leaves e x s a.1 a.0 is)
    read (Err f) is h = absurd cc

-- so does a value that is a number, if it is read
pub number_leaves : (e : Encoding) (x : Specification) (s t : Section) (n : Option NumberValue) → number_at e x s ≡ Ok (n, t) → length t.bytes ≤ length s.bytes
number_leaves e x s t n h = by_form (x.form.0 == DW_FORM_implicit_const.0) (is_number_form x.form) h
  where
    nothing_read : (o : Option NumberValue) → ◌≡◌ {A = Reading (Option NumberValue)} (Ok (o, s)) (Ok (n, t)) → length t.bytes ≤ length s.bytes
    nothing_read o h = let same : ◌≡◌ {A = Option NumberValue × Section} (o, s) (n, t) = cc in let left : length s.bytes ≡ length t.bytes = ap (λ (y : Option NumberValue × Section). length y.1.bytes) same in omega (arith, left)

    read : (r : Reading NamedValue) → attribute_at e x s ≡ r → ◌≡◌ {A = Reading (Option NumberValue)} (r >>= λ a. Ok (number_if a.0.value, a.1)) (Ok (n, t)) → length t.bytes ≤ length s.bytes
    read (Ok a) is h =
        let same : ◌≡◌ {A = Option NumberValue × Section} (number_if a.0.value, a.1) (n, t) = cc in
        let left : length a.1.bytes ≡ length t.bytes = ap (λ (y : Option NumberValue × Section). length y.1.bytes) same in
        omega (arith, left, attribute_leaves e x s a.1 a.0 is)
    read (Err f) is h = absurd cc

    by_form : (b c : Bool) → ◌≡◌ {A = Reading (Option NumberValue)} (cond b (Ok (implicit_number x.constant, s)) (cond c (attribute_at e x s >>= λ a. Ok (number_if a.0.value, a.1)) (Ok (None, s)))) (Ok (n, t)) → length t.bytes ≤ length s.bytes
    by_form true c h = nothing_read (implicit_number x.constant) h
    by_form false true h = read (attribute_at e x s) refl h
    by_form false false h = nothing_read None h

-- so many bytes are passed over of an attribute of that size
pub sized_passed : (e : Encoding) (x : Specification) (n : ℕ) (s t : Section) (r : Result (Unit {0}) Error) → attribute_size e x ≡ Some n → Exactly (λ y. (y, t)) r (skipped_at n s) → Exactly (λ _. t) r (rest_of (attribute_at e x s))
sized_passed e x n s t (Ok y) h k = attribute_leaves_size e x n s h ∙ ap rest_of k
sized_passed e x n s t (Err f) h k = attribute_leaves_size e x n s h ∙ ap rest_of k

up_is : (n : ℕ) → negsuc (suc n) +ℤ pos 1 ≡ negsuc n
up_is n = grind (arith, common_steps)

down_is : (n : ℕ) → pos (suc n) +ℤ negsuc 0 ≡ pos n
down_is n = grind (arith, common_steps)

deeper_by_1 : (z : ℤ) → unsigned_abs (z +ℤ pos 1) ≤ unsigned_abs z + 1
deeper_by_1 (pos n) = omega arith
deeper_by_1 (negsuc zero) = omega arith
deeper_by_1 (negsuc (suc n)) = let h : suc n ≤ suc (suc n) + 1 = omega arith in rw (up_is n) h

shallower_by_1 : (z : ℤ) → unsigned_abs (z +ℤ negsuc 0) ≤ unsigned_abs z + 1
shallower_by_1 (pos zero) = omega arith
shallower_by_1 (pos (suc n)) = let h : n ≤ suc n + 1 = omega arith in rw (down_is n) h
shallower_by_1 (negsuc n) = omega arith

pub deeper_fits : (z : ℤ) → unsigned_abs z + 1 < 2 ^ 63 → FitsSigned w64 (z +ℤ pos 1)
deeper_fits z h = fits_signed_from_abs w64 (z +ℤ pos 1) (omega (arith, deeper_by_1 z, h))

pub shallower_fits : (z : ℤ) → unsigned_abs z + 1 < 2 ^ 63 → FitsSigned w64 (z +ℤ negsuc 0)
shallower_fits z h = fits_signed_from_abs w64 (z +ℤ negsuc 0) (omega (arith, shallower_by_1 z, h))

-- the depth after an entry, after a closing entry, and after any other reading
pub entry_in_unit : (n : ℕ) (s t : Section) (z : ℤ) (b : Bool) → IsInUnit n s z → length t.bytes < length s.bytes → IsInUnit n t (depth_after_entry b z)
entry_in_unit n s t z true h k = (omega (arith, deeper_by_1 z, h.0), h.1)
entry_in_unit n s t z false h k = (omega (arith, h.0), h.1)

pub closing_in_unit : (n : ℕ) (s t : Section) (z : ℤ) → IsInUnit n s z → length t.bytes < length s.bytes → IsInUnit n t (depth_after_closing z)
closing_in_unit n s t z h k = (omega (arith, shallower_by_1 z, h.0), h.1)

pub still_in_unit : (n : ℕ) (s t : Section) (z : ℤ) → IsInUnit n s z → length t.bytes ≤ length s.bytes → IsInUnit n t z
still_in_unit n s t z h k = (omega (arith, h.0), h.1)

-- the next depth fits, since a byte is left for it
pub next_fits : (n : ℕ) (s t : Section) (z : ℤ) → IsInUnit n s z → length t.bytes < length s.bytes → unsigned_abs z + 1 < 2 ^ 63
next_fits n s t z h k = omega (arith, h.0, h.1, k)

-- where no attributes are passed over, all is left
pub none_passed : (e : Encoding) (xs : List Specification) (left : Section) → (length xs == 0) ≡ true → rest_of (attributes_at e xs left) ≡ Ok left
unfolding attributes_at
none_passed e [] left h = refl
none_passed e (x ∷ xs) left h = let none : length (x ∷ xs) ≡ 0 = eqb-true (length (x ∷ xs)) 0 h in absurd (omega arith)
