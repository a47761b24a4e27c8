-- ASCII text: its parts are ASCII, and it is UTF-8.
use Rattle.std.proofs.Common.{◌≡◌, ℕ, zero, suc, ◌+◌, ◌<◌, List, [], ◌∷◌, take, drop, true, refl, arith}
use Rattle.std.specs.Char.{is_ascii}
use Rattle.std.specs.List.{list_all, prefix_len}
use Rattle.std.specs.Str.{IsAscii, IsNotAscii, IsUtf8, is_utf8}
use Rattle.std.proofs.lemmas.Bool.Decides.{nat_tests}
use Rattle.std.proofs.lemmas.Str.{IsUtf8-from_ascii, is_utf8-from_IsUtf8, IsUtf8-from_is_utf8}
use Rattle.std.proofs.lemmas.Str.Ascii.{IsAscii-nil, IsAscii-cons}
use Rattle.std.specs.Prelude.{cond, false}
use Rattle.rust_v0.specs.Numbers.{is_nibble}
use Rattle.rust_v0.specs.Identifiers.{ascii_part, digits_part}

-- the first byte and the others
first_ascii : (b : ℕ) (bs : List ℕ) → list_all is_ascii (b ∷ bs) ≡ true → b < 128
first_ascii b bs h = grind (arith, nat_tests)

others_ascii : (b : ℕ) (bs : List ℕ) → list_all is_ascii (b ∷ bs) ≡ true → list_all is_ascii bs ≡ true
others_ascii b bs h = grind (arith, nat_tests)

all_ascii : (bs : List ℕ) → list_all is_ascii bs ≡ true → IsAscii bs
all_ascii [] h = IsAscii-nil
all_ascii (b ∷ bs) h = IsAscii-cons b bs (first_ascii b bs h) (all_ascii bs (others_ascii b bs h))

pub ascii_text : (bs : List ℕ) → list_all is_ascii bs ≡ true → IsUtf8 bs
ascii_text bs h = IsUtf8-from_ascii bs (all_ascii bs h)

pub listed_ascii : (bs : List ℕ) → IsAscii bs → list_all is_ascii bs ≡ true
listed_ascii [] h = refl
listed_ascii (b ∷ bs) h =
    let first : b < 128 = h 0 in
    let rest : list_all is_ascii bs ≡ true = listed_ascii bs (λ i. h (suc i)) in
    grind (arith, nat_tests)

pub not_listed_ascii : (bs : List ℕ) → IsNotAscii bs → list_all is_ascii bs ≡ false
not_listed_ascii [] h = absurd (omega (arith, h.1))
not_listed_ascii (b ∷ bs) (zero, h) = grind (arith, nat_tests)
not_listed_ascii (b ∷ bs) (suc i, h) =
    let rest : list_all is_ascii bs ≡ false = not_listed_ascii bs (i, h) in
    grind (arith, nat_tests)

take_ascii : (n : ℕ) (bs : List ℕ) → list_all is_ascii bs ≡ true → list_all is_ascii (take n bs) ≡ true
take_ascii zero bs h = refl
take_ascii (suc n) [] h = refl
take_ascii (suc n) (b ∷ bs) h = let rest : list_all is_ascii (take n bs) ≡ true = take_ascii n bs (others_ascii b bs h) in grind (arith, nat_tests)

drop_ascii : (n : ℕ) (bs : List ℕ) → list_all is_ascii bs ≡ true → list_all is_ascii (drop n bs) ≡ true
drop_ascii zero bs h = h
drop_ascii (suc n) [] h = refl
drop_ascii (suc n) (b ∷ bs) h = drop_ascii n bs (others_ascii b bs h)

pub ascii_part_ascii : (word : List ℕ) → list_all is_ascii word ≡ true → list_all is_ascii (ascii_part word) ≡ true
unfolding ascii_part
ascii_part_ascii word h = take_ascii _ word h

pub digits_part_ascii : (word : List ℕ) → list_all is_ascii word ≡ true → list_all is_ascii (digits_part word) ≡ true
unfolding digits_part
digits_part_ascii word h = drop_ascii _ word h

-- one byte more
take_one : (b n : ℕ) (bs : List ℕ) → b < 128 → list_all is_ascii (take n bs) ≡ true → list_all is_ascii (take (1 + n) (b ∷ bs)) ≡ true
take_one b n bs h rest = let e : 1 + n ≡ suc n = omega arith in rw e (grind (arith, nat_tests))

nibble_low : (b : ℕ) → is_nibble b ≡ true → b < 128
nibble_low b h = grind (arith, nat_tests)

-- hexadecimal digits are ASCII
pub nibbles_ascii : (bs : List ℕ) → list_all is_ascii (take (prefix_len is_nibble bs) bs) ≡ true
nibbles_ascii [] = refl
nibbles_ascii (b ∷ bs) =
    elim (is_nibble b) as (λ v. is_nibble b ≡ v → list_all is_ascii (take (cond v (1 + prefix_len is_nibble bs) 0) (b ∷ bs)) ≡ true) [
      | true ↦ λ h. take_one b (prefix_len is_nibble bs) bs (nibble_low b h) (nibbles_ascii bs)
      | false ↦ λ h. refl
    ] refl

-- UTF-8, as the test of it says
pub utf8_yes : (bs : List ℕ) → IsUtf8 bs → is_utf8 bs ≡ true
utf8_yes bs h = is_utf8-from_IsUtf8 bs h

pub utf8_no : (bs : List ℕ) → (IsUtf8 bs → ⊥) → is_utf8 bs ≡ false
utf8_no bs h =
    elim (is_utf8 bs) as (λ v. is_utf8 bs ≡ v → v ≡ false) [
      | true ↦ λ e. absurd (h (IsUtf8-from_is_utf8 bs e))
      | false ↦ λ e. refl
    ] refl
