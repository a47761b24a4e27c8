-- Bytes that are a text, and bytes that are none (on specs/Symbols.antt); bytes that are ASCII.
use Rattle.elf.proofs.Common.{◌≡◌, ◌∙◌, ◌≤◌, ◌&&◌, ℕ, zero, suc, Bool, true, false, cond, List, [], ◌∷◌, Some, None, refl, sym, ap, MatchBool, lt-ltb, le-ltb, list_all, is_utf8, IsAscii, IsNotAscii, IsUtf8, utf8_from}
use Rattle.std.proofs.Math.Bool.{and-false}
use native.Mathlib.Omega.{arith}
use Rattle.std.specs.List.{slice_index}
use Rattle.std.specs.Char.{is_ascii}
use Rattle.std.proofs.lemmas.Str.{IsUtf8-from_is_utf8, is_utf8-from_IsUtf8}

pub utf8_some : (text bytes : List ℕ) → text ≡ bytes → IsUtf8 bytes → Some text ≡ utf8_from bytes
utf8_some text bytes e h = ap Some e ∙ ap (λ (b : Bool). cond b (Some bytes) None) (sym (is_utf8-from_IsUtf8 bytes h))

pub utf8_none : (bytes : List ℕ) → ¬ (IsUtf8 bytes) → None ≡ utf8_from bytes
utf8_none bytes h = by_cases (is_utf8 bytes) refl
  where
    by_cases : (b : Bool) → is_utf8 bytes ≡ b → None ≡ cond b (Some bytes) None
    by_cases true e = absurd (h (IsUtf8-from_is_utf8 bytes e))
    by_cases false e = refl

all_ascii : (bytes : List ℕ) → IsAscii bytes → true ≡ list_all is_ascii bytes
all_ascii [] h = refl
all_ascii (b ∷ bytes) h = all_ascii bytes (λ i. h (suc i))
    ∙ sym (ap (λ t. t && list_all is_ascii bytes) (lt-ltb b 128 (h 0)))

one_not_ascii : (bytes : List ℕ) (i : ℕ) → 128 ≤ slice_index bytes i
    → false ≡ list_all is_ascii bytes
one_not_ascii [] i h = absurd (omega (arith, h))
one_not_ascii (b ∷ bytes) zero h =
    sym (ap (λ t. t && list_all is_ascii bytes) (le-ltb b 128 h))
one_not_ascii (b ∷ bytes) (suc i) h = sym (and-false (is_ascii b))
    ∙ ap (λ t. is_ascii b && t) (one_not_ascii bytes i h)

pub ascii_by : (bytes : List ℕ) (b : Bool) → MatchBool b (IsAscii bytes) (IsNotAscii bytes)
    → b ≡ list_all is_ascii bytes
ascii_by bytes true h = all_ascii bytes h
ascii_by bytes false h = one_not_ascii bytes h.0 h.1
