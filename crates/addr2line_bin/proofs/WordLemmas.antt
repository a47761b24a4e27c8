-- Words that files have (on specs/ResponseFiles).
use Rattle.addr2line_bin.proofs.Common.{◌≡◌, ◌∙◌, ℕ, Bool, true, false, cond, IfSome, List, [], ◌∷◌, ◌++◌, Option, Some, None, ap, refl, sym}
use Rattle.std.specs.Prelude.{◌||◌, flat_map, option_and_then}
use Rattle.std.specs.List.{list_any}
use Rattle.std.specs.Option.{option_map_or}
use Rattle.addr2line.specs.Files.{Files}
use Rattle.addr2line_bin.specs.Common.{Text}
use Rattle.addr2line_bin.specs.ResponseFiles.{expanded, has_response, is_response, response_path, text_in, words_for, words_in}
use Rattle.std.specs.Str.{IsUtf8, is_utf8}
use Rattle.std.proofs.lemmas.Str.{IsUtf8-from_is_utf8, is_utf8-from_IsUtf8}

pub text_some : (text bytes : List ℕ) → text ≡ bytes → IsUtf8 bytes → Some text ≡ text_in bytes
text_some text bytes e h = ap Some e ∙ ap (λ (b : Bool). cond b (Some bytes) None) (sym (is_utf8-from_IsUtf8 bytes h))

pub text_none : (bytes : List ℕ) → ¬ (IsUtf8 bytes) → None ≡ text_in bytes
text_none bytes h = by_cases (is_utf8 bytes) refl
  where
    by_cases : (b : Bool) → is_utf8 bytes ≡ b → None ≡ cond b (Some bytes) None
    by_cases true e = absurd (h (IsUtf8-from_is_utf8 bytes e))
    by_cases false e = refl

-- a word that names no such file stands for itself
word_stays : (held : Files) (word : Text) → is_response word ≡ false → words_for held word ≡ word ∷ []
word_stays held word h = by_path (response_path word) h
  where
    by_path : (p : Option Text) → option_map_or (λ path. true) p false ≡ false
        → option_map_or words_in (option_and_then text_in (option_and_then held p)) (word ∷ []) ≡ word ∷ []
    by_path None h = refl
    by_path (Some path) h = absurd cc

all_stay : (held : Files) (words : List Text) → list_any is_response words ≡ false → words ≡ flat_map (words_for held) words
all_stay held [] h = refl
all_stay held (w ∷ ws) h = by_first (is_response w) refl h (λ k. all_stay held ws k)
  where
    by_first : (b : Bool) → is_response w ≡ b → (b || list_any is_response ws) ≡ false → (list_any is_response ws ≡ false → ws ≡ flat_map (words_for held) ws)
        → w ∷ ws ≡ words_for held w ++ flat_map (words_for held) ws
    by_first true e k rest = absurd cc
    by_first false e k rest = ap (λ xs. w ∷ xs) (rest k) ∙ ap (λ xs. xs ++ flat_map (words_for held) ws) (sym (word_stays held w e))

-- words of which none names such a file stay
pub expanded_stay : (held : Files) (words : List Text) → has_response words ≡ false → words ≡ expanded held words
expanded_stay held [] h = refl
expanded_stay held (name ∷ words) h = ap (λ ws. name ∷ ws) (all_stay held words h)

pub known_stay : (known : Option Files) (words : List Text) → has_response words ≡ false → IfSome known (λ held. words ≡ expanded held words)
known_stay None words h = tt
known_stay (Some held) words h = expanded_stay held words h
