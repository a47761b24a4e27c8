-- Texts that aren't shown.
use Rattle.std.proofs.Common.{◌≡◌, ◌∙◌, ℕ, Bool, true, false, List, [], ◌∷◌, ap, refl}
use Rattle.std.specs.Prelude.{◌==◌, if◌then◌else◌, Option, Some, option_and_then, chars, codes, encode_utf8}
use Rattle.std.specs.Char.Escape.{escape_unicode}
use Rattle.std.specs.Str.{byte, is_utf8}
use Rattle.rust_v0.specs.State.{State, Reading, is_hidden, say, ◌>>=◌}
use Rattle.rust_v0.specs.Shown.{say_chars, say_escaped, say_quote, say_quoted}
use Rattle.rust_v0.specs.Leaves.{say_string}

if_true : {A : Type 0} (q : Bool) (x y : A) → q ≡ true → (if q then x else y) ≡ x
if_true true x y h = refl
if_true false x y h = absurd (let no : false ≡ true = h in cc)

if_both : (q : Bool) (s : State) (x y : Option State) → x ≡ Some s → y ≡ Some s → (if q then x else y) ≡ Some s
if_both true s x y h g = h
if_both false s x y h g = g

then_both : (o : Option State) (f : Reading) (s : State) → o ≡ Some s → f s ≡ Some s → option_and_then f o ≡ Some s
then_both o f s h g = ap (λ x. option_and_then f x) h ∙ g

text_hidden : (text : List ℕ) (s : State) → is_hidden s.mode ≡ true → say text s ≡ Some s
unfolding say
text_hidden text s h = if_true (is_hidden s.mode) _ _ h

chars_hidden : (cs : List ℕ) (s : State) → is_hidden s.mode ≡ true → say_chars cs s ≡ Some s
chars_hidden [] s h = refl
chars_hidden (c ∷ cs) s h = then_both (say (encode_utf8 c) s) (say_chars cs) s (text_hidden (encode_utf8 c) s h) (chars_hidden cs s h)

quote_hidden : (quote c : ℕ) (s : State) → is_hidden s.mode ≡ true → say_quote quote c s ≡ Some s
quote_hidden quote c s h =
    if_both (c == quote) s _ _ (then_both (say (codes "\\") s) (say (encode_utf8 c)) s (text_hidden (codes "\\") s h) (text_hidden (encode_utf8 c) s h))
    (text_hidden (encode_utf8 c) s h)

shown_none : (s : State) → is_hidden s.mode ≡ true → (text : List ℕ) → say text s ≡ Some s
shown_none s h text = text_hidden text s h

escaped_hidden : (quote c : ℕ) (s : State) → is_hidden s.mode ≡ true → say_escaped quote c s ≡ Some s
unfolding say_escaped
escaped_hidden quote c s h = search (if_both, quote_hidden quote c s h, chars_hidden (escape_unicode c) s h, shown_none s h) depth 24

quoted_hidden : (cs : List ℕ) (s : State) → is_hidden s.mode ≡ true → say_quoted cs s ≡ Some s
quoted_hidden [] s h = refl
quoted_hidden (c ∷ cs) s h = then_both (say_escaped (byte "\"") c s) (say_quoted cs) s (escaped_hidden (byte "\"") c s h) (quoted_hidden cs s h)

-- a string that isn't shown has to be UTF-8 all the same
pub string_hidden : (bytes : List ℕ) (s : State) → is_hidden s.mode ≡ true → is_utf8 bytes ≡ true → say_string bytes s ≡ Some s
string_hidden bytes s h valid =
    if_true (is_utf8 bytes) _ _ valid
    ∙ then_both (say (codes "\"") s >>= say_quoted (chars bytes)) (say (codes "\"")) s
    (then_both (say (codes "\"") s) (say_quoted (chars bytes)) s (text_hidden (codes "\"") s h) (quoted_hidden (chars bytes) s h)) (text_hidden (codes "\"") s h)
