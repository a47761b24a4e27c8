-- How long names of wanted sections are (on specs/Wanted.antt).
use Rattle.elf.proofs.Common.{◌≡◌, ◌∙◌, ℕ, ◌+◌, ◌≤◌, ◌<◌, ◌⊎◌, inl, inr, Bool, true, false, ◌&&◌, ◌||◌, List, Option, Some, None, length, drop, nat_eq, nat_le, ap, arith, refl, sym, nat_tests, and_parts, eqb-true, length-drop, bytes_eq, codes, option_and_then, option_map_or, starts_with, cond, table_text_at, short_text_at, debug_prefix, zdebug_prefix, is_wanted_stem, is_wanted_text}
use Rattle.std.proofs.lemmas.Bool.{or_cases}
use Rattle.std.proofs.lemmas.Slice.Eq.{bytes_eq-Decides}
use Rattle.elf.specs.Wanted.{is_stem_text, is_table_stem, is_unit_stem}

-- a stem, perhaps with .dwo behind it
stem_short : (text stem : List ℕ) → is_stem_text text stem ≡ true → length text ≤ length stem + 4
stem_short text stem h = by (or_cases (nat_eq (length text) (length stem)) (bytes_eq (drop (length stem) text) (codes ".dwo")) (and_parts (starts_with nat_eq text stem) (nat_eq (length text) (length stem) || bytes_eq (drop (length stem) text) (codes ".dwo")) h).1)
  where
    by : (nat_eq (length text) (length stem) ≡ true) ⊎ (bytes_eq (drop (length stem) text) (codes ".dwo") ≡ true) → length text ≤ length stem + 4
    by (inl e) = let k : length text ≡ length stem = eqb-true (length text) (length stem) e in omega (arith, k)
    by (inr e) =
        let k = ap length ((bytes_eq-Decides (drop (length stem) text) (codes ".dwo")).0 e) in
        let d = length-drop (length stem) text in
        omega (arith, k, d)

-- either of two tests
either : (b c : Bool) (n m : ℕ) → (b ≡ true → n ≤ m) → (c ≡ true → n ≤ m) → (b || c) ≡ true → n ≤ m
either b c n m h k e = by (or_cases b c e)
  where
    by : (b ≡ true) ⊎ (c ≡ true) → n ≤ m
    by (inl x) = h x
    by (inr x) = k x

one : (text stem : List ℕ) → length stem ≤ 11 → is_stem_text text stem ≡ true → length text ≤ 15
one text stem l h = let k = stem_short text stem h in omega (arith, k, l)

unit_short : (text : List ℕ) → is_unit_stem text ≡ true → length text ≤ 15
unit_short text = either _ _ _ _ (one text (codes "abbrev") (omega arith)) (either _ _ _ _ (one text (codes "info") (omega arith)) (either _ _ _ _ (one text (codes "line") (omega arith)) (one text (codes "line_str") (omega arith))))

table_short : (text : List ℕ) → is_table_stem text ≡ true → length text ≤ 15
table_short text = either _ _ _ _ (one text (codes "addr") (omega arith)) (either _ _ _ _ (one text (codes "aranges") (omega arith)) (either _ _ _ _ (one text (codes "ranges") (omega arith))
    (either _ _ _ _ (one text (codes "rnglists") (omega arith)) (either _ _ _ _ (one text (codes "str") (omega arith)) (one text (codes "str_offsets") (omega arith))))))

stem_in : (text : List ℕ) → is_wanted_stem text ≡ true → length text ≤ 15
stem_in text = either _ _ _ _ (unit_short text) (table_short text)

wanted_short : (text : List ℕ) → is_wanted_text text ≡ true → length text ≤ 23
wanted_short text = either _ _ _ _ (behind debug_prefix (omega arith)) (behind zdebug_prefix (omega arith))
  where
    behind : (prefix : List ℕ) → length prefix ≤ 8 → (starts_with nat_eq text prefix && is_wanted_stem (drop (length prefix) text)) ≡ true → length text ≤ 23
    behind prefix l h =
        let k = stem_in (drop (length prefix) text) (and_parts (starts_with nat_eq text prefix) (is_wanted_stem (drop (length prefix) text)) h).1 in
        let d = length-drop (length prefix) text in
        omega (arith, k, d, l)

-- so a longer text need not be read
pub wanted_within : (names : List ℕ) (at : ℕ) → option_map_or is_wanted_text (short_text_at 23 names at) false ≡ option_map_or is_wanted_text (table_text_at names at) false
wanted_within names at = by_text (table_text_at names at)
  where
    long : (text : List ℕ) → nat_le (length text) 23 ≡ false → (b : Bool) → is_wanted_text text ≡ b → false ≡ is_wanted_text text
    long text l true e = let k = wanted_short text e in absurd (let m : 23 < length text = grind (arith, nat_tests) in omega (arith, k, m))
    long text l false e = sym e

    by_length : (text : List ℕ) (b : Bool) → nat_le (length text) 23 ≡ b → option_map_or is_wanted_text (cond b (Some text) None) false ≡ is_wanted_text text
    by_length text true l = refl
    by_length text false l = long text l (is_wanted_text text) refl

    by_text : (o : Option (List ℕ)) → option_map_or is_wanted_text (option_and_then (λ text. cond (nat_le (length text) 23) (Some text) None) o) false ≡ option_map_or is_wanted_text o false
    by_text None = refl
    by_text (Some text) = by_length text (nat_le (length text) 23) refl
