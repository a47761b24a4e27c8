-- The text of an element: the relation and the function agree.
use Rattle.addr2line_units.proofs.Common.{◌≡◌, ◌∙◌, ◌≤◌, ◌<◌, ◌+◌, ℕ, zero, suc, Bool, true, false, cond, not, ◌&&◌, Option, Some, None, List, [], ◌∷◌, ◌++◌, take, drop, length, length-append, length-drop, take-append-drop, get_or, ap, sym, subst, refl, arith, ltb-true, lt-ltb, nat_eq, codes, encode_utf8, IsScalar, is_control, list_all, prefix_len, position_or_len, starts_with, option_or, byte, bytes_eq, digits_value, eq-eqb, nat_tests, Decides-eqb, All-contains, shown_char, numbered_char, escape_char, escape_in, escape_text, plain_from, element_text, first_so, second_so, same_Some}
use Rattle.std.specs.Prelude.{nat_lt, nat_le, if◌then◌else◌, ◌==◌, option_and_then, option_map, map}
use Rattle.std.specs.List.{position}
use Rattle.std.specs.Map.{lookup}
use Rattle.std.proofs.Math.Seq.{take-append_seam, drop-append-add, drop-cons}
use Rattle.std.proofs.lemmas.Bool.{eqb-false, eqb-true, ne_eqb, not-false, not-true}
use Rattle.std.proofs.lemmas.List.Sums.{prefix_len_stops, AllPass-from_list_all}
use Rattle.std.proofs.lemmas.Map.Views.{Contains-from_lookup}
use Rattle.std.proofs.lemmas.Slice.Eq.{bytes_eq-Decides, starts_is}
use Rattle.addr2line_units.proofs.LegacySteps.{plain_skip}
use Rattle.addr2line_units.specs.LegacyElements.{after_code_points, after_surrogates, first_surrogate, is_scalar_value, is_lower_hex, escapes, IsEscape, NoEscape, is_first, is_dot, IsPlain, IsElementText, AreTexts, by_name, by_number, nothing, dots, escape, as_it_stands, any_other, bare, other}
use Rattle.addr2line_units.proofs.Facts.{map_some, or_cond, some_if, then_some}

scalar_is : (n : ℕ) → is_scalar_value n ≡ true → IsScalar n
scalar_is n h = sym (or_cond (nat_lt n first_surrogate) (nat_le after_surrogates n && nat_lt n after_code_points)) ∙ h

-- a character that is shown
shown_is : (n c : ℕ) → shown_char n ≡ Some c → (n ≡ c) × IsScalar n × (is_control n ≡ false)
shown_is n c h =
    let chosen : ((is_scalar_value n && not (is_control n)) ≡ true) × (Some n ≡ Some c) = some_if _ _ _ h in
    (same_Some _ _ chosen.1, scalar_is n (first_so _ _ chosen.0), not-true _ (second_so _ _ chosen.0))

shown_if : (n : ℕ) → IsScalar n → is_control n ≡ false → shown_char n ≡ Some n
shown_if n scalar control =
    ap (λ q. if q && not (is_control n) then Some n else None) (or_cond (nat_lt n first_surrogate) (nat_le after_surrogates n && nat_lt n after_code_points) ∙ scalar)
    ∙ ap (λ q. if not q then Some n else None) control

no_char : (c : ℕ) (P : Type 0) → None ≡ Some c → P
no_char c P h = let bad : ⊥ = cc in absurd bad

-- the character that a number stands for
number_is : (body : List ℕ) (c : ℕ) → numbered_char body ≡ Some c → IsEscape body c
number_is [] c h = no_char c _ h
number_is (b ∷ digits) c h =
    let chosen : ((b == byte "u" && (nat_lt 0 (length digits) && list_all is_lower_hex digits)) ≡ true) × (shown_char (digits_value 16 digits) ≡ Some c) = some_if _ _ _ h in
    let u : b ≡ byte "u" = eqb-true b (byte "u") (first_so _ _ chosen.0) in
    let rest : (nat_lt 0 (length digits) && list_all is_lower_hex digits) ≡ true = second_so _ _ chosen.0 in
    let shown : (digits_value 16 digits ≡ c) × IsScalar (digits_value 16 digits) × (is_control (digits_value 16 digits) ≡ false) = shown_is _ c chosen.1 in
    let P : ℕ → Type 0 = λ x. IsEscape (x ∷ digits) c in
    subst P (sym u) (subst (IsEscape (byte "u" ∷ digits)) shown.0 (by_number digits (ltb-true _ _ (first_so _ _ rest)) (second_so _ _ rest) shown.1 shown.2))

-- what the function takes for an escape is one
escape_is : (body : List ℕ) (c : ℕ) → escape_char body ≡ Some c → IsEscape body c
unfolding escape_char
escape_is body c h = by (lookup (bytes_eq body) escapes) refl h
  where
    by : (o : Option ℕ) → lookup (bytes_eq body) escapes ≡ o → option_or o (numbered_char body) ≡ Some c → IsEscape body c
    by None same found = number_is body c found
    by (Some x) same found = by_name body c (Contains-from_lookup (λ a b. (bytes_eq-Decides a b).0) body c escapes (same ∙ found))

abbrev is_char : ℕ → Option ℕ → Bool
is_char c None = false
is_char c (Some x) = x == c

is_char_of : (c : ℕ) (o : Option ℕ) → is_char c o ≡ true → o ≡ Some c
is_char_of c None h = let bad : ⊥ = cc in absurd bad
is_char_of c (Some x) h = ap (λ y. Some y) (eqb-true x c h)

-- the function takes each escape for one
escape_known : (body : List ℕ) (c : ℕ) → IsEscape body c → escape_char body ≡ Some c
unfolding escape_char
escape_known _ _ (by_name body c among) =
    is_char_of c (escape_char body) (All-contains (λ (e : List ℕ × ℕ). is_char e.1 (escape_char e.0) ≡ true) escapes (body, c)
    (AllPass-from_list_all (λ (e : List ℕ × ℕ). is_char e.1 (escape_char e.0)) escapes refl) among)
escape_known _ _ (by_number digits some hex scalar control) =
    ap (λ q. if q && list_all is_lower_hex digits then shown_char (digits_value 16 digits) else None) (lt-ltb 0 (length digits) some)
    ∙ ap (λ q. if q then shown_char (digits_value 16 digits) else None) hex
    ∙ shown_if (digits_value 16 digits) scalar control

-- the first dollar
dollar_found : (bytes : List ℕ) (k : ℕ) → position (λ b. b == byte "$") bytes ≡ Some k → bytes ≡ take k bytes ++ (byte "$" ∷ drop (suc k) bytes)
dollar_found bytes k h =
    let chosen : (nat_lt (position_or_len (λ b. b == byte "$") bytes) (length bytes) ≡ true) × (Some (position_or_len (λ b. b == byte "$") bytes) ≡ Some k) = some_if _ _ _ h in
    let same : position_or_len (λ b. b == byte "$") bytes ≡ k = same_Some _ _ chosen.1 in
    let lt : position_or_len (λ b. b == byte "$") bytes < length bytes = ltb-true _ _ chosen.0 in
    let dollar : get_or bytes (position_or_len (λ b. b == byte "$") bytes) 0 ≡ byte "$" = eqb-true _ _ (not-false _ (prefix_len_stops (λ b. not (b == byte "$")) bytes 0 lt)) in
    sym (take-append-drop (position_or_len (λ b. b == byte "$") bytes) bytes)
    ∙ ap (λ s. take (position_or_len (λ b. b == byte "$") bytes) bytes ++ s) (drop-cons bytes (position_or_len (λ b. b == byte "$") bytes) 0 lt)
    ∙ ap (λ c. take (position_or_len (λ b. b == byte "$") bytes) bytes ++ (c ∷ drop (suc (position_or_len (λ b. b == byte "$") bytes)) bytes)) dollar
    ∙ ap (λ n. take n bytes ++ (byte "$" ∷ drop (suc n) bytes)) same

-- an escape that the function finds
escape_parts : (bytes : List ℕ) (c n : ℕ) → escape_in bytes ≡ Some (c, n)
    → (body rest : List ℕ) × IsEscape body c × (bytes ≡ body ++ (byte "$" ∷ rest)) × (drop n bytes ≡ rest)
unfolding escape_in
escape_parts bytes c n h =
    let at : (k : ℕ) × (position (λ b. b == byte "$") bytes ≡ Some k) × (option_map (λ x. (x, k + 1)) (escape_char (take k bytes)) ≡ Some (c, n)) = then_some _ _ _ h in
    let found : (x : ℕ) × (escape_char (take at.0 bytes) ≡ Some x) × ((x, at.0 + 1) ≡ (c, n)) = map_some _ _ _ at.2 in
    let first : ℕ × ℕ → ℕ = λ p. p.0 in
    let second : ℕ × ℕ → ℕ = λ p. p.1 in
    let count : suc at.0 ≡ n = omega (arith, ap second found.2) in
    (take at.0 bytes, drop (suc at.0) bytes, subst (IsEscape (take at.0 bytes)) (ap first found.2) (escape_is _ _ found.1), dollar_found bytes at.0 at.1, ap (λ m. drop m bytes) (sym count))

-- no escape has a dollar in it
hex_byte : (b : ℕ) → is_lower_hex b ≡ true → not (b == byte "$") ≡ true
hex_byte b h = grind (arith, nat_tests)

hex_bytes : (bytes : List ℕ) → list_all is_lower_hex bytes ≡ true → list_all (λ b. not (b == byte "$")) bytes ≡ true
hex_bytes [] h = refl
hex_bytes (b ∷ bs) h = ap (λ q. q && list_all (λ b. not (b == byte "$")) bs) (hex_byte b (first_so _ _ h)) ∙ hex_bytes bs (second_so _ _ h)

no_dollar : (body : List ℕ) (c : ℕ) → IsEscape body c → list_all (λ b. not (b == byte "$")) body ≡ true
no_dollar _ _ (by_name body c among) =
    All-contains (λ (e : List ℕ × ℕ). list_all (λ b. not (b == byte "$")) e.0 ≡ true) escapes (body, c)
    (AllPass-from_list_all (λ (e : List ℕ × ℕ). list_all (λ b. not (b == byte "$")) e.0) escapes refl) among
no_dollar _ _ (by_number digits some hex scalar control) = hex_bytes digits hex

dollar_len : (body rest : List ℕ) → list_all (λ b. not (b == byte "$")) body ≡ true → prefix_len (λ b. not (b == byte "$")) (body ++ (byte "$" ∷ rest)) ≡ length body
dollar_len [] rest h = refl
dollar_len (b ∷ bs) rest h =
    ap (λ q. cond q (1 + prefix_len (λ b. not (b == byte "$")) (bs ++ (byte "$" ∷ rest))) 0) (first_so _ _ h)
    ∙ ap (λ n. 1 + n) (dollar_len bs rest (second_so _ _ h)) ∙ omega arith

dollar_read : (body rest : List ℕ) → list_all (λ b. not (b == byte "$")) body ≡ true → position (λ b. b == byte "$") (body ++ (byte "$" ∷ rest)) ≡ Some (length body)
dollar_read body rest h =
    ap (λ n. cond (nat_lt n (length (body ++ (byte "$" ∷ rest)))) (Some n) None) (dollar_len body rest h)
    ∙ ap (λ q. cond q (Some (length body)) None) (lt-ltb (length body) (length (body ++ (byte "$" ∷ rest))) (omega (arith, length-append body (byte "$" ∷ rest))))

-- the function finds an escape
escape_read : (body rest : List ℕ) (c : ℕ) → IsEscape body c → escape_in (body ++ (byte "$" ∷ rest)) ≡ Some (c, length body + 1)
unfolding escape_in
escape_read body rest c is =
    ap (λ o. option_and_then (λ k. option_map (λ x. (x, k + 1)) (escape_char (take k (body ++ (byte "$" ∷ rest))))) o) (dollar_read body rest (no_dollar body c is))
    ∙ ap (λ s. option_map (λ x. (x, length body + 1)) (escape_char s)) (take-append_seam body (byte "$" ∷ rest))
    ∙ ap (λ o. option_map (λ x. (x, length body + 1)) o) (escape_known body c is)

no_escape : (bytes : List ℕ) → escape_in bytes ≡ None → NoEscape bytes
no_escape bytes h = λ body rest c is same.
    let found : escape_in bytes ≡ Some (c, length body + 1) = ap escape_in same ∙ escape_read body rest c is in
    let bad : ⊥ = cc in bad

escape_none_from : (bytes : List ℕ) → NoEscape bytes → escape_in bytes ≡ None
escape_none_from bytes none =
    elim (escape_in bytes) as (λ o. escape_in bytes ≡ o → o ≡ None) [
      | None ↦ λ _. refl
      | Some e ↦ λ h.
          let parts : (body rest : List ℕ) × IsEscape body e.0 × (bytes ≡ body ++ (byte "$" ∷ rest)) × (drop e.1 bytes ≡ rest) = escape_parts bytes e.0 e.1 h in
          absurd (none parts.0 parts.1 e.0 parts.2 parts.3)
    ] refl

plain_same : (a b s t : List ℕ) → a ≡ b → s ≡ t → IsPlain b t → IsPlain a s
plain_same a b s t e f h =
    let P : List ℕ → Type 0 = λ x. IsPlain x s in
    subst P (sym e) (subst (IsPlain b) (sym f) h)

-- two dots
dots_are : (b : ℕ) (bs : List ℕ) → (is_dot b && is_first is_dot bs) ≡ true → IsPlain (drop 1 bs) (plain_from 0 (drop 1 bs)) → IsPlain (b ∷ bs) (codes "::" ++ plain_from 1 bs)
dots_are b [] h is = let none : false ≡ true = second_so (b == byte ".") false h in let bad : ⊥ = cc in absurd bad
dots_are b (c ∷ cs) h is =
    plain_same (b ∷ c ∷ cs) (codes ".." ++ cs) _ _
    (ap (λ x. x ∷ c ∷ cs) (eqb-true b (byte ".") (first_so _ _ h)) ∙ ap (λ x. byte "." ∷ x ∷ cs) (eqb-true c (byte ".") (second_so _ _ h))) refl (dots cs _ is)

one_dot : (b : ℕ) (bs : List ℕ) → (is_dot b && is_first is_dot bs) ≡ false → b ≡ byte "." → is_first is_dot bs ≡ false
one_dot b [] h e = refl
one_dot b (c ∷ cs) h e = sym (ap (λ q. q && is_dot c) (eq-eqb b (byte ".") e)) ∙ h

not_both : (b : ℕ) (bs : List ℕ) → (b ≡ byte "." → is_first is_dot bs ≡ false) → (is_dot b && is_first is_dot bs) ≡ false
not_both b bs h =
    elim (is_dot b) as (λ q. is_dot b ≡ q → (q && is_first is_dot bs) ≡ false) [
      | true ↦ λ dot. h (eqb-true b (byte ".") dot)
      | false ↦ λ _. refl
    ] refl

-- the text that the function reads, of at most so many bytes
plain_is_within : (n : ℕ) (bytes : List ℕ) → length bytes ≤ n → IsPlain bytes (plain_from 0 bytes)
plain_is_within n [] le = nothing
plain_is_within zero (b ∷ bs) le = absurd (omega arith)
plain_is_within (suc n) (b ∷ bs) le =
    elim (b == byte "$") as (λ q. (b == byte "$") ≡ q → IsPlain (b ∷ bs) (if q then escape_text (escape_in bs) bs (λ k. plain_from k bs)
    else if is_dot b && is_first is_dot bs then codes "::" ++ plain_from 1 bs else b ∷ plain_from 0 bs)) [
      | true ↦ λ d. elim (escape_in bs) as (λ o. escape_in bs ≡ o → IsPlain (b ∷ bs) (escape_text o bs (λ k. plain_from k bs))) [
        | None ↦ λ h. plain_same (b ∷ bs) (byte "$" ∷ bs) _ _ (ap (λ x. x ∷ bs) (eqb-true b (byte "$") d)) refl (as_it_stands bs (no_escape bs h))
        | Some e ↦ λ h.
            let parts : (body rest : List ℕ) × IsEscape body e.0 × (bs ≡ body ++ (byte "$" ∷ rest)) × (drop e.1 bs ≡ rest) = escape_parts bs e.0 e.1 h in
            plain_same (b ∷ bs) (byte "$" ∷ (parts.0 ++ (byte "$" ∷ parts.1))) _ _
            (ap (λ x. x ∷ bs) (eqb-true b (byte "$") d) ∙ ap (λ s. byte "$" ∷ s) parts.3)
            (ap (λ s. encode_utf8 e.0 ++ s) (plain_skip e.1 bs ∙ ap (λ s. plain_from 0 s) parts.4))
            (escape parts.0 parts.1 (plain_from 0 parts.1) e.0 parts.2
            (plain_is_within n parts.1 (omega (arith, ap length parts.3, length-append parts.0 (byte "$" ∷ parts.1)))))
      ] refl
      | false ↦ λ d. elim (is_dot b && is_first is_dot bs) as (λ q. (is_dot b && is_first is_dot bs) ≡ q → IsPlain (b ∷ bs) (if q then codes "::" ++ plain_from 1 bs else b ∷ plain_from 0 bs)) [
        | true ↦ λ h. dots_are b bs h (plain_is_within n (drop 1 bs) (omega (arith, length-drop 1 bs)))
        | false ↦ λ h. any_other b bs (plain_from 0 bs) (eqb-false b (byte "$") d) (one_dot b bs h) (plain_is_within n bs (omega arith))
      ] refl
    ] refl

-- the function reads each text
plain_only : (bytes text : List ℕ) → IsPlain bytes text → text ≡ plain_from 0 bytes
plain_only _ _ nothing = refl
plain_only _ _ (dots rest text is) = ap (λ s. codes "::" ++ s) (plain_only rest text is)
plain_only _ _ (escape body rest text c known is) =
    ap (λ s. encode_utf8 c ++ s) (plain_only rest text is)
    ∙ ap (λ s. encode_utf8 c ++ plain_from 0 s) (sym (drop-append-add body (byte "$" ∷ rest) 1))
    ∙ ap (λ s. encode_utf8 c ++ s) (sym (plain_skip (length body + 1) (body ++ (byte "$" ∷ rest))))
    ∙ ap (λ o. escape_text o (body ++ (byte "$" ∷ rest)) (λ k. plain_from k (body ++ (byte "$" ∷ rest)))) (sym (escape_read body rest c known))
plain_only _ _ (as_it_stands rest none) = ap (λ o. escape_text o rest (λ k. plain_from k rest)) (sym (escape_none_from rest none))
plain_only _ _ (any_other b rest text other_byte alone is) =
    ap (λ s. b ∷ s) (plain_only rest text is)
    ∙ ap (λ q. if q then codes "::" ++ plain_from 1 rest else b ∷ plain_from 0 rest) (sym (not_both b rest alone))
    ∙ ap (λ q. if q then escape_text (escape_in rest) rest (λ k. plain_from k rest) else if is_dot b && is_first is_dot rest then codes "::" ++ plain_from 1 rest else b ∷ plain_from 0 rest) (sym (ne_eqb b (byte "$") other_byte))

bare_found : (element rest : List ℕ) → element ≡ codes "_$" ++ rest → starts_with nat_eq element (codes "_$") ≡ true
bare_found element rest h = (starts_is Decides-eqb element (codes "_$") _ refl).1 rest h

-- the text of an element, as the function reads it
element_text_is : (element : List ℕ) → IsElementText element (element_text element)
unfolding element_text
element_text_is element =
    elim (starts_with nat_eq element (codes "_$")) as (λ q. starts_with nat_eq element (codes "_$") ≡ q → IsElementText element (plain_from 0 (if q then drop 1 element else element))) [
      | true ↦ λ h.
          let same : element ≡ codes "_$" ++ drop 2 element = (starts_is Decides-eqb element (codes "_$") _ refl).0 h in
          bare (drop 2 element) same (plain_same (byte "$" ∷ drop 2 element) (drop 1 element) _ _ (sym (ap (λ s. drop 1 s) same)) refl (plain_is_within (length (drop 1 element)) (drop 1 element) (omega arith)))
      | false ↦ λ h. other (λ rest same. let found : starts_with nat_eq element (codes "_$") ≡ true = bare_found element rest same in let bad : ⊥ = cc in bad)
          (plain_is_within (length element) element (omega arith))
    ] refl

element_text_only : (element text : List ℕ) → IsElementText element text → text ≡ element_text element
unfolding element_text
element_text_only element text (bare rest same is) =
    plain_only (byte "$" ∷ rest) text is
    ∙ ap (λ s. plain_from 0 (drop 1 s)) (sym same)
    ∙ ap (λ q. plain_from 0 (if q then drop 1 element else element)) (sym (bare_found element rest same))
element_text_only element text (other none is) =
    elim (starts_with nat_eq element (codes "_$")) as (λ q. starts_with nat_eq element (codes "_$") ≡ q → text ≡ plain_from 0 (if q then drop 1 element else element)) [
      | true ↦ λ h. absurd (none (drop 2 element) ((starts_is Decides-eqb element (codes "_$") _ refl).0 h))
      | false ↦ λ _. plain_only element text is
    ] refl

-- the texts that the function reads
pub texts_are : (elements : List (List ℕ)) → AreTexts elements (map element_text elements)
texts_are [] = tt
texts_are (e ∷ es) = (element_text_is e, texts_are es)

-- the function reads each of the texts
pub texts_only : (elements texts : List (List ℕ)) → AreTexts elements texts → texts ≡ map element_text elements
texts_only [] [] h = refl
texts_only [] (t ∷ ts) h = absurd h
texts_only (e ∷ es) [] h = absurd h
texts_only (e ∷ es) (t ∷ ts) h = ap (λ s. s ∷ ts) (element_text_only e t h.0) ∙ ap (λ s. element_text e ∷ s) (texts_only es ts h.1)
