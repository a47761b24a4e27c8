-- Elements after their lengths: the relation and the function agree.
use Rattle.addr2line_units.proofs.Common.{◌≡◌, ◌∙◌, ◌<◌, ◌+◌, ℕ, zero, suc, true, false, cond, ◌&&◌, Some, None, List, [], ◌∷◌, ◌++◌, take, drop, length, length-append, take-append-drop, ap, sym, subst, refl, arith, ltb-true, lt-ltb, le-leb, is_ascii, is_ascii_digit, list_all, prefix_len, byte, digits_value, ascii_front, element_at, elements_by, elements_within, elements_at, first_so, second_so}
use Rattle.std.specs.Prelude.{nat_lt, if◌then◌else◌}
use Rattle.std.proofs.Math.Seq.{take-append_seam, drop-append_seam}
use Rattle.std.proofs.lemmas.List.Folds.{length-prefix_len}
use Rattle.addr2line_units.proofs.LegacySteps.{front_parts, elements_some, elements_none}
use Rattle.addr2line_units.specs.LegacyElements.{is_first, IsElement, AreElements}
use Rattle.addr2line_units.proofs.Facts.{some_if}

-- all digits that stand first, and none after them
digits_first : (text : List ℕ) → list_all is_ascii_digit (take (prefix_len is_ascii_digit text) text) ≡ true
digits_first [] = refl
digits_first (b ∷ bs) =
    elim (is_ascii_digit b) as (λ q. is_ascii_digit b ≡ q → list_all is_ascii_digit (take (cond q (1 + prefix_len is_ascii_digit bs) 0) (b ∷ bs)) ≡ true) [
      | true ↦ λ h.
          let one : 1 + prefix_len is_ascii_digit bs ≡ suc (prefix_len is_ascii_digit bs) = omega arith in
          ap (λ n. list_all is_ascii_digit (take n (b ∷ bs))) one ∙ ap (λ q. q && list_all is_ascii_digit (take (prefix_len is_ascii_digit bs) bs)) h ∙ digits_first bs
      | false ↦ λ _. refl
    ] refl

no_digit_then : (text : List ℕ) → is_first is_ascii_digit (drop (prefix_len is_ascii_digit text) text) ≡ false
no_digit_then [] = refl
no_digit_then (b ∷ bs) =
    elim (is_ascii_digit b) as (λ q. is_ascii_digit b ≡ q → is_first is_ascii_digit (drop (cond q (1 + prefix_len is_ascii_digit bs) 0) (b ∷ bs)) ≡ false) [
      | true ↦ λ h.
          let one : suc (prefix_len is_ascii_digit bs) ≡ 1 + prefix_len is_ascii_digit bs = omega arith in
          let P : ℕ → Type 0 = λ n. is_first is_ascii_digit (drop n (b ∷ bs)) ≡ false in
          subst P one (no_digit_then bs)
      | false ↦ λ h. h
    ] refl

-- the length of the digits, where no digit follows them
digits_len_of : (digits rest : List ℕ) → list_all is_ascii_digit digits ≡ true → is_first is_ascii_digit rest ≡ false → prefix_len is_ascii_digit (digits ++ rest) ≡ length digits
digits_len_of [] [] h none = refl
digits_len_of [] (b ∷ bs) h none = ap (λ q. cond q (1 + prefix_len is_ascii_digit bs) 0) none
digits_len_of (d ∷ ds) rest h none =
    ap (λ q. cond q (1 + prefix_len is_ascii_digit (ds ++ rest)) 0) (first_so _ _ h)
    ∙ ap (λ n. 1 + n) (digits_len_of ds rest (second_so _ _ h) none) ∙ omega arith

-- an element that the function finds
pub element_found : (text element rest : List ℕ) → element_at text ≡ Some (element, rest)
    → (digits : List ℕ) × IsElement digits element rest × (text ≡ digits ++ (element ++ rest))
unfolding element_at
element_found text element rest h =
    let chosen : (nat_lt 0 (prefix_len is_ascii_digit text) ≡ true) × (ascii_front (digits_value 10 (take (prefix_len is_ascii_digit text) text)) (drop (prefix_len is_ascii_digit text) text) ≡ Some (element, rest)) = some_if _ _ _ h in
    let parts : (drop (prefix_len is_ascii_digit text) text ≡ element ++ rest) × (length element ≡ digits_value 10 (take (prefix_len is_ascii_digit text) text)) × (list_all is_ascii element ≡ true) = front_parts _ _ element rest chosen.1 in
    let pos : 0 < prefix_len is_ascii_digit text = ltb-true _ _ chosen.0 in
    let count : length (take (prefix_len is_ascii_digit text) text) ≡ prefix_len is_ascii_digit text = length-prefix_len is_ascii_digit text in (
      take (prefix_len is_ascii_digit text) text,
      record {
        some = omega arith;
        only_digits = digits_first text;
        all_digits = subst (λ s. is_first is_ascii_digit s ≡ false) parts.0 (no_digit_then text);
        counted = sym parts.1;
        is_text = parts.2;
      },
      sym (take-append-drop (prefix_len is_ascii_digit text) text) ∙ ap (λ s. take (prefix_len is_ascii_digit text) text ++ s) parts.0,
    )

-- the elements that the function finds, at most so many
elements_are_within : (n : ℕ) (text : List ℕ) → AreElements (elements_within n text).0 text (elements_within n text).1
elements_are_within zero text = refl
elements_are_within (suc n) text =
    elim (element_at text) as (λ o. element_at text ≡ o → AreElements (elements_by o text (elements_within n)).0 text (elements_by o text (elements_within n)).1) [
      | None ↦ λ _. refl
      | Some e ↦ λ h.
          let found : (digits : List ℕ) × IsElement digits e.0 e.1 × (text ≡ digits ++ (e.0 ++ e.1)) = element_found text e.0 e.1 h in
          (found.0, e.1, found.1, found.2, elements_are_within n e.1)
    ] refl

-- the elements that the function finds
pub elements_are : (text : List ℕ) → AreElements (elements_at text).0 text (elements_at text).1
unfolding elements_at
elements_are text = elements_are_within (length text) text

front_is : (front rest : List ℕ) (n : ℕ) → n ≡ length front → list_all is_ascii front ≡ true → ascii_front n (front ++ rest) ≡ Some (front, rest)
front_is front rest n len text =
    ap (λ m. ascii_front m (front ++ rest)) len
    ∙ ap (λ q. if q && list_all is_ascii (take (length front) (front ++ rest)) then Some (take (length front) (front ++ rest), drop (length front) (front ++ rest)) else None)
    (le-leb (length front) (length (front ++ rest)) (omega (arith, length-append front rest)))
    ∙ ap (λ s. if list_all is_ascii s then Some (s, drop (length front) (front ++ rest)) else None) (take-append_seam front rest)
    ∙ ap (λ q. if q then Some (front, drop (length front) (front ++ rest)) else None) text
    ∙ ap (λ s. Some (front, s)) (drop-append_seam front rest)

-- the function finds an element
pub element_read : (digits element rest : List ℕ) → IsElement digits element rest → element_at (digits ++ (element ++ rest)) ≡ Some (element, rest)
unfolding element_at
element_read digits element rest is =
    let len : prefix_len is_ascii_digit (digits ++ (element ++ rest)) ≡ length digits = digits_len_of digits (element ++ rest) is.only_digits is.all_digits in
    ap (λ n. if nat_lt 0 n then ascii_front (digits_value 10 (take n (digits ++ (element ++ rest)))) (drop n (digits ++ (element ++ rest))) else None) len
    ∙ ap (λ q. if q then ascii_front (digits_value 10 (take (length digits) (digits ++ (element ++ rest)))) (drop (length digits) (digits ++ (element ++ rest))) else None) (lt-ltb 0 (length digits) is.some)
    ∙ ap (λ s. ascii_front (digits_value 10 s) (drop (length digits) (digits ++ (element ++ rest)))) (take-append_seam digits (element ++ rest))
    ∙ ap (λ s. ascii_front (digits_value 10 digits) s) (drop-append_seam digits (element ++ rest))
    ∙ front_is element rest (digits_value 10 digits) is.counted is.is_text

-- no element begins with an `E`
pub element_none : (rest : List ℕ) → element_at (byte "E" ∷ rest) ≡ None
unfolding element_at
element_none rest = refl

-- the function finds the elements
pub elements_read : (elements : List (List ℕ)) (text rest : List ℕ) → AreElements elements text (byte "E" ∷ rest) → elements_at text ≡ (elements, byte "E" ∷ rest)
elements_read [] text rest h = ap elements_at h ∙ elements_none (byte "E" ∷ rest) (element_none rest)
elements_read (e ∷ es) text rest h =
    ap elements_at h.3
    ∙ elements_some (h.0 ++ (e ++ h.1)) e h.1 (element_read h.0 e h.1 h.2)
    ∙ ap (λ p. (e ∷ p.0, p.1)) (elements_read es h.1 rest h.4)
