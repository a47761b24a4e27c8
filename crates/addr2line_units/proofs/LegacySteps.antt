-- The steps by which the functions of *LegacyText* go through a name.
use Rattle.addr2line_units.proofs.Common.{◌≡◌, ◌∙◌, ◌≤◌, ◌<◌, ◌+◌, ◌*◌, ℕ, zero, suc, Bool, true, false, ◌&&◌, Some, None, List, [], ◌∷◌, ◌++◌, take, drop, length, length-take, length-drop, length-append, take-append-drop, append_assoc, append-nil, get_or, map, ap, sym, refl, arith, add-one, leb-true, ltb-true, nat_eq, encode_utf8, codes, digit_value, is_ascii, is_ascii_digit, list_all, prefix_len, starts_with, nat_tests, drop_all, byte, digits_value, without_llvm, element_at, ascii_front, elements_by, elements_within, elements_at, without_hash, element_text, joint_text, escape_in, escape_text, plain_from, first_so, second_so, same_Some}
use Rattle.std.specs.Prelude.{nat_lt, nat_le, is_none, if◌then◌else◌, ◌==◌}
use Rattle.std.proofs.lemmas.List.Sums.{prefix_len-le-length}
use Rattle.std.proofs.lemmas.Str.Parse.{digits_value-take-le}
use Rattle.std.proofs.lemmas.Int.Digits.{digits_value_more}
use Rattle.addr2line_units.specs.LegacyName.{llvm_mark, is_llvm_byte, is_suffix_byte, is_suffix, joined, after_colons}
use Rattle.addr2line_units.specs.LegacyElements.{is_hash, is_first, is_dot}
use Rattle.addr2line_units.proofs.Facts.{some_if}

abbrev first_of_two : List ℕ × List ℕ → List ℕ
first_of_two p = p.0

abbrev second_of_two : List ℕ × List ℕ → List ℕ
second_of_two p = p.1

-- no mark at a place
mark_after : (name : List ℕ) (i : ℕ) → i < length name → starts_with nat_eq (drop i name) llvm_mark ≡ false
    → take i name ++ without_llvm (drop i name) ≡ take (suc i) name ++ without_llvm (drop (suc i) name)
mark_after [] i lt apart = absurd (omega arith)
mark_after (b ∷ bs) zero lt apart = ap (λ q. if q then (if list_all is_llvm_byte (drop (length llvm_mark) (b ∷ bs)) then [] else b ∷ bs) else b ∷ without_llvm bs) apart
mark_after (b ∷ bs) (suc i) lt apart = ap (λ s. b ∷ s) (mark_after bs i (omega arith) apart)

pub mark_more : (name : List ℕ) (i : ℕ) → i < length name → starts_with nat_eq (drop i name) llvm_mark ≡ false
    → take i name ++ without_llvm (drop i name) ≡ take (i + 1) name ++ without_llvm (drop (i + 1) name)
mark_more name i lt apart = rw add-one (mark_after name i lt apart)

-- a mark at a place
pub mark_found : (bytes : List ℕ) → starts_with nat_eq bytes llvm_mark ≡ true
    → without_llvm bytes ≡ (if list_all is_llvm_byte (drop (length llvm_mark) bytes) then [] else bytes)
mark_found [] here = cc
mark_found (b ∷ bs) here = ap (λ q. if q then (if list_all is_llvm_byte (drop (length llvm_mark) (b ∷ bs)) then [] else b ∷ bs) else b ∷ without_llvm bs) here

-- the number of one digit more
pub number_more : (radix i : ℕ) (digits : List ℕ) (n m : ℕ) → i < length digits → n ≡ digits_value radix (take i digits)
    → m ≡ n * radix + digit_value (get_or digits i 0) → m ≡ digits_value radix (take (i + 1) digits)
number_more radix i digits n m lt e h = h ∙ ap (λ k. k * radix + digit_value (get_or digits i 0)) e ∙ sym (digits_value_more radix digits i lt)

pub number_past : (radix i : ℕ) (digits : List ℕ) (n most : ℕ) → 1 ≤ radix → i < length digits → n ≡ digits_value radix (take i digits)
    → most < n * radix + digit_value (get_or digits i 0) → most < digits_value radix digits
number_past radix i digits n most pos lt e h =
    let more : n * radix + digit_value (get_or digits i 0) ≡ digits_value radix (take (i + 1) digits) = number_more radix i digits n _ lt e refl in
    omega (arith, more, digits_value-take-le radix digits (i + 1) pos)

-- what may follow the `E` is ASCII
suffix_byte : (b : ℕ) → is_suffix_byte b ≡ true → is_ascii b ≡ true
suffix_byte b h = grind (arith, nat_tests)

suffix_bytes : (bs : List ℕ) → list_all is_suffix_byte bs ≡ true → list_all is_ascii bs ≡ true
suffix_bytes [] h = refl
suffix_bytes (b ∷ bs) h = rw (suffix_byte b (first_so _ _ h)) (suffix_bytes bs (second_so _ _ h))

pub suffix_is_text : (bs : List ℕ) → is_suffix bs ≡ true → list_all is_ascii bs ≡ true
suffix_is_text [] h = refl
suffix_is_text (b ∷ bs) h = suffix_bytes (b ∷ bs) (second_so _ _ h)

-- a first element, and what follows it
pub front_parts : (n : ℕ) (bytes front rest : List ℕ) → ascii_front n bytes ≡ Some (front, rest)
    → (bytes ≡ front ++ rest) × (length front ≡ n) × (list_all is_ascii front ≡ true)
front_parts n bytes front rest h =
    let chosen : ((nat_le n (length bytes) && list_all is_ascii (take n bytes)) ≡ true) × (Some (take n bytes, drop n bytes) ≡ Some (front, rest)) = some_if _ _ _ h in
    let same : Some (take n bytes, drop n bytes) ≡ Some (front, rest) = chosen.1 in
    let a : take n bytes ≡ front = ap first_of_two (same_Some _ _ same) in
    let b : drop n bytes ≡ rest = ap second_of_two (same_Some _ _ same) in
    let le : n ≤ length bytes = leb-true _ _ (first_so _ _ chosen.0) in
    (sym (take-append-drop n bytes) ∙ ap (λ s. s ++ drop n bytes) a ∙ ap (λ s. front ++ s) b, sym (ap length a) ∙ omega (arith, length-take n bytes), sym (ap (list_all is_ascii) a) ∙ second_so _ _ chosen.0)

pub element_shorter : (text element rest : List ℕ) → element_at text ≡ Some (element, rest) → length rest < length text
unfolding element_at
element_shorter text element rest h =
    let chosen : (nat_lt 0 (prefix_len is_ascii_digit text) ≡ true) × (ascii_front (digits_value 10 (take (prefix_len is_ascii_digit text) text)) (drop (prefix_len is_ascii_digit text) text) ≡ Some (element, rest)) = some_if _ _ _ h in
    let pos : 0 < prefix_len is_ascii_digit text = ltb-true _ _ chosen.0 in
    let whole : drop (prefix_len is_ascii_digit text) text ≡ element ++ rest = (front_parts _ _ element rest chosen.1).0 in
    omega (arith, length-drop (prefix_len is_ascii_digit text) text, length-append element rest, ap length whole, prefix_len-le-length is_ascii_digit text)

element_of_none : element_at [] ≡ None
unfolding element_at
element_of_none = refl

elements_fuel : (n m : ℕ) (text : List ℕ) → length text ≤ n → length text ≤ m → elements_within n text ≡ elements_within m text
elements_fuel zero zero text a b = refl
elements_fuel zero (suc m) [] a b = sym (ap (λ o. elements_by o [] (elements_within m)) element_of_none)
elements_fuel zero (suc m) (x ∷ xs) a b = absurd (omega arith)
elements_fuel (suc n) zero [] a b = ap (λ o. elements_by o [] (elements_within n)) element_of_none
elements_fuel (suc n) zero (x ∷ xs) a b = absurd (omega arith)
elements_fuel (suc n) (suc m) text a b =
    elim (element_at text) as (λ o. element_at text ≡ o → elements_by o text (elements_within n) ≡ elements_by o text (elements_within m)) [
      | None ↦ λ _. refl
      | Some e ↦ λ h.
          let less : length e.1 < length text = element_shorter text e.0 e.1 h in
          ap (λ p. (e.0 ∷ p.0, p.1)) (elements_fuel n m e.1 (omega arith) (omega arith))
    ] refl

-- the elements after a first one
pub elements_some : (text element rest : List ℕ) → element_at text ≡ Some (element, rest)
    → elements_at text ≡ (element ∷ (elements_at rest).0, (elements_at rest).1)
unfolding elements_at
elements_some [] element rest h = absurd (cc (element_of_none))
elements_some (b ∷ bs) element rest h =
    let less : length rest < length (b ∷ bs) = element_shorter (b ∷ bs) element rest h in
    ap (λ o. elements_by o (b ∷ bs) (elements_within (length bs))) h
    ∙ ap (λ p. (element ∷ p.0, p.1)) (elements_fuel (length bs) (length rest) rest (omega arith) (omega arith))

-- no element stands first
pub elements_none : (text : List ℕ) → element_at text ≡ None → elements_at text ≡ ([], text)
unfolding elements_at
elements_none [] h = refl
elements_none (b ∷ bs) h = ap (λ o. elements_by o (b ∷ bs) (elements_within (length bs))) h

pub rest_some : (text element rest all : List ℕ) → element_at text ≡ Some (element, rest) → (elements_at text).1 ≡ all → (elements_at rest).1 ≡ all
rest_some text element rest all h e = sym (ap (λ p. p.1) (elements_some text element rest h)) ∙ e

pub rest_none : (text all : List ℕ) → element_at text ≡ None → (elements_at text).1 ≡ all → text ≡ all
rest_none text all h e = sym (ap (λ p. p.1) (elements_none text h)) ∙ e

-- the rest of ASCII bytes is ASCII
pub text_drop : (n : ℕ) (bytes : List ℕ) → list_all is_ascii bytes ≡ true → list_all is_ascii (drop n bytes) ≡ true
text_drop zero bytes h = h
text_drop (suc n) [] h = refl
text_drop (suc n) (b ∷ bs) h = text_drop n bs (second_so _ _ h)

pub plain_skip : (n : ℕ) (bytes : List ℕ) → plain_from n bytes ≡ plain_from 0 (drop n bytes)
plain_skip zero bytes = refl
plain_skip (suc n) [] = refl
plain_skip (suc n) (b ∷ bs) = plain_skip n bs

-- an escape after a dollar
pub escape_shown : (old new rest : List ℕ) (c n : ℕ) → escape_in rest ≡ Some (c, n) → new ≡ old ++ encode_utf8 c
    → new ++ plain_from 0 (drop n rest) ≡ old ++ plain_from 0 (byte "$" ∷ rest)
escape_shown old new rest c n e h =
    ap (λ s. s ++ plain_from 0 (drop n rest)) h
    ∙ append_assoc old (encode_utf8 c) (plain_from 0 (drop n rest))
    ∙ ap (λ s. old ++ (encode_utf8 c ++ s)) (sym (plain_skip n rest))
    ∙ sym (ap (λ o. old ++ escape_text o rest (λ k. plain_from k rest)) e)

-- no escape after a dollar
pub escape_none : (old mid new rest : List ℕ) → escape_in rest ≡ None → mid ≡ old ++ (byte "$" ∷ []) → new ≡ mid ++ rest
    → new ++ plain_from 0 (drop (length rest) rest) ≡ old ++ plain_from 0 (byte "$" ∷ rest)
escape_none old mid new rest e a b =
    let nothing : drop (length rest) rest ≡ [] = drop_all (length rest) rest (omega arith) in
    ap (λ s. new ++ plain_from 0 s) nothing
    ∙ append-nil new ∙ b ∙ ap (λ s. s ++ rest) a ∙ append_assoc old (byte "$" ∷ []) rest
    ∙ sym (ap (λ o. old ++ escape_text o rest (λ k. plain_from k rest)) e)

-- two dots
pub dots_shown : (old new rest : List ℕ) → is_first is_dot rest ≡ true → new ≡ old ++ (codes "::")
    → new ++ plain_from 0 (drop 1 rest) ≡ old ++ plain_from 0 (byte "." ∷ rest)
dots_shown old new [] e h = cc
dots_shown old new (b ∷ bs) e h =
    ap (λ s. s ++ plain_from 0 bs) h ∙ append_assoc old (codes "::") (plain_from 0 bs)
    ∙ sym (ap (λ q. old ++ (if q then codes "::" ++ plain_from 1 (b ∷ bs) else byte "." ∷ plain_from 0 (b ∷ bs))) e)

-- any other byte
pub byte_shown : (old new rest : List ℕ) (b : ℕ) → (b == byte "$") ≡ false → (is_dot b && is_first is_dot rest) ≡ false → new ≡ old ++ (b ∷ [])
    → new ++ plain_from 0 rest ≡ old ++ plain_from 0 (b ∷ rest)
byte_shown old new rest b d e h =
    ap (λ s. s ++ plain_from 0 rest) h ∙ append_assoc old (b ∷ []) (plain_from 0 rest)
    ∙ sym (ap (λ q. old ++ (if q then codes "::" ++ plain_from 1 rest else b ∷ plain_from 0 rest)) e)
    ∙ sym (ap (λ q. old ++ (if q then escape_text (escape_in rest) rest (λ n. plain_from n rest)
    else if is_dot b && is_first is_dot rest then codes "::" ++ plain_from 1 rest else b ∷ plain_from 0 rest)) d)

pub plain_end : (old bytes all : List ℕ) → length bytes ≡ 0 → old ++ plain_from 0 bytes ≡ all → old ≡ all
plain_end old [] all e h = sym (append-nil old) ∙ h
plain_end old (b ∷ bs) all e h = absurd (omega arith)

pub ruleset plain_steps = (escape_shown, escape_none, dots_shown, byte_shown, text_drop, plain_end)

-- the texts that are left to add, after colons unless none was added before
abbrev pub texts_from : Bool → List (List ℕ) → List ℕ
texts_from true texts = joined texts
texts_from false texts = after_colons texts

abbrev pub left_text : Bool → List ℕ → List ℕ
left_text first text = texts_from first (map element_text (without_hash (elements_at text).0))

texts_cons : (first : Bool) (text : List ℕ) (texts : List (List ℕ)) → texts_from first (text ∷ texts) ≡ joint_text first text ++ after_colons texts
texts_cons true text texts = refl
texts_cons false text texts = refl

texts_nil : (first : Bool) → texts_from first [] ≡ []
texts_nil true = refl
texts_nil false = refl

-- an element stays where it is no hash, or where another stands after it
kept_alone : (element : List ℕ) (elements : List (List ℕ)) → is_hash element ≡ false → without_hash (element ∷ elements) ≡ element ∷ without_hash elements
kept_alone element [] h = ap (λ q. if q then [] else element ∷ []) h
kept_alone element (e ∷ es) h = refl

kept_before : (element next : List ℕ) (elements more : List (List ℕ)) → elements ≡ next ∷ more → without_hash (element ∷ elements) ≡ element ∷ without_hash elements
kept_before element next [] more h = let bad : ⊥ = cc in absurd bad
kept_before element next (e ∷ es) more h = refl

and_not : (a : Bool) → (a && true) ≡ false → a ≡ false
and_not true h = h
and_not false h = refl

kept_here : (element rest : List ℕ) → (is_hash element && is_none (element_at rest)) ≡ false
    → without_hash (element ∷ (elements_at rest).0) ≡ element ∷ without_hash (elements_at rest).0
kept_here element rest h =
    elim (element_at rest) as (λ o. element_at rest ≡ o → (is_hash element && is_none o) ≡ false
    → without_hash (element ∷ (elements_at rest).0) ≡ element ∷ without_hash (elements_at rest).0) [
      | None ↦ λ _ q. kept_alone element (elements_at rest).0 (and_not (is_hash element) q)
      | Some e ↦ λ same _. kept_before element e.0 (elements_at rest).0 (elements_at e.1).0 (ap (λ p. p.0) (elements_some rest e.0 e.1 same))
    ] refl h

left_out_alone : (element : List ℕ) (elements : List (List ℕ)) → elements ≡ [] → is_hash element ≡ true → without_hash (element ∷ elements) ≡ without_hash elements
left_out_alone element [] e h = ap (λ q. if q then [] else element ∷ []) h
left_out_alone element (f ∷ fs) e h = let bad : ⊥ = cc in absurd bad

left_out_here : (element rest : List ℕ) → (is_hash element && is_none (element_at rest)) ≡ true
    → (elements_at rest).0 ≡ [] × is_hash element ≡ true
left_out_here element rest h =
    elim (element_at rest) as (λ o. element_at rest ≡ o → (is_hash element && is_none o) ≡ true → (elements_at rest).0 ≡ [] × is_hash element ≡ true) [
      | None ↦ λ same q. (ap (λ p. p.0) (elements_none rest same), first_so _ _ q)
      | Some e ↦ λ _ q. let bad : false ≡ true = second_so (is_hash element) false q in let worse : ⊥ = cc in absurd worse
    ] refl h

first_elements : (text element rest : List ℕ) → element_at text ≡ Some (element, rest) → (elements_at text).0 ≡ element ∷ (elements_at rest).0
first_elements text element rest h = ap (λ p. p.0) (elements_some text element rest h)

pub left_kept : (old new text element rest all : List ℕ) (first : Bool) → element_at text ≡ Some (element, rest) → (is_hash element && is_none (element_at rest)) ≡ false
    → new ≡ old ++ joint_text first (element_text element) → old ++ left_text first text ≡ all → new ++ left_text false rest ≡ all
left_kept old new text element rest all first h k added e =
    ap (λ s. s ++ left_text false rest) added
    ∙ append_assoc old (joint_text first (element_text element)) (left_text false rest)
    ∙ ap (λ s. old ++ s) (sym (texts_cons first (element_text element) (map element_text (without_hash (elements_at rest).0))))
    ∙ ap (λ es. old ++ texts_from first (map element_text es)) (sym (kept_here element rest k))
    ∙ ap (λ es. old ++ texts_from first (map element_text (without_hash es))) (sym (first_elements text element rest h))
    ∙ e

pub left_hash : (old text element rest all : List ℕ) (first : Bool) → element_at text ≡ Some (element, rest) → (is_hash element && is_none (element_at rest)) ≡ true
    → old ++ left_text first text ≡ all → old ++ left_text false rest ≡ all
left_hash old text element rest all first h k e =
    let here : ((elements_at rest).0 ≡ []) × (is_hash element ≡ true) = left_out_here element rest k in
    ap (λ es. old ++ texts_from false (map element_text (without_hash es))) here.0
    ∙ ap (λ s. old ++ s) (sym (texts_nil first))
    ∙ ap (λ es. old ++ texts_from first (map element_text (without_hash es))) (sym here.0)
    ∙ ap (λ es. old ++ texts_from first (map element_text es)) (sym (left_out_alone element (elements_at rest).0 here.0 here.1))
    ∙ ap (λ es. old ++ texts_from first (map element_text (without_hash es))) (sym (first_elements text element rest h))
    ∙ e

pub left_none : (old text all : List ℕ) (first : Bool) → element_at text ≡ None → old ++ left_text first text ≡ all → old ≡ all
left_none old text all first h e =
    sym (append-nil old)
    ∙ ap (λ s. old ++ s) (sym (texts_nil first))
    ∙ ap (λ es. old ++ texts_from first (map element_text (without_hash es))) (sym (ap (λ p. p.0) (elements_none text h)))
    ∙ e
