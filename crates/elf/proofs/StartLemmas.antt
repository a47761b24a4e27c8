-- Where texts in UTF-8 begin, from the last place of a table to the first (on
-- specs/TextStarts.antt).
use Rattle.elf.proofs.Common.{ℕ, zero, suc, ◌≡◌, ◌≢◌, ◌<◌, ◌≤◌, ◌+◌, ◌-◌, Bool, true, false, cond, List, [], ◌∷◌, ◌++◌, Some, None, length, take, drop, Vec, Global, get_or, slice_index, ◌==◌, ◌&&◌, ltb-true, arith, ◌∙◌, ap, sym, subst, refl, option_and_then, IsUtf8, encode_utf8_all, is_utf8, eqb-true, and_parts, eq-eqb, ne_eqb, take-append-drop, front_text, utf8_from, name_from, IsAscii, list_all, AreStarts, begins_text, is_ascii_table, text_starts, TextAfter, IsTextDistance}
use Rattle.std.specs.Prelude.{Option, option_map, is_some}
use Rattle.std.specs.Char.{len_utf8}
use Rattle.std.proofs.lemmas.Str.{IsUtf8-nil, IsUtf8-from_ascii, IsUtf8-append, IsUtf8-take, IsUtf8-past_char, IsCharBoundary-from_drop, drop_past_char, len_utf8_bounds, is_utf8-from_IsUtf8, IsUtf8-from_is_utf8}
use Rattle.std.specs.Char.{is_ascii}
use Rattle.std.proofs.lemmas.Str.Ascii.{IsAscii-cons, IsAscii-nil}
use Rattle.elf.specs.declared.text_starts.TextStarts.TheVariants.{Everywhere, Marked}
use Rattle.elf.proofs.TextLemmas.{front_text_next, front_text_zero}

-- at a zero byte the empty text begins
pub start_at_zero : (tail : List ℕ) → 0 < length tail → slice_index tail 0 ≡ 0 → IsTextDistance tail (Some 0)
start_at_zero [] some e = absurd (omega arith)
start_at_zero (b ∷ bytes) some e = (
  [],
  record {
    is_text = front_text_zero b bytes (eq-eqb b 0 e);
    in_bytes = omega arith;
    in_text = omega arith;
    front = refl;
    starts = IsUtf8-nil;
    none_before = λ k l. absurd (omega arith);
  },
)

-- a text with one byte in front
text_of_next : (b : ℕ) (bytes text : List ℕ) → b ≢ 0 → front_text bytes ≡ Some text → front_text (b ∷ bytes) ≡ Some (b ∷ text)
text_of_next b bytes text e h = front_text_next b bytes (ne_eqb b 0 e) ∙ ap (option_map (λ t. b ∷ t)) h

-- what is UTF-8 up to the nearest text begins a text
pub start_found : (tail : List ℕ) (d : ℕ) → 0 < length tail → slice_index tail 0 ≢ 0 → IsTextDistance (drop 1 tail) (Some d) → IsUtf8 (take (suc d) tail) → IsTextDistance tail (Some 0)
start_found [] d some e h u = absurd (omega arith)
start_found (b ∷ bytes) d some e h u =
    let text = h.0 in
    let u' : IsUtf8 (b ∷ take d text) = subst (λ (xs : List ℕ). IsUtf8 (b ∷ xs)) h.1.front u in
    let whole : IsUtf8 (take (suc d) (b ∷ text) ++ drop (suc d) (b ∷ text)) = IsUtf8-append (b ∷ take d text) (drop d text) u' h.1.starts in (
      b ∷ text,
      record {
        is_text = text_of_next b bytes text e h.1.is_text;
        in_bytes = omega arith;
        in_text = omega arith;
        front = refl;
        starts = subst IsUtf8 (take-append-drop (suc d) (b ∷ text)) whole;
        none_before = λ k l. absurd (omega arith);
      },
    )

-- no text begins here, and the nearest one stays
further : (b d : ℕ) (bytes text : List ℕ) → b ≢ 0 → TextAfter bytes d text → ¬ (IsUtf8 (b ∷ text)) → TextAfter (b ∷ bytes) (suc d) (b ∷ text)
further b d bytes text e h isnt = record {
  is_text = text_of_next b bytes text e h.is_text;
  in_bytes = (let l = h.in_bytes in omega arith);
  in_text = (let l = h.in_text in omega arith);
  front = ap (λ (xs : List ℕ). b ∷ xs) h.front;
  starts = h.starts;
  none_before = none;
}
  where
    none : (k : ℕ) → k < suc d → ¬ (IsUtf8 (drop k (b ∷ text)))
    none zero l = isnt
    none (suc k) l = h.none_before k (omega arith)

-- what is not UTF-8 up to the nearest text begins no text
pub start_broken : (tail : List ℕ) (d : ℕ) → 0 < length tail → slice_index tail 0 ≢ 0 → IsTextDistance (drop 1 tail) (Some d) → ¬ (IsUtf8 (take (suc d) tail)) → IsTextDistance tail (Some (suc d))
start_broken [] d some e h isnt = absurd (omega arith)
start_broken (b ∷ bytes) d some e h isnt =
    let text = h.0 in
    let long : suc d ≤ length (b ∷ text) = (let l = h.1.in_text in omega arith) in
    let bad : ¬ (IsUtf8 (b ∷ text)) = λ u.
    let cut = IsUtf8-take (b ∷ text) (suc d) u (IsCharBoundary-from_drop (b ∷ text) (suc d) long h.1.starts) in
    isnt (subst (λ (xs : List ℕ). IsUtf8 (b ∷ xs)) (sym h.1.front) cut) in
    (b ∷ text, further b d bytes text e h.1 bad)

-- a text that is not empty is a character of one to four bytes and a text
first_char : (text : List ℕ) → 0 < length text → IsUtf8 text → (n : ℕ) × (0 < n) × (n ≤ 4) × IsUtf8 (drop n text)
first_char text some u = by u.0 u.1.1
  where
    by : (cs : List ℕ) → encode_utf8_all cs ≡ text → (n : ℕ) × (0 < n) × (n ≤ 4) × IsUtf8 (drop n text)
    by [] e = absurd (let l : 0 ≡ length text = ap length e in omega arith)
    by (c ∷ cs) e =
        let rest = encode_utf8_all cs in
        let past : drop (0 + len_utf8 c) text ≡ rest = drop_past_char text rest 0 c (sym e) in
        let bounds = len_utf8_bounds c in
        let n : 0 + len_utf8 c ≡ len_utf8 c = omega arith in
        (len_utf8 c, (let l = bounds.0 in omega arith), bounds.1, subst IsUtf8 (sym (ap (λ (k : ℕ). drop k text) (sym n) ∙ past)) (IsUtf8-past_char text rest c u (sym e)))

-- where the nearest text is more than four bytes away no text begins
pub start_far : (tail : List ℕ) (d : ℕ) → 0 < length tail → slice_index tail 0 ≢ 0 → IsTextDistance (drop 1 tail) (Some d) → 4 < suc d → IsTextDistance tail (Some (suc d))
start_far [] d some e h far = absurd (omega arith)
start_far (b ∷ bytes) d some e h far =
    let text = h.0 in
    let bad : ¬ (IsUtf8 (b ∷ text)) = λ u. none_near (first_char (b ∷ text) (omega arith) u) in
    (b ∷ text, further b d bytes text e h.1 bad)
  where
    none_near : (n : ℕ) × (0 < n) × (n ≤ 4) × IsUtf8 (drop n (b ∷ h.0)) → ⊥
    none_near p = by p.0 p.1 p.2 p.3
      where
        by : (n : ℕ) → 0 < n → n ≤ 4 → ¬ (IsUtf8 (drop n (b ∷ h.0)))
        by zero l m u = absurd (omega arith)
        by (suc k) l m u = h.1.none_before k (omega arith) u

utf8_test : (bytes : List ℕ) → IsUtf8 bytes → is_some (utf8_from bytes) ≡ true
utf8_test bytes u = ap (λ (v : Bool). is_some (cond v (Some bytes) None)) (is_utf8-from_IsUtf8 bytes u)

utf8_test_fails : (bytes : List ℕ) → ¬ (IsUtf8 bytes) → is_some (utf8_from bytes) ≡ false
utf8_test_fails bytes h = by_cases (is_utf8 bytes) refl
  where
    by_cases : (v : Bool) → is_utf8 bytes ≡ v → is_some {T = List ℕ} (cond v (Some bytes) None) ≡ false
    by_cases true e = absurd (h (IsUtf8-from_is_utf8 bytes e))
    by_cases false e = refl

-- a text begins where its distance is zero
pub begins_at_zero : (tail : List ℕ) → IsTextDistance tail (Some 0) → begins_text tail ≡ true
begins_at_zero tail h = ap (λ (t : Option (List ℕ)). is_some (option_and_then utf8_from t)) h.1.is_text ∙ utf8_test h.0 h.1.starts

pub begins_not_further : (tail : List ℕ) (d : ℕ) → d ≢ 0 → IsTextDistance tail (Some d) → begins_text tail ≡ false
begins_not_further tail d some h = ap (λ (t : Option (List ℕ)). is_some (option_and_then utf8_from t)) h.1.is_text ∙ utf8_test_fails h.0 (h.1.none_before 0 (omega arith))

pub begins_not_without : (tail : List ℕ) → IsTextDistance tail None → begins_text tail ≡ false
begins_not_without tail h = ap (λ (t : Option (List ℕ)). is_some (option_and_then utf8_from t)) h

-- one place more, and the last one
pub starts_next : (table : List ℕ) (k : ℕ) → k < length table → text_starts (drop k table) ≡ begins_text (drop k table) ∷ text_starts (drop (suc k) table)
starts_next [] k l = absurd (omega arith)
starts_next (b ∷ bytes) zero l = refl
starts_next (b ∷ bytes) (suc k) l = starts_next bytes k (omega arith)

-- a table's marks by place
starts_at : (table : List ℕ) (k : ℕ) → k < length table → get_or (text_starts table) k false ≡ begins_text (drop k table)
starts_at [] k l = absurd (omega arith)
starts_at (b ∷ bytes) zero l = refl
starts_at (b ∷ bytes) (suc k) l = starts_at bytes k (omega arith)

-- in a tail that is ASCII alone and ends in a zero byte the nearest text begins at once
nearest_in_ascii : (b : ℕ) (bytes : List ℕ) → IsAscii (b ∷ bytes) → get_or (b ∷ bytes) (length bytes) 1 ≡ 0 → IsTextDistance (b ∷ bytes) (Some 0)
nearest_in_ascii zero bytes ascii ends = start_at_zero (zero ∷ bytes) (omega arith) refl
nearest_in_ascii (suc n) [] ascii ends = absurd (omega arith)
nearest_in_ascii (suc n) (c ∷ bytes) ascii ends =
    start_found (suc n ∷ c ∷ bytes) 0 (omega arith) (λ e. absurd (omega arith)) (nearest_in_ascii c bytes (λ i. ascii (suc i)) ends)
    (IsUtf8-from_ascii (suc n ∷ []) (IsAscii-cons (suc n) [] (ascii 0) IsAscii-nil))

-- a tail of such a table is another one
ascii_tail : (b : ℕ) (bytes : List ℕ) (k : ℕ) → k < length (b ∷ bytes) → IsAscii (b ∷ bytes) → get_or (b ∷ bytes) (length bytes) 1 ≡ 0 → IsTextDistance (drop k (b ∷ bytes)) (Some 0)
ascii_tail b bytes zero l ascii ends = nearest_in_ascii b bytes ascii ends
ascii_tail b [] (suc k) l ascii ends = absurd (omega arith)
ascii_tail b (c ∷ bytes) (suc k) l ascii ends = ascii_tail c bytes k (omega arith) (λ i. ascii (suc i)) ends

-- bytes are ASCII where the test of each says so
ascii_by_test : (bytes : List ℕ) → list_all is_ascii bytes ≡ true → IsAscii bytes
ascii_by_test [] e = IsAscii-nil
ascii_by_test (b ∷ bytes) e = let p = and_parts _ _ e in IsAscii-cons b bytes (ltb-true b 128 p.0) (ascii_by_test bytes p.1)

-- at each place of such a table a text begins
pub starts_everywhere : (table : List ℕ) → is_ascii_table table ≡ true → AreStarts table Everywhere
starts_everywhere [] e k l = absurd (omega arith)
starts_everywhere (b ∷ bytes) e k l =
    let p = and_parts _ _ e in
    let ascii = ascii_by_test (b ∷ bytes) p.1 in
    let last : suc (length bytes) - 1 ≡ length bytes = omega arith in
    let ends' : get_or (b ∷ bytes) (length bytes) 1 ≡ 0 = subst (λ n. get_or (b ∷ bytes) n 1 ≡ 0) last (eqb-true _ 0 p.0) in
    sym (begins_at_zero (drop k (b ∷ bytes)) (ascii_tail b bytes k l ascii ends'))

-- marks by place are where texts begin
pub starts_marked : (table : List ℕ) (v : Vec Bool Global) → v.items ≡ text_starts table → AreStarts table (Marked v)
starts_marked table v e k l = ap (λ (marks : List Bool). get_or marks k false) e ∙ starts_at table k l

-- a text begins exactly where its distance is zero
pub begins_by_distance : (tail : List ℕ) (d : ℕ) → IsTextDistance tail (Some d) → (d == 0) ≡ begins_text tail
begins_by_distance tail zero h = sym (begins_at_zero tail h)
begins_by_distance tail (suc d) h = ne_eqb (suc d) 0 (λ e. absurd (omega arith)) ∙ sym (begins_not_further tail (suc d) (λ e. absurd (omega arith)) h)

nonempty_name : (b : ℕ) (o : Option (List ℕ)) → is_some (option_and_then utf8_from (option_map (λ t. b ∷ t) o)) ≡ is_some (option_and_then name_from (option_map (λ t. b ∷ t) o))
nonempty_name b None = refl
nonempty_name b (Some t) = sym (ap (λ (v : Bool). is_some (cond v None (utf8_from (b ∷ t)))) (ne_eqb (suc (length t)) 0 (λ e. absurd (omega arith))))

-- a name is a text that is not empty
pub name_begins : (names : List ℕ) (k : ℕ) → k < length names → slice_index names k ≢ 0
    → begins_text (drop k names) ≡ is_some (option_and_then name_from (front_text (drop k names)))
name_begins [] k l e = absurd (omega arith)
name_begins (b ∷ bytes) zero l e =
    let next = front_text_next b bytes (ne_eqb b 0 e) in
    ap (λ (t : Option (List ℕ)). is_some (option_and_then utf8_from t)) next ∙ nonempty_name b (front_text bytes) ∙ sym (ap (λ (t : Option (List ℕ)). is_some (option_and_then name_from t)) next)
name_begins (b ∷ bytes) (suc k) l e = name_begins bytes k (omega arith) e
