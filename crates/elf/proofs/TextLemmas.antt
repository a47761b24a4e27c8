-- Texts that end before their zero byte (on specs/SectionBytes.antt and specs/Sections.antt).
use Rattle.elf.proofs.Common.{ℕ, zero, suc, ◌≡◌, ◌≤◌, ◌+◌, Bool, true, false, cond, not, List, [], ◌∷◌, Some, None, length, take, nat_lt, nat_le, ◌==◌, arith, ◌∙◌, ap, sym, refl, option_and_then, position_or_len, nat_tests, take_all, front_text}
use Rattle.std.specs.Prelude.{Option, option_map}

-- the text, if it has no more than so many bytes
abbrev pub if_short : ℕ → List ℕ → Option (List ℕ)
if_short limit text = cond (nat_le (length text) limit) (Some text) None

-- the text of a byte and what follows it, by whether that byte is zero
shape : (is_zero : Bool) (n len b : ℕ) (bytes : List ℕ) → is_zero ≡ false
    → option_map (λ k. take k (b ∷ bytes)) (cond (nat_lt (cond (not is_zero) (1 + n) 0) (suc len)) (Some (cond (not is_zero) (1 + n) 0)) None)
    ≡ option_map (λ t. b ∷ t) (option_map (λ k. take k bytes) (cond (nat_lt n len) (Some n) None))
shape true n len b bytes e = absurd cc
shape false n len b bytes e = by_cases (nat_lt n len) refl
  where
    by_cases : (t : Bool) → nat_lt n len ≡ t → option_map (λ k. take k (b ∷ bytes)) (cond (nat_lt (1 + n) (suc len)) (Some (1 + n)) None)
        ≡ option_map (λ t. b ∷ t) (option_map (λ k. take k bytes) (cond t (Some n) None))
    by_cases true t =
        let step : nat_lt (1 + n) (suc len) ≡ true = grind (arith, nat_tests) in
        let one : 1 + n ≡ suc n = omega arith in
        ap (λ (v : Bool). option_map (λ k. take k (b ∷ bytes)) (cond v (Some (1 + n)) None)) step ∙ ap (λ k. Some (take k (b ∷ bytes))) one
    by_cases false t =
        let step : nat_lt (1 + n) (suc len) ≡ false = grind (arith, nat_tests) in
        ap (λ (v : Bool). option_map (λ k. take k (b ∷ bytes)) (cond v (Some (1 + n)) None)) step

-- a byte other than zero belongs to the text
pub front_text_next : (b : ℕ) (bytes : List ℕ) → (b == 0) ≡ false → front_text (b ∷ bytes) ≡ option_map (λ t. b ∷ t) (front_text bytes)
front_text_next b bytes e = shape (b == 0) (position_or_len (λ x. x == 0) bytes) (length bytes) b bytes e

-- the text before a zero byte is empty
pub front_text_zero : (b : ℕ) (bytes : List ℕ) → (b == 0) ≡ true → front_text (b ∷ bytes) ≡ Some []
front_text_zero b bytes e = at_zero (b == 0) e (position_or_len (λ x. x == 0) bytes) (length bytes)
  where
    at_zero : (is_zero : Bool) → is_zero ≡ true → (n len : ℕ) → option_map (λ k. take k (b ∷ bytes)) (cond (nat_lt (cond (not is_zero) (1 + n) 0) (suc len)) (Some (cond (not is_zero) (1 + n) 0)) None) ≡ Some []
    at_zero true e n len =
        let step : nat_lt 0 (suc len) ≡ true = grind (arith, nat_tests) in
        ap (λ (v : Bool). option_map (λ k. take k (b ∷ bytes)) (cond v (Some 0) None)) step
    at_zero false e n len = absurd cc

-- a byte in front, before or after the choice of short texts
longer : (b l : ℕ) (o : Option (List ℕ)) → option_map (λ t. b ∷ t) (option_and_then (if_short l) o) ≡ option_and_then (if_short (suc l)) (option_map (λ t. b ∷ t) o)
longer b l None = refl
longer b l (Some t) = by_cases (nat_le (length t) l) refl
  where
    by_cases : (v : Bool) → nat_le (length t) l ≡ v → option_map (λ t. b ∷ t) (cond v (Some t) None) ≡ if_short (suc l) (b ∷ t)
    by_cases true e =
        let step : nat_le (suc (length t)) (suc l) ≡ true = grind (arith, nat_tests) in
        sym (ap (λ (v : Bool). cond v (Some (b ∷ t)) None) step)
    by_cases false e =
        let step : nat_le (suc (length t)) (suc l) ≡ false = grind (arith, nat_tests) in
        sym (ap (λ (v : Bool). cond v (Some (b ∷ t)) None) step)

-- no text with a byte in front is of no bytes
none_short : (b : ℕ) (o : Option (List ℕ)) → None ≡ option_and_then (if_short 0) (option_map (λ t. b ∷ t) o)
none_short b None = refl
none_short b (Some t) =
    let step : nat_le (suc (length t)) 0 ≡ false = grind (arith, nat_tests) in
    sym (ap (λ (v : Bool). cond v (Some (b ∷ t)) None) step)

-- one byte more than the limit shows the texts within it
pub front_text_within : (limit : ℕ) (bytes : List ℕ) → front_text (take (suc limit) bytes) ≡ option_and_then (if_short limit) (front_text bytes)
front_text_within limit [] = refl
front_text_within limit (b ∷ bytes) = by_cases (b == 0) refl (λ l. front_text_within l bytes)
  where
    by_limit : (l : ℕ) → (b == 0) ≡ false → ((k : ℕ) → front_text (take (suc k) bytes) ≡ option_and_then (if_short k) (front_text bytes))
        → front_text (take (suc l) (b ∷ bytes)) ≡ option_and_then (if_short l) (option_map (λ t. b ∷ t) (front_text bytes))
    by_limit zero e next = front_text_next b [] e ∙ none_short b (front_text bytes)
    by_limit (suc l) e next = front_text_next b (take (suc l) bytes) e ∙ ap (option_map (λ t. b ∷ t)) (next l) ∙ longer b l (front_text bytes)

    by_cases : (v : Bool) → (b == 0) ≡ v → ((k : ℕ) → front_text (take (suc k) bytes) ≡ option_and_then (if_short k) (front_text bytes))
        → front_text (take (suc limit) (b ∷ bytes)) ≡ option_and_then (if_short limit) (front_text (b ∷ bytes))
    by_cases true e next =
        let step : nat_le 0 limit ≡ true = grind (arith, nat_tests) in
        front_text_zero b (take limit bytes) e ∙ sym (ap (option_and_then (if_short limit)) (front_text_zero b bytes e) ∙ ap (λ (v : Bool). cond v (Some []) None) step)
    by_cases false e next = by_limit limit e next ∙ sym (ap (option_and_then (if_short limit)) (front_text_next b bytes e))

-- all bytes show the texts within their number
pub front_text_all : (limit : ℕ) (bytes : List ℕ) → length bytes ≤ limit → front_text bytes ≡ option_and_then (if_short limit) (front_text bytes)
front_text_all limit bytes h =
    let all : take (suc limit) bytes ≡ bytes = take_all (suc limit) bytes (omega arith) in
    ap front_text (sym all) ∙ front_text_within limit bytes
