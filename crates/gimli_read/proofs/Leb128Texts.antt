-- What is read is the text of a number, and each such text is read (on specs/Leb128.antt).
use Rattle.gimli_read.proofs.Common.{◌≡◌, ℕ, ◌+◌, ◌-◌, ◌<◌, ◌≤◌, ◌^◌, Bool, true, false, cond, ltb, nat_lt, List, ◌++◌, length, take, drop, get_or, Option, Some, None, Ok, Err, refl, sym, ap, subst, ◌∙◌, inl, inr, arith, position, lt-ltb, le-ltb, ltb-true, ltb-false, take_at, drop_at, length-append, get_or-take, take-append-drop, common_steps, BadLeb128, fits_i64, uleb128_value, sleb128_value, cut_after, leb128_text, uleb128_in, sleb128_in, IsLeb128Text, ReadsUleb128, ReadsUleb128Alone, ReadsSleb128, ReadsSleb128Alone}
use Rattle.std.proofs.lemmas.List.{length-take}
use Rattle.std.proofs.lemmas.List.Sums.{position_or_len_is}
use Rattle.std.proofs.lemmas.List.Quantifiers.{position-Some}
use Rattle.gimli_read.proofs.Steps.{bind_ok, branch_taken, same_rest, same_value}

position_at : (p : ℕ → Bool) (xs : List ℕ) (i : ℕ) → i < length xs → ((k : ℕ) → k < i → p (get_or xs k 0) ≡ false) → p (get_or xs i 0) ≡ true → position p xs ≡ Some i
position_at p xs i h before at =
    let e = position_or_len_is p xs i 0 (omega arith) before (λ _. at) in
    rw (e, lt-ltb i (length xs) h) refl

front_of : (text rest : List ℕ) (k : ℕ) → length text ≤ 10 → k < length text → get_or (take 10 (text ++ rest)) k 0 ≡ get_or text k 0
front_of text rest k short h = get_or-take 10 (text ++ rest) k 0 (omega arith) ∙ grind (arith, common_steps)

pub leb128_text-whole : (text rest : List ℕ) → IsLeb128Text text → leb128_text (text ++ rest) ≡ Ok (text, rest)
leb128_text-whole text rest t =
    let i : ℕ = length text - 1 in
    let one : i + 1 ≡ length text = omega (arith, t.some) in
    let at = position_at (λ b. nat_lt b 128) (take 10 (text ++ rest)) i (omega (arith, t.some, t.at_most_ten, length-take 10 (text ++ rest), length-append text rest)) (λ k h. rw (front_of text rest k t.at_most_ten (omega (arith, t.some))) (le-ltb _ _ (t.continued k (omega (arith, t.some))))) (rw (front_of text rest i t.at_most_ten (omega (arith, t.some))) (lt-ltb _ _ t.ended)) in
    ap (cut_after (text ++ rest)) at ∙ rw (take_at text rest (i + 1) (sym one), drop_at text rest (i + 1) (sym one)) refl

pub uleb128_reads : ReadsUleb128
unfolding uleb128_in
uleb128_reads text rest n u = rw (leb128_text-whole text rest u.0) (rw (← u.1, lt-ltb n (2 ^ 64) u.2) refl)

leb128_text_front : (bytes : List ℕ) (n : ℕ) → position (λ b. nat_lt b 128) (take 10 bytes) ≡ Some n → IsLeb128Text (take (n + 1) bytes)
leb128_text_front bytes n e =
    let p = position-Some (λ b. nat_lt b 128) (take 10 bytes) n 0 e in
    let within : n < 10 = omega (arith, p.0, length-take 10 bytes) in
    let long : n < length bytes = omega (arith, p.0, length-take 10 bytes) in
    let len : length (take (n + 1) bytes) ≡ n + 1 = omega (arith, length-take (n + 1) bytes) in
    let at : (k : ℕ) → k ≤ n → get_or (take (n + 1) bytes) k 0 ≡ get_or (take 10 bytes) k 0 = λ k h. get_or-take (n + 1) bytes k 0 (omega arith) ∙ sym (get_or-take 10 bytes k 0 (omega arith)) in
    record {
      some = omega arith;
      at_most_ten = omega arith;
      continued = λ k h. rw (at k (omega arith)) (ltb-false _ _ (p.2 k (omega arith)));
      ended = let i : length (take (n + 1) bytes) - 1 ≡ n = omega arith in rw (i, at n (omega arith)) (ltb-true _ _ p.1);
    }

leb128_text_is : (bytes : List ℕ) (o : Option ℕ) (text rest : List ℕ) → position (λ b. nat_lt b 128) (take 10 bytes) ≡ o → cut_after bytes o ≡ Ok (text, rest) → IsLeb128Text text × (bytes ≡ text ++ rest)
leb128_text_is bytes None text rest is e = absurd cc
leb128_text_is bytes (Some n) text rest is e =
    let r : drop (n + 1) bytes ≡ rest = same_rest (take (n + 1) bytes, drop (n + 1) bytes) (text, rest) e in
    let t : take (n + 1) bytes ≡ text = same_value (take (n + 1) bytes, drop (n + 1) bytes) (text, rest) e in
    (subst IsLeb128Text t (leb128_text_front bytes n is), rw (← t, ← r) (sym (take-append-drop (n + 1) bytes)))

pub uleb128_alone : ReadsUleb128Alone
unfolding uleb128_in
uleb128_alone bytes rest n e =
    let b = bind_ok (leb128_text bytes) (λ text. cond (ltb (uleb128_value text.0) (2 ^ 64)) (Ok (uleb128_value text.0, text.1)) (Err BadLeb128)) (n, rest) e in
    let s = leb128_text_is bytes (position (λ b. nat_lt b 128) (take 10 bytes)) b.0.0 b.0.1 refl b.1 in
    elim (branch_taken (ltb (uleb128_value b.0.0) (2 ^ 64)) (Ok (uleb128_value b.0.0, b.0.1)) (Err BadLeb128) (Ok (n, rest)) b.2) [
      | inl t ↦
          let r : b.0.1 ≡ rest = same_rest (uleb128_value b.0.0, b.0.1) (n, rest) t.1 in
          let v : uleb128_value b.0.0 ≡ n = same_value (uleb128_value b.0.0, b.0.1) (n, rest) t.1 in
          (b.0.0, (s.0, sym v, omega (arith, v, ltb-true _ _ t.0)), s.1 ∙ ap (λ (after : List ℕ). b.0.0 ++ after) r)
      | inr f ↦ absurd (cc (f.1))
    ]

pub sleb128_reads : ReadsSleb128
unfolding sleb128_in
sleb128_reads text rest z u = rw (leb128_text-whole text rest u.0) (rw (← u.1, u.2) refl)

pub sleb128_alone : ReadsSleb128Alone
unfolding sleb128_in
sleb128_alone bytes rest z e =
    let b = bind_ok (leb128_text bytes) (λ text. cond (fits_i64 (sleb128_value text.0)) (Ok (sleb128_value text.0, text.1)) (Err BadLeb128)) (z, rest) e in
    let s = leb128_text_is bytes (position (λ b. nat_lt b 128) (take 10 bytes)) b.0.0 b.0.1 refl b.1 in
    elim (branch_taken (fits_i64 (sleb128_value b.0.0)) (Ok (sleb128_value b.0.0, b.0.1)) (Err BadLeb128) (Ok (z, rest)) b.2) [
      | inl t ↦
          let r : b.0.1 ≡ rest = same_rest (sleb128_value b.0.0, b.0.1) (z, rest) t.1 in
          let v : sleb128_value b.0.0 ≡ z = same_value (sleb128_value b.0.0, b.0.1) (z, rest) t.1 in
          (b.0.0, (s.0, sym v, ap fits_i64 (sym v) ∙ t.0), s.1 ∙ ap (λ (after : List ℕ). b.0.0 ++ after) r)
      | inr f ↦ absurd (cc (f.1))
    ]
