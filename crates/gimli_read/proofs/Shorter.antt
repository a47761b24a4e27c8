-- What is read takes bytes: each value of a reading leaves less than there was.
use Rattle.gimli_read.proofs.Common.{◌≡◌, ℕ, ◌+◌, ◌<◌, ◌≤◌, List, length, take, Option, Some, None, Result, Ok, Err, Bool, true, false, cond, IfOk, IfSome, nat_lt, ltb, refl, arith, length-drop, length-take, ◌^◌, zero, suc, position, IfOk-at_ok, Error, UnexpectedEof, BadLeb128, Format, Dwarf32, Dwarf64, Section, first, after, Reading, ◌>>=◌, fits_i64, number_of, fixed_at, skipped_at, split_at, offset_at, long_length_at, initial_length_at, address_at, is_address_size, uleb128_value, sleb128_value, cut_after, leb128_text, uleb128_in, sleb128_in, uleb128_at, sleb128_at}
use Rattle.std.proofs.lemmas.Bool.Decides.{nat_tests}
use Rattle.std.proofs.lemmas.List.Quantifiers.{position-Some}
use Rattle.gimli_read.specs.declared.constants.TheConstants.{FIRST_RESERVED_LENGTH, LENGTH_ESCAPE}

-- each value of a reading leaves fewer than n bytes
pub record Shorter {A : Type 0} (n : ℕ) (r : Reading A) : Type 0 where
  pub by : IfOk r (λ x. length x.1.bytes < n)

pub shorter_bind : {A B : Type 0} {n m : ℕ} {r : Reading A} {f : A × Section → Reading B} → Shorter m r → ((x : A × Section) → length x.1.bytes < m → Shorter n (f x)) → Shorter n (r >>= f)
shorter_bind {r = Ok x} h k = k x h.by
shorter_bind {r = Err e} h k = record { by = tt }

-- a step that reads nothing
pub shorter_then : {A B : Type 0} {n : ℕ} (r : Result A Error) {f : A → Reading B} → ((x : A) → Shorter n (f x)) → Shorter n (r >>= f)
shorter_then (Ok x) k = k x
shorter_then (Err e) k = record { by = tt }

pub shorter_if : {A : Type 0} {n : ℕ} (b : Bool) {r s : Reading A} → Shorter n r → Shorter n s → Shorter n (cond b r s)
shorter_if true h k = h
shorter_if false h k = k

pub shorter_err : {A : Type 0} {n : ℕ} {e : Error} → Shorter {A = A} n (Err e)
shorter_err = record { by = tt }

pub shorter_ok : {A : Type 0} {n : ℕ} {x : A} {s : Section} → length s.bytes < n → Shorter {A = A} n (Ok (x, s))
shorter_ok h = record { by = h }

pub shorter_weaker : {A : Type 0} {m n : ℕ} {r : Reading A} → Shorter m r → m ≤ n → Shorter n r
shorter_weaker {r = Ok x} h k = record { by = omega (arith, h.by) }
shorter_weaker {r = Err e} h k = record { by = tt }

-- what a reading that is shorter left
pub shorter_at : {A : Type 0} {n : ℕ} {r : Reading A} → Shorter n r → (x : A) (t : Section) → r ≡ Ok (x, t) → length t.bytes < n
shorter_at {A = A} h x t e = IfOk-at_ok (λ (p : A × Section). length p.1.bytes < _) e h.by

pub fixed-shorter : (n : ℕ) (s : Section) → 0 < n → Shorter (length s.bytes) (fixed_at n s)
fixed-shorter n s h = by_cases (ltb (length s.bytes) n) refl
  where
    by_cases : (b : Bool) → ltb (length s.bytes) n ≡ b → Shorter (length s.bytes) (cond b (Err UnexpectedEof) (Ok (number_of s.endian n s.bytes, after n s)))
    by_cases true e = record { by = tt }
    by_cases false e = record { by = simp length-drop (grind (arith, nat_tests)) }

pub address-shorter : (size : ℕ) (s : Section) → Shorter (length s.bytes) (address_at size s)
address-shorter zero s = record { by = tt }
address-shorter (suc n) s = shorter_if (is_address_size (suc n)) (fixed-shorter (suc n) s (omega arith)) shorter_err

-- no value of a reading leaves more than n bytes: fewer than one more
pub skipped-shorter : (n : ℕ) (s : Section) → Shorter (length s.bytes + 1) (skipped_at n s)
skipped-shorter n s = by_cases (ltb (length s.bytes) n)
  where
    by_cases : (b : Bool) → Shorter {A = Unit {0}} (length s.bytes + 1) (cond b (Err UnexpectedEof) (Ok (tt, after n s)))
    by_cases true = record { by = tt }
    by_cases false = record { by = simp length-drop (omega arith) }

pub split-shorter : (n : ℕ) (s : Section) → Shorter (length s.bytes + 1) (split_at n s)
split-shorter n s = by_cases (ltb (length s.bytes) n)
  where
    by_cases : (b : Bool) → Shorter {A = Section} (length s.bytes + 1) (cond b (Err UnexpectedEof) (Ok (first n s, after n s)))
    by_cases true = record { by = tt }
    by_cases false = record { by = simp length-drop (omega arith) }

pub offset-shorter : (format : Format) (s : Section) → Shorter (length s.bytes) (offset_at format s)
offset-shorter Dwarf32 s = fixed-shorter 4 s (omega arith)
offset-shorter Dwarf64 s = fixed-shorter 8 s (omega arith)

pub initial_length-shorter : (s : Section) → Shorter (length s.bytes) (initial_length_at s)
unfolding initial_length_at long_length_at
initial_length-shorter s =
    shorter_bind (fixed-shorter 4 s (omega arith)) (λ x h.
    shorter_if (nat_lt x.0 FIRST_RESERVED_LENGTH) (shorter_ok h)
    (shorter_if (nat_lt x.0 LENGTH_ESCAPE) shorter_err
    (shorter_bind (fixed-shorter 8 x.1 (omega arith)) (λ y k. shorter_ok (omega arith)))))

last_within : (bytes : List ℕ) (n : ℕ) → position (λ b. nat_lt b 128) (take 10 bytes) ≡ Some n → n < length bytes
last_within bytes n e =
    let p = position-Some (λ b. nat_lt b 128) (take 10 bytes) n 0 e in
    omega (arith, p.0, length-take 10 bytes)

-- what a reading of bytes leaves is less than they were
record Less {A : Type 0} (n : ℕ) (r : Result (A × List ℕ) Error) : Type 0 where
  by : IfOk r (λ x. length x.1 < n)

cut_less : (bytes : List ℕ) (o : Option ℕ) → ((n : ℕ) → o ≡ Some n → n < length bytes) → Less (length bytes) (cut_after bytes o)
cut_less bytes None h = record { by = tt }
cut_less bytes (Some n) h = let k = h n refl in record { by = simp length-drop (omega arith) }

-- a value made of the text, or a fault
less_valued : {A : Type 0} (n : ℕ) (r : Result (List ℕ × List ℕ) Error) (fits : List ℕ → Bool) (value : List ℕ → A) → Less n r → Less n (r >>= λ text. cond (fits text.0) (Ok (value text.0, text.1)) (Err BadLeb128))
less_valued n (Err e) fits value h = record { by = tt }
less_valued {A = A} n (Ok text) fits value h = by_cases (fits text.0)
  where
    by_cases : (b : Bool) → Less {A = A} n (cond b (Ok (value text.0, text.1)) (Err BadLeb128))
    by_cases true = record { by = h.by }
    by_cases false = record { by = tt }

within-shorter : {A : Type 0} (s : Section) (r : Result (A × List ℕ) Error) → Less (length s.bytes) r → Shorter {A = A} (length s.bytes) (r >>= λ x. Ok (x.0, record s { bytes = x.1 }))
within-shorter s (Ok x) h = record { by = h.by }
within-shorter s (Err e) h = record { by = tt }

text_less : (bytes : List ℕ) → Less (length bytes) (leb128_text bytes)
text_less bytes = cut_less bytes (position (λ b. nat_lt b 128) (take 10 bytes)) (last_within bytes)

uleb128_less : (bytes : List ℕ) → Less (length bytes) (uleb128_in bytes)
unfolding uleb128_in
uleb128_less bytes = less_valued (length bytes) (leb128_text bytes) (λ text. nat_lt (uleb128_value text) (2 ^ 64)) uleb128_value (text_less bytes)

sleb128_less : (bytes : List ℕ) → Less (length bytes) (sleb128_in bytes)
unfolding sleb128_in
sleb128_less bytes = less_valued (length bytes) (leb128_text bytes) (λ text. fits_i64 (sleb128_value text)) sleb128_value (text_less bytes)

pub uleb128-shorter : (s : Section) → Shorter (length s.bytes) (uleb128_at s)
uleb128-shorter s = within-shorter s (uleb128_in s.bytes) (uleb128_less s.bytes)

pub sleb128-shorter : (s : Section) → Shorter (length s.bytes) (sleb128_at s)
sleb128-shorter s = within-shorter s (sleb128_in s.bytes) (sleb128_less s.bytes)

-- each part that is read takes a byte at least
abbrev pub TakesBytes : {X : Type 0} → (Section → Reading (Option X)) → Type 0
TakesBytes part = (s : Section) → IfOk (part s) (λ p. IfSome p.0 (λ _. length p.1.bytes < length s.bytes))

pub shorter_by : {X : Type 0} (part : Section → Reading (Option X)) → TakesBytes part → (s : Section) (x : X) (t : Section) → part s ≡ Ok (Some x, t) → length t.bytes < length s.bytes
shorter_by part takes s x t e = IfOk-at_ok (λ p. IfSome p.0 (λ _. length p.1.bytes < length s.bytes)) e (takes s)

pub takes_by : {X : Type 0} (part : Section → Reading (Option X)) → ((s : Section) → Shorter (length s.bytes) (part s)) → TakesBytes part
takes_by {X = X} part h s = at (part s) (h s).by
  where
    at : (r : Reading (Option X)) → IfOk r (λ x. length x.1.bytes < length s.bytes) → IfOk r (λ p. IfSome p.0 (λ _. length p.1.bytes < length s.bytes))
    at (Ok (Some x, t)) k = k
    at (Ok (None, t)) k = tt
    at (Err e) k = tt
