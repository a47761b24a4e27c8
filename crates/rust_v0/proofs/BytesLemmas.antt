-- What a reading of bytes leaves: an end of them, and how many bytes it passes over at least.
use Rattle.std.proofs.Common.{◌≡◌, ◌≤◌, ◌+◌, ℕ, zero, suc, Bool, true, false, List, [], ◌∷◌, take, drop, length, refl, arith}
use Rattle.std.specs.Prelude.{◌==◌, ◌&&◌, if◌then◌else◌, Option, Some, None, option_map, option_and_then, unwrap_or, IfSome, nat_le}
use Rattle.std.specs.Char.{is_ascii, is_ascii_alphabetic, is_ascii_alphanumeric}
use Rattle.std.specs.List.{list_all, prefix_len}
use Rattle.std.specs.Str.{byte}
use Rattle.rust_v0.specs.Numbers.{after, counted, counted_after, fits, is_nibble, nibbles, number_62, value_62}
use Rattle.rust_v0.specs.Identifiers.{as_identifier, digits_part, identifier_after, identifier_at, length_digits, split_word, word_at, without_underscore}
use Rattle.rust_v0.specs.Leaves.{as_abi_word, letter_at}
use Rattle.rust_v0.specs.Reads.{shape_at, shape_of}
use Rattle.rust_v0.specs.State.{◌>>=◌}
use Rattle.rust_v0.proofs.StateLemmas.{Rest, rest_all, rest_drop, rest_less, rest_step, rest_then}

pub record Follows (k : ℕ) (bytes : List ℕ) (o : Option (List ℕ)) : Type 0 where
  pub passed : IfSome o (Rest k bytes)

pub record Finds {A : Type 0} (k : ℕ) (bytes : List ℕ) (o : Option (A × List ℕ)) : Type 0 where
  pub passed : IfSome o (λ p. Rest k bytes p.1)

follows_if : (q : Bool) (k : ℕ) (bytes rest : List ℕ) → Rest k bytes rest → Follows k bytes (if q then Some rest else None)
follows_if true k bytes rest h = record { passed = h }
follows_if false k bytes rest h = record { passed = tt }

pub after_follows : (b : ℕ) (bytes : List ℕ) → Follows 1 bytes (after b bytes)
after_follows b [] = record { passed = tt }
after_follows b (c ∷ bytes) = follows_if (c == b) 1 (c ∷ bytes) bytes (rest_step 0 c bytes bytes (rest_all bytes))

follows_in : (k m : ℕ) (bytes mid : List ℕ) (o : Option (List ℕ)) → Rest k bytes mid → Follows m mid o → Follows (k + m) bytes o
follows_in k m bytes mid None h g = record { passed = tt }
follows_in k m bytes mid (Some rest) h g = record { passed = rest_then k m bytes mid rest h g.passed }

after_drop : (b n : ℕ) (bytes : List ℕ) → Follows 1 bytes (after b (drop n bytes))
after_drop b n bytes = follows_in 0 1 bytes (drop n bytes) _ (rest_drop n bytes) (after_follows b (drop n bytes))

finds_none : {A : Type 0} (k : ℕ) (bytes : List ℕ) → Finds {A = A} k bytes None
finds_none k bytes = record { passed = tt }

finds_map : {A B : Type 0} (k : ℕ) (bytes rest : List ℕ) (o : Option A) (f : A → B) → Rest k bytes rest → Finds k bytes (option_map (λ a. (f a, rest)) o)
finds_map k bytes rest None f h = record { passed = tt }
finds_map k bytes rest (Some a) f h = record { passed = h }

finds_after : {A : Type 0} (k : ℕ) (bytes : List ℕ) (o : Option (List ℕ)) (f : List ℕ → Option (A × List ℕ)) → Follows k bytes o
    → ((rest : List ℕ) → Rest k bytes rest → Finds k bytes (f rest)) → Finds k bytes (option_and_then f o)
finds_after k bytes None f h g = record { passed = tt }
finds_after k bytes (Some rest) f h g = g rest h.passed

finds_then : {A B : Type 0} (k : ℕ) (bytes : List ℕ) (o : Option (A × List ℕ)) (f : A × List ℕ → Option (B × List ℕ)) → Finds k bytes o
    → ((p : A × List ℕ) → Rest k bytes p.1 → Finds k bytes (f p)) → Finds k bytes (option_and_then f o)
finds_then k bytes None f h g = record { passed = tt }
finds_then k bytes (Some p) f h g = g p h.passed

finds_in : {A : Type 0} (k m : ℕ) (bytes mid : List ℕ) (o : Option (A × List ℕ)) → Rest k bytes mid → Finds m mid o → Finds (k + m) bytes o
finds_in k m bytes mid None h g = record { passed = tt }
finds_in k m bytes mid (Some p) h g = record { passed = rest_then k m bytes mid p.1 h g.passed }

pub finds_less : {A : Type 0} (k m : ℕ) (bytes : List ℕ) (o : Option (A × List ℕ)) → m ≤ k → Finds k bytes o → Finds m bytes o
finds_less k m bytes None le h = record { passed = tt }
finds_less k m bytes (Some p) le h = record { passed = rest_less k m bytes p.1 le h.passed }

finds_if : {A : Type 0} (q : Bool) (k : ℕ) (bytes : List ℕ) (x y : Option (A × List ℕ)) → Finds k bytes x → Finds k bytes y → Finds k bytes (if q then x else y)
finds_if true k bytes x y h g = h
finds_if false k bytes x y h g = g

-- ---- numbers

pub number_finds : (bytes : List ℕ) → Finds 1 bytes (number_62 bytes)
unfolding number_62
number_finds bytes =
    let n = prefix_len is_ascii_alphanumeric bytes in
    finds_after 1 bytes (after (byte "_") (drop n bytes)) _ (after_drop (byte "_") n bytes) (λ rest h. finds_map 1 bytes rest (value_62 (take n bytes)) (λ v. v) h)

counted_more : (o : Option (List ℕ)) (bytes : List ℕ) → Follows 1 bytes o → Finds 0 bytes (counted_after o bytes)
counted_more None bytes h = record { passed = rest_all bytes }
counted_more (Some spelled) bytes h =
    finds_then 0 bytes (number_62 spelled) _
    (finds_less 2 0 bytes _ (omega arith) (finds_in 1 1 bytes spelled _ h.passed (number_finds spelled)))
    (λ p g. finds_map 0 bytes p.1 (fits (p.0 + 1)) (λ v. v) g)

pub counted_finds : (letter : ℕ) (bytes : List ℕ) → Finds 0 bytes (counted letter bytes)
unfolding counted
counted_finds letter bytes = counted_more (after letter bytes) bytes (after_follows letter bytes)

follows_pair : {A : Type 0} (k : ℕ) (bytes : List ℕ) (a : A) (o : Option (List ℕ)) → Follows k bytes o → Finds k bytes (option_map (λ rest. (a, rest)) o)
follows_pair k bytes a None h = record { passed = tt }
follows_pair k bytes a (Some rest) h = record { passed = h.passed }

pub nibbles_find : (bytes : List ℕ) → Finds 1 bytes (nibbles bytes)
unfolding nibbles
nibbles_find bytes = follows_pair 1 bytes _ _ (after_drop (byte "_") (prefix_len is_nibble bytes) bytes)

-- ---- words

drop_some : (n : ℕ) (bytes : List ℕ) → (length (take n bytes) == 0) ≡ false → Rest 1 bytes (drop n bytes)
drop_some zero bytes h = absurd (let no : true ≡ false = h in cc)
drop_some (suc n) [] h = absurd (let no : true ≡ false = h in cc)
drop_some (suc n) (b ∷ bytes) h = rest_step 0 b bytes (drop n bytes) (rest_drop n bytes)

underscore_rest : (bytes : List ℕ) (o : Option (List ℕ)) → Follows 1 bytes o → Rest 0 bytes (unwrap_or o bytes)
underscore_rest bytes None h = rest_all bytes
underscore_rest bytes (Some rest) h = rest_less 1 0 bytes rest (omega arith) h.passed

split_finds : (n : ℕ) (bytes : List ℕ) → Finds 0 bytes (split_word n bytes)
split_finds n bytes = finds_if (nat_le n (length bytes) && list_all is_ascii (take n bytes)) 0 bytes _ None (record { passed = rest_drop n bytes }) (finds_none 0 bytes)

word_if : (q : Bool) (n m : ℕ) (bytes : List ℕ) → (q ≡ false → Rest 1 bytes (drop n bytes))
    → Finds 1 bytes (if q then None else split_word m (without_underscore (drop n bytes)))
word_if true n m bytes h = finds_none 1 bytes
word_if false n m bytes h =
    let mid = without_underscore (drop n bytes) in
    finds_in 1 0 bytes mid (split_word m mid)
    (rest_then 1 0 bytes (drop n bytes) mid (h refl) (underscore_rest (drop n bytes) (after (byte "_") (drop n bytes)) (after_follows (byte "_") (drop n bytes))))
    (split_finds m mid)

pub word_finds : (bytes : List ℕ) → Finds 1 bytes (word_at bytes)
unfolding word_at
word_finds bytes = word_if _ (length_digits bytes) _ bytes (drop_some (length_digits bytes) bytes)

identifier_finds_as : (q : Bool) (k : ℕ) (bytes : List ℕ) (p : List ℕ × List ℕ) → Rest k bytes p.1 → Finds k bytes (as_identifier q p)
identifier_finds_as q k bytes p h = finds_if (q && length (digits_part p.0) == 0) k bytes None _ (finds_none k bytes) (record { passed = h })

identifier_more : (o : Option (List ℕ)) (bytes : List ℕ) → Follows 1 bytes o → Finds 1 bytes (identifier_after o bytes)
identifier_more None bytes h = finds_then 1 bytes (word_at bytes) _ (word_finds bytes) (λ p g. identifier_finds_as false 1 bytes p g)
identifier_more (Some spelled) bytes h =
    finds_then 1 bytes (word_at spelled) _
    (finds_less 2 1 bytes _ (omega arith) (finds_in 1 1 bytes spelled _ h.passed (word_finds spelled)))
    (λ p g. identifier_finds_as true 1 bytes p g)

pub identifier_finds : (bytes : List ℕ) → Finds 1 bytes (identifier_at bytes)
unfolding identifier_at
identifier_finds bytes = identifier_more (after (byte "u") bytes) bytes (after_follows (byte "u") bytes)

pub letter_finds : (bytes : List ℕ) → Finds 1 bytes (letter_at bytes)
letter_finds [] = finds_none 1 []
letter_finds (c ∷ bytes) = finds_if (is_ascii_alphabetic c) 1 (c ∷ bytes) _ None (record { passed = rest_step 0 c bytes bytes (rest_all bytes) }) (finds_none 1 (c ∷ bytes))

pub abi_word_finds : (bytes : List ℕ) → Finds 1 bytes (word_at bytes >>= as_abi_word)
abi_word_finds bytes = finds_then 1 bytes (word_at bytes) as_abi_word (word_finds bytes) (λ p h. finds_if (length p.0 == 0) 1 bytes None _ (finds_none 1 bytes) (record { passed = h }))

pub shape_finds : (bytes : List ℕ) → Finds 1 bytes (shape_at bytes)
shape_finds [] = finds_none 1 []
shape_finds (c ∷ bytes) = finds_map 1 (c ∷ bytes) bytes (shape_of c) (λ x. x) (rest_step 0 c bytes bytes (rest_all bytes))
