-- What holds no production leaves an end of its bytes, and as much text and room together.
use Rattle.std.proofs.Common.{◌+◌, ℕ, zero, suc, Bool, true, false, List, [], ◌∷◌, refl, arith}
use Rattle.std.specs.Prelude.{if◌then◌else◌, Option, Some, None, option_map, option_and_then, codes, encode_utf8}
use Rattle.std.specs.Str.{byte}
use Rattle.rust_v0.specs.declared.grammar.Leaf.{Leaf}
use Rattle.rust_v0.specs.declared.grammar.Leaf.TheVariants.{Root, ReferenceLifetime, ObjectLifetime, Binder, Unsafety, Abi, Integer, Sign, Boolean, Character, Text, Open}
use Rattle.rust_v0.specs.Numbers.{after, counted, nibbles, number_62}
use Rattle.rust_v0.specs.Identifiers.{decoded, hyphenated, identifier_at, word_at}
use Rattle.rust_v0.specs.State.{State, Reading, taken, ◌>>=◌}
use Rattle.rust_v0.specs.Shown.{punycode_shown, say_chars, say_escaped, say_identifier, say_punycode, say_quote, say_quoted}
use Rattle.rust_v0.specs.Leaves.{abi, abi_name, abi_word, after_or, as_abi_word, as_scalar, bind, binder, boolean, character, counted_in, digit_pairs, hex_digits, identifier, if_next, index_after, integer, leaf_reading, letter, letter_at, lifetime_index, literal, more_levels, number, object_lifetime, reference_lifetime, root, say_abi_word, say_level, say_lifetime, say_named, say_spaced, scalar, segment, sign, string, unsafety}
use Rattle.rust_v0.proofs.StateLemmas.{Advances, AdvancesWith, Passed, Rest, from_advances, if_advances, none_advances, passed_bytes, passed_same, passed_then, rest_less, say_advances, some_advances, then_advances, with_advances}
use Rattle.rust_v0.proofs.BytesLemmas.{Finds, Follows, abi_word_finds, after_follows, counted_finds, finds_less, identifier_finds, letter_finds, nibbles_find, number_finds}

-- a reading that counts nothing
pub then_leaf : (s : State) (o : Option State) (f : Reading) → Advances true 0 s o → ((r : State) → Advances true 0 r (f r)) → Advances true 0 s (option_and_then f o)
then_leaf s o f h g = then_advances true true 0 0 s o f h g

pub with_leaf : {A : Type 0} (s : State) (o : Option (A × State)) (f : A × State → Option State) → AdvancesWith true 0 s o
    → ((p : A × State) → Advances true 0 p.1 (f p)) → Advances true 0 s (option_and_then f o)
with_leaf s o f h g = with_advances true true 0 0 s o f h g

-- a value, and what is read with it
pub found_leaf : {A : Type 0} (s : State) (o : Option A) (f : A → Option State) → ((a : A) → Advances true 0 s (f a)) → Advances true 0 s (option_and_then f o)
found_leaf s None f h = none_advances true 0 s
found_leaf s (Some a) f h = h a

pub if_leaf : (s : State) (q : Bool) (x y : Option State) → Advances true 0 s x → Advances true 0 s y → Advances true 0 s (if q then x else y)
if_leaf s q x y h g = if_advances true 0 s q x y h g

pub none_leaf : (s : State) → Advances true 0 s None
none_leaf s = none_advances true 0 s

pub same_leaf : (s : State) → Advances true 0 s (Some s)
same_leaf s = some_advances true 0 s s (passed_same s s refl refl refl refl refl refl)

pub bound_leaf : (s : State) (n : ℕ) → Advances true 0 s (Some (record s { bound = n }))
bound_leaf s n = some_advances true 0 s _ (passed_same s _ refl refl refl refl refl refl)

pub open_leaf : (s : State) (b : Bool) → Advances true 0 s (Some (record s { is_open = b }))
open_leaf s b = some_advances true 0 s _ (passed_same s _ refl refl refl refl refl refl)

-- one value after another
with_more : {A : Type 0} (s r : State) (o : Option (A × State)) → Passed true 0 s r → AdvancesWith true 0 r o → AdvancesWith true 0 s o
with_more s r None h g = record { passed = tt }
with_more s r (Some p) h g = record { passed = passed_then true true 0 0 s r p.1 h g.passed }

-- ---- bytes of a state

pub taken_advances : {A : Type 0} (k : ℕ) (s : State) (o : Option (A × List ℕ)) → Finds k s.bytes o → AdvancesWith true k s (taken s o)
taken_advances k s None h = record { passed = tt }
taken_advances k s (Some p) h = record { passed = passed_bytes k s p.1 h.passed }

pub taken_leaf : {A : Type 0} (s : State) (o : Option (A × List ℕ)) → Finds 1 s.bytes o → AdvancesWith true 0 s (taken s o)
taken_leaf s o h = taken_advances 0 s o (finds_less 1 0 s.bytes o (omega arith) h)

pub number_leaf : (s : State) → AdvancesWith true 0 s (number s)
number_leaf s = taken_leaf s (number_62 s.bytes) (number_finds s.bytes)

pub counted_leaf : (letter : ℕ) (s : State) → AdvancesWith true 0 s (counted_in letter s)
counted_leaf letter s = taken_advances 0 s (counted letter s.bytes) (counted_finds letter s.bytes)

pub identifier_advances : (s : State) → AdvancesWith true 1 s (identifier s)
identifier_advances s = taken_advances 1 s (identifier_at s.bytes) (identifier_finds s.bytes)

pub identifier_leaf : (s : State) → AdvancesWith true 0 s (identifier s)
identifier_leaf s = taken_leaf s (identifier_at s.bytes) (identifier_finds s.bytes)

pub letter_leaf : (s : State) → AdvancesWith true 0 s (letter s)
letter_leaf s = taken_leaf s (letter_at s.bytes) (letter_finds s.bytes)

pub word_leaf : (s : State) → AdvancesWith true 0 s (abi_word s)
word_leaf s = taken_leaf s (word_at s.bytes >>= as_abi_word) (abi_word_finds s.bytes)

pub digits_leaf : (s : State) → AdvancesWith true 0 s (hex_digits s)
digits_leaf s = taken_leaf s (nibbles s.bytes) (nibbles_find s.bytes)

after_or_advances : (s : State) (o : Option (List ℕ)) (next : Reading) (other : Option State) → Follows 1 s.bytes o
    → ((r : State) → Advances true 0 r (next r)) → Advances true 0 s other → Advances true 0 s (after_or s o next other)
after_or_advances s None next other f h g = g
after_or_advances s (Some rest) next other f h g =
    from_advances true true 0 0 s (record s { bytes = rest }) (next (record s { bytes = rest })) (passed_bytes 0 s rest (rest_less 1 0 s.bytes rest (omega arith) f.passed)) (h (record s { bytes = rest }))

pub next_leaf : (b : ℕ) (s : State) (next other : Reading) → ((r : State) → Advances true 0 r (next r)) → Advances true 0 s (other s)
    → Advances true 0 s (if_next b next other s)
next_leaf b s next other h g = after_or_advances s (after b s.bytes) next (other s) (after_follows b s.bytes) h g

-- ---- texts

pub chars_leaf : (cs : List ℕ) (s : State) → Advances true 0 s (say_chars cs s)
chars_leaf [] s = same_leaf s
chars_leaf (c ∷ cs) s = then_leaf s _ _ (say_advances (encode_utf8 c) s) (λ r. chars_leaf cs r)

punycode_leaf : (o : Option (List ℕ)) (word : List ℕ) (s : State) → Advances true 0 s (punycode_shown o word s)
punycode_leaf (Some cs) word s = chars_leaf cs s
punycode_leaf None word s = then_leaf s _ _ (say_advances (codes "punycode{") s) (λ a. then_leaf a _ _ (say_advances (hyphenated word) a) (λ b. say_advances (codes "}") b))

pub named_leaf : (named : Bool × List ℕ) (s : State) → Advances true 0 s (say_identifier named s)
unfolding say_identifier say_punycode
named_leaf named s = if_leaf s _ _ _ (same_leaf s) (if_leaf s _ _ _ (punycode_leaf (decoded named.1) named.1 s) (say_advances named.1 s))

quote_leaf : (quote c : ℕ) (s : State) → Advances true 0 s (say_quote quote c s)
quote_leaf quote c s = if_leaf s _ _ _ (then_leaf s _ _ (say_advances (codes "\\") s) (λ r. say_advances (encode_utf8 c) r)) (say_advances (encode_utf8 c) s)

pub escaped_leaf : (quote c : ℕ) (s : State) → Advances true 0 s (say_escaped quote c s)
unfolding say_escaped
escaped_leaf quote c s = search (if_leaf, quote_leaf, say_advances, chars_leaf) depth 24

pub quoted_leaf : (cs : List ℕ) (s : State) → Advances true 0 s (say_quoted cs s)
quoted_leaf [] s = same_leaf s
quoted_leaf (c ∷ cs) s = then_leaf s _ _ (escaped_leaf (byte "\"") c s) (λ r. quoted_leaf cs r)

pub ruleset leaf_rules = (then_leaf, with_leaf, if_leaf, none_leaf, same_leaf, bound_leaf, open_leaf, next_leaf, say_advances, chars_leaf, named_leaf, escaped_leaf, quoted_leaf, number_leaf, counted_leaf, identifier_leaf, letter_leaf, word_leaf, digits_leaf)

-- ---- lifetimes

level_leaf : (level : ℕ) (s : State) → Advances true 0 s (say_level level s)
unfolding say_level
level_leaf level s = search leaf_rules depth 24

lifetime_leaf : (index : ℕ) (s : State) → Advances true 0 s (say_lifetime index s)
unfolding say_lifetime
lifetime_leaf index s = search (leaf_rules, level_leaf) depth 24

levels_leaf : (level count : ℕ) (s : State) → Advances true 0 s (more_levels level count s)
unfolding more_levels
levels_leaf level zero s = same_leaf s
levels_leaf level (suc count) s = then_leaf s _ _ (say_advances (codes ", ") s) (λ comma. then_leaf comma _ _ (level_leaf level comma) (λ named. levels_leaf (level + 1) count named))

bind_leaf : (count : ℕ) (s : State) → Advances true 0 s (bind count s)
unfolding bind
bind_leaf count s = search (leaf_rules, level_leaf, levels_leaf) depth 24

pub binder_leaf : (s : State) → Advances true 0 s (binder s)
unfolding binder
binder_leaf s = search (leaf_rules, bind_leaf) depth 24

pub lifetime_argument_leaf : (s : State) → Advances true 0 s (number s >>= λ index. say_lifetime index.0 index.1)
lifetime_argument_leaf s = search (leaf_rules, lifetime_leaf) depth 24

reference_lifetime_leaf : (s : State) → Advances true 0 s (reference_lifetime s)
unfolding reference_lifetime
reference_lifetime_leaf s = search (leaf_rules, lifetime_leaf) depth 24

index_as : (s : State) (o : Option (List ℕ)) → Follows 1 s.bytes o → AdvancesWith true 0 s (index_after s o)
index_as s None h = record { passed = tt }
index_as s (Some rest) h =
    with_more s (record s { bytes = rest }) _ (passed_bytes 0 s rest (rest_less 1 0 s.bytes rest (omega arith) h.passed)) (number_leaf (record s { bytes = rest }))

index_leaf : (s : State) → AdvancesWith true 0 s (lifetime_index s)
unfolding lifetime_index
index_leaf s = index_as s (after (byte "L") s.bytes) (after_follows (byte "L") s.bytes)

object_lifetime_leaf : (s : State) → Advances true 0 s (object_lifetime s)
unfolding object_lifetime
object_lifetime_leaf s = search (leaf_rules, index_leaf, lifetime_leaf) depth 24

-- ---- names

say_named_leaf : (before : List ℕ) (named : Bool × List ℕ) (s : State) → Advances true 0 s (say_named before named s)
unfolding say_named
say_named_leaf before named s = search leaf_rules depth 24

spaced_leaf : (space n : ℕ) (named : Bool × List ℕ) (s : State) → Advances true 0 s (say_spaced space n named s)
unfolding say_spaced
spaced_leaf space n named s = search (leaf_rules, say_named_leaf) depth 24

pub segment_leaf : (space : ℕ) (s : State) → Advances true 0 s (segment space s)
unfolding segment
segment_leaf space s = search (leaf_rules, say_named_leaf, spaced_leaf) depth 24

pub root_advances : (s : State) → Advances true 1 s (root s)
unfolding root
root_advances s = with_advances true true 0 1 s _ _ (counted_leaf (byte "s") s) (λ n. with_advances true true 1 0 n.1 _ _ (identifier_advances n.1) (λ named. named_leaf named.0 named.1))

-- ---- functions and literals

abi_leaf : (s : State) → Advances true 0 s (abi s)
unfolding abi abi_name say_abi_word
abi_leaf s = search leaf_rules depth 24

integer_leaf : (s : State) → Advances true 0 s (integer s)
unfolding integer
integer_leaf s = search leaf_rules depth 24

with_with : {A B : Type 0} (s : State) (o : Option (A × State)) (f : A × State → Option (B × State)) → AdvancesWith true 0 s o
    → ((p : A × State) → AdvancesWith true 0 p.1 (f p)) → AdvancesWith true 0 s (option_and_then f o)
with_with s None f h g = record { passed = tt }
with_with s (Some p) f h g = with_more s p.1 (f p) h.passed (g p)

literal_as : (p : List ℕ × State) (q : Bool) (n : ℕ) → AdvancesWith true 0 p.1 (if q then Some (n, p.1) else None)
literal_as p true n = record { passed = passed_same p.1 p.1 refl refl refl refl refl refl }
literal_as p false n = record { passed = tt }

literal_leaf : (s : State) → AdvancesWith true 0 s (literal s)
unfolding literal
literal_leaf s = with_with s _ _ (digits_leaf s) (λ p. literal_as p _ _)

boolean_leaf : (s : State) → Advances true 0 s (boolean s)
unfolding boolean
boolean_leaf s = with_leaf s _ _ (literal_leaf s) (λ n. found_leaf n.1 _ _ (λ text. say_advances text n.1))

scalar_as : {A : Type 0} (s : State) (o : Option A) → AdvancesWith true 0 s (option_map (λ c. (c, s)) o)
scalar_as s None = record { passed = tt }
scalar_as s (Some c) = record { passed = passed_same s s refl refl refl refl refl refl }

scalar_leaf : (s : State) → AdvancesWith true 0 s (scalar s)
unfolding scalar
scalar_leaf s = with_with s _ _ (literal_leaf s) (λ n. scalar_as n.1 (as_scalar n.0))

character_leaf : (s : State) → Advances true 0 s (character s)
unfolding character
character_leaf s = search (leaf_rules, scalar_leaf) depth 24

sign_leaf : (s : State) → Advances true 0 s (sign s)
unfolding sign
sign_leaf s = search leaf_rules depth 24

unsafety_leaf : (s : State) → Advances true 0 s (unsafety s)
unfolding unsafety
unsafety_leaf s = search leaf_rules depth 24

pairs_as : (p : List ℕ × State) (q : Bool) → AdvancesWith true 0 p.1 (if q then None else Some p)
pairs_as p true = record { passed = tt }
pairs_as p false = record { passed = passed_same p.1 p.1 refl refl refl refl refl refl }

pairs_leaf : (s : State) → AdvancesWith true 0 s (digit_pairs s)
unfolding digit_pairs
pairs_leaf s = with_with s _ _ (digits_leaf s) (λ p. pairs_as p _)

string_leaf : (s : State) → Advances true 0 s (string s)
unfolding string
string_leaf s = search (leaf_rules, pairs_leaf) depth 24

-- how many bytes a leaf has at least
abbrev pub leaf_weight : Leaf → ℕ
leaf_weight Root = 1
leaf_weight ReferenceLifetime = 0
leaf_weight ObjectLifetime = 0
leaf_weight Binder = 0
leaf_weight Unsafety = 0
leaf_weight Abi = 0
leaf_weight Integer = 0
leaf_weight Sign = 0
leaf_weight Boolean = 0
leaf_weight Character = 0
leaf_weight Text = 0
leaf_weight Open = 0

pub leaf_advances : (leaf : Leaf) (s : State) → Advances true (leaf_weight leaf) s (leaf_reading leaf s)
leaf_advances Root s = root_advances s
leaf_advances ReferenceLifetime s = reference_lifetime_leaf s
leaf_advances ObjectLifetime s = object_lifetime_leaf s
leaf_advances Binder s = binder_leaf s
leaf_advances Unsafety s = unsafety_leaf s
leaf_advances Abi s = abi_leaf s
leaf_advances Integer s = integer_leaf s
leaf_advances Sign s = sign_leaf s
leaf_advances Boolean s = boolean_leaf s
leaf_advances Character s = character_leaf s
leaf_advances Text s = string_leaf s
leaf_advances Open s = open_leaf s true
