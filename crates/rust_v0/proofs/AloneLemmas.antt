-- Readings are decided by the name: a text before their own, more room, and more productions and
-- levels left change nothing.
use Rattle.std.proofs.Common.{◌≡◌, ◌∙◌, ◌≤◌, ◌+◌, ◌-◌, ℕ, zero, suc, Bool, true, false, List, [], ◌∷◌, ◌++◌, drop, length, ap, sym, subst, refl, arith}
use Rattle.std.proofs.lemmas.List.{append_assoc}
use Rattle.std.proofs.lemmas.Bool.Decides.{nat_tests}
use Rattle.std.specs.Prelude.{◌==◌, ◌||◌, if◌then◌else◌, nat_lt, Option, Some, None, option_map, option_and_then, IfSome, IsNone, codes, encode_utf8}
use Rattle.std.specs.Str.{byte}
use Rattle.rust_v0.specs.declared.grammar.Production.{Production}
use Rattle.rust_v0.specs.declared.grammar.Production.TheVariants.{TypePath, TraitPath, AnyType, BracedConstant, BareConstant, Pattern}
use Rattle.rust_v0.specs.declared.grammar.Item.{Item}
use Rattle.rust_v0.specs.declared.grammar.Item.TheVariants.{Argument, TypeItem, ConstantItem, Field, Trait, PatternItem}
use Rattle.rust_v0.specs.declared.grammar.Leaf.{Leaf}
use Rattle.rust_v0.specs.declared.grammar.Leaf.TheVariants.{Root, ReferenceLifetime, ObjectLifetime, Binder, Unsafety, Abi, Integer, Sign, Boolean, Character, Text, Open}
use Rattle.rust_v0.specs.declared.reading.Shape.{Shape}
use Rattle.rust_v0.specs.declared.reading.Shape.TheVariants.{Unit, Tuple, Named}
use Rattle.rust_v0.specs.declared.printer.Mode.{Mode}
use Rattle.rust_v0.specs.declared.printer.Mode.TheVariants.{Written, Hidden}
use Rattle.rust_v0.specs.Numbers.{after, counted, nibbles, number_62}
use Rattle.rust_v0.specs.Identifiers.{decoded, hyphenated, identifier_at, word_at}
use Rattle.rust_v0.specs.State.{State, Reading, is_hidden, say, taken, ◌>>=◌}
use Rattle.rust_v0.specs.Shown.{punycode_shown, say_chars, say_escaped, say_identifier, say_punycode, say_quote, say_quoted}
use Rattle.rust_v0.specs.Leaves.{abi, abi_name, abi_word, after_or, as_abi_word, as_scalar, bind, binder, boolean, character, counted_in, digit_pairs, hex_digits, identifier, if_next, index_after, integer, leaf_reading, letter, letter_at, lifetime_index, literal, more_levels, nothing, number, object_lifetime, reference_lifetime, root, say_abi_word, say_level, say_lifetime, say_named, say_spaced, scalar, segment, sign, string, unsafety}
use Rattle.rust_v0.specs.Grammar.{Part, shown, single, inside, nested, place, reference, list, more, tuple, traits, contents, returned, head}
use Rattle.rust_v0.specs.Reads.{Inner, argument, back_reference, before_binding, binding_name, bindings, bindings_on, bound_traits, bounded_trait, close, contents_of, count, field, field_name, function_result, hidden, impl_place, item_reading, items, lifetime_argument, more_from, more_items, nested_path, part_reading, parts_reading, place_before, reads, rule, shape_at, splat, tagged_parts, target, value, variant_contents, with_bytes, with_mode}
use Rattle.rust_v0.specs.ReadLaws.{LimitsOnlyRefuse, More, TextNotRead, before, with_more}

-- no more is left
record IsTextAlone (m : More) : Type 0 where
  room : m.room ≡ 0
  left : m.left ≡ 0
  levels : m.levels ≡ 0

-- what a reading gives, another gives with more; where nothing but a text is more, both give nothing
-- or both something
record Alike (m : More) (o q : Option State) : Type 0 where
  same : IfSome o (λ r. q ≡ Some (with_more m r))
  none : IsTextAlone m → IsNone o → q ≡ None

record AlikeWith {A : Type 0} (m : More) (o q : Option (A × State)) : Type 0 where
  same : IfSome o (λ p. q ≡ Some (p.0, with_more m p.1))
  none : IsTextAlone m → IsNone o → q ≡ None

none_alike : (m : More) → Alike m None None
none_alike m = record { same = tt; none = λ t h. refl }

no_with : {A : Type 0} (m : More) → AlikeWith {A = A} m None None
no_with m = record { same = tt; none = λ t h. refl }

as_some : (m : More) (r : State) (q : Option State) → q ≡ Some (with_more m r) → Alike m (Some r) q
as_some m r q h = record { same = h; none = λ t no. absurd (let e : true ≡ false = no in cc) }

as_some_with : {A : Type 0} (m : More) (a : A) (r : State) (q : Option (A × State)) → q ≡ Some (a, with_more m r) → AlikeWith m (Some (a, r)) q
as_some_with m a r q h = record { same = h; none = λ t no. absurd (let e : true ≡ false = no in cc) }

same_alike : (m : More) (s : State) → Alike m (Some s) (Some (with_more m s))
same_alike m s = as_some m s _ refl

if_alike : (m : More) (b : Bool) (x y v w : Option State) → Alike m x v → Alike m y w → Alike m (if b then x else y) (if b then v else w)
if_alike m true x y v w h g = h
if_alike m false x y v w h g = g

then_alike : (m : More) (o q : Option State) (f g : Reading) → Alike m o q → ((r : State) → Alike m (f r) (g (with_more m r))) → Alike m (option_and_then f o) (option_and_then g q)
then_alike m None q f g h k = record { same = tt; none = λ t no. ap (λ x. option_and_then g x) (h.none t no) }
then_alike m (Some r) q f g h k = subst (λ x. Alike m (f r) (option_and_then g x)) (sym h.same) (k r)

with_alike : {A : Type 0} (m : More) (o q : Option (A × State)) (f g : A × State → Option State) → AlikeWith m o q
    → ((a : A) (r : State) → Alike m (f (a, r)) (g (a, with_more m r))) → Alike m (option_and_then f o) (option_and_then g q)
with_alike m None q f g h k = record { same = tt; none = λ t no. ap (λ x. option_and_then g x) (h.none t no) }
with_alike m (Some p) q f g h k = subst (λ x. Alike m (f p) (option_and_then g x)) (sym h.same) (k p.0 p.1)

found_alike : {A : Type 0} (m : More) (o : Option A) (f g : A → Option State) → ((a : A) → Alike m (f a) (g a)) → Alike m (option_and_then f o) (option_and_then g o)
found_alike m None f g h = none_alike m
found_alike m (Some a) f g h = h a

with_with : {A B : Type 0} (m : More) (o q : Option (A × State)) (f g : A × State → Option (B × State)) → AlikeWith m o q
    → ((a : A) (r : State) → AlikeWith m (f (a, r)) (g (a, with_more m r))) → AlikeWith m (option_and_then f o) (option_and_then g q)
with_with m None q f g h k = record { same = tt; none = λ t no. ap (λ x. option_and_then g x) (h.none t no) }
with_with m (Some p) q f g h k = subst (λ x. AlikeWith m (f p) (option_and_then g x)) (sym h.same) (k p.0 p.1)

then_with : {A : Type 0} (m : More) (o q : Option State) (f g : State → Option (A × State)) → Alike m o q
    → ((r : State) → AlikeWith m (f r) (g (with_more m r))) → AlikeWith m (option_and_then f o) (option_and_then g q)
then_with m None q f g h k = record { same = tt; none = λ t no. ap (λ x. option_and_then g x) (h.none t no) }
then_with m (Some r) q f g h k = subst (λ x. AlikeWith m (f r) (option_and_then g x)) (sym h.same) (k r)

-- ---- bytes of a state

taken_alike : {A : Type 0} (m : More) (s : State) (o : Option (A × List ℕ)) → AlikeWith m (taken s o) (taken (with_more m s) o)
taken_alike m s None = no_with m
taken_alike m s (Some p) = as_some_with m p.0 (record s { bytes = p.1 }) _ refl

after_alike : (m : More) (s : State) (o : Option (List ℕ)) (next step : Reading) (other otherwise : Option State) → ((r : State) → Alike m (next r) (step (with_more m r)))
    → Alike m other otherwise → Alike m (after_or s o next other) (after_or (with_more m s) o step otherwise)
after_alike m s None next step other otherwise h g = g
after_alike m s (Some rest) next step other otherwise h g = h (record s { bytes = rest })

next_alike : (m : More) (b : ℕ) (s : State) (next other step otherwise : Reading) → ((r : State) → Alike m (next r) (step (with_more m r)))
    → Alike m (other s) (otherwise (with_more m s)) → Alike m (if_next b next other s) (if_next b step otherwise (with_more m s))
next_alike m b s next other step otherwise h g = after_alike m s (after b s.bytes) next step (other s) (otherwise (with_more m s)) h g

number_alike : (m : More) (s : State) → AlikeWith m (number s) (number (with_more m s))
number_alike m s = taken_alike m s (number_62 s.bytes)

counted_alike : (m : More) (c : ℕ) (s : State) → AlikeWith m (counted_in c s) (counted_in c (with_more m s))
counted_alike m c s = taken_alike m s (counted c s.bytes)

identifier_alike : (m : More) (s : State) → AlikeWith m (identifier s) (identifier (with_more m s))
identifier_alike m s = taken_alike m s (identifier_at s.bytes)

letter_alike : (m : More) (s : State) → AlikeWith m (letter s) (letter (with_more m s))
letter_alike m s = taken_alike m s (letter_at s.bytes)

word_alike : (m : More) (s : State) → AlikeWith m (abi_word s) (abi_word (with_more m s))
word_alike m s = taken_alike m s (word_at s.bytes >>= as_abi_word)

digits_alike : (m : More) (s : State) → AlikeWith m (hex_digits s) (hex_digits (with_more m s))
digits_alike m s = taken_alike m s (nibbles s.bytes)

bound_alike : (m : More) (s : State) (n : ℕ) → Alike m (Some (record s { bound = n })) (Some (record (with_more m s) { bound = n }))
bound_alike m s n = as_some m (record s { bound = n }) _ refl

open_alike : (m : More) (s : State) (b : Bool) → Alike m (Some (record s { is_open = b })) (Some (record (with_more m s) { is_open = b }))
open_alike m s b = as_some m (record s { is_open = b }) _ refl

-- ---- texts

say_room : (m : More) (text : List ℕ) (s : State) (p q : Bool) → nat_lt s.room (length text) ≡ p → nat_lt (s.room + m.room) (length text) ≡ q
    → Alike m (if p then None else Some (record s { room = s.room - length text; text = s.text ++ text }))
    (if q then None else Some (record (with_more m s) { room = s.room + m.room - length text; text = (m.text ++ s.text) ++ text }))
say_room m text s true true d e = none_alike m
say_room m text s true false d e = record { same = tt; none = λ t no. absurd (let none : m.room ≡ 0 = t.room in grind (arith, nat_tests, d, e, none)) }
say_room m text s false true d e = absurd (grind (arith, nat_tests, d, e))
say_room m text s false false d e =
    let room : s.room + m.room - length text ≡ s.room - length text + m.room = let le : length text ≤ s.room = grind (arith, nat_tests) in omega (arith, le) in
    let joined : (m.text ++ s.text) ++ text ≡ m.text ++ (s.text ++ text) = append_assoc m.text s.text text in
    as_some m (record s { room = s.room - length text; text = s.text ++ text }) _ (rw room (rw joined refl))

say_alike : (m : More) (text : List ℕ) (s : State) → Alike m (say text s) (say text (with_more m s))
unfolding say
say_alike m text s =
    elim s.mode as (λ mode. Alike m (if is_hidden mode then Some s else (if nat_lt s.room (length text) then None
    else Some (record s { room = s.room - length text; text = s.text ++ text })))
    (if is_hidden mode then Some (with_more m s) else (if nat_lt (s.room + m.room) (length text) then None
    else Some (record (with_more m s) { room = s.room + m.room - length text; text = (m.text ++ s.text) ++ text })))) [
      | Hidden ↦ same_alike m s
      | Written ↦ say_room m text s _ _ refl refl
    ]

chars_alike : (m : More) (cs : List ℕ) (s : State) → Alike m (say_chars cs s) (say_chars cs (with_more m s))
chars_alike m [] s = same_alike m s
chars_alike m (c ∷ cs) s = then_alike m _ _ _ _ (say_alike m (encode_utf8 c) s) (λ r. chars_alike m cs r)

punycode_alike : (m : More) (o : Option (List ℕ)) (word : List ℕ) (s : State) → Alike m (punycode_shown o word s) (punycode_shown o word (with_more m s))
punycode_alike m (Some cs) word s = chars_alike m cs s
punycode_alike m None word s =
    then_alike m _ _ _ _ (say_alike m (codes "punycode{") s) (λ a. then_alike m _ _ _ _ (say_alike m (hyphenated word) a) (λ b. say_alike m (codes "}") b))

named_alike : (m : More) (named : Bool × List ℕ) (s : State) → Alike m (say_identifier named s) (say_identifier named (with_more m s))
unfolding say_identifier say_punycode
named_alike m named s =
    if_alike m _ _ _ _ _ (same_alike m s) (if_alike m _ _ _ _ _ (punycode_alike m (decoded named.1) named.1 s) (say_alike m named.1 s))

ruleset say_rules = (then_alike, if_alike, none_alike, same_alike, say_alike, chars_alike)

quote_alike : (m : More) (quote c : ℕ) (s : State) → Alike m (say_quote quote c s) (say_quote quote c (with_more m s))
quote_alike m quote c s = search say_rules depth 24

escaped_alike : (m : More) (quote c : ℕ) (s : State) → Alike m (say_escaped quote c s) (say_escaped quote c (with_more m s))
unfolding say_escaped
escaped_alike m quote c s = search (say_rules, quote_alike) depth 24

quoted_alike : (m : More) (cs : List ℕ) (s : State) → Alike m (say_quoted cs s) (say_quoted cs (with_more m s))
quoted_alike m [] s = same_alike m s
quoted_alike m (c ∷ cs) s = then_alike m _ _ _ _ (escaped_alike m (byte "\"") c s) (λ r. quoted_alike m cs r)

ruleset alike_rules = (say_rules, with_alike, bound_alike, open_alike, next_alike, named_alike, escaped_alike, quoted_alike, number_alike, counted_alike, identifier_alike, letter_alike, word_alike, digits_alike)

-- ---- what holds no production

level_alike : (m : More) (level : ℕ) (s : State) → Alike m (say_level level s) (say_level level (with_more m s))
unfolding say_level
level_alike m level s = search alike_rules depth 24

lifetime_alike : (m : More) (index : ℕ) (s : State) → Alike m (say_lifetime index s) (say_lifetime index (with_more m s))
unfolding say_lifetime
lifetime_alike m index s = search (alike_rules, level_alike) depth 24

levels_alike : (m : More) (level count : ℕ) (s : State) → Alike m (more_levels level count s) (more_levels level count (with_more m s))
unfolding more_levels
levels_alike m level zero s = same_alike m s
levels_alike m level (suc count) s =
    then_alike m _ _ _ _ (say_alike m (codes ", ") s) (λ comma. then_alike m _ _ _ _ (level_alike m level comma) (λ named. levels_alike m (level + 1) count named))

bind_alike : (m : More) (count : ℕ) (s : State) → Alike m (bind count s) (bind count (with_more m s))
unfolding bind
bind_alike m count s = search (alike_rules, level_alike, levels_alike) depth 24

binder_alike : (m : More) (s : State) → Alike m (binder s) (binder (with_more m s))
unfolding binder
binder_alike m s = search (alike_rules, bind_alike) depth 24

lifetime_argument_alike : (m : More) (s : State) → Alike m (lifetime_argument s) (lifetime_argument (with_more m s))
unfolding lifetime_argument
lifetime_argument_alike m s = search (alike_rules, lifetime_alike) depth 24

reference_lifetime_alike : (m : More) (s : State) → Alike m (reference_lifetime s) (reference_lifetime (with_more m s))
unfolding reference_lifetime
reference_lifetime_alike m s = search (alike_rules, lifetime_alike) depth 24

index_as : (m : More) (s : State) (o : Option (List ℕ)) → AlikeWith m (index_after s o) (index_after (with_more m s) o)
index_as m s None = no_with m
index_as m s (Some rest) = number_alike m (record s { bytes = rest })

index_alike : (m : More) (s : State) → AlikeWith m (lifetime_index s) (lifetime_index (with_more m s))
unfolding lifetime_index
index_alike m s = index_as m s (after (byte "L") s.bytes)

object_lifetime_alike : (m : More) (s : State) → Alike m (object_lifetime s) (object_lifetime (with_more m s))
unfolding object_lifetime
object_lifetime_alike m s = search (alike_rules, index_alike, lifetime_alike) depth 24

say_named_alike : (m : More) (text : List ℕ) (named : Bool × List ℕ) (s : State) → Alike m (say_named text named s) (say_named text named (with_more m s))
unfolding say_named
say_named_alike m text named s = search alike_rules depth 24

spaced_alike : (m : More) (space n : ℕ) (named : Bool × List ℕ) (s : State) → Alike m (say_spaced space n named s) (say_spaced space n named (with_more m s))
unfolding say_spaced
spaced_alike m space n named s = search (alike_rules, say_named_alike) depth 24

segment_alike : (m : More) (space : ℕ) (s : State) → Alike m (segment space s) (segment space (with_more m s))
unfolding segment
segment_alike m space s = search (alike_rules, say_named_alike, spaced_alike) depth 24

root_alike : (m : More) (s : State) → Alike m (root s) (root (with_more m s))
unfolding root
root_alike m s = search alike_rules depth 24

abi_alike : (m : More) (s : State) → Alike m (abi s) (abi (with_more m s))
unfolding abi abi_name say_abi_word
abi_alike m s = search alike_rules depth 24

integer_alike : (m : More) (s : State) → Alike m (integer s) (integer (with_more m s))
unfolding integer
integer_alike m s = search alike_rules depth 24

literal_as : (m : More) (n : ℕ) (s : State) (q : Bool) → AlikeWith m (if q then Some (n, s) else None) (if q then Some (n, with_more m s) else None)
literal_as m n s true = as_some_with m n s _ refl
literal_as m n s false = no_with m

literal_alike : (m : More) (s : State) → AlikeWith m (literal s) (literal (with_more m s))
unfolding literal
literal_alike m s = with_with m _ _ _ _ (digits_alike m s) (λ digits r. literal_as m _ r _)

boolean_alike : (m : More) (s : State) → Alike m (boolean s) (boolean (with_more m s))
unfolding boolean
boolean_alike m s = with_alike m _ _ _ _ (literal_alike m s) (λ n r. found_alike m _ _ _ (λ text. say_alike m text r))

scalar_as : {A : Type 0} (m : More) (s : State) (o : Option A) → AlikeWith m (option_map (λ c. (c, s)) o) (option_map (λ c. (c, with_more m s)) o)
scalar_as m s None = no_with m
scalar_as m s (Some c) = as_some_with m c s _ refl

scalar_alike : (m : More) (s : State) → AlikeWith m (scalar s) (scalar (with_more m s))
unfolding scalar
scalar_alike m s = with_with m _ _ _ _ (literal_alike m s) (λ n r. scalar_as m r (as_scalar n))

character_alike : (m : More) (s : State) → Alike m (character s) (character (with_more m s))
unfolding character
character_alike m s = search (alike_rules, scalar_alike) depth 24

sign_alike : (m : More) (s : State) → Alike m (sign s) (sign (with_more m s))
unfolding sign
sign_alike m s = search alike_rules depth 24

unsafety_alike : (m : More) (s : State) → Alike m (unsafety s) (unsafety (with_more m s))
unfolding unsafety
unsafety_alike m s = search alike_rules depth 24

pairs_as : (m : More) (digits : List ℕ) (s : State) (q : Bool) → AlikeWith m (if q then None else Some (digits, s)) (if q then None else Some (digits, with_more m s))
pairs_as m digits s true = no_with m
pairs_as m digits s false = as_some_with m digits s _ refl

pairs_alike : (m : More) (s : State) → AlikeWith m (digit_pairs s) (digit_pairs (with_more m s))
unfolding digit_pairs
pairs_alike m s = with_with m _ _ _ _ (digits_alike m s) (λ digits r. pairs_as m digits r _)

string_alike : (m : More) (s : State) → Alike m (string s) (string (with_more m s))
unfolding string
string_alike m s = search (alike_rules, pairs_alike) depth 24

leaf_alike : (m : More) (leaf : Leaf) (s : State) → Alike m (leaf_reading leaf s) (leaf_reading leaf (with_more m s))
leaf_alike m Root s = root_alike m s
leaf_alike m ReferenceLifetime s = reference_lifetime_alike m s
leaf_alike m ObjectLifetime s = object_lifetime_alike m s
leaf_alike m Binder s = binder_alike m s
leaf_alike m Unsafety s = unsafety_alike m s
leaf_alike m Abi s = abi_alike m s
leaf_alike m Integer s = integer_alike m s
leaf_alike m Sign s = sign_alike m s
leaf_alike m Boolean s = boolean_alike m s
leaf_alike m Character s = character_alike m s
leaf_alike m Text s = string_alike m s
leaf_alike m Open s = open_alike m s true

-- ---- productions further in

abbrev InnerAlike : More → Inner → Inner → Type 0
InnerAlike m inner deeper = (production : Production) (s : State) → Alike m (inner production s) (deeper production (with_more m s))

mode_alike : (m : More) (mode : Mode) (o q : Option State) → Alike m o q → Alike m (option_map (with_mode mode) o) (option_map (with_mode mode) q)
mode_alike m mode None q h = record { same = tt; none = λ t no. ap (λ x. option_map (with_mode mode) x) (h.none t no) }
mode_alike m mode (Some r) q h = as_some m (with_mode mode r) _ (ap (λ x. option_map (with_mode mode) x) h.same)

hidden_alike : (m : More) (inner deeper : Inner) → InnerAlike m inner deeper → (s : State) → Alike m (hidden inner s) (hidden deeper (with_more m s))
unfolding hidden
hidden_alike m inner deeper h s = mode_alike m s.mode _ _ (h TypePath (with_mode Hidden s))

place_alike : (m : More) (inner deeper : Inner) → InnerAlike m inner deeper → (s : State) → Alike m (impl_place inner s) (impl_place deeper (with_more m s))
unfolding impl_place
place_alike m inner deeper h s = with_alike m _ _ _ _ (counted_alike m (byte "s") s) (λ n r. hidden_alike m inner deeper h r)

nested_alike : (m : More) (inner deeper : Inner) → InnerAlike m inner deeper → (path : Production) (s : State) → Alike m (nested_path inner path s) (nested_path deeper path (with_more m s))
unfolding nested_path
nested_alike m inner deeper h path s =
    with_alike m _ _ _ _ (letter_alike m s) (λ space r. then_alike m _ _ _ _ (h path r) (λ around. segment_alike m space around))

before_as : (m : More) (at : ℕ) (s : State) (q : Bool) → AlikeWith m (if q then Some (at, s) else None) (if q then Some (at, with_more m s) else None)
before_as m at s true = as_some_with m at s _ refl
before_as m at s false = no_with m

before_alike : (m : More) (s : State) → AlikeWith m (place_before s) (place_before (with_more m s))
unfolding place_before
before_alike m s = with_with m _ _ _ _ (number_alike m s) (λ at r. before_as m at r _)

bytes_alike : (m : More) (bytes : List ℕ) (o q : Option State) → Alike m o q → Alike m (option_map (with_bytes bytes) o) (option_map (with_bytes bytes) q)
bytes_alike m bytes None q h = record { same = tt; none = λ t no. ap (λ x. option_map (with_bytes bytes) x) (h.none t no) }
bytes_alike m bytes (Some r) q h = as_some m (with_bytes bytes r) _ (ap (λ x. option_map (with_bytes bytes) x) h.same)

target_alike : (m : More) (inner deeper : Inner) → InnerAlike m inner deeper → (production : Production) (at : ℕ) (s : State)
    → Alike m (target inner production at s) (target deeper production at (with_more m s))
target_alike m inner deeper h production at s =
    if_alike m (is_hidden s.mode) _ _ _ _ (same_alike m s) (bytes_alike m s.bytes _ _ (h production (with_bytes (drop at s.name) s)))

reference_alike : (m : More) (inner deeper : Inner) → InnerAlike m inner deeper → (production : Production) (s : State)
    → Alike m (back_reference inner production s) (back_reference deeper production (with_more m s))
unfolding back_reference
reference_alike m inner deeper h production s = with_alike m _ _ _ _ (before_alike m s) (λ at r. target_alike m inner deeper h production at r)

-- ---- values and items

value_alike : (m : More) (inner deeper : Inner) → InnerAlike m inner deeper → (s : State) → Alike m (value inner s) (value deeper (with_more m s))
unfolding value
value_alike m inner deeper h s = next_alike m (byte "K") s (inner BracedConstant) (inner AnyType) (deeper BracedConstant) (deeper AnyType) (λ r. h BracedConstant r) (h AnyType s)

argument_alike : (m : More) (inner deeper : Inner) → InnerAlike m inner deeper → (s : State) → Alike m (argument inner s) (argument deeper (with_more m s))
unfolding argument
argument_alike m inner deeper h s =
    next_alike m (byte "L") s lifetime_argument (value inner) lifetime_argument (value deeper) (λ r. lifetime_argument_alike m r) (value_alike m inner deeper h s)

field_name_alike : (m : More) (s : State) → Alike m (field_name s) (field_name (with_more m s))
unfolding field_name
field_name_alike m s = search alike_rules depth 24

field_alike : (m : More) (inner deeper : Inner) → InnerAlike m inner deeper → (s : State) → Alike m (field inner s) (field deeper (with_more m s))
unfolding field
field_alike m inner deeper h s = then_alike m _ _ _ _ (field_name_alike m s) (λ r. h BareConstant r)

binding_name_alike : (m : More) (s : State) → Alike m (binding_name s) (binding_name (with_more m s))
unfolding binding_name
binding_name_alike m s = search alike_rules depth 24

on_alike : (m : More) (is_bound : Bool) (s : State) (o : Option (List ℕ)) (next step : State → Option (Bool × State))
    → ((r : State) → AlikeWith m (next r) (step (with_more m r))) → AlikeWith m (bindings_on is_bound s o next) (bindings_on is_bound (with_more m s) o step)
on_alike m is_bound s None next step h = as_some_with m is_bound s _ refl
on_alike m is_bound s (Some rest) next step h = h (record s { bytes = rest })

bindings_alike : (m : More) (inner deeper : Inner) → InnerAlike m inner deeper → (is_after is_bound : Bool) (turns : ℕ) (s : State)
    → AlikeWith m (bindings inner is_after is_bound turns s) (bindings deeper is_after is_bound turns (with_more m s))
unfolding bindings
bindings_alike m inner deeper h is_after is_bound zero s = as_some_with m is_bound s _ refl
bindings_alike m inner deeper h is_after is_bound (suc turns) s =
    on_alike m is_bound s (after (byte "p") s.bytes) _ _ (λ r.
    then_with m _ _ _ _ (say_alike m (before_binding is_after) r) (λ said.
    then_with m _ _ _ _ (binding_name_alike m said) (λ bound.
    then_with m _ _ _ _ (value_alike m inner deeper h bound) (λ next. bindings_alike m inner deeper h true true turns next))))

close_alike : (m : More) (q : Bool) (s : State) → Alike m (close q s) (close q (with_more m s))
close_alike m true s = say_alike m (codes ">") s
close_alike m false s = same_alike m s

trait_alike : (m : More) (inner deeper : Inner) → InnerAlike m inner deeper → (s : State) → Alike m (bounded_trait inner s) (bounded_trait deeper (with_more m s))
unfolding bounded_trait
trait_alike m inner deeper h s =
    then_alike m _ _ _ _ (h TraitPath (record s { is_open = false })) (λ path.
    with_alike m _ _ _ _ (bindings_alike m inner deeper h path.is_open false (length path.bytes) (record path { is_open = false }))
    (λ is_bound r. close_alike m (path.is_open || is_bound) r))

item_alike : (m : More) (inner deeper : Inner) → InnerAlike m inner deeper → (item : Item) (s : State) → Alike m (item_reading inner item s) (item_reading deeper item (with_more m s))
item_alike m inner deeper h Argument s = argument_alike m inner deeper h s
item_alike m inner deeper h TypeItem s = h AnyType s
item_alike m inner deeper h ConstantItem s = h BareConstant s
item_alike m inner deeper h Field s = field_alike m inner deeper h s
item_alike m inner deeper h Trait s = trait_alike m inner deeper h s
item_alike m inner deeper h PatternItem s = h Pattern s

-- an item, and those after it
abbrev one_more : Inner → Item → List ℕ → ℕ → Reading
one_more inner item between turns s = item_reading inner item s >>= more_items inner item between turns

more_alike : (m : More) (inner deeper : Inner) → InnerAlike m inner deeper → (item : Item) (between : List ℕ) (turns : ℕ) (s : State)
    → Alike m (more_items inner item between turns s) (more_items deeper item between turns (with_more m s))
unfolding more_items
more_alike m inner deeper h item between zero s = none_alike m
more_alike m inner deeper h item between (suc turns) s =
    next_alike m (byte "E") s nothing (λ r. say between r >>= one_more inner item between turns) nothing (λ r. say between r >>= one_more deeper item between turns) (λ r. same_alike m r)
    (then_alike m _ _ (one_more inner item between turns) (one_more deeper item between turns) (say_alike m between s) (λ said.
    then_alike m _ _ (more_items inner item between turns) (more_items deeper item between turns) (item_alike m inner deeper h item said) (λ r. more_alike m inner deeper h item between turns r)))

-- what follows the first item
abbrev rest_items : Inner → Item → List ℕ → List ℕ → Reading
rest_items inner item between alone s = if_next (byte "E") (say alone) (more_from inner item between) s

items_alike : (m : More) (inner deeper : Inner) → InnerAlike m inner deeper → (item : Item) (between alone : List ℕ) (s : State)
    → Alike m (items inner item between alone s) (items deeper item between alone (with_more m s))
unfolding items
items_alike m inner deeper h item between alone s =
    next_alike m (byte "E") s nothing (λ r. item_reading inner item r >>= rest_items inner item between alone) nothing (λ r. item_reading deeper item r >>= rest_items deeper item between alone) (λ r. same_alike m r)
    (then_alike m _ _ (rest_items inner item between alone) (rest_items deeper item between alone) (item_alike m inner deeper h item s) (λ r.
    next_alike m (byte "E") r (say alone) (more_from inner item between) (say alone) (more_from deeper item between) (λ t. say_alike m alone t)
    (more_alike m inner deeper h item between (length r.bytes) r)))

traits_alike : (m : More) (inner deeper : Inner) → InnerAlike m inner deeper → (s : State) → Alike m (bound_traits inner s) (bound_traits deeper (with_more m s))
unfolding bound_traits
traits_alike m inner deeper h s =
    then_alike m _ _ _ _ (binder_alike m s) (λ bound. then_alike m _ _ _ _ (items_alike m inner deeper h Trait (codes " + ") [] bound) (λ all. bound_alike m all s.bound))

shape_alike : (m : More) (inner deeper : Inner) → InnerAlike m inner deeper → (x : Shape) (s : State) → Alike m (contents_of inner x s) (contents_of deeper x (with_more m s))
shape_alike m inner deeper h Unit s = same_alike m s
shape_alike m inner deeper h Tuple s =
    then_alike m _ _ _ _ (then_alike m _ _ _ _ (say_alike m (codes "(") s) (λ r. items_alike m inner deeper h ConstantItem (codes ", ") [] r)) (λ r. say_alike m (codes ")") r)
shape_alike m inner deeper h Named s =
    then_alike m _ _ _ _ (then_alike m _ _ _ _ (say_alike m (codes " { ") s) (λ r. items_alike m inner deeper h Field (codes ", ") [] r)) (λ r. say_alike m (codes " }") r)

contents_alike : (m : More) (inner deeper : Inner) → InnerAlike m inner deeper → (s : State) → Alike m (variant_contents inner s) (variant_contents deeper (with_more m s))
unfolding variant_contents
contents_alike m inner deeper h s = with_alike m _ _ _ _ (taken_alike m s (shape_at s.bytes)) (λ x r. shape_alike m inner deeper h x r)

result_alike : (m : More) (inner deeper : Inner) → InnerAlike m inner deeper → (s : State) → Alike m (function_result inner s) (function_result deeper (with_more m s))
unfolding function_result
result_alike m inner deeper h s =
    next_alike m (byte "u") s nothing (λ r. say (codes " -> ") r >>= inner AnyType) nothing (λ r. say (codes " -> ") r >>= deeper AnyType) (λ r. same_alike m r)
    (then_alike m _ _ (inner AnyType) (deeper AnyType) (say_alike m (codes " -> ") s) (λ r. h AnyType r))

-- ---- parts and productions

part_alike : (m : More) (inner deeper : Inner) → InnerAlike m inner deeper → (part : Part) (s : State) → Alike m (part_reading inner part s) (part_reading deeper part (with_more m s))
part_alike m inner deeper h (shown text) s = say_alike m text s
part_alike m inner deeper h (single leaf) s = leaf_alike m leaf s
part_alike m inner deeper h (inside production) s = h production s
part_alike m inner deeper h (nested path) s = nested_alike m inner deeper h path s
part_alike m inner deeper h place s = place_alike m inner deeper h s
part_alike m inner deeper h (reference production) s = reference_alike m inner deeper h production s
part_alike m inner deeper h (list item between) s = items_alike m inner deeper h item between [] s
part_alike m inner deeper h (more item between) s = more_alike m inner deeper h item between (length s.bytes) s
part_alike m inner deeper h (tuple item) s = items_alike m inner deeper h item (codes ", ") (codes ",") s
part_alike m inner deeper h traits s = traits_alike m inner deeper h s
part_alike m inner deeper h contents s = contents_alike m inner deeper h s
part_alike m inner deeper h returned s = result_alike m inner deeper h s

parts_alike : (m : More) (inner deeper : Inner) → InnerAlike m inner deeper → (parts : List Part) (s : State)
    → Alike m (parts_reading inner parts s) (parts_reading deeper parts (with_more m s))
unfolding parts_reading
parts_alike m inner deeper h [] s = same_alike m s
parts_alike m inner deeper h (part ∷ parts) s = then_alike m _ _ _ _ (part_alike m inner deeper h part s) (λ r. parts_alike m inner deeper h parts r)

count_as : (m : More) (s : State) (p q : Bool) → (s.left == 0) ≡ p → (s.left + m.left == 0) ≡ q
    → Alike m (if p then None else Some (record s { left = s.left - 1 })) (if q then None else Some (record (with_more m s) { left = s.left + m.left - 1 }))
count_as m s true true d e = none_alike m
count_as m s true false d e = record { same = tt; none = λ t no. absurd (let none : m.left ≡ 0 = t.left in grind (arith, nat_tests, d, e, none)) }
count_as m s false true d e = absurd (grind (arith, nat_tests, d, e))
count_as m s false false d e =
    let left : s.left + m.left - 1 ≡ s.left - 1 + m.left = let pos : 1 ≤ s.left = grind (arith, nat_tests) in omega (arith, pos) in
    as_some m (record s { left = s.left - 1 }) _ (rw left refl)

count_alike : (m : More) (s : State) → Alike m (count s) (count (with_more m s))
count_alike m s = count_as m s _ _ refl refl

splat_alike : (m : More) (production : Production) (s : State) → Alike m (splat production s) (splat production (with_more m s))
unfolding splat
splat_alike m production s = search alike_rules depth 12

tagged_alike : (m : More) (production : Production) (s : State) → AlikeWith m (tagged_parts production s) (tagged_parts production (with_more m s))
tagged_alike m production s = taken_alike m s (head production s.bytes)

rule_alike : (m : More) (inner deeper : Inner) → InnerAlike m inner deeper → (production : Production) (s : State) → Alike m (rule inner production s) (rule deeper production (with_more m s))
rule_alike m inner deeper h production s =
    then_alike m _ _ _ _ (count_alike m s) (λ counted.
    then_alike m _ _ _ _ (splat_alike m production counted) (λ front.
    with_alike m _ _ _ _ (tagged_alike m production front) (λ parts begun.
    then_alike m _ _ _ _ (parts_alike m inner deeper h parts begun) (λ ended. bound_alike m ended s.bound))))

levels_read_alike : (m : More) (levels : ℕ) → InnerAlike m (reads levels) (reads (levels + m.levels))
unfolding reads
levels_read_alike m zero production s = record {
  same = tt;
  none = λ t no. let none : zero + m.levels ≡ zero = let z : m.levels ≡ 0 = t.levels in omega (arith, z) in ap (λ n. reads n production (with_more m s)) none;
}
levels_read_alike m (suc levels) production s =
    let next : suc levels + m.levels ≡ suc (levels + m.levels) = omega arith in
    subst (λ n. Alike m (reads (suc levels) production s) (reads n production (with_more m s))) (sym next)
    (rule_alike m (reads levels) (reads (levels + m.levels)) (levels_read_alike m levels) production s)

-- ---- the laws

pub limits_only_refuse : LimitsOnlyRefuse
limits_only_refuse m levels production s r e =
    subst (λ o. IfSome o (λ r. reads (levels + m.levels) production (with_more m s) ≡ Some (with_more m r))) e (levels_read_alike m levels production s).same

-- a text and no more
abbrev text_alone : List ℕ → More
text_alone text = record { text = text; room = 0; left = 0; levels = 0 }

alone_before : (text : List ℕ) (s : State) → with_more (text_alone text) s ≡ before text s
alone_before text s =
    let room : s.room + 0 ≡ s.room = omega arith in
    let left : s.left + 0 ≡ s.left = omega arith in
    rw room (rw left refl)

mapped : (text : List ℕ) (o q : Option State) → Alike (text_alone text) o q → q ≡ option_map (before text) o
mapped text None q h = h.none (record { room = refl; left = refl; levels = refl }) refl
mapped text (Some r) q h = h.same ∙ ap Some (alone_before text r)

pub text_not_read : TextNotRead
text_not_read text levels production s =
    let same : levels + 0 ≡ levels = omega arith in
    let h : Alike (text_alone text) (reads levels production s) (reads levels production (before text s)) =
    subst (λ t. Alike (text_alone text) (reads levels production s) (reads levels production t)) (alone_before text s)
    (subst (λ n. Alike (text_alone text) (reads levels production s) (reads n production (with_more (text_alone text) s))) same (levels_read_alike (text_alone text) levels production s)) in
    mapped text (reads levels production s) (reads levels production (before text s)) h
