-- The parts of productions: references, and how many bytes they have at least.
use Rattle.std.proofs.Common.{◌≡◌, ◌≤◌, ◌+◌, ℕ, Bool, true, false, List, [], ◌∷◌, refl, arith}
use Rattle.std.specs.Prelude.{◌==◌, ◌&&◌, if◌then◌else◌, nat_le, Option, Some, None, option_and_then, IfSome}
use Rattle.std.specs.Option.{option_or}
use Rattle.std.specs.Str.{byte}
use Rattle.std.proofs.lemmas.Bool.Decides.{nat_tests}
use Rattle.rust_v0.specs.declared.grammar.Production.{Production}
use Rattle.rust_v0.specs.declared.grammar.Production.TheVariants.{ValuePath, TypePath, TraitPath, AnyType, BracedConstant, BareConstant, Pattern}
use Rattle.rust_v0.specs.Numbers.{after}
use Rattle.rust_v0.specs.Grammar.{Part, shown, single, inside, nested, place, reference, list, more, tuple, traits, contents, returned, after_text_reference, bare_parts, basic_parts, braced_parts, compound_parts, head, head_after, is_constant, is_type, literal_parts, parts_after, parts_of, path_parts, pattern_parts, tagged, trait_path_parts, type_parts, type_path_parts, value_path_parts}
use Rattle.rust_v0.specs.ReadLaws.{has_reference}
use Rattle.rust_v0.proofs.StateLemmas.{Rest, rest_all, rest_step, rest_then}
use Rattle.rust_v0.proofs.BytesLemmas.{Follows, after_follows}
use Rattle.rust_v0.proofs.LeafLemmas.{leaf_weight}

-- how many bytes more than productions a production has at least: a path has one
abbrev pub weight : Production → ℕ
weight ValuePath = 1
weight TypePath = 1
weight TraitPath = 1
weight AnyType = 0
weight BracedConstant = 0
weight BareConstant = 0
weight Pattern = 0

-- the same of a part
abbrev pub part_weight : Part → ℕ
part_weight (shown text) = 0
part_weight (single leaf) = leaf_weight leaf
part_weight (inside production) = weight production
part_weight (nested path) = weight path
part_weight place = 1
part_weight (reference production) = 1
part_weight (list item between) = 0
part_weight (more item between) = 0
part_weight (tuple item) = 0
part_weight traits = 0
part_weight contents = 0
part_weight returned = 0

abbrev pub parts_weight : List Part → ℕ
parts_weight [] = 0
parts_weight (part ∷ parts) = part_weight part + parts_weight parts

-- whether a part is no reference
abbrev pub is_plain : Part → Bool
is_plain (shown text) = true
is_plain (single leaf) = true
is_plain (inside production) = true
is_plain (nested path) = true
is_plain place = true
is_plain (reference production) = false
is_plain (list item between) = true
is_plain (more item between) = true
is_plain (tuple item) = true
is_plain traits = true
is_plain contents = true
is_plain returned = true

abbrev pub are_plain : List Part → Bool
are_plain [] = true
are_plain (part ∷ parts) = is_plain part && are_plain parts

-- ---- after a tag

record TagParts (k tag : ℕ) (parts : List Part) : Type 0 where
  enough : nat_le k (parts_weight parts) ≡ true
  plain : (tag == byte "B") ≡ false → are_plain parts ≡ true

record Tags (k tag : ℕ) (o : Option (List Part)) : Type 0 where
  passed : IfSome o (TagParts k tag)

tags_none : (k tag : ℕ) → Tags k tag None
tags_none k tag = record { passed = tt }

tags_if : (k tag : ℕ) (q : Bool) (x y : Option (List Part)) → Tags k tag x → Tags k tag y → Tags k tag (if q then x else y)
tags_if k tag true x y h g = h
tags_if k tag false x y h g = g

tags_plain : (k tag : ℕ) (parts : List Part) → nat_le k (parts_weight parts) ≡ true → are_plain parts ≡ true → Tags k tag (Some parts)
tags_plain k tag parts h g = record { passed = record { enough = h; plain = λ e. g } }

tags_reference_if : (k tag : ℕ) (q : Bool) (production : Production) (y : Option (List Part)) → (tag == byte "B") ≡ q → nat_le k 1 ≡ true → Tags k tag y
    → Tags k tag (if q then Some (reference production ∷ []) else y)
tags_reference_if k tag true production y e le h = record { passed = record { enough = le; plain = λ d. absurd (grind (arith, e, d)) } }
tags_reference_if k tag false production y e le h = h

tags_reference : (k tag : ℕ) (production : Production) (y : Option (List Part)) → nat_le k 1 ≡ true → Tags k tag y
    → Tags k tag (if tag == byte "B" then Some (reference production ∷ []) else y)
tags_reference k tag production y le h = tags_reference_if k tag _ production y refl le h

tags_or : (k tag : ℕ) (x y : Option (List Part)) → Tags k tag x → Tags k tag y → Tags k tag (option_or x y)
tags_or k tag None y h g = g
tags_or k tag (Some parts) y h g = h

ruleset tag_rules = (tags_reference, tags_plain, tags_none, tags_if, refl)

value_path_tags : (tag : ℕ) → Tags 1 tag (value_path_parts tag)
unfolding path_parts
value_path_tags tag = search tag_rules depth 30

type_path_tags : (tag : ℕ) → Tags 1 tag (type_path_parts tag)
unfolding path_parts
type_path_tags tag = search tag_rules depth 30

trait_path_tags : (tag : ℕ) → Tags 1 tag (trait_path_parts tag)
unfolding trait_path_parts
trait_path_tags tag = search (tag_rules, type_path_tags) depth 30

compound_tags : (tag : ℕ) → Tags 0 tag (compound_parts tag)
unfolding compound_parts
compound_tags tag = search tag_rules depth 40 fits 4000

basic_tags : (tag : ℕ) → Tags 0 tag (basic_parts tag)
unfolding basic_parts
basic_tags tag = search tag_rules depth 60 fits 4000

literal_tags : (tag : ℕ) → Tags 0 tag (literal_parts tag)
unfolding literal_parts
literal_tags tag = search tag_rules depth 40

braced_tags : (tag : ℕ) → Tags 0 tag (braced_parts tag)
unfolding braced_parts
braced_tags tag = search (tag_rules, literal_tags) depth 40

bare_tags : (tag : ℕ) → Tags 0 tag (bare_parts tag)
unfolding bare_parts
bare_tags tag = search (tag_rules, literal_tags) depth 40

pattern_tags : (tag : ℕ) → Tags 0 tag (pattern_parts tag)
unfolding pattern_parts
pattern_tags tag = search tag_rules depth 40

type_tags : (tag : ℕ) → Tags 0 tag (type_parts tag)
unfolding type_parts
type_tags tag = tags_or 0 tag _ _ (basic_tags tag) (compound_tags tag)

production_tags : (production : Production) (tag : ℕ) → Tags (weight production) tag (parts_of production tag)
production_tags ValuePath tag = value_path_tags tag
production_tags TypePath tag = type_path_tags tag
production_tags TraitPath tag = trait_path_tags tag
production_tags AnyType tag = type_tags tag
production_tags BracedConstant tag = braced_tags tag
production_tags BareConstant tag = bare_tags tag
production_tags Pattern tag = pattern_tags tag

-- ---- the head of a production

-- what stands at the front of a production, and the bytes after that
pub record Heads (k : ℕ) (bytes : List ℕ) (parts : List Part) (rest : List ℕ) : Type 0 where
  pub tags : ℕ
  pub after : Rest tags bytes rest
  pub enough : 1 + k ≤ tags + parts_weight parts
  pub plain : has_reference bytes ≡ false → are_plain parts ≡ true

pub record Begins (k : ℕ) (bytes : List ℕ) (o : Option (List Part × List ℕ)) : Type 0 where
  pub passed : IfSome o (λ p. Heads k bytes p.0 p.1)

no_tag : (tag : ℕ) (bytes : List ℕ) → has_reference (tag ∷ bytes) ≡ false → (tag == byte "B") ≡ false
no_tag tag bytes h = grind (arith, nat_tests)

le_from : (k n : ℕ) → nat_le k n ≡ true → 1 + k ≤ 1 + n
le_from k n h = grind (arith, nat_tests)

as_type : (production : Production) (tag : ℕ) (bytes : List ℕ) → Begins (weight production) (tag ∷ bytes) (if is_type production then Some (inside TypePath ∷ [], tag ∷ bytes) else None)
as_type ValuePath tag bytes = record { passed = tt }
as_type TypePath tag bytes = record { passed = tt }
as_type TraitPath tag bytes = record { passed = tt }
as_type AnyType tag bytes = record { passed = record { tags = 0; after = rest_all (tag ∷ bytes); enough = omega arith; plain = λ e. refl } }
as_type BracedConstant tag bytes = record { passed = tt }
as_type BareConstant tag bytes = record { passed = tt }
as_type Pattern tag bytes = record { passed = tt }

after_tag : (production : Production) (tag : ℕ) (bytes : List ℕ) (o : Option (List Part)) → Tags (weight production) tag o
    → Begins (weight production) (tag ∷ bytes) (parts_after production tag bytes o)
after_tag production tag bytes None h = as_type production tag bytes
after_tag production tag bytes (Some parts) h = record {
  passed = record {
    tags = 1;
    after = rest_step 0 tag bytes bytes (rest_all bytes);
    enough = le_from (weight production) (parts_weight parts) h.passed.enough;
    plain = λ none. h.passed.plain (no_tag tag bytes none);
  };
}

tagged_begins : (production : Production) (bytes : List ℕ) → Begins (weight production) bytes (tagged production bytes)
tagged_begins production [] = record { passed = tt }
tagged_begins production (tag ∷ bytes) = after_tag production tag bytes (parts_of production tag) (production_tags production tag)

text_end : (bytes mid : List ℕ) (o : Option (List ℕ)) → Rest 1 bytes mid → Follows 1 mid o → Follows 2 bytes o
text_end bytes mid None h g = record { passed = tt }
text_end bytes mid (Some rest) h g = record { passed = rest_then 1 1 bytes mid rest h g.passed }

text_more : (bytes : List ℕ) (o : Option (List ℕ)) → Follows 1 bytes o → Follows 2 bytes (option_and_then (λ rest. after (byte "e") rest) o)
text_more bytes None h = record { passed = tt }
text_more bytes (Some mid) h = text_end bytes mid (after (byte "e") mid) h.passed (after_follows (byte "e") mid)

text_follows : (q : Bool) (bytes : List ℕ) → Follows 2 bytes (if q then option_and_then (λ rest. after (byte "e") rest) (after (byte "R") bytes) else None)
text_follows true bytes = text_more bytes (after (byte "R") bytes) (after_follows (byte "R") bytes)
text_follows false bytes = record { passed = tt }

weight_low : (production : Production) → 1 + weight production ≤ 2
weight_low ValuePath = omega arith
weight_low TypePath = omega arith
weight_low TraitPath = omega arith
weight_low AnyType = omega arith
weight_low BracedConstant = omega arith
weight_low BareConstant = omega arith
weight_low Pattern = omega arith

head_begins_at : (production : Production) (bytes : List ℕ) (o : Option (List ℕ)) → Follows 2 bytes o → Begins (weight production) bytes (head_after o production bytes)
head_begins_at production bytes None h = tagged_begins production bytes
head_begins_at production bytes (Some rest) h = record {
  passed = record {
    tags = 2;
    after = h.passed;
    enough = let e : 1 + weight production ≤ 2 = weight_low production in omega (arith, e);
    plain = λ e. refl;
  };
}

pub head_begins : (production : Production) (bytes : List ℕ) → Begins (weight production) bytes (head production bytes)
unfolding head
head_begins production bytes = head_begins_at production bytes (after_text_reference production bytes) (text_follows (is_constant production) bytes)
