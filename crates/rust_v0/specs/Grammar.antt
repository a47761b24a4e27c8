-- The grammar of v0 names: which parts each production is made of, in order, and their texts.
-- Source: Rust RFC 2603 and what rustc added: types of patterns, constants that are references,
-- texts, arrays, tuples or structs, and bindings of constants.
use Rattle.std.specs.Prelude.{ℕ, ◌==◌, ◌||◌, Bool, true, false, List, [], ◌∷◌, if◌then◌else◌, Option, Some, None, option_and_then, codes}
use Rattle.std.specs.Option.{option_or}
use Rattle.std.specs.Str.{byte}
use Rattle.rust_v0.specs.Numbers.{after}
use Rattle.rust_v0.specs.declared.grammar.Production.{Production}
use Rattle.rust_v0.specs.declared.grammar.Production.TheVariants.{ValuePath, TypePath, TraitPath, AnyType, BracedConstant, BareConstant, Pattern}
use Rattle.rust_v0.specs.declared.grammar.Item.{Item}
use Rattle.rust_v0.specs.declared.grammar.Item.TheVariants.{Argument, TypeItem, ConstantItem, PatternItem}
use Rattle.rust_v0.specs.declared.grammar.Leaf.{Leaf}
use Rattle.rust_v0.specs.declared.grammar.Leaf.TheVariants.{Root, ReferenceLifetime, ObjectLifetime, Binder, Unsafety, Abi, Integer, Sign, Boolean, Character, Text, Open}
use Rattle.rust_v0.specs.declared.grammar.Part as declared_part
use Rattle.rust_v0.specs.declared.grammar.Part.TheVariants as in_code

-- a part of a production
pub data Part : Type 0 where
  shown : List ℕ → Part  -- a text
  single : Leaf → Part  -- what has no production inside
  inside : Production → Part  -- another production
  nested : Production → Part  -- a namespace, the path that it is in, and a name in it
  place : Part  -- where an impl stands, which isn't shown
  reference : Production → Part  -- a place earlier in the name, and what reads from there
  list : Item → List ℕ → Part  -- items up to `E`, and a text between
  more : Item → List ℕ → Part  -- the same, after an item
  tuple : Item → Part  -- items up to `E`, with a comma after one alone
  traits : Part  -- traits under a binder of their own
  contents : Part  -- what a struct or a variant contains
  returned : Part  -- the result of a function

-- a part as the code has it
abbrev pub part_of : declared_part.Part → Part
part_of (in_code.Shown t) = shown t.now
part_of (in_code.Single leaf) = single leaf
part_of (in_code.Inside p) = inside p
part_of (in_code.Nested p) = nested p
part_of in_code.Place = place
part_of (in_code.Reference p) = reference p
part_of (in_code.List i t) = list i t.now
part_of (in_code.More i t) = more i t.now
part_of (in_code.Tuple i) = tuple i
part_of in_code.Traits = traits
part_of in_code.Contents = contents
part_of in_code.Returned = returned

-- the parts of a path, inside an expression or a type: a text opens its generic arguments
unfoldable pub path_parts : Production → List ℕ → ℕ → Option (List Part)
path_parts path opening tag =
    if tag == byte "C" then Some (single Root ∷ [])
    else (if tag == byte "N" then Some (nested path ∷ [])
    else (if tag == byte "M" then Some (place ∷ shown (codes "<") ∷ inside AnyType ∷ shown (codes ">") ∷ [])
    else (if tag == byte "X" then Some (place ∷ shown (codes "<") ∷ inside AnyType ∷ shown (codes " as ") ∷ inside TypePath ∷ shown (codes ">") ∷ [])
    else (if tag == byte "Y" then Some (shown (codes "<") ∷ inside AnyType ∷ shown (codes " as ") ∷ inside TypePath ∷ shown (codes ">") ∷ [])
    else (if tag == byte "I" then Some (inside path ∷ shown opening ∷ list Argument (codes ", ") ∷ shown (codes ">") ∷ [])
    else (if tag == byte "B" then Some (reference path ∷ [])
    else None))))))

-- the same of a path inside an expression, and of one inside a type
abbrev pub value_path_parts : ℕ → Option (List Part)
value_path_parts tag = path_parts ValuePath (codes "::<") tag

abbrev pub type_path_parts : ℕ → Option (List Part)
type_path_parts tag = path_parts TypePath (codes "<") tag

-- the parts of a trait's path
unfoldable pub trait_path_parts : ℕ → Option (List Part)
trait_path_parts tag =
    if tag == byte "I" then Some (inside TypePath ∷ shown (codes "<") ∷ list Argument (codes ", ") ∷ single Open ∷ [])
    else (if tag == byte "B" then Some (reference TraitPath ∷ [])
    else type_path_parts tag)

-- the parts of a type that is made of others
unfoldable pub compound_parts : ℕ → Option (List Part)
compound_parts tag =
    if tag == byte "R" then Some (shown (codes "&") ∷ single ReferenceLifetime ∷ inside AnyType ∷ [])
    else (if tag == byte "Q" then Some (shown (codes "&") ∷ single ReferenceLifetime ∷ shown (codes "mut ") ∷ inside AnyType ∷ [])
    else (if tag == byte "P" then Some (shown (codes "*const ") ∷ inside AnyType ∷ [])
    else (if tag == byte "O" then Some (shown (codes "*mut ") ∷ inside AnyType ∷ [])
    else (if tag == byte "S" then Some (shown (codes "[") ∷ inside AnyType ∷ shown (codes "]") ∷ [])
    else (if tag == byte "A" then Some (shown (codes "[") ∷ inside AnyType ∷ shown (codes "; ") ∷ inside BareConstant ∷ shown (codes "]") ∷ [])
    else (if tag == byte "T" then Some (shown (codes "(") ∷ tuple TypeItem ∷ shown (codes ")") ∷ [])
    else (if tag == byte "F" then Some (single Binder ∷ single Unsafety ∷ single Abi ∷ shown (codes "fn(") ∷ list TypeItem (codes ", ") ∷ shown (codes ")") ∷ returned ∷ [])
    else (if tag == byte "D" then Some (shown (codes "dyn ") ∷ traits ∷ single ObjectLifetime ∷ [])
    else (if tag == byte "W" then Some (inside AnyType ∷ shown (codes " is ") ∷ inside Pattern ∷ [])
    else (if tag == byte "B" then Some (reference AnyType ∷ [])
    else None))))))))))

-- the part of a type that has a letter of its own
unfoldable pub basic_parts : ℕ → Option (List Part)
basic_parts tag =
    if tag == byte "b" then Some (shown (codes "bool") ∷ [])
    else (if tag == byte "c" then Some (shown (codes "char") ∷ [])
    else (if tag == byte "e" then Some (shown (codes "str") ∷ [])
    else (if tag == byte "u" then Some (shown (codes "()") ∷ [])
    else (if tag == byte "a" then Some (shown (codes "i8") ∷ [])
    else (if tag == byte "s" then Some (shown (codes "i16") ∷ [])
    else (if tag == byte "l" then Some (shown (codes "i32") ∷ [])
    else (if tag == byte "x" then Some (shown (codes "i64") ∷ [])
    else (if tag == byte "n" then Some (shown (codes "i128") ∷ [])
    else (if tag == byte "i" then Some (shown (codes "isize") ∷ [])
    else (if tag == byte "h" then Some (shown (codes "u8") ∷ [])
    else (if tag == byte "t" then Some (shown (codes "u16") ∷ [])
    else (if tag == byte "m" then Some (shown (codes "u32") ∷ [])
    else (if tag == byte "y" then Some (shown (codes "u64") ∷ [])
    else (if tag == byte "o" then Some (shown (codes "u128") ∷ [])
    else (if tag == byte "j" then Some (shown (codes "usize") ∷ [])
    else (if tag == byte "f" then Some (shown (codes "f32") ∷ [])
    else (if tag == byte "d" then Some (shown (codes "f64") ∷ [])
    else (if tag == byte "z" then Some (shown (codes "!") ∷ [])
    else (if tag == byte "p" then Some (shown (codes "_") ∷ [])
    else (if tag == byte "v" then Some (shown (codes "...") ∷ [])
    else None))))))))))))))))))))

-- the parts of a constant that is a literal, but for a string
unfoldable pub literal_parts : ℕ → Option (List Part)
literal_parts tag =
    if tag == byte "p" then Some (shown (codes "_") ∷ [])
    else (if tag == byte "h" || tag == byte "t" || tag == byte "m" || tag == byte "y" || tag == byte "o" || tag == byte "j" then Some (single Integer ∷ [])
    else (if tag == byte "a" || tag == byte "s" || tag == byte "l" || tag == byte "x" || tag == byte "n" || tag == byte "i" then Some (single Sign ∷ single Integer ∷ [])
    else (if tag == byte "b" then Some (single Boolean ∷ [])
    else (if tag == byte "c" then Some (single Character ∷ [])
    else None))))

-- the parts of a constant in braces that is no literal
unfoldable pub braced_parts : ℕ → Option (List Part)
braced_parts tag =
    if tag == byte "e" then Some (shown (codes "{*") ∷ single Text ∷ shown (codes "}") ∷ [])
    else (if tag == byte "R" then Some (shown (codes "{&") ∷ inside BareConstant ∷ shown (codes "}") ∷ [])
    else (if tag == byte "Q" then Some (shown (codes "{&mut ") ∷ inside BareConstant ∷ shown (codes "}") ∷ [])
    else (if tag == byte "A" then Some (shown (codes "{[") ∷ list ConstantItem (codes ", ") ∷ shown (codes "]}") ∷ [])
    else (if tag == byte "T" then Some (shown (codes "{(") ∷ tuple ConstantItem ∷ shown (codes ")}") ∷ [])
    else (if tag == byte "V" then Some (shown (codes "{") ∷ inside ValuePath ∷ contents ∷ shown (codes "}") ∷ [])
    else (if tag == byte "B" then Some (reference BracedConstant ∷ [])
    else literal_parts tag))))))

-- the parts of a constant inside another one that is no literal
unfoldable pub bare_parts : ℕ → Option (List Part)
bare_parts tag =
    if tag == byte "e" then Some (shown (codes "*") ∷ single Text ∷ [])
    else (if tag == byte "R" then Some (shown (codes "&") ∷ inside BareConstant ∷ [])
    else (if tag == byte "Q" then Some (shown (codes "&mut ") ∷ inside BareConstant ∷ [])
    else (if tag == byte "A" then Some (shown (codes "[") ∷ list ConstantItem (codes ", ") ∷ shown (codes "]") ∷ [])
    else (if tag == byte "T" then Some (shown (codes "(") ∷ tuple ConstantItem ∷ shown (codes ")") ∷ [])
    else (if tag == byte "V" then Some (inside ValuePath ∷ contents ∷ [])
    else (if tag == byte "B" then Some (reference BareConstant ∷ [])
    else literal_parts tag))))))

-- the parts of a pattern
unfoldable pub pattern_parts : ℕ → Option (List Part)
pattern_parts tag =
    if tag == byte "R" then Some (inside BracedConstant ∷ shown (codes "..=") ∷ inside BracedConstant ∷ [])
    else (if tag == byte "O" then Some (inside Pattern ∷ more PatternItem (codes " | ") ∷ [])
    else (if tag == byte "N" then Some (shown (codes "!null") ∷ [])
    else None))

-- the parts of a type that is no path, without the `w` that may stand before it
unfoldable pub type_parts : ℕ → Option (List Part)
type_parts tag = option_or (basic_parts tag) (compound_parts tag)

-- the parts of a production that begins with that tag
abbrev pub parts_of : Production → ℕ → Option (List Part)
parts_of ValuePath tag = value_path_parts tag
parts_of TypePath tag = type_path_parts tag
parts_of TraitPath tag = trait_path_parts tag
parts_of AnyType tag = type_parts tag
parts_of BracedConstant tag = braced_parts tag
parts_of BareConstant tag = bare_parts tag
parts_of Pattern tag = pattern_parts tag

-- whether the production is a constant
abbrev pub is_constant : Production → Bool
is_constant ValuePath = false
is_constant TypePath = false
is_constant TraitPath = false
is_constant AnyType = false
is_constant BracedConstant = true
is_constant BareConstant = true
is_constant Pattern = false

-- whether the production may be a path, which has no tag of its own there
abbrev pub is_type : Production → Bool
is_type ValuePath = false
is_type TypePath = false
is_type TraitPath = false
is_type AnyType = true
is_type BracedConstant = false
is_type BareConstant = false
is_type Pattern = false

-- what follows the tags of a reference to a string, which stands as the string alone
abbrev pub after_text_reference : Production → List ℕ → Option (List ℕ)
after_text_reference production bytes =
    if is_constant production
    then option_and_then (λ rest. after (byte "e") rest) (after (byte "R") bytes) else None

-- the parts that follow a tag, or those of a path that is a type
abbrev pub parts_after : Production → ℕ → List ℕ → Option (List Part) → Option (List Part × List ℕ)
parts_after production tag bytes (Some parts) = Some (parts, bytes)
parts_after production tag bytes None =
    if is_type production then Some (inside TypePath ∷ [], tag ∷ bytes) else None

-- the parts of a production that begins with a tag, and the bytes after that
abbrev pub tagged : Production → List ℕ → Option (List Part × List ℕ)
tagged production [] = None
tagged production (tag ∷ bytes) = parts_after production tag bytes (parts_of production tag)

-- what begins after the tags of a reference to a string, and else after one tag
abbrev pub head_after : Option (List ℕ) → Production → List ℕ → Option (List Part × List ℕ)
head_after (Some rest) production bytes = Some (single Text ∷ [], rest)
head_after None production bytes = tagged production bytes

-- the parts of the production that stands here, and the bytes after its tag; a `w` was passed over
unfoldable pub head : Production → List ℕ → Option (List Part × List ℕ)
head production bytes = head_after (after_text_reference production bytes) production bytes
