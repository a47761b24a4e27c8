-- How each production of a v0 name reads, by levels: one further in for each production inside
-- another.
-- Source: Rust RFC 2603 and what rustc added: the `w` before a type. Own: a path that isn't shown is
-- read, and what stands at the places that its references name is not; the levels, and how many
-- productions are read.
use Rattle.std.specs.Prelude.{ℕ, zero, suc, ◌+◌, ◌-◌, ◌==◌, ◌||◌, Bool, true, false, List, [], ◌∷◌, length, drop, nat_lt, if◌then◌else◌, Option, Some, None, option_map, codes}
use Rattle.std.specs.Str.{byte}
use Rattle.rust_v0.specs.declared.grammar.Production.{Production}
use Rattle.rust_v0.specs.declared.grammar.Production.TheVariants.{TypePath, TraitPath, AnyType, BracedConstant, BareConstant, Pattern}
use Rattle.rust_v0.specs.declared.grammar.Item.{Item}
use Rattle.rust_v0.specs.declared.grammar.Item.TheVariants.{Argument, TypeItem, ConstantItem, Field, Trait, PatternItem}
use Rattle.rust_v0.specs.declared.reading.Shape.{Shape}
use Rattle.rust_v0.specs.declared.reading.Shape.TheVariants.{Unit, Tuple, Named}
use Rattle.rust_v0.specs.declared.printer.Mode.{Mode}
use Rattle.rust_v0.specs.declared.printer.Mode.TheVariants.{Hidden}
use Rattle.rust_v0.specs.Grammar.{Part, shown, single, inside, nested, place, reference, list, more, tuple, traits, contents, returned, head, is_type}
use Rattle.rust_v0.specs.Numbers.{after}
use Rattle.rust_v0.specs.State.{State, Reading, say, is_hidden, taken, ◌>>=◌}
use Rattle.rust_v0.specs.Shown.{say_identifier}
use Rattle.rust_v0.specs.Leaves.{if_next, nothing, number, counted_in, identifier, letter, say_lifetime, segment, binder, leaf_reading}

-- how each production reads one level further in
abbrev pub Inner : Type 0
Inner = Production → Reading

-- a production counted
abbrev pub count : Reading
count s = if s.left == 0 then None else Some (record s { left = s.left - 1 })

-- the state with another mode, and with other bytes left to read
abbrev pub with_mode : Mode → State → State
with_mode mode s = record s { mode = mode }

abbrev pub with_bytes : List ℕ → State → State
with_bytes bytes s = record s { bytes = bytes }

-- a path that isn't shown
unfoldable pub hidden : Inner → Reading
hidden inner s =
    option_map (with_mode s.mode) (inner TypePath (with_mode Hidden s))

-- where an impl stands: a number, and a path that isn't shown
unfoldable pub impl_place : Inner → Reading
impl_place inner s = counted_in (byte "s") s >>= λ n. hidden inner n.1

-- a namespace, the path that it is in, and a name in it
unfoldable pub nested_path : Inner → Production → Reading
nested_path inner path s = do
  space ← letter s
  around ← inner path space.1
  segment space.0 around

-- a place that is before another one
abbrev pub if_before : ℕ → ℕ × State → Option (ℕ × State)
if_before here at = if nat_lt at.0 here then Some at else None

-- the place that a reference names: any before that of its own tag
unfoldable pub place_before : State → Option (ℕ × State)
place_before s = number s >>= if_before (length s.name - (length s.bytes + 1))

-- what stands at a place that a reference names, and then what follows the reference
abbrev pub target : Inner → Production → ℕ → Reading
target inner production at s =
    if is_hidden s.mode then Some s
    else option_map (with_bytes s.bytes) (inner production (with_bytes (drop at s.name) s))

-- a reference: a place before its own, and what this production reads from there
unfoldable pub back_reference : Inner → Production → Reading
back_reference inner production s = place_before s >>= λ at. target inner production at.0 at.1

-- a constant after `K`, or a type
unfoldable pub value : Inner → Reading
value inner s = if_next (byte "K") (inner BracedConstant) (inner AnyType) s

-- a lifetime that is a generic argument
unfoldable pub lifetime_argument : Reading
lifetime_argument s = number s >>= λ index. say_lifetime index.0 index.1

-- a generic argument
unfoldable pub argument : Inner → Reading
argument inner s = if_next (byte "L") lifetime_argument (value inner) s

-- the name of a field
unfoldable pub field_name : Reading
field_name s = do
  n ← counted_in (byte "s") s
  named ← identifier n.1
  word ← say_identifier named.0 named.1
  say (codes ": ") word

-- a field: its name and its constant
unfoldable pub field : Inner → Reading
field inner s = field_name s >>= inner BareConstant

-- the name of a trait's item that is bound
unfoldable pub binding_name : Reading
binding_name s = do
  named ← identifier s
  word ← say_identifier named.0 named.1
  say (codes " = ") word

-- one reading after a `p`, and else the end of the bindings
abbrev pub bindings_on : Bool → State → Option (List ℕ) → (State → Option (Bool × State))
    → Option (Bool × State)
bindings_on is_bound s None next = Some (is_bound, s)
bindings_on is_bound s (Some rest) next = next (record s { bytes = rest })

-- the text before a binding: others stand before it, or none
abbrev pub before_binding : Bool → List ℕ
before_binding is_after = if is_after then codes ", " else codes "<"

-- bindings, as long as a `p` stands first; whether there is one
unfoldable pub bindings : Inner → Bool → Bool → ℕ → State → Option (Bool × State)
bindings inner is_after is_bound zero s = Some (is_bound, s)
bindings inner is_after is_bound (suc turns) s =
    bindings_on is_bound s (after (byte "p") s.bytes)
    (λ r. say (before_binding is_after) r >>= λ said. binding_name said >>= λ bound.
    value inner bound >>= bindings inner true true turns)

-- the `>` of a trait's path and of its bindings
abbrev pub close : Bool → Reading
close is_some s = if is_some then say (codes ">") s else Some s

-- a trait, with bindings among its generic arguments
unfoldable pub bounded_trait : Inner → Reading
bounded_trait inner s = do
  path ← inner TraitPath (record s { is_open = false })
  bound ← bindings inner path.is_open false (length path.bytes)
      (record path { is_open = false })
  close (path.is_open || bound.0) bound.1

-- an item of a list
abbrev pub item_reading : Inner → Item → Reading
item_reading inner Argument s = argument inner s
item_reading inner TypeItem s = inner AnyType s
item_reading inner ConstantItem s = inner BareConstant s
item_reading inner Field s = field inner s
item_reading inner Trait s = bounded_trait inner s
item_reading inner PatternItem s = inner Pattern s

-- items up to `E`, with a text before each
unfoldable pub more_items : Inner → Item → List ℕ → ℕ → Reading
more_items inner item between zero s = None
more_items inner item between (suc turns) s = if_next (byte "E") nothing
    (λ r. say between r >>= λ said. item_reading inner item said >>= more_items inner item between turns) s

-- as many as there can be: each takes a byte
abbrev pub more_from : Inner → Item → List ℕ → Reading
more_from inner item between s = more_items inner item between (length s.bytes) s

-- items up to `E`, with a text between, and another after one alone
unfoldable pub items : Inner → Item → List ℕ → List ℕ → Reading
items inner item between alone s = if_next (byte "E") nothing
    (λ r. item_reading inner item r >>= if_next (byte "E") (say alone) (more_from inner item between)) s

-- traits under a binder of their own
unfoldable pub bound_traits : Inner → Reading
bound_traits inner s = do
  bound ← binder s
  all ← items inner Trait (codes " + ") [] bound
  Some (record all { bound = s.bound })

-- the constants of a struct or a variant without names, and those with names
abbrev pub unnamed : Inner → Reading
unnamed inner s = (say (codes "(") s >>= items inner ConstantItem (codes ", ") []) >>= say (codes ")")

abbrev pub named_fields : Inner → Reading
named_fields inner s = (say (codes " { ") s >>= items inner Field (codes ", ") []) >>= say (codes " }")

-- what a struct or a variant contains, by its letter
abbrev pub shape_of : ℕ → Option Shape
shape_of c =
    if c == byte "U" then Some Unit
    else (if c == byte "T" then Some Tuple else (if c == byte "S" then Some Named else None))

abbrev pub shape_at : List ℕ → Option (Shape × List ℕ)
shape_at [] = None
shape_at (c ∷ bytes) = option_map (λ x. (x, bytes)) (shape_of c)

abbrev pub shape : State → Option (Shape × State)
shape s = taken s (shape_at s.bytes)

abbrev pub contents_of : Inner → Shape → Reading
contents_of inner Unit s = Some s
contents_of inner Tuple s = unnamed inner s
contents_of inner Named s = named_fields inner s

-- what a struct or a variant contains
unfoldable pub variant_contents : Inner → Reading
variant_contents inner s = shape s >>= λ found. contents_of inner found.0 found.1

-- the result of a function, which isn't shown where it is `()`
unfoldable pub function_result : Inner → Reading
function_result inner s =
    if_next (byte "u") nothing (λ r. say (codes " -> ") r >>= inner AnyType) s

-- a part of a production
abbrev pub part_reading : Inner → Part → Reading
part_reading inner (shown text) s = say text s
part_reading inner (single leaf) s = leaf_reading leaf s
part_reading inner (inside production) s = inner production s
part_reading inner (nested path) s = nested_path inner path s
part_reading inner place s = impl_place inner s
part_reading inner (reference production) s = back_reference inner production s
part_reading inner (list item between) s = items inner item between [] s
part_reading inner (more item between) s = more_from inner item between s
part_reading inner (tuple item) s = items inner item (codes ", ") (codes ",") s
part_reading inner traits s = bound_traits inner s
part_reading inner contents s = variant_contents inner s
part_reading inner returned s = function_result inner s

-- parts in order
unfoldable pub parts_reading : Inner → List Part → Reading
parts_reading inner [] s = Some s
parts_reading inner (part ∷ parts) s = part_reading inner part s >>= parts_reading inner parts

-- the parts of the production that stands here
abbrev pub tagged_parts : Production → State → Option (List Part × State)
tagged_parts production s = taken s (head production s.bytes)

-- the `w` that may stand before a type
unfoldable pub splat : Production → Reading
splat production s = if is_type production then if_next (byte "w") (say (codes "#[splat] ")) nothing s else Some s

-- the parts of a production, under the binders around it
abbrev pub rule : Inner → Production → Reading
rule inner production s = do
  counted ← count s
  front ← splat production counted
  begun ← tagged_parts production front
  ended ← parts_reading inner begun.0 begun.1
  Some (record ended { bound = s.bound })

-- how each production reads, with so many levels inside one another, those of references too
unfoldable pub reads : ℕ → Inner
reads zero production s = None
reads (suc levels) production s = rule (reads levels) production s
