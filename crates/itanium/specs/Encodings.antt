-- Encodings: functions, objects, and special names.
-- Source: Itanium C++ ABI, 5.1.2 (<encoding>, <bare-function-type>) and 5.1.4 (<special-name>).
-- Own: template parameter objects, initializers of modules, `enable_if` and constraints are faults
-- in this stage. The numbers of thunks and of temporaries aren't shown.
use Rattle.std.specs.Prelude.{ℕ, zero, suc, ◌==◌, ◌&&◌, ◌||◌, Bool, true, false, not, List, [], ◌∷◌, length, if◌then◌else◌, Some, codes}
use Rattle.std.specs.Str.{byte}
use Rattle.itanium.specs.Tree.{Text, Tree, Trees, no_trees, trees, function, resulting, special, construction_vtable, ends_in_arguments}
use Rattle.itanium.specs.Tables.{special_types, special_entities}
use Rattle.itanium.specs.Reading.{Reading, Entity, Inner, ◌>>=◌, ◌>>◌, give, fault, need, leading, by_table, one_of, if_next, if_first, optional, apart}
use Rattle.itanium.specs.Identifiers.{is_seq_digit, number}

-- ---- special names

-- a number of a <call-offset>, and the two of a virtual one
unfoldable pub offset : Reading (Unit {0})
offset = number >> need (codes "_")

abbrev pub virtual_offset : Reading (Unit {0})
virtual_offset = offset >> offset

-- <call-offset>
unfoldable pub call_offset : Reading (Unit {0})
call_offset = one_of ((codes "h", offset) ∷ (codes "v", virtual_offset) ∷ []) fault

-- the number of a temporary and its `_`, which may be missing where there is no number
unfoldable pub temporary_number : Reading (Unit {0})
temporary_number = do
  text ← leading is_seq_digit
  if length text == 0 then optional (codes "_") >> give tt else need (codes "_")

-- what is made for what follows, under its title
unfoldable pub titled : Text → Reading Tree → Reading Tree
titled title reading = do
  tree ← reading
  give (special title tree)

-- what special names begin with
abbrev pub begins_special : ℕ → Bool
begins_special b = b == byte "T" || b == byte "G"

module _ (inner : Inner) where
  -- what is made for an entity
  unfoldable pub special_entity : Text → Reading Tree
  special_entity title = do
    name ← inner.entity false
    give (special title name.tree)

  -- a thunk, with the offsets of its class and of its result
  abbrev pub thunk : Text → Reading (Unit {0}) → Reading Tree
  thunk title offsets = offsets >> titled title inner.encoding

  -- the vtable of a base while a class is constructed, which stands first
  unfoldable pub construction : Reading Tree
  construction = do
    class ← inner.type
    offset
    base ← inner.type
    give (construction_vtable base class)

  -- the temporary of a reference
  unfoldable pub reference_temporary : Reading Tree
  reference_temporary = do
    tree ← special_entity (codes "reference temporary for ")
    temporary_number
    give tree

  abbrev pub other_specials : List (Text × Reading Tree)
  other_specials =
      (codes "TC", construction) ∷ (codes "GR", reference_temporary)
      ∷ (codes "Th", thunk (codes "non-virtual thunk to ") offset)
      ∷ (codes "Tv", thunk (codes "virtual thunk to ") virtual_offset)
      ∷ (codes "Tc", thunk (codes "covariant return thunk to ") (call_offset >> call_offset)) ∷ []

  -- <special-name>
  unfoldable pub special_name : Reading Tree
  special_name = by_table special_types (λ title. titled title inner.type)
      (by_table special_entities special_entity (one_of other_specials fault))

-- ---- functions

-- whether the bytes end, or with them the encoding
abbrev pub ends_encoding : List ℕ → Bool
ends_encoding [] = true
ends_encoding (b ∷ bytes) = b == byte "E" || b == byte "." || b == byte "_"

abbrev pub at_end : Reading Bool
at_end = λ s. Some (ends_encoding s.bytes, s)

-- whether a function shows its result: its name ends in template arguments, and isn't that of a
-- constructor, a destructor or a conversion
abbrev pub has_result : Entity → Bool
has_result name = ends_in_arguments name.tree && not name.has_no_result

module _ (inner : Inner) where
  -- types up to the end of an encoding, one at least; the number bounds the turns
  unfoldable pub types : ℕ → Reading (List Tree)
  types zero = fault
  types (suc turns) = do
    first ← inner.type
    is_last ← at_end
    if is_last then give (first ∷ []) else (do
      more ← types turns
      give (first ∷ more))

  abbrev pub all_types : Reading (List Tree)
  all_types = λ s. types (length s.bytes) s

  -- the parameters of a function: a `v` alone is none
  unfoldable pub parameters : Reading Trees
  parameters = if_next (codes "v") (give no_trees) (do
    found ← all_types
    give (trees found))

  unfoldable pub plain_function : Entity → Reading Tree
  plain_function name = do
    found ← parameters
    give (function name.tree found name.qualifiers)

  -- a function whose result stands before its parameters
  unfoldable pub template_function : Entity → Reading Tree
  template_function name = do
    result ← inner.type
    found ← parameters
    give (resulting result name.tree found name.qualifiers)

  unfoldable pub function_of : Entity → Reading Tree
  function_of name = if has_result name then template_function name else plain_function name

  -- a function, or an object where nothing follows its name
  unfoldable pub named_encoding : Reading Tree
  named_encoding = do
    name ← inner.entity true
    is_object ← at_end
    if is_object then give name.tree else function_of name

  -- <encoding>: what template parameters stand for is its own
  unfoldable pub encoding_rule : Reading Tree
  encoding_rule = apart (if_first begins_special (special_name inner) named_encoding)
