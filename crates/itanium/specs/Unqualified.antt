-- Unqualified names: identifiers, operators, constructors, destructors, conversions. Qualifiers.
-- Source: Itanium C++ ABI, 5.1.2 (<unqualified-name>), 5.1.3 (<operator-name>), 5.1.4
-- (<ctor-dtor-name>) and 5.1.5 (<CV-qualifiers>, <ref-qualifier>).
-- Own: structured bindings, closures, types without a name, modules and friends are faults in this
-- stage. A constructor is named by the last identifier of its class, without ABI tags. The entity
-- that an inherited constructor names is read, and tells nothing.
use Rattle.std.specs.Prelude.{ℕ, ◌==◌, Bool, true, false, [], ◌∷◌, ◌++◌, if◌then◌else◌, Option, Some, None, codes}
use Rattle.std.specs.Char.{is_ascii_digit}
use Rattle.std.specs.Int.{is_in_range}
use Rattle.std.specs.List.{list_any}
use Rattle.std.specs.Str.{byte}
use Rattle.itanium.specs.Tree.{Text, Tree, word, phrase, template, constructor, destructor, conversion, as_class, scoped}
use Rattle.itanium.specs.Tables.{operators, ref_qualifiers}
use Rattle.itanium.specs.Reading.{Reading, Entity, Inner, ◌>>=◌, ◌>>◌, give, fault, need_byte, by_table, one_of, if_next, if_first, optional, inside_conversion}
use Rattle.itanium.specs.Identifiers.{source_name, tagged_name}
use Rattle.itanium.specs.Args.{template_args}

-- ---- qualifiers

-- a text, if the flag is set
abbrev pub when : Bool → Text → Text
when is_shown text = if is_shown then text else []

-- <CV-qualifiers>, as they are shown
unfoldable pub cv_qualifiers : Reading Text
cv_qualifiers = do
  is_restrict ← optional (codes "r")
  is_volatile ← optional (codes "V")
  is_const ← optional (codes "K")
  give (when is_const (codes " const")
      ++ when is_volatile (codes " volatile") ++ when is_restrict (codes " restrict"))

-- <ref-qualifier>, if there is one
unfoldable pub ref_qualifier : Reading Text
ref_qualifier = by_table ref_qualifiers give (give [])

-- ---- unqualified names

-- an unqualified name without its ABI tags, and the scope that it is shown in
pub record Base : Type 0 where
  pub scope : Option Tree
  pub name : Tree
  pub has_no_result : Bool  -- whether it is a constructor, a destructor or a conversion

abbrev pub base_of : Option Tree → Tree → Base
base_of scope name = record { scope = scope; name = name; has_no_result = false }

-- a constructor or destructor of a class
abbrev pub structor_of : (Tree → Tree) → Tree → Base
structor_of make scope = record {
  scope = Some (as_class scope);
  name = make (as_class scope);
  has_no_result = true;
}

-- which constructors and destructors there are
abbrev pub is_constructor_kind : ℕ → Bool
is_constructor_kind c = is_in_range (byte "1") (byte "5") c

abbrev pub is_destructor_kind : ℕ → Bool
is_destructor_kind c = list_any (λ b. b == c) (codes "01245")

-- a digit that a length begins with
abbrev pub is_length_digit : ℕ → Bool
is_length_digit c = is_in_range (byte "1") (byte "9") c

-- a destructor of a class, behind its `D`
unfoldable pub destructor_name : Option Tree → Reading Base
destructor_name None = fault
destructor_name (Some scope) = do
  need_byte is_destructor_kind
  give (structor_of destructor scope)

-- the operator of a literal's suffix, behind its `li`
unfoldable pub literal_operator : Option Tree → Reading Base
literal_operator scope = do
  name ← source_name
  give (base_of scope (phrase (codes "operator\"\" " ++ name)))

-- a vendor's operator, behind its `v`
unfoldable pub vendor_operator : Option Tree → Reading Base
vendor_operator scope = do
  need_byte is_ascii_digit
  name ← source_name
  give (base_of scope (phrase (codes "operator " ++ name)))

-- an identifier
unfoldable pub identifier_name : Option Tree → Reading Base
identifier_name scope = do
  name ← source_name
  give (base_of scope (word name))

module _ (inner : Inner) where
  -- which constructor it is; behind an `I` an entity follows, which is inherited
  unfoldable pub constructor_kind : Bool → Reading (Unit {0})
  constructor_kind is_own = if_next (codes "I") (do
    need_byte is_constructor_kind
    _ ← inner.entity is_own
    give tt) (need_byte is_constructor_kind)

  -- a constructor of a class, behind its `C`
  unfoldable pub constructor_name : Bool → Option Tree → Reading Base
  constructor_name is_own None = fault
  constructor_name is_own (Some scope) = do
    constructor_kind is_own
    give (structor_of constructor scope)

  -- a conversion, behind its `cv`
  unfoldable pub conversion_name : Option Tree → Reading Base
  conversion_name scope = do
    type ← inside_conversion inner.type
    give (record { scope = scope; name = conversion type; has_no_result = true })

  -- <operator-name>
  unfoldable pub operator_name : Option Tree → Reading Base
  operator_name scope = by_table operators
      (λ sign. give (base_of scope (word (codes "operator" ++ sign))))
      (one_of ((codes "cv", conversion_name scope) ∷ (codes "li", literal_operator scope)
      ∷ (codes "v", vendor_operator scope) ∷ []) fault)

  -- <ctor-dtor-name>, <source-name> or <operator-name>
  unfoldable pub base_name : Bool → Option Tree → Reading Base
  base_name is_own scope =
      one_of ((codes "C", constructor_name is_own scope) ∷ (codes "D", destructor_name scope) ∷ [])
      (if_first is_length_digit (identifier_name scope) (operator_name scope))

  -- <unqualified-name>: an `L` isn't shown
  unfoldable pub unqualified_name : Bool → Option Tree → Reading Entity
  unqualified_name is_own scope = do
    optional (codes "L")
    base ← base_name is_own scope
    name ← tagged_name base.name
    give (record {
      tree = scoped base.scope name;
      has_no_result = base.has_no_result;
      qualifiers = [];
    })

  -- a template's name, and the arguments that follow it
  unfoldable pub with_arguments : Bool → Entity → Reading Entity
  with_arguments is_own name = do
    arguments ← template_args inner is_own
    give (record name { tree = template name.tree arguments })
