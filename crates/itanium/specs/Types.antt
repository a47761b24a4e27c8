-- Types: builtin and qualified ones, pointers, references, arrays, functions, members, vectors.
-- Source: Itanium C++ ABI, 5.1.5 (<type>), and of 5.1 Compression (which types are components).
-- Own: `decltype`, pack expansions, exception specifications, vendor's qualifiers and types, types
-- of fixed point or by bits, and constrained or elaborated types are faults in this stage.
use Rattle.std.specs.Prelude.{◌==◌, false, List, [], ◌∷◌, ◌++◌, length, flat_map, if◌then◌else◌, codes}
use Rattle.std.specs.Char.{is_ascii_digit}
use Rattle.itanium.specs.Tree.{Text, Tree, trees, word, phrase, template, qualified, pointer, lvalue_reference, rvalue_reference, member_pointer, array, function_type, marked, vector}
use Rattle.itanium.specs.Tables.{builtin_types, function_ends}
use Rattle.itanium.specs.Reading.{Reading, Inner, ◌>>=◌, ◌>>◌, give, need, leading, by_table, one_of, if_next, if_at, if_first, optional, all_up_to, enter, entered, takes_arguments}
use Rattle.itanium.specs.Substitutions.{substitution, template_param}
use Rattle.itanium.specs.Args.{template_args}
use Rattle.itanium.specs.Unqualified.{cv_qualifiers, is_length_digit}

-- a floating point type of so many bits, behind its `DF`
unfoldable pub float_type : Reading Tree
float_type = do
  bits ← leading is_ascii_digit
  need (codes "_")
  give (phrase (codes "_Float" ++ bits))

module _ (inner : Inner) where
  -- what is made of the type that follows
  abbrev pub of_type : (Tree → Tree) → Reading Tree
  of_type make = do
    type ← inner.type
    give (make type)

  -- a template's name, with its arguments
  unfoldable pub template_type : Tree → Reading Tree
  template_type name = do
    arguments ← template_args inner false
    give (template name arguments)

  -- a name
  unfoldable pub entity_type : Reading Tree
  entity_type = do
    name ← inner.entity false
    give name.tree

  -- <array-type>, behind its `A`
  unfoldable pub array_type : Reading Tree
  array_type = do
    size ← leading is_ascii_digit
    need (codes "_")
    of_type (λ element. array element size)

  -- <pointer-to-member-type>, behind its `M`
  unfoldable pub member_type : Reading Tree
  member_type = do
    class ← inner.type
    of_type (λ member. member_pointer class member)

  -- a vector of so many elements, which are pixels where a `p` follows
  unfoldable pub sized_vector : Reading Tree
  sized_vector = do
    size ← leading is_ascii_digit
    need (codes "_")
    if_next (codes "p") (give (phrase (codes "pixel vector[" ++ size ++ codes "]")))
        (of_type (λ element. vector element size))

  unfoldable pub unsized_vector : Reading Tree
  unsized_vector = need (codes "_") >> of_type (λ element. vector element [])

  -- a vector, behind its `Dv`
  unfoldable pub vector_type : Reading Tree
  vector_type = if_first is_length_digit sized_vector unsized_vector

  -- <function-type>, behind its qualifiers and its `F`; a `v` is no parameter
  unfoldable pub function_parameter : Reading (List Tree)
  function_parameter = if_next (codes "v") (give []) (do
    type ← inner.type
    give (type ∷ []))

  unfoldable pub function_rule : Text → Reading Tree
  function_rule qualifiers = do
    optional (codes "Y")
    result ← inner.type
    found ← all_up_to function_ends function_parameter
    give (function_type result (trees (flat_map (λ types. types) found.0)) (qualifiers ++ found.1))

  -- a template parameter; where arguments follow, it is the name of a template, and a component
  unfoldable pub parameter_type : Reading Tree
  parameter_type = do
    tree ← template_param
    is_name ← takes_arguments
    if is_name then enter tree >> template_type tree else give tree

  -- a type that has a letter of its own, which isn't one for a name
  abbrev pub lettered_types : List (Text × Reading Tree)
  lettered_types =
      (codes "P", of_type pointer) ∷ (codes "R", of_type lvalue_reference)
      ∷ (codes "O", of_type rvalue_reference)
      ∷ (codes "C", of_type (λ type. marked type (codes " complex")))
      ∷ (codes "G", of_type (λ type. marked type (codes " imaginary")))
      ∷ (codes "A", array_type) ∷ (codes "M", member_type) ∷ (codes "T", parameter_type)
      ∷ (codes "Dv", vector_type) ∷ []

  -- a type with its qualifiers, which are part of it where it is a function
  unfoldable pub compound_type : Reading Tree
  compound_type = do
    qualifiers ← cv_qualifiers
    if_next (codes "F") (function_rule qualifiers)
        (if length qualifiers == 0 then one_of lettered_types entity_type
        else of_type (λ type. qualified type qualifiers))

  -- a substitution, which is a component already; where arguments follow, that is another type
  unfoldable pub known_type : Reading Tree
  known_type = do
    tree ← substitution
    is_name ← takes_arguments
    if is_name then entered (template_type tree) else give tree

  -- <type>: all but builtin types and substitutions are components
  unfoldable pub type_rule : Reading Tree
  type_rule = by_table builtin_types (λ name. give (word name))
      (if_at (codes "St") (entered entity_type)
      (one_of ((codes "S", known_type) ∷ (codes "DF", float_type) ∷ [])
      (entered compound_type)))
