-- The names and types that C++ names spell, as trees.
-- Source: Itanium C++ ABI, 5.1.2 to 5.1.5. Own: one shape for each way to be shown.
use Rattle.std.specs.Prelude.{ℕ, ◌+◌, max, Bool, true, false, List, [], ◌∷◌, Option, Some, None}

-- a text
abbrev pub Text : Type 0
Text = List ℕ

-- a name of `std` that has a substitution of its own, as `Ss`
pub record Abbreviation : Type 0 where
  pub name : Text  -- as it is shown
  pub class : Text  -- as its constructors and destructors are named
  pub arguments : Text  -- what stands behind that, in its brackets

-- a name or a type, and several in their order
mutual
  pub data Tree : Type 0 where
    word : Text → Tree  -- a name that a constructor may take: an identifier, an operator, a type
    phrase : Text → Tree  -- any other text, such as a literal
    abbreviated : Abbreviation → Tree  -- a name of `std`
    spelled_out : Abbreviation → Tree  -- the same before its constructor or destructor
    nested : Tree → Tree → Tree  -- a scope, and a name in it
    local : Tree → Tree → Tree  -- a function, and an entity in it
    tagged : Tree → Text → Tree  -- a name, and an ABI tag
    template : Tree → Trees → Tree  -- a template, and its arguments
    constructor : Tree → Tree  -- of a class
    destructor : Tree → Tree  -- of a class
    conversion : Tree → Tree  -- to a type
    function : Tree → Trees → Text → Tree  -- its name, its parameters, its qualifiers
    resulting : Tree → Tree → Trees → Text → Tree  -- the result of a function, and the same
    special : Text → Tree → Tree  -- what is made for an entity or a type, and that
    construction_vtable : Tree → Tree → Tree  -- of a base, in a class
    qualified : Tree → Text → Tree  -- a type, and its qualifiers
    pointer : Tree → Tree  -- to a type
    lvalue_reference : Tree → Tree  -- to a type
    rvalue_reference : Tree → Tree  -- to a type
    member_pointer : Tree → Tree → Tree  -- a class, and the type of its member
    array : Tree → Text → Tree  -- the type of its elements, and how many
    function_type : Tree → Trees → Text → Tree  -- its result, its parameters, its qualifiers
    marked : Tree → Text → Tree  -- a type, and `complex` or `imaginary`
    vector : Tree → Text → Tree  -- the type of its elements, and how many
    cast : Tree → Text → Tree  -- the type of a literal, and its number
    string : Tree → Tree  -- the type of a string literal

  pub data Trees : Type 0 where
    no_trees : Trees
    with_tree : Tree → Trees → Trees

-- several trees
abbrev pub trees : List Tree → Trees
trees [] = no_trees
trees (tree ∷ more) = with_tree tree (trees more)

-- how deep a tree is, and the deepest of several
unfoldable mutual
  pub depth : Tree → ℕ
  depth (nested scope name) = 1 + max (depth scope) (depth name)
  depth (local around name) = 1 + max (depth around) (depth name)
  depth (tagged name tag) = 1 + depth name
  depth (template name arguments) = 1 + max (depth name) (depth_of_all arguments)
  depth (constructor class) = 1 + depth class
  depth (destructor class) = 1 + depth class
  depth (conversion type) = 1 + depth type
  depth (function name parameters trail) = 1 + max (depth name) (depth_of_all parameters)
  depth (resulting result name parameters trail) =
      1 + max (depth result) (max (depth name) (depth_of_all parameters))
  depth (special title tree) = 1 + depth tree
  depth (construction_vtable base class) = 1 + max (depth base) (depth class)
  depth (qualified type qualifiers) = 1 + depth type
  depth (pointer type) = 1 + depth type
  depth (lvalue_reference type) = 1 + depth type
  depth (rvalue_reference type) = 1 + depth type
  depth (member_pointer class member) = 1 + max (depth class) (depth member)
  depth (array element size) = 1 + depth element
  depth (function_type result parameters trail) =
      1 + max (depth result) (depth_of_all parameters)
  depth (marked type mark) = 1 + depth type
  depth (vector element size) = 1 + depth element
  depth (cast type number) = 1 + depth type
  depth (string type) = 1 + depth type
  depth _ = 1

  pub depth_of_all : Trees → ℕ
  depth_of_all no_trees = 0
  depth_of_all (with_tree tree more) = max (depth tree) (depth_of_all more)

-- whether a name ends in template arguments
abbrev pub is_template : Tree → Bool
is_template (template name arguments) = true
is_template _ = false

-- the same, and whether an entity of a function does
abbrev pub ends_in_arguments : Tree → Bool
ends_in_arguments (template name arguments) = true
ends_in_arguments (local around name) = ends_in_arguments name
ends_in_arguments _ = false

-- a class as it stands before its constructors and destructors
abbrev pub as_class : Tree → Tree
as_class (abbreviated class) = spelled_out class
as_class tree = tree

-- a name in a scope, if it has one
abbrev pub scoped : Option Tree → Tree → Tree
scoped None name = name
scoped (Some scope) name = nested scope name
