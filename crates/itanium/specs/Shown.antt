-- The text of a tree.
-- Source: Itanium C++ ABI, 5.1, says what a name stands for, and no text. Own: the text, which is
-- that of llvm-cxxfilt.
use Rattle.std.specs.Prelude.{List, [], ◌∷◌, ◌++◌, codes}
use Rattle.itanium.specs.Tree.{Text, Tree, Trees, word, phrase, abbreviated, spelled_out, nested, local, tagged, template, constructor, destructor, conversion, function, resulting, special, construction_vtable, qualified, pointer, lvalue_reference, rvalue_reference, member_pointer, array, function_type, marked, vector, cast, string, no_trees, with_tree}
use Rattle.itanium.specs.Parts.{Parts, lvalue, rvalue, plain, left, whole, nested_parts, abi_tagged_parts, template_parts, construction_parts, qualified_parts, pointer_parts, member_parts, reference_parts, array_parts, called_parts, resulting_parts, function_type_parts}

-- what is shown of a tree, and of several
unfoldable mutual
  pub parts : Tree → Parts
  parts (word text) = record (plain text) { base = text }
  parts (phrase text) = plain text
  parts (abbreviated class) = record (plain (codes "std::" ++ class.name)) { base = class.name }
  parts (spelled_out class) =
      record (plain (codes "std::" ++ class.class ++ class.arguments)) { base = class.class }
  parts (nested scope name) = nested_parts (parts scope) (parts name)
  parts (local around name) = plain (whole (parts around) ++ codes "::" ++ whole (parts name))
  parts (tagged name tag) = abi_tagged_parts (parts name) tag
  parts (template name arguments) = template_parts (parts name) (parts_of_all arguments)
  parts (constructor class) = plain (parts class).base
  parts (destructor class) = plain (codes "~" ++ (parts class).base)
  parts (conversion type) = plain (codes "operator " ++ whole (parts type))
  parts (function name parameters trail) =
      called_parts (whole (parts name)) (parts_of_all parameters) trail
  parts (resulting result name parameters trail) =
      resulting_parts (parts result) (parts name) (parts_of_all parameters) trail
  parts (special title tree) = plain (title ++ whole (parts tree))
  parts (construction_vtable base class) =
      construction_parts (parts base) (parts class)
  parts (qualified type qualifiers) = qualified_parts (parts type) qualifiers
  parts (pointer type) = pointer_parts (parts type)
  parts (lvalue_reference type) = reference_parts lvalue (parts type)
  parts (rvalue_reference type) = reference_parts rvalue (parts type)
  parts (member_pointer class member) = member_parts (parts class) (parts member)
  parts (array element size) = array_parts (parts element) size
  parts (function_type result parameters trail) =
      function_type_parts (parts result) (parts_of_all parameters) trail
  parts (marked type mark) = plain (left (parts type) ++ mark)
  parts (vector element size) =
      plain (whole (parts element) ++ codes " vector[" ++ size ++ codes "]")
  parts (cast type number) = plain (codes "(" ++ whole (parts type) ++ codes ")" ++ number)
  parts (string type) = plain (codes "\"<" ++ whole (parts type) ++ codes ">\"")

  pub parts_of_all : Trees → List Parts
  parts_of_all no_trees = []
  parts_of_all (with_tree tree more) = parts tree ∷ parts_of_all more

-- the text of a tree
unfoldable pub tree_text : Tree → Text
tree_text tree = whole (parts tree)
