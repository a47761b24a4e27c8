-- What is shown of a name or a type: the text left of a type's declarator, and that right of it.
-- Own: all of it. The text is that of llvm-cxxfilt.
use Rattle.std.specs.Prelude.{Bool, true, false, List, [], ◌∷◌, ◌++◌, nat_eq, if◌then◌else◌, codes}
use Rattle.std.specs.List.{ends_with}
use Rattle.itanium.specs.Tree.{Text}

-- what a declarator stands in brackets for
pub data Kind : Type 0 where
  neither : Kind
  an_array : Kind
  a_function : Kind

-- what a type is as a reference
pub data ReferenceKind : Type 0 where
  no_reference : ReferenceKind
  lvalue : ReferenceKind
  rvalue : ReferenceKind

-- what is shown of a tree; of a reference all but its sign is that of the type that it refers to
pub record Parts : Type 0 where
  pub before : Text  -- left of the declarator
  pub behind : Bool → Text  -- right of it, where the text before ends in `]` or doesn't
  pub kind : Kind
  pub reference : ReferenceKind
  pub has_right : Bool  -- whether a function or an array is in it, through pointers too
  pub base : Text  -- what its constructors are named

-- a text alone
abbrev pub plain : Text → Parts
plain text = record {
  before = text;
  behind = λ is_bracketed. [];
  kind = neither;
  reference = no_reference;
  has_right = false;
  base = [];
}

-- ---- both sides of a type

-- the brackets around the sign of a pointer or a reference
abbrev pub opening : Kind → Text
opening neither = []
opening an_array = codes " ("
opening a_function = codes "("

abbrev pub closing : Kind → Text
closing neither = []
closing an_array = codes ")"
closing a_function = codes ")"

-- what kind a type is: a reference is neither
abbrev pub kind_under : ReferenceKind → Kind → Kind
kind_under no_reference kind = kind
kind_under lvalue kind = neither
kind_under rvalue kind = neither

abbrev pub shown_kind : Parts → Kind
shown_kind p = kind_under p.reference p.kind

-- the sign of a reference, in its bracket
abbrev pub sign_of : ReferenceKind → Kind → Text
sign_of no_reference kind = []
sign_of lvalue kind = opening kind ++ codes "&"
sign_of rvalue kind = opening kind ++ codes "&&"

-- left of the declarator
abbrev pub left : Parts → Text
left p = p.before ++ sign_of p.reference p.kind

-- right of it, behind the bracket of a reference
abbrev pub right_under : ReferenceKind → Kind → (Bool → Text) → Bool → Text
right_under no_reference kind behind is_bracketed = behind is_bracketed
right_under lvalue kind behind is_bracketed = closing kind ++ behind false
right_under rvalue kind behind is_bracketed = closing kind ++ behind false

abbrev pub right : Parts → Bool → Text
right p = right_under p.reference p.kind p.behind

-- both, with nothing between them
abbrev pub whole : Parts → Text
whole p = let text = left p in text ++ right p (ends_with nat_eq text (codes "]"))

-- two texts with a comma between them, if neither is empty
abbrev pub with_comma : Text → Text → Text
with_comma [] more = more
with_comma (c ∷ text) [] = c ∷ text
with_comma (c ∷ text) (d ∷ more) = (c ∷ text) ++ codes ", " ++ d ∷ more

-- the texts of several, and of those that are empty nothing
abbrev pub list_text : List Parts → Text
list_text [] = []
list_text (p ∷ more) = with_comma (whole p) (list_text more)

-- ---- names

-- a name in a scope
abbrev pub nested_parts : Parts → Parts → Parts
nested_parts scope name =
    record (plain (whole scope ++ codes "::" ++ whole name)) { base = name.base }

abbrev pub abi_tagged_parts : Parts → Text → Parts
abi_tagged_parts name tag =
    record (plain (left name ++ codes "[abi:" ++ tag ++ codes "]")) { base = name.base }

abbrev pub template_parts : Parts → List Parts → Parts
template_parts name arguments =
    record (plain (whole name ++ codes "<" ++ list_text arguments ++ codes ">")) {
      base = name.base;
    }

abbrev pub construction_parts : Parts → Parts → Parts
construction_parts base class =
    plain (codes "construction vtable for " ++ whole base ++ codes "-in-" ++ whole class)

-- ---- types

abbrev pub qualified_parts : Parts → Text → Parts
qualified_parts type qualifiers = record {
  before = left type ++ qualifiers;
  behind = right type;
  kind = shown_kind type;
  reference = no_reference;
  has_right = type.has_right;
  base = [];
}

-- what points to a type: a sign in the bracket that the type needs
abbrev pub pointing_parts : Text → Parts → Parts
pointing_parts sign type = record {
  before = left type ++ sign;
  behind = λ is_bracketed. closing (shown_kind type) ++ right type false;
  kind = neither;
  reference = no_reference;
  has_right = type.has_right;
  base = [];
}

abbrev pub pointer_parts : Parts → Parts
pointer_parts type = pointing_parts (opening (shown_kind type) ++ codes "*") type

-- before the class of a member stands a bracket or a space
abbrev pub member_opening : Kind → Text
member_opening neither = codes " "
member_opening an_array = codes "("
member_opening a_function = codes "("

abbrev pub member_parts : Parts → Parts → Parts
member_parts class member =
    pointing_parts (member_opening (shown_kind member) ++ whole class ++ codes "::*") member

-- a reference to a reference is one to its type, and an rvalue reference only if both are
abbrev pub collapse : ReferenceKind → ReferenceKind → ReferenceKind
collapse no_reference to = to
collapse lvalue to = lvalue
collapse rvalue no_reference = rvalue
collapse rvalue lvalue = lvalue
collapse rvalue rvalue = rvalue

abbrev pub reference_parts : ReferenceKind → Parts → Parts
reference_parts reference type =
    record type { reference = collapse reference type.reference; base = [] }

-- an array; a space stands before its size unless that of an array around does
abbrev pub array_parts : Parts → Text → Parts
array_parts element size = record {
  before = left element;
  behind = λ is_bracketed.
      (if is_bracketed then [] else codes " ")
      ++ codes "[" ++ size ++ codes "]" ++ right element true;
  kind = an_array;
  reference = no_reference;
  has_right = true;
  base = [];
}

-- what is called: a text, its parameters, and a text behind them
abbrev pub called_parts : Text → List Parts → Text → Parts
called_parts before parameters trail = record {
  before = before;
  behind = λ is_bracketed. codes "(" ++ list_text parameters ++ codes ")" ++ trail;
  kind = a_function;
  reference = no_reference;
  has_right = true;
  base = [];
}

-- the result of a function, with a space unless the name stands inside it
abbrev pub result_text : Parts → Text
result_text result = left result ++ (if result.has_right then [] else codes " ")

abbrev pub resulting_parts : Parts → Parts → List Parts → Text → Parts
resulting_parts result name parameters trail =
    called_parts (result_text result ++ whole name) parameters (right result false ++ trail)

abbrev pub function_type_parts : Parts → List Parts → Text → Parts
function_type_parts result parameters trail =
    called_parts (left result ++ codes " ") parameters (right result false ++ trail)
