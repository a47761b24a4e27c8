-- Template arguments: types, literals, and the encodings of functions and objects.
-- Source: Itanium C++ ABI, 5.1.5 (<template-args>), and of 5.1 Expressions (<expr-primary>).
-- Own: packs, expressions and declarations are faults in this stage, and so are literals of
-- floating point types and of closures.
use Rattle.std.specs.Prelude.{ℕ, ◌==◌, Bool, true, false, List, [], ◌∷◌, ◌++◌, codes}
use Rattle.std.specs.List.{list_any}
use Rattle.itanium.specs.Tree.{Text, Tree, Trees, trees, word, phrase, cast, string}
use Rattle.itanium.specs.Tables.{literal_types}
use Rattle.itanium.specs.Reading.{Reading, Inner, ◌>>=◌, ◌>>◌, give, fault, need, up_to_end, by_table, one_of, if_at, if_first, all_up_to, enter_argument, no_arguments}
use Rattle.itanium.specs.Identifiers.{number}

-- ---- literals

-- the number of a literal of a builtin type, with what stands before it and behind it
unfoldable pub builtin_literal : Text × Text → Reading Tree
builtin_literal around = do
  text ← up_to_end number
  give (phrase (around.0 ++ text ++ around.1))

-- truth values, and the null pointer
abbrev pub constants : List (Text × Reading Tree)
constants =
    (codes "b0E", give (phrase (codes "false"))) ∷ (codes "b1E", give (phrase (codes "true")))
    ∷ (codes "DnE", give (word (codes "nullptr")))
    ∷ (codes "Dn0E", give (word (codes "nullptr"))) ∷ []

-- what no type of another literal begins with
abbrev pub is_other_literal : ℕ → Bool
is_other_literal c = list_any (λ b. b == c) (codes "bfdeDTU")

module _ (inner : Inner) where
  -- a literal of another type: the type, and a number
  unfoldable pub typed_literal : Reading Tree
  typed_literal = do
    type ← inner.type
    text ← up_to_end number
    give (cast type text)

  -- a string literal, of which only the type is there
  unfoldable pub string_literal : Reading Tree
  string_literal = do
    type ← up_to_end inner.type
    give (string type)

  -- <expr-primary>, behind its `L`
  unfoldable pub literal : Reading Tree
  literal = by_table literal_types builtin_literal
      (one_of constants
      (one_of ((codes "_Z", up_to_end inner.encoding) ∷ [])
      (if_at (codes "A") string_literal
      (if_first is_other_literal fault typed_literal))))

  -- <template-arg>
  unfoldable pub argument_rule : Reading Tree
  argument_rule =
      one_of ((codes "LZ", up_to_end inner.encoding) ∷ (codes "L", literal) ∷ []) inner.type

-- ---- arguments

-- the arguments of an encoding's own name are what template parameters stand for, in place of those
-- before, and each of them as soon as it is read
abbrev pub begin_arguments : Bool → Reading (Unit {0})
begin_arguments true = no_arguments
begin_arguments false = give tt

abbrev pub with_argument : Bool → Tree → Reading Tree
with_argument true argument = enter_argument argument
with_argument false argument = give argument

-- where arguments end
abbrev pub argument_ends : List (Text × Unit {0})
argument_ends = (codes "E", tt) ∷ []

-- <template-args>
unfoldable pub template_args : Inner → Bool → Reading Trees
template_args inner is_own = do
  need (codes "I")
  begin_arguments is_own
  found ← all_up_to argument_ends (inner.argument >>= with_argument is_own)
  give (trees found.0)
