-- The names of entities: nested, unscoped and local ones.
-- Source: Itanium C++ ABI, 5.1.2 (<name>, <unscoped-name>, <nested-name>, <prefix>), and of 5.1
-- Scope Encoding (<local-name>) and Compression (which prefixes are components).
-- Own: `std` or a substitution alone is no nested name.
use Rattle.std.specs.Prelude.{ℕ, zero, suc, ◌||◌, Bool, true, false, [], ◌∷◌, ◌++◌, length, if◌then◌else◌, Option, Some, None, codes}
use Rattle.std.specs.Char.{is_ascii_digit}
use Rattle.itanium.specs.Tree.{Tree, word, local, is_template}
use Rattle.itanium.specs.Reading.{Reading, Entity, Inner, ◌>>=◌, ◌>>◌, give, fault, need, leading, up_to_end, one_of, if_next, if_at, optional, enter, apart, entity_of}
use Rattle.itanium.specs.Identifiers.{discriminator}
use Rattle.itanium.specs.Substitutions.{substitution, template_param}
use Rattle.itanium.specs.Unqualified.{cv_qualifiers, ref_qualifier, unqualified_name, with_arguments}

-- ---- nested names

-- a first prefix, and whether it is new: `std` and substitutions aren't
abbrev pub Prefix : Type 0
Prefix = Bool × Entity

abbrev pub std_prefix : Prefix
std_prefix = (false, entity_of (word (codes "std")))

unfoldable pub known_prefix : Reading Prefix
known_prefix = do
  tree ← substitution
  give (false, entity_of tree)

-- a template parameter as a prefix, behind its `T`
unfoldable pub parameter_prefix : Reading Entity
parameter_prefix = do
  tree ← template_param
  give (entity_of tree)

-- a new prefix is a component once more follows it
abbrev pub enter_prefix : Bool → Tree → Reading Tree
enter_prefix true prefix = enter prefix
enter_prefix false prefix = give prefix

-- a prefix that nothing follows is the whole name, if it is new
abbrev pub whole_name : Bool → Entity → Reading Entity
whole_name true prefix = give prefix
whole_name false prefix = fault

module _ (inner : Inner) where
  -- the arguments that follow a prefix, or the name
  unfoldable pub argument_step : Bool → Entity → Reading Entity
  argument_step is_own prefix =
      if is_template prefix.tree then fault else with_arguments inner is_own prefix

  unfoldable pub name_step : Bool → Entity → Reading Entity
  name_step is_own prefix = do
    name ← unqualified_name inner is_own (Some prefix.tree)
    give (record name { has_no_result = prefix.has_no_result || name.has_no_result })

  -- either, and the `M` that may stand behind it, where a closure is in a variable's initializer
  unfoldable pub step : Bool → Entity → Reading Entity
  step is_own prefix = do
    next ← if_at (codes "I") (argument_step is_own prefix) (name_step is_own prefix)
    optional (codes "M")
    give next

  -- what follows a prefix, up to `E`; the number bounds the turns
  unfoldable pub steps : Bool → ℕ → Bool → Entity → Reading Entity
  steps is_own zero is_new prefix = fault
  steps is_own (suc turns) is_new prefix = if_next (codes "E") (whole_name is_new prefix) (do
    enter_prefix is_new prefix.tree
    next ← step is_own prefix
    steps is_own turns true next)

  abbrev pub all_steps : Bool → Prefix → Reading Entity
  all_steps is_own first = λ s. steps is_own (length s.bytes) first.0 first.1 s

  unfoldable pub new_prefix : Bool → Reading Prefix
  new_prefix is_own = do
    prefix ← if_next (codes "T") parameter_prefix (unqualified_name inner is_own None)
    optional (codes "M")
    give (true, prefix)

  unfoldable pub first_prefix : Bool → Reading Prefix
  first_prefix is_own =
      one_of ((codes "St", give std_prefix) ∷ (codes "S", known_prefix) ∷ []) (new_prefix is_own)

  -- <nested-name>, behind its `N`
  unfoldable pub nested_name : Bool → Reading Entity
  nested_name is_own = do
    cv ← cv_qualifiers
    ref ← ref_qualifier
    first ← first_prefix is_own
    name ← all_steps is_own first
    give (record name { qualifiers = cv ++ ref })

-- ---- unscoped and local names

-- a string literal of a function
unfoldable pub local_string : Reading Entity
local_string = do
  discriminator
  give (entity_of (word (codes "string literal")))

module _ (inner : Inner) where
  -- <unscoped-name>, or <unscoped-template-name> with its arguments
  unfoldable pub unscoped_name : Bool → Option Tree → Reading Entity
  unscoped_name is_own scope = do
    name ← unqualified_name inner is_own scope
    if_at (codes "I") (enter name.tree >> with_arguments inner is_own name) (give name)

  -- a template that is a substitution, with its arguments
  unfoldable pub known_template : Bool → Reading Entity
  known_template is_own = do
    tree ← substitution
    with_arguments inner is_own (entity_of tree)

  -- an entity in a default argument of a function
  unfoldable pub default_argument : Bool → Reading Entity
  default_argument is_own = do
    optional (codes "n")
    leading is_ascii_digit
    need (codes "_")
    apart (inner.entity is_own)

  -- an entity in a function
  unfoldable pub local_entity : Bool → Reading Entity
  local_entity is_own = do
    name ← apart (inner.entity is_own)
    discriminator
    give name

  -- <local-name>, behind its `Z`
  unfoldable pub local_name : Bool → Reading Entity
  local_name is_own = do
    around ← up_to_end inner.encoding
    name ← one_of ((codes "s", local_string) ∷ (codes "d", default_argument is_own) ∷ [])
        (local_entity is_own)
    give (record name { tree = local around name.tree })

  -- <name>
  unfoldable pub entity_rule : Bool → Reading Entity
  entity_rule is_own =
      one_of ((codes "N", nested_name inner is_own) ∷ (codes "Z", local_name is_own)
      ∷ (codes "St", unscoped_name is_own (Some (word (codes "std"))))
      ∷ (codes "S", known_template is_own) ∷ []) (unscoped_name is_own None)
