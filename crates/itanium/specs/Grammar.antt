-- What each production of a C++ name reads, by levels: one further in for each encoding, name, type
-- or template argument inside another.
-- Source: Itanium C++ ABI, 5.1. Own: the levels, and how deep a tree may be.
use Rattle.std.specs.Prelude.{ℕ, zero, suc, nat_le, if◌then◌else◌}
use Rattle.itanium.specs.Tree.{Tree, depth}
use Rattle.itanium.specs.Reading.{Reading, Entity, Inner, ◌>>=◌, give, fault}
use Rattle.itanium.specs.Args.{argument_rule}
use Rattle.itanium.specs.Names.{entity_rule}
use Rattle.itanium.specs.Types.{type_rule}
use Rattle.itanium.specs.Encodings.{encoding_rule}

-- the most levels, and how deep a tree may be
abbrev pub most_levels : ℕ
most_levels = 500

abbrev pub most_depth : ℕ
most_depth = 500

-- a tree that isn't too deep
unfoldable pub bounded_tree : Reading Tree → Reading Tree
bounded_tree reading = do
  tree ← reading
  if nat_le (depth tree) most_depth then give tree else fault

unfoldable pub bounded_entity : Reading Entity → Reading Entity
bounded_entity reading = do
  name ← reading
  if nat_le (depth name.tree) most_depth then give name else fault

-- where nothing is read
abbrev pub no_level : Inner
no_level = record { encoding = fault; entity = λ is_own. fault; type = fault; argument = fault }

-- one level around another
unfoldable pub level_around : Inner → Inner
level_around inner = record {
  encoding = bounded_tree (encoding_rule inner);
  entity = λ is_own. bounded_entity (entity_rule inner is_own);
  type = bounded_tree (type_rule inner);
  argument = bounded_tree (argument_rule inner);
}

-- how each production reads, with so many levels inside one another
unfoldable pub reads : ℕ → Inner
reads zero = no_level
reads (suc levels) = level_around (reads levels)
