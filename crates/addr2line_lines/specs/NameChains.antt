-- Chains of entries that are referred to for a name (DWARF 5, sections 2.13.2 and 3.3.8).
use Rattle.std.specs.Prelude.{◌≡◌, ◌<◌, List, [], ◌∷◌, length, Some, None, Ok}
use Rattle.addr2line_lines.specs.Common.{AttributeValue, Section, UnitRecord}
use Rattle.addr2line_lines.specs.Names.{NameOrOrigin, most_visited, referred_name, visited}
use Rattle.addr2line_lines.specs.References.{EntryPlace, Scope, referred}

-- a value of an attribute, where it was met
pub record Reference : Type 0 where
  pub scope : Scope
  pub unit : UnitRecord
  pub value : AttributeValue Section

-- the reference leads to the entry, of which this is read
abbrev pub LeadsTo : Reference → EntryPlace → NameOrOrigin → Type 0
LeadsTo from place found =
    (referred from.scope from.unit from.value ≡ Ok (Some place)) × (visited place ≡ Ok found)

-- each of the entries is the one that the last reference of the entry before names, and none has a
-- name itself; `to` is the last reference of the last of them
abbrev pub IsChain : Reference → List EntryPlace → Reference → Type 0
IsChain from [] to = from ≡ to
IsChain from (place ∷ places) to =
    (next : AttributeValue Section)
    × LeadsTo from place (record { name = None; origin = Some next })
    × IsChain (record { scope = place.scope; unit = place.unit; value = next }) places to

-- the name that a reference gives is that of the first entry of its chain that has one, where fewer
-- than the most entries come before it
abbrev pub ChainGivesName : Type 0
ChainGivesName =
    (from to : Reference) (places : List EntryPlace) (place : EntryPlace) (found : NameOrOrigin)
    (name : Section)
    → IsChain from places to → length places < most_visited → LeadsTo to place found
    → found.name ≡ Some name → referred_name from.scope from.unit from.value ≡ Ok (Some name)

-- a chain of the most entries, of which none has a name, gives none, whatever it leads to
abbrev pub LongChainGivesNone : Type 0
LongChainGivesNone =
    (from to : Reference) (places : List EntryPlace)
    → IsChain from places to → length places ≡ most_visited
    → referred_name from.scope from.unit from.value ≡ Ok None

-- chains that give a name, and longer ones
pub record NameChainLaws : Type 0 where
  pub names : ChainGivesName
  pub long : LongChainGivesNone
