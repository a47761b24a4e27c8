-- The names that entries of a unit give where they are referred to in that unit, as they are cached
-- (DWARF 5, sections 2.13.2 and 3.3.8).
-- Own: a name may be cached when it is found, also that there is none, and its fault too;
-- OutOfMemory never is, since no reading gives it.
use Rattle.std.specs.Prelude.{◌≡◌, ◌⊎◌, List, [], ◌∷◌, ◌++◌, map, Option, Some, option_map, Result, Ok, Err}
use Rattle.std.specs.List.{AllByRecursion}
use Rattle.std.specs.declared.rc.Rc.{Rc}
use Rattle.std.specs.declared.alloc.Global.{Global}
use Rattle.addr2line_lines.specs.Common.{Error, result_map, Section, UnitRecord}
use Rattle.gimli_read.specs.declared.value.AttributeValue.TheVariants as values
use Rattle.gimli_read.specs.declared.value.UnitOffset.{UnitOffset}
use Rattle.addr2line_lines.specs.declared.names.CachedName as declared_name
use Rattle.addr2line_lines.specs.declared.names.CachedName.TheVariants as cached
use Rattle.addr2line_lines.specs.declared.names.NameCache.{NameCache}
use Rattle.addr2line_lines.specs.Grown.{IsGrown}
use Rattle.addr2line_lines.specs.Names.{referred_name}
use Rattle.addr2line_lines.specs.References.{IsScope, Scope, UnitInScope, in_scope}

-- the name that an entry gives, or the fault of that, by where the entry begins, in bytes from the
-- start of the unit's length
pub record CachedName : Type 0 where
  pub offset : UnitOffset
  pub name : Result (Option Section) Error

-- the entry at an offset, with the name that it gives or the fault of that
abbrev pub name_at_offset : UnitOffset → Result (Option Section) Error → CachedName
name_at_offset offset name = record { offset = offset; name = name }

-- the name of an entry, or its fault, as others share it
abbrev pub as_shared : {R : Type 0} → (R → Section) → Result (Rc (Option R) Global) Error
    → Result (Option Section) Error
as_shared see name = result_map (λ shared. option_map see shared.value) name

-- a name that is cached, or a fault
abbrev pub as_cached_name : {R : Type 0} → (R → Section) → declared_name.CachedName R → CachedName
as_cached_name see (cached.Named offset name) =
    name_at_offset (record { 0 = offset }) (Ok (option_map see name.value))
as_cached_name see (cached.Faulty offset error) =
    name_at_offset (record { 0 = offset }) (Err error.value)

-- the names and faults that are cached
abbrev pub as_names : {R : Type 0} → (R → Section) → NameCache R → List CachedName
as_names see c = map (as_cached_name see) c.names.items

-- the name, or the fault, is that which a reference to the entry gives in a unit
abbrev pub IsNameOf : UnitInScope → CachedName → Type 0
IsNameOf x n = referred_name x.scope x.unit (values.UnitRef n.offset) ≡ n.name

-- so is each
abbrev pub AreNamesOf : UnitInScope → List CachedName → Type 0
AreNamesOf x names = AllByRecursion (IsNameOf x) names

-- the names and faults that are cached, and the unit in which references give them, if there is one
pub record KnownNames : Type 0 where
  pub unit : Option UnitInScope
  pub names : List CachedName

-- none is cached yet
abbrev pub no_names : Option UnitInScope → KnownNames
no_names unit = record { unit = unit; names = [] }

-- the unit of the names is this one, and its references lead where the scope says
abbrev pub AreNamesIn : Scope → UnitRecord → KnownNames → Type 0
AreNamesIn scope u known = known.unit ≡ Some (in_scope scope u)

-- the names that were cached stay, with more at their end, and are of the same unit
pub record AreNamesMore (old new : KnownNames) : Type 0 where
  pub unit : new.unit ≡ old.unit
  pub grown : IsGrown old.names new.names

-- the same of a unit whose references lead where a scope says, to units in order
pub record GrowNames (scope : Scope) (u : UnitRecord) (old new : KnownNames) : Type 0 where
  pub in_order : IsScope scope
  pub unit : AreNamesIn scope u old
  pub more : AreNamesMore old new

-- one more name, or fault, stands at the end, or nothing changed
abbrev pub IsOneMoreAtMost : CachedName → List CachedName → List CachedName → Type 0
IsOneMoreAtMost n old new = (new ≡ old) ⊎ (new ≡ old ++ n ∷ [])

-- wherever all cached names are right, a reference to the entry gives the name, or the fault
abbrev pub IsKnownAs : UnitOffset → Result (Option Section) Error → List CachedName → Type 0
IsKnownAs offset name names = (x : UnitInScope) → AreNamesOf x names
    → referred_name x.scope x.unit (values.UnitRef offset) ≡ name
