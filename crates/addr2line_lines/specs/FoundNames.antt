-- Names as they are found, and the units and entries that references lead to, as the private
-- functions see them.
use Rattle.std.specs.Prelude.{ℕ, ◌≡◌, ◌==◌, ◌||◌, leb, Bool, true, false, List, Option, option_map, Result}
use Rattle.std.specs.Option.{option_or}
use Rattle.addr2line_lines.specs.Common.{DwAt, DW_AT_name, Error, NamedValue, as_value, Reading, Section, taken_after, UnitRecord}
use Rattle.addr2line_lines.specs.declared.references.EntryPlace.{EntryPlace as EntryPlaceOf}
use Rattle.addr2line_lines.specs.declared.found_name.FoundName.{FoundName}
use Rattle.addr2line_lines.specs.declared.found_name.FoundName.TheVariants.{Own, Shared}
use Rattle.addr2line_lines.specs.declared.name.NameOrOrigin.{NameOrOrigin as NameOrOriginOf}
use Rattle.addr2line_lines.specs.Names.{NameOrOrigin, is_linkage_name, is_origin, with_name, linkage_name_of, with_name_or_origin}
use Rattle.addr2line_lines.specs.References.{EntryPlace, Scope}
use Rattle.addr2line_lines.specs.Scopes.{as_scope}

-- whether a unit begins at or below an offset
abbrev pub unit_begins_by : ℕ → UnitRecord → Bool
unit_begins_by offset u = leb u.header.offset.0 offset

-- a unit begins at or below an offset
abbrev pub BeginsBy : ℕ → UnitRecord → Type 0
BeginsBy offset u = unit_begins_by offset u ≡ true

-- a unit begins above an offset
abbrev pub BeginsAbove : ℕ → UnitRecord → Type 0
BeginsAbove offset u = unit_begins_by offset u ≡ false

-- an entry by its place
abbrev pub as_place : {R : Type 0} → EntryPlaceOf R → EntryPlace
as_place p = record { scope = as_scope p.scope; unit = p.unit.now; offset = p.offset.0 }

-- what an entry that is referred to says of its name
abbrev pub as_name_or_origin : {R : Type 0} → (R → Section) → NameOrOriginOf R → NameOrOrigin
as_name_or_origin see n =
    record { name = option_map see n.name; origin = option_map (as_value see) n.origin }

-- the name of an entry as it is found
abbrev pub found_name : {R : Type 0} → (R → Section) → FoundName R → Option Section
found_name see (Own name) = option_map see name
found_name see (Shared name) = option_map see name.value

-- whether the name is that of one entry alone
abbrev pub is_own : {R : Type 0} → FoundName R → Bool
is_own (Own name) = true
is_own (Shared name) = false

-- whether an attribute may give its entry a name
abbrev pub is_name_attribute : DwAt → Bool
is_name_attribute name = is_linkage_name name || name.0 == DW_AT_name.0 || is_origin name

-- the linkage name that an attribute gives, beside what is found after it
abbrev pub with_linkage : Option Section → NameOrOrigin → Option Section × NameOrOrigin
with_linkage linkage found = (linkage, found)

-- the same of one more attribute
abbrev pub linkage_and_found : Scope → UnitRecord → NameOrOrigin → NamedValue
    → Option Section × NameOrOrigin
linkage_and_found scope u found a =
    with_linkage (linkage_name_of scope u a) (with_name_or_origin scope u found a)

-- a string after what was found, if there is one
abbrev pub with_string : Option Section → NameOrOrigin → NameOrOrigin
with_string string found = record found { name = option_or string found.name }

-- the name by attributes that are read, after those that were read before
abbrev pub name_after : Scope → UnitRecord → Result (Option Section) Error
    → Reading (List NamedValue) → Result (Option Section) Error
name_after scope u name read = taken_after (with_name scope u) name read
