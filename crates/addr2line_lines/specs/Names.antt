-- The names of functions and inlined entries (DWARF 5, sections 2.13.2, 2.15, 2.22 and 3.3.8).
-- Own: a string that can't be read gives no name. The last linkage name of an entry's own that can
-- be read counts, else the first attribute that gives a name, by itself or by the entry that it
-- refers to.
-- Own: of an entry that is referred to, the first linkage name that can be read counts and ends its
-- reading, else the last name that can be read, else the entry that its last reference names; at
-- most 16 such entries are visited.
use Rattle.std.specs.Prelude.{ℕ, zero, suc, ◌==◌, ◌||◌, Bool, List, [], ◌∷◌, Option, Some, None, Result, Ok, Err, if◌then◌else◌}
use Rattle.std.specs.Option.{option_or}
use Rattle.std.specs.Result.{result_ok}
use Rattle.addr2line_lines.specs.Common.{DwAt, DW_AT_name, DW_AT_linkage_name, DW_AT_MIPS_linkage_name, DW_AT_abstract_origin, DW_AT_specification, Error, NoEntryAtGivenOffset, AttributeValue, Abbrev, Specification, NamedValue, attribute_at, ◌>>=◌, Section, entry_code_at, taken_in, UnitRecord, attr_string_of}
use Rattle.gimli.specs.Entries.{entry_bytes_from}
use Rattle.addr2line_lines.specs.References.{EntryPlace, Scope, referred}

-- whether an attribute is a linkage name
abbrev pub is_linkage_name : DwAt → Bool
is_linkage_name name = name.0 == DW_AT_linkage_name.0 || name.0 == DW_AT_MIPS_linkage_name.0

-- whether an attribute refers to an entry that has the name
abbrev pub is_origin : DwAt → Bool
is_origin name = name.0 == DW_AT_abstract_origin.0 || name.0 == DW_AT_specification.0

-- the string of a value, none where it can't be read
abbrev pub readable : Scope → UnitRecord → AttributeValue Section → Option Section
readable scope u value = result_ok (attr_string_of scope.file.sections u value)

-- what an entry that is referred to says of its name: a string, or where else to look
pub record NameOrOrigin : Type 0 where
  pub name : Option Section
  pub origin : Option (AttributeValue Section)

-- before the first attribute
abbrev pub no_name : NameOrOrigin
no_name = record { name = None; origin = None }

-- one more attribute that is no linkage name
abbrev pub with_name_or_origin : Scope → UnitRecord → NameOrOrigin → NamedValue → NameOrOrigin
with_name_or_origin scope u found a =
    if a.name.0 == DW_AT_name.0
    then record found { name = option_or (readable scope u a.value) found.name }
    else if is_origin a.name then record found { origin = Some a.value }
    else found

-- the linkage name that an attribute gives
abbrev pub linkage_name_of : Scope → UnitRecord → NamedValue → Option Section
linkage_name_of scope u a = if is_linkage_name a.name then readable scope u a.value else None

-- the attributes of specifications, up to the first linkage name that can be read, after what was
-- found
unfoldable pub named_at : Scope → UnitRecord → List Specification → Section → NameOrOrigin
    → Result NameOrOrigin Error
named_at scope u [] s found = Ok found
named_at scope u (x ∷ xs) s found =
    attribute_at u.header.encoding x s >>= λ a. elim (linkage_name_of scope u a.0) [
      | Some name ↦ Ok (record { name = Some name; origin = None })
      | None ↦ named_at scope u xs a.1 (with_name_or_origin scope u found a.0)
    ]

-- the specifications of an entry, which a closing entry isn't
abbrev pub entry_specifications : ℕ → Option Abbrev → Result (List Specification) Error
entry_specifications offset None = Err (NoEntryAtGivenOffset offset)
entry_specifications offset (Some a) = Ok a.attributes

-- what the entry at a place says of its name
unfoldable pub visited : EntryPlace → Result NameOrOrigin Error
visited place = do
  left ← entry_bytes_from place.unit.header (Some place.offset)
  entry ← entry_code_at place.unit.abbreviations left
  specifications ← entry_specifications place.offset entry.0
  named_at place.scope place.unit specifications entry.1 no_name

-- the most entries that are visited for one name
abbrev pub most_visited : ℕ
most_visited = 16

-- the name by the entry that a value refers to and those that it leads to, at most n together; none
-- where n is 0
unfoldable pub name_within : ℕ → Scope → UnitRecord → AttributeValue Section
    → Result (Option Section) Error
name_within zero scope u value = Ok None
name_within (suc n) scope u value = referred scope u value >>= λ entry. elim entry [
  | None ↦ Ok None
  | Some place ↦ visited place >>= λ found. elim found.name [
    | Some name ↦ Ok (Some name)
    | None ↦ elim found.origin [
      | None ↦ Ok None
      | Some next ↦ name_within n place.scope place.unit next
    ]
  ]
]

-- the name by the entry that a value refers to
abbrev pub referred_name : Scope → UnitRecord → AttributeValue Section
    → Result (Option Section) Error
referred_name scope u value = name_within most_visited scope u value

-- the name that was found, else that by a reference
abbrev pub or_referred_name : Scope → UnitRecord → Option Section → AttributeValue Section
    → Result (Option Section) Error
or_referred_name scope u (Some name) value = Ok (Some name)
or_referred_name scope u None value = referred_name scope u value

-- the name after one more attribute of the entry itself
unfoldable pub with_name : Scope → UnitRecord → Option Section → NamedValue
    → Result (Option Section) Error
with_name scope u name a =
    if is_linkage_name a.name then Ok (option_or (readable scope u a.value) name)
    else if a.name.0 == DW_AT_name.0 then Ok (option_or name (readable scope u a.value))
    else if is_origin a.name then or_referred_name scope u name a.value
    else Ok name

-- the name of an entry by its attributes, or the first fault of a reference
abbrev pub name_of : Scope → UnitRecord → List NamedValue → Result (Option Section) Error
name_of scope u attributes = taken_in (with_name scope u) (Ok None) attributes
