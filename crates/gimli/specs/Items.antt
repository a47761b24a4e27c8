-- The items of a unit (DWARF 5, sections 2.3 and 7.5.2): its entries, and the closing entries that
-- end lists of children, in the order of their bytes.
-- Own: depths count from where the reading begins, and a closing entry takes one also below 0.
-- Own: a subtree that isn't closed before the items end is UnexpectedEof.
use Rattle.std.specs.Prelude.{ℕ, zero, suc, ◌+◌, ◌-◌, ◌==◌, ℤ, pos, int_lt, List, [], ◌∷◌, length, Option, Some, None, Result, Ok, Err, if◌then◌else◌}
use Rattle.gimli.specs.Common.{Error, UnexpectedEof, Abbrev, Section, Reading, ◌>>=◌, NamedValue, attributes_at, Run, cons}
use Rattle.gimli.specs.Entry.{EntryUnit, depth_after_entry, depth_after_closing, entry_code_at}
use Rattle.gimli.specs.Entries.{entry_bytes_from, entry_unit}
use Rattle.gimli.specs.Unit.{UnitRecord}

-- an entry: its abbreviation, and its attributes in their order
pub record Entry : Type 0 where
  pub abbreviation : Abbrev
  pub attributes : List NamedValue

-- an item: where it begins, in bytes from the start of the unit's length, the depth there, and the
-- entry, none of a closing entry
pub record Item : Type 0 where
  pub offset : ℕ
  pub depth : ℤ
  pub entry : Option Entry

-- the depth after what an item is
abbrev pub depth_behind : Option Entry → ℤ → ℤ
depth_behind None depth = depth_after_closing depth
depth_behind (Some e) depth = depth_after_entry e.abbreviation.has_children depth

-- the depth after an item
abbrev pub depth_after : Item → ℤ
depth_after x = depth_behind x.entry x.depth

-- where bytes begin that go to a unit's end
abbrev pub offset_of : EntryUnit → Section → ℕ
offset_of unit s = unit.length - length s.bytes

-- the entry whose code is read, with its attributes, which a closing entry hasn't
abbrev pub entry_of_code : EntryUnit → Option Abbrev × Section → Reading (Option Entry)
entry_of_code unit (None, s) = Ok (None, s)
entry_of_code unit (Some a, s) = attributes_at unit.encoding a.attributes s >>= λ x.
    Ok (Some (record { abbreviation = a; attributes = x.0 }), x.1)

-- the next entry, none of a closing entry
abbrev pub entry_at : EntryUnit → Section → Reading (Option Entry)
entry_at unit s = entry_code_at unit.abbreviations s >>= λ code. entry_of_code unit code

-- the item that begins here, at a depth, or none at the unit's end
unfoldable pub item_at : EntryUnit → ℤ → Section → Reading (Option Item)
item_at unit depth s =
    if length s.bytes == 0 then Ok (None, s)
    else (entry_at unit s >>= λ x.
    Ok (Some (record { offset = offset_of unit s; depth = depth; entry = x.0 }), x.1))

-- the item that was read, and the items after it; or none, at the end or the fault in its place
abbrev pub items_after : (ℤ → Section → Run Item Section) → Reading (Option Item)
    → Run Item Section
items_after following (Err e) = record { items = []; end = Err e }
items_after following (Ok (None, rest)) = record { items = []; end = Ok rest }
items_after following (Ok (Some x, rest)) = cons x (following (depth_after x) rest)

-- the items from here on, if they are fewer than n; else the first n of them, and UnexpectedEof for
-- their end
unfoldable pub items_within : EntryUnit → ℕ → ℤ → Section → Run Item Section
items_within unit zero depth s = record { items = []; end = Err UnexpectedEof }
items_within unit (suc n) depth s = items_after (items_within unit n) (item_at unit depth s)

-- the items from here on, of which the first lies at a depth, up to the unit's end or the first
-- fault; each has a byte at least, so they are fewer than the bytes and one
abbrev pub items_from : EntryUnit → ℤ → Section → Run Item Section
items_from unit depth s = items_within unit (length s.bytes + 1) depth s

-- the items of a unit
abbrev pub items_of : UnitRecord → Run Item Section
items_of u = items_from (entry_unit u.header u.abbreviations) (pos 0) u.header.entries

-- the items of a unit from an offset on, of which the first lies at depth 0
abbrev pub items_at : UnitRecord → ℕ → Run Item Section
items_at u offset = elim (entry_bytes_from u.header (Some offset)) [
  | Ok s ↦ items_from (entry_unit u.header u.abbreviations) (pos 0) s
  | Err e ↦ record { items = []; end = Err e }
]

-- items, at first at a depth `now`, up to the first after which the depth is no greater than this
abbrev pub items_inside : {Z : Type 0} → ℤ → ℤ → List Item → Result Z Error → Run Item (Unit {0})
items_inside depth now [] end =
    if int_lt depth now then record { items = []; end = end >>= λ z. Err UnexpectedEof }
    else record { items = []; end = Ok tt }
items_inside depth now (x ∷ xs) end =
    if int_lt depth now then cons x (items_inside depth (depth_after x) xs end)
    else record { items = []; end = Ok tt }

-- the subtree of an item: of the items after it the shortest run after which the depth is its own
-- again, no item where it has no children
abbrev pub subtree_of : {Z : Type 0} → Item → Run Item Z → Run Item (Unit {0})
subtree_of x following = items_inside x.depth (depth_after x) following.items following.end
