-- A place among the entries of a unit (DWARF 5, section 7.5.2), as `EntriesRaw` goes from entry to
-- entry, and as the private functions above it see what it reads. What is read there is said in
-- Entry and Items, which know no place.
use Rattle.std.specs.Prelude.{◌+◌, ◌<◌, ◌≤◌, ◌^◌, ℕ, ℤ, pos, unsigned_abs, List, length, Option, Some, None, Result, Ok}
use Rattle.gimli.specs.Common.{Error, Abbrev, ◌>>=◌, Run, Section}
use Rattle.gimli.specs.Entries.{entry_bytes_from, entry_unit}
use Rattle.gimli.specs.Entry.{EntryUnit, depth_after_entry, depth_after_closing, entry_code_at}
use Rattle.gimli.specs.Header.{UnitHeaderFields}
use Rattle.gimli.specs.Items.{Item, depth_after, item_at, items_from}
use Rattle.gimli.specs.Unit.{UnitRecord}

-- the bytes that are left of a unit's entries, and the depth of the next item: how many entries
-- with children were read since the reading began, less the closing entries
pub record EntryCursor : Type 0 where
  pub left : Section
  pub depth : ℤ

-- the unit whose entries are read, and where in it
pub record EntriesLeft : Type 0 where
  pub unit : EntryUnit
  pub cursor : EntryCursor

-- each step of depth, up or down, took a byte of the unit, which has fewer than 2 ^ 63
abbrev pub IsInUnit : ℕ → Section → ℤ → Type 0
IsInUnit unit_length left depth =
    (unsigned_abs depth + length left.bytes ≤ unit_length) × (unit_length < 2 ^ 63)

-- the depth after a code
abbrev pub depth_after_code : Option Abbrev → ℤ → ℤ
depth_after_code None depth = depth_after_closing depth
depth_after_code (Some a) depth = depth_after_entry a.has_children depth

-- the abbreviation of the next entry, none of a closing entry
unfoldable pub entry_abbreviation_at : List Abbrev → EntryCursor
    → Result (Option Abbrev × EntryCursor) Error
entry_abbreviation_at table cursor = entry_code_at table cursor.left >>= λ code.
    Ok (code.0, record { left = code.1; depth = depth_after_code code.0 cursor.depth })

-- the depth after the next item, if there is one
abbrev pub depth_after_next : Option Item → ℤ → ℤ
depth_after_next None depth = depth
depth_after_next (Some x) depth = depth_after x

-- the next item and where it ends, or none at the unit's end
unfoldable pub next_item_at : EntryUnit → EntryCursor → Result (Option Item × EntryCursor) Error
next_item_at unit cursor = item_at unit cursor.depth cursor.left >>= λ x.
    Ok (x.0, record { left = x.1; depth = depth_after_next x.0 cursor.depth })

-- the items that are left to read
abbrev pub items_left : EntryUnit → EntryCursor → Run Item Section
items_left unit cursor = items_from unit cursor.depth cursor.left

-- the entries of a unit, of which these bytes are left, at depth 0
abbrev pub entries_at : UnitHeaderFields → List Abbrev → Section → EntriesLeft
entries_at header table left =
    record { unit = entry_unit header table; cursor = record { left = left; depth = pos 0 } }

-- the entries of a unit from an offset on, or from the root entry
abbrev pub entries_from : UnitRecord → Option ℕ → Result EntriesLeft Error
entries_from u offset =
    entry_bytes_from u.header offset >>= λ left. Ok (entries_at u.header u.abbreviations left)
