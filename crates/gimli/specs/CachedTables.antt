-- Which abbreviation tables are cached (DWARF 5, section 7.5.3).
-- Own: a table is cached by its offset in .debug_abbrev, in bytes; one that can't be read is cached
-- as its fault.
-- Own: once the cached tables have as many abbreviations and attributes as the section has bytes,
-- no more are cached. Tables that don't overlap have fewer, so that all of them are cached.
use Rattle.std.specs.Prelude.{◌≡◌, ◌≢◌, ◌+◌, ◌-◌, ℕ, Bool, true, List, [], length, fold, Result, Ok, Err, is_ok, IfSome, if◌then◌else◌}
use Rattle.std.specs.List.{list_any}
use Rattle.std.specs.Ordering.{nat_cmp}
use Rattle.std.specs.Result.{result_map_both}
use Rattle.std.specs.BTreeMap.{BTreeMap, get, is_at}
use Rattle.gimli.specs.Common.{Error, Abbrev, Section}
use Rattle.gimli.specs.Header.{UnitHeaderFields}
use Rattle.gimli.specs.Sections.{Sections}
use Rattle.gimli.specs.Text.{from_offset}
use Rattle.gimli.specs.Unit.{table_from}
use Rattle.gimli.specs.UnitMemory.{stored_unit_by}

-- the sections of a file, the offsets of the tables that are cached, and for how many more
-- abbreviations and attributes there is room
pub record CachedTables : Type 0 where
  pub dwarf : Sections
  pub offsets : List ℕ
  pub room : ℕ

-- a cache of no table
abbrev pub empty_cache : Sections → CachedTables
empty_cache d = record { dwarf = d; offsets = []; room = length d.debug_abbrev.bytes }

-- whether the table at an offset is cached
abbrev pub is_cached : ℕ → CachedTables → Bool
is_cached offset cache = list_any (is_at (nat_cmp offset)) cache.offsets

-- what is cached stays cached
abbrev pub StaysCached : CachedTables → CachedTables → Type 0
StaysCached old new = (offset : ℕ) → is_cached offset old ≡ true → is_cached offset new ≡ true

-- a table without where it lies in memory, or its fault
abbrev pub as_table : {T : Type 0} → (T → List Abbrev) → Result T Error
    → Result (List Abbrev) Error
as_table see table = result_map_both see (λ e. e) table

-- the room after a table, which takes one for each abbreviation and each attribute
abbrev pub room_after : ℕ → Result (List Abbrev) Error → ℕ
room_after room (Ok table) = fold (λ left a. left - (length a.attributes + 1)) room table
room_after room (Err e) = room

-- the table at an offset is cached, where there is room
abbrev pub CachesTable : ℕ → CachedTables → CachedTables → Type 0
CachesTable offset old new =
    (old.room ≢ 0 → (is_cached offset new ≡ true)
    × (new.room ≡ room_after old.room (table_from offset old.dwarf.debug_abbrev)))
    × (old.room ≡ 0 → new ≡ old)

-- each of the tables is the one at its offset, or its fault
abbrev pub AreTablesOf : {T : Type 0} → (T → List Abbrev) → Section → BTreeMap ℕ (Result T Error)
    → Type 0
AreTablesOf see s tables =
    (offset : ℕ) → IfSome (get nat_cmp tables offset) (λ t. table_from offset s ≡ as_table see t)

-- whether memory may be taken for the unit of a header: for all of it, where its table isn't cached
-- and begins in the section; with a cached table for what its root entry says
abbrev pub cached_unit_takes_memory : Bool → CachedTables → UnitHeaderFields → Bool
cached_unit_takes_memory shares cache header =
    if is_cached header.debug_abbrev_offset cache
    then (stored_unit_by cache.dwarf header
    (table_from header.debug_abbrev_offset cache.dwarf.debug_abbrev)).takes_memory shares
    else is_ok (from_offset header.debug_abbrev_offset cache.dwarf.debug_abbrev)
