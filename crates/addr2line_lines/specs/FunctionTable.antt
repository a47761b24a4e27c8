-- The functions of a view, and what is cached of their details (DWARF 5, section 3.3).
use Rattle.std.specs.Prelude.{◌≡◌, ℕ, ◌==◌, List, [], map, position, slice_get, Option, Some, None, option_and_then, option_map, Result, Ok, Err}
use Rattle.addr2line_lines.specs.Common.{Error, Section}
use Rattle.addr2line_lines.specs.CachedNames.{KnownNames}
use Rattle.addr2line_lines.specs.Details.{Detail}
use Rattle.addr2line_lines.specs.InlinedEntries.{InlinedEntry, InlinedRange}
use Rattle.addr2line_lines.specs.Functions.{FunctionRange, entries_of, function_offset_at}

-- a function: where its entry begins, in bytes from the start of the unit's length, and its detail
-- or the fault of that, none before it is read
pub record CachedFunction : Type 0 where
  pub offset : ℕ
  pub detail : Option (Result Detail Error)

-- the ranges of functions, the functions that have a range in the order of their entries, the
-- inlined entries of the details that are cached, and the names of entries that are referred to, or
-- their faults
pub record FunctionTable : Type 0 where
  pub ranges : List FunctionRange
  pub functions : List CachedFunction
  pub inlined : List InlinedEntry
  pub names : KnownNames

-- the functions are the entries that have a range, in the order of their ranges, each once
abbrev pub AreListed : FunctionTable → Type 0
AreListed t = map (λ (f : CachedFunction). f.offset) t.functions ≡ entries_of t.ranges

-- where the entry of a function begins, by its place
abbrev pub cached_offset_at : FunctionTable → ℕ → Option ℕ
cached_offset_at t n = option_map (λ (f : CachedFunction). f.offset) (slice_get t.functions n)

-- the place of the function at the probe
abbrev pub function_place_at : ℕ → FunctionTable → Option ℕ
function_place_at probe t = option_and_then
    (λ offset. position (λ (f : CachedFunction). f.offset == offset) t.functions)
    (function_offset_at probe t.ranges)

-- what is cached of a function, by its place
abbrev pub cached_detail : FunctionTable → ℕ → Option (Result Detail Error)
cached_detail t n =
    option_and_then (λ (f : CachedFunction). f.detail) (slice_get t.functions n)

-- the name of a detail, none of a fault
abbrev pub name_of_detail : Result Detail Error → Option Section
name_of_detail (Ok d) = d.name
name_of_detail (Err e) = None

-- the inlined ranges of a detail, none of a fault
abbrev pub inlined_of_detail : Result Detail Error → List InlinedRange
inlined_of_detail (Ok d) = d.inlined
inlined_of_detail (Err e) = []

-- the cached name of a function, by its place
abbrev pub cached_name : FunctionTable → ℕ → Option Section
cached_name t n = option_and_then name_of_detail (cached_detail t n)

-- the cached inlined ranges of a function, by its place
abbrev pub cached_inlined : FunctionTable → ℕ → List InlinedRange
cached_inlined t n = elim (cached_detail t n) [ None ↦ [] | Some d ↦ inlined_of_detail d ]
