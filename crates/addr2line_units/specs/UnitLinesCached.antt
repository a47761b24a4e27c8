-- The lines of units as a context caches them, as the private functions see them.
-- Own: lines are read when they are first asked for, and cached then, their fault too. OutOfMemory
-- is never cached. Absent are lines only where the unit has no rows and no files, as where it has
-- no line program.
use Rattle.std.specs.Prelude.{◌≡◌, ◌≢◌, ℕ, Bool, true, false, not, List, [], ◌∷◌, map, Option, Some, None, slice_get, Result, Ok, Err, box_value, if◌then◌else◌}
use Rattle.std.specs.List.{AllZip}
use Rattle.addr2line_units.specs.Common.{DwLang, Error, OutOfMemory, Range, ◌>>=◌, fault_of, Sections, UnitRecord, LocatedSpan, location_at, locations_in_range, sequence_ranges, unit_lines}
use Rattle.addr2line_lines.specs.declared.row.Row.{Row}
use Rattle.addr2line_lines.specs.Location.{LineTable as Lines}
use Rattle.addr2line_lines.specs.Counts.{most_steps_in}
use Rattle.addr2line_lines.specs.Spans.{row_at}
use Rattle.addr2line_units.specs.declared.unit.LazyLines.{LazyLines}
use Rattle.addr2line_units.specs.declared.unit.LazyLines.TheVariants.{Unread, Absent, Read, Faulty}
use Rattle.addr2line_units.specs.declared.unit.LinesCache.{LinesCache}
use Rattle.addr2line_units.specs.EntriesOwn.{CachedUnit}
use Rattle.gimli_line.specs.Header.{Program}
use Rattle.addr2line_units.specs.UnitsRanged.{IndexedUnit, RangedUnit, has_lines, unit_ranges}
use Rattle.addr2line_units.specs.Locations.{LocationResult, all_read}

-- no lines
abbrev pub no_lines : Lines
no_lines = record { files = []; sequences = [] }

-- the cached lines are those that the unit's bytes give, or their fault, which is never
-- OutOfMemory
abbrev pub AreLinesOf : Sections → UnitRecord → LazyLines → Type 0
AreLinesOf d u Unread = Unit {0}
AreLinesOf d u Absent = unit_lines d u ≡ Ok no_lines
AreLinesOf d u (Read lines) = unit_lines d u ≡ Ok (box_value lines)
AreLinesOf d u (Faulty e) = (unit_lines d u ≡ Err e) × (e ≢ OutOfMemory)

-- the cached lines, none before they are read and where they have a fault
abbrev pub cached_lines : LazyLines → Option Lines
cached_lines Absent = Some no_lines
cached_lines (Read lines) = Some (box_value lines)
cached_lines _ = None

-- the cached lines, or their cached fault
abbrev pub cached_lines_result : LazyLines → Result (Option Lines) Error
cached_lines_result Unread = Ok None
cached_lines_result Absent = Ok (Some no_lines)
cached_lines_result (Read lines) = Ok (Some (box_value lines))
cached_lines_result (Faulty e) = Err e

-- whether nothing is cached yet
abbrev pub is_uncached : LazyLines → Bool
is_uncached Unread = true
is_uncached _ = false

-- the lines before they are asked for: without a line program there are none
abbrev pub unparsed_lines : Option Program → LazyLines
unparsed_lines None = Absent
unparsed_lines (Some p) = Unread

-- what the lines of a unit are once they are cached
abbrev pub lines_result : Sections → UnitRecord → Result (Option Lines) Error
lines_result d u = unit_lines d u >>= λ lines. Ok (Some lines)

-- what a context has of a unit from the start: its language, its lines or their fault, none before
-- they are parsed, and the ranges that lead to it
pub record UnitAtFirst : Type 0 where
  pub language : Option DwLang
  pub lines : Result (Option Lines) Error
  pub ranges : List Range

-- the same of a unit with its listed ranges: its lines are parsed where they give the ranges, and
-- there are none without a line program
abbrev pub unit_at_first : Sections → RangedUnit → UnitAtFirst
unit_at_first d u = record {
  language = u.indexed.language;
  lines = if has_lines u then lines_result d u.indexed.unit else Ok None;
  ranges = unit_ranges d u;
}

-- the same by what is cached
abbrev pub as_unit_at_first : LinesCache → List Range → UnitAtFirst
as_unit_at_first cache ranges = record {
  language = cache.lang;
  lines = cached_lines_result cache.lines;
  ranges = ranges;
}

-- the cached lines or their cached fault, or where nothing is cached what the unit's bytes give
abbrev pub lines_or : Sections → UnitRecord → LazyLines → Result Lines Error
lines_or d u Unread = unit_lines d u
lines_or d u Absent = Ok no_lines
lines_or d u (Read lines) = Ok (box_value lines)
lines_or d u (Faulty e) = Err e

-- what they are once they are cached
abbrev pub lines_result_or : Sections → UnitRecord → LazyLines → Result (Option Lines) Error
lines_result_or d u lines = lines_or d u lines >>= λ found. Ok (Some found)

-- the location of the probe in these, or the fault
abbrev pub location_or : Sections → UnitRecord → ℕ → LazyLines → LocationResult
location_or d u probe lines = lines_or d u lines >>= λ found. Ok (location_at probe found)

-- the texts of the files of cached lines
abbrev pub cached_files : LazyLines → List (List ℕ)
cached_files (Read lines) = (box_value lines).files
cached_files _ = []

-- the ranges of the sequences of cached lines
abbrev pub cached_ranges : LazyLines → List Range
cached_ranges (Read lines) = sequence_ranges (box_value lines)
cached_ranges _ = []

-- the row of the probe in cached lines
abbrev pub cached_row : ℕ → LazyLines → Option Row
cached_row probe (Read lines) = row_at probe (box_value lines).sequences
cached_row probe _ = None

-- the most steps in cached lines
abbrev pub cached_steps : LazyLines → ℕ
cached_steps (Read lines) = most_steps_in (box_value lines)
cached_steps _ = 0

-- what cached lines have in a range, or their cached fault
abbrev pub cached_spans : Range → ℕ → ℕ → LazyLines → List (Result LocatedSpan Error)
cached_spans range low high Unread = []
cached_spans range low high Absent = []
cached_spans range low high (Read lines) =
    all_read (locations_in_range (box_value lines) range low high)
cached_spans range low high (Faulty e) = Err e ∷ []

-- a unit and its language
abbrev pub indexed_unit : UnitRecord → LinesCache → IndexedUnit
indexed_unit dw_unit u = record { unit = dw_unit; language = u.lang }

-- whether the lines of a unit are parsed
abbrev pub is_parsed : LinesCache → Bool
is_parsed u = not (is_uncached u.lines)

-- the units and their languages, which are cached beside them
abbrev pub indexed_units : {R : Type 0} → List UnitRecord → List (CachedUnit R) → List IndexedUnit
indexed_units [] caches = []
indexed_units (d ∷ dw_units) [] = []
indexed_units (d ∷ dw_units) (c ∷ caches) =
    indexed_unit d c.lines ∷ indexed_units dw_units caches

-- of which units the lines are parsed
abbrev pub parsed_units : {R : Type 0} → List (CachedUnit R) → List Bool
parsed_units caches = map (λ c. is_parsed c.lines) caches

-- beside each unit stand cached lines, which are its own
abbrev pub HaveLinesOf : {R : Type 0} → Sections → List UnitRecord → List (CachedUnit R) → Type 0
HaveLinesOf d dw_units caches = AllZip (λ x c. AreLinesOf d x c.lines.lines) dw_units caches

-- the lines of a unit, as they are cached
abbrev pub lines_in_cache : {R : Type 0} → Option (CachedUnit R) → LazyLines
lines_in_cache None = Unread
lines_in_cache (Some c) = c.lines.lines

-- the lines of a unit by its number, as they are cached
abbrev pub lines_at : {R : Type 0} → List (CachedUnit R) → ℕ → LazyLines
lines_at caches n = lines_in_cache (slice_get caches n)

-- the language of a unit stays, and so do its cached lines or their fault
pub record StayLines (old new : LinesCache) : Type 0 where
  pub language : new.lang ≡ old.lang
  pub lines : is_uncached old.lines ≡ false → new.lines ≡ old.lines

-- the fault of the lines of a unit, if there is such a unit and they have one
abbrev pub lines_result_at : Sections → Option IndexedUnit → Result (Unit {0}) Error
lines_result_at d None = Ok tt
lines_result_at d (Some u) = fault_of (unit_lines d u.unit)
