-- The details of functions as they are found, as the private functions see them.
use Rattle.std.specs.Prelude.{ℕ, [], Option, Some, None, Result, Ok, Err}
use Rattle.addr2line_lines.specs.Common.{Error, NoEntryAtGivenOffset, Abbrev, Costed, free, rest_of, Section, EntryUnit, attributes_at, UnitRecord}
use Rattle.gimli_read.specs.Costed.{◌>>=◌}
use Rattle.gimli.specs.EntryCursor.{EntryCursor, entries_from, entry_abbreviation_at}
use Rattle.addr2line_lines.specs.CostedSteps.{map_at_cost}
use Rattle.addr2line_lines.specs.References.{Scope}
use Rattle.addr2line_lines.specs.FoundNames.{name_after}
use Rattle.addr2line_lines.specs.FoundInlined.{FoundInlined}
use Rattle.addr2line_lines.specs.FoundItems.{inside_found}

-- the abbreviation of a function's entry, which a closing entry hasn't
abbrev pub abbreviation_of : ℕ → Option Abbrev → Result Abbrev Error
abbreviation_of offset None = Err (NoEntryAtGivenOffset offset)
abbreviation_of offset (Some a) = Ok a

-- the name of a function whose attributes follow, and what was found after it
abbrev pub function_found_at : Scope → UnitRecord → EntryUnit → EntryCursor → FoundInlined → Abbrev
    → Costed (Option Section × FoundInlined)
function_found_at scope u unit cursor found a =
    let read = attributes_at u.header.encoding a.attributes cursor.left in
    free (name_after scope u (Ok None) read) >>= λ name. free (rest_of read) >>= λ rest.
    map_at_cost (λ more. (name, more)) (inside_found scope u unit
    (record { left = rest; depth = cursor.depth }) (record { found = found; around = [] }))

-- the name of the function whose entry begins at an offset, and what was found after it
unfoldable pub detail_found_at : Scope → UnitRecord → ℕ → FoundInlined
    → Costed (Option Section × FoundInlined)
detail_found_at scope u offset found = do
  left ← free (entries_from u (Some offset))
  code ← free (entry_abbreviation_at left.unit.abbreviations left.cursor)
  a ← free (abbreviation_of offset code.0)
  function_found_at scope u left.unit code.1 found a
