-- The addresses of all rows of a file.
-- Own: rows come in the order of a lookup of all addresses, up to the first fault; an address that
-- isn't above all that were kept before it is left out.
use Rattle.std.specs.Prelude.{◌≡◌, ◌-◌, ℕ, Bool, true, List, [], ◌∷◌, ◌++◌, length, map, nat_lt, slice_get, Option, Some, None, Result, Ok, if◌then◌else◌}
use Rattle.std.specs.List.{fold}
use Rattle.gimli_read.specs.declared.error.Error.{Error}
use Rattle.addr2line_lines.specs.LastAddress.{last_address}
use Rattle.addr2line_lines.specs.RangeLocations.{LocatedSpan}
use Rattle.addr2line_bin.specs.FileAnswers.{FileAnswers}
use Rattle.gimli_line.specs.Rises.{rows_before}

-- the addresses of rows, up to the first fault
abbrev pub addresses_in : List (Result LocatedSpan Error) → List ℕ
addresses_in rows = map (λ s. s.address) (rows_before rows)

-- whether an address is above the last that was kept, if there is one
abbrev pub is_above : Option ℕ → ℕ → Bool
is_above None n = true
is_above (Some last) n = nat_lt last n

-- an address is kept if it is above all that were kept before
abbrev pub keep_rising : List ℕ → ℕ → List ℕ
keep_rising kept n =
    if is_above (slice_get kept (length kept - 1)) n then kept ++ n ∷ [] else kept

-- the addresses that are kept, after those that were kept before
abbrev pub rising_after : List ℕ → List ℕ → List ℕ
rising_after kept addresses = fold keep_rising kept addresses

-- the addresses are those of all rows
pub record AreAllAddresses (answers : FileAnswers) (addresses : List ℕ) : Type 0 where
  pub rows : List (Result LocatedSpan Error)
  pub found : answers.spans_in 0 last_address ≡ Ok rows
  pub kept : addresses ≡ rising_after [] (addresses_in rows)
