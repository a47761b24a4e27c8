-- Addresses of rows that are taken one after another.
use Rattle.addr2line_bin.proofs.Common.{◌≡◌, ℕ, List, [], ◌∷◌, Option, Some, None, Result, Ok, Err, refl}
use Rattle.gimli_read.specs.declared.error.Error.{Error}
use Rattle.addr2line_lines.specs.RangeLocations.{LocatedSpan}
use Rattle.addr2line_units.specs.LocationsRange.{YieldsRow}
use Rattle.addr2line_bin.specs.AllAddresses.{addresses_in, keep_rising, rising_after}

-- a row that was given is the first of those that were left
pub given_row : (old : List (Result LocatedSpan Error)) (r : Option LocatedSpan) (new : List (Result LocatedSpan Error)) (s : LocatedSpan) → YieldsRow old r new → r ≡ Some s → old ≡ Ok s ∷ new
given_row [] r new s y e = absurd (cc)
given_row (Ok x ∷ rest) r new s y e = let same : x ≡ s = cc in rw (same, y.1) refl
given_row (Err x ∷ rest) r new s y e = absurd (cc)

-- where none was given, no address is left
pub no_row : (old : List (Result LocatedSpan Error)) (r : Option LocatedSpan) (new : List (Result LocatedSpan Error)) → YieldsRow old r new → r ≡ None → addresses_in old ≡ []
no_row [] r new y e = refl
no_row (Ok x ∷ rest) r new y e = absurd (cc)
no_row (Err x ∷ rest) r new y e = refl

-- what is kept of the addresses that are left, after one more
pub kept_more : (old new : List (Result LocatedSpan Error)) (s : LocatedSpan) (kept all more : List ℕ) → old ≡ Ok s ∷ new → rising_after kept (addresses_in old) ≡ all → more ≡ keep_rising kept s.address
    → rising_after more (addresses_in new) ≡ all
kept_more old new s kept all more e inv k = rw k (rw e at inv)
