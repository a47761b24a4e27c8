-- What one call of an iterator gives of the items that are left, of which at most one is a fault,
-- the last.
-- Own: after a fault nothing is left.
use Rattle.std.specs.Prelude.{◌≡◌, List, [], ◌∷◌, Option, Some, None, Result, Ok, Err}
use Rattle.gimli_read.specs.declared.error.Error.{Error}

-- the call gave the first item that was left, and these are left
abbrev pub Yields : {X E : Type 0} → List (Result X E) → Result (Option X) E → List (Result X E)
    → Type 0
Yields [] r left = (r ≡ Ok None) × (left ≡ [])
Yields (Ok x ∷ rest) r left = (r ≡ Ok (Some x)) × (left ≡ rest)
Yields (Err e ∷ rest) r left = (r ≡ Err e) × (left ≡ [])

-- the first item that is left and what is left after it, none at the end, or the fault
abbrev pub next_given : {X : Type 0} → List (Result X Error)
    → Result (Option X × List (Result X Error)) Error
next_given [] = Ok (None, [])
next_given (Ok x ∷ rest) = Ok (Some x, rest)
next_given (Err e ∷ rest) = Err e
