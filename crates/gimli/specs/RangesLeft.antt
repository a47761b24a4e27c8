-- What is left of a range list, as the private functions see it.
use Rattle.std.specs.Prelude.{◌≡◌, List, [], ◌∷◌, Option, Some, None, Result, Ok, Err}
use Rattle.gimli.specs.Common.{Error, Range}

-- what a search found of the ranges that were left, and which are left after that range
abbrev pub FindsRange : List (Result Range Error) → Result (Option Range) Error
    → List (Result Range Error) → Type 0
FindsRange old (Ok None) new = old ≡ []
FindsRange old (Ok (Some range)) new = old ≡ Ok range ∷ new
FindsRange old (Err e) new = old ≡ Err e ∷ []
