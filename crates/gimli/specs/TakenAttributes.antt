-- Attributes that are taken in one after another, where none before has a fault.
use Rattle.std.specs.Prelude.{List, fold, Result}
use Rattle.gimli.specs.Common.{Error, NamedValue, Reading, ◌>>=◌}

-- what attributes say after what was said before, or the first fault
abbrev pub taken_in : {Y : Type 0} → (Y → NamedValue → Result Y Error) → Result Y Error
    → List NamedValue → Result Y Error
taken_in more said attributes = fold (λ y a. y >>= λ x. more x a) said attributes

-- the same of attributes that are read
abbrev pub taken_after : {Y : Type 0} → (Y → NamedValue → Result Y Error) → Result Y Error
    → Reading (List NamedValue) → Result Y Error
taken_after more said read = read >>= λ x. taken_in more said x.0
