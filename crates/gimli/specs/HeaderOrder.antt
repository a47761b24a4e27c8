-- The order of units in a section (DWARF 5, section 7.5).
use Rattle.std.specs.Prelude.{ℕ, ◌+◌, ◌≤◌, List, [], ◌∷◌, Result, IfOk}
use Rattle.std.specs.List.{AllByRecursion}
use Rattle.gimli.specs.Common.{Error, Section}
use Rattle.gimli.specs.Header.{UnitHeaderFields}
use Rattle.gimli.specs.Entries.{unit_length}
use Rattle.gimli.specs.UnitsLeft.{all_headers}

-- the units whose headers can be read begin at an offset or after it
abbrev pub BeginFrom : ℕ → List (Result UnitHeaderFields Error) → Type 0
BeginFrom offset headers = AllByRecursion (λ r. IfOk r (λ h. offset ≤ h.offset.0)) headers

-- each of them ends before a later one begins
abbrev pub AreHeadersInOrder : List (Result UnitHeaderFields Error) → Type 0
AreHeadersInOrder [] = Unit {0}
AreHeadersInOrder (r ∷ rs) =
    IfOk r (λ h. BeginFrom (h.offset.0 + unit_length h) rs) × AreHeadersInOrder rs

-- those of a section do
abbrev pub HeadersInOrder : Type 0
HeadersInOrder = (s : Section) → AreHeadersInOrder (all_headers s)
