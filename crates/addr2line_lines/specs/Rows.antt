-- Rows that come one at a time, as the private functions see them.
use Rattle.std.specs.Prelude.{List, [], ◌∷◌, Result, Ok, Err}
use Rattle.addr2line_lines.specs.Common.{result_map}

-- all of a list, or its first fault
abbrev pub read_all : {X E : Type 0} → List (Result X E) → Result (List X) E
read_all [] = Ok []
read_all (Ok x ∷ rest) = result_map (λ xs. x ∷ xs) (read_all rest)
read_all (Err e ∷ rest) = Err e
