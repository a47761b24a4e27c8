-- A law of lookups that wait (on History and Lookups).
use Rattle.std.specs.Prelude.{◌≡◌, ◌≢◌, ℕ, length, List, [], ◌∷◌, Ok}
use Rattle.std.specs.List.{AllByRecursion}
use Rattle.addr2line.specs.Common.{Sections, OnFault, UnitIndex, index_units, FirstAnswers}
use Rattle.addr2line_units.specs.LoadsLaws.{IsListed}
use Rattle.addr2line.specs.Answers.{answered}
use Rattle.addr2line.specs.History.{Given, Answered, Abandoned, where_waiting}
use Rattle.addr2line.specs.Lookups.{loads_at, lookup_stop}

-- the units that a lookup waits for, one after another, where it is given these answers
abbrev pub waited_for : OnFault → Sections → ℕ → FirstAnswers → List Given → List ℕ
waited_for faults d probe answers [] =
    where_waiting (λ n. n ∷ []) [] (lookup_stop faults d answers probe)
waited_for faults d probe answers (Abandoned ∷ given) =
    where_waiting (λ n. n ∷ []) [] (lookup_stop faults d answers probe)
waited_for faults d probe answers (Answered x ∷ given) = where_waiting
    (λ n. n ∷ waited_for faults d probe (answered d answers n x) given) []
    (lookup_stop faults d answers probe)

-- no number stands twice
abbrev pub AreDistinct : List ℕ → Type 0
AreDistinct [] = Unit {0}
AreDistinct (n ∷ ns) = AllByRecursion (λ k. k ≢ n) ns × AreDistinct ns

-- a lookup waits for each unit once at most, and only for such as cover its address and are open
-- when it begins
abbrev pub WaitsForEachOnce : Type 0
WaitsForEachOnce = (faults : OnFault) (d : Sections) (m : UnitIndex) (probe : ℕ)
    (answers : FirstAnswers) (given : List Given)
    → index_units d ≡ Ok m → length m.units ≡ length answers
    → AreDistinct (waited_for faults d probe answers given)
    × AllByRecursion (λ n. IsListed n (loads_at d answers probe))
    (waited_for faults d probe answers given)
