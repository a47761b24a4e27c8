-- Answers to the loads of units that no lookup waits for, and the loads that an address waits for
-- (DWARF 5, sections 3.1.2 and 7.3.2).
-- Own: an answer to a unit that is decided changes nothing; one that is forgotten can be given
-- again. Of the units that cover an address each load is listed once, where its first range stands.
use Rattle.std.specs.Prelude.{◌≡◌, ℕ, ◌==◌, Bool, false, not, List, [], ◌∷◌, filter, set, slice_get, Option, Some, None, Result, Ok, Err}
use Rattle.std.specs.List.{AllByRecursion}
use Rattle.addr2line_units.specs.Common.{Error, UnknownToken, ◌>>=◌, fault_of, Sections, UnitRecord}
use Rattle.addr2line_units.specs.declared.index.UnitRange.{UnitRange}
use Rattle.addr2line_units.specs.declared.unit.UnitToken.{UnitToken}
use Rattle.addr2line_units.specs.FramesLookup.{answer_of}
use Rattle.addr2line_units.specs.UnitView.{FirstAnswers, SplitLoad, View, awaited_load, decided_answer, is_open, verdict}

-- the number of the unit that a token names
abbrev pub token_number : UnitToken → ℕ
token_number t = t.number

-- the unit of a number, or UnknownToken where there is none
abbrev pub unit_of_token : List UnitRecord → ℕ → Result UnitRecord Error
unit_of_token us n = elim (slice_get us n) [ None ↦ Err UnknownToken | Some u ↦ Ok u ]

-- the fault of a view, if it has one
abbrev pub view_fault : Option (Result View Error) → Result (Unit {0}) Error
view_fault None = Ok tt
view_fault (Some view) = fault_of view

-- what an answer to the load of the unit of a number gives: the fault of the view after it
abbrev pub load_result : Sections → List UnitRecord → FirstAnswers → ℕ
    → Option Sections → Result (Unit {0}) Error
load_result d us answers n given = unit_of_token us n >>= λ u.
    view_fault (verdict d u (decided_answer d u (answer_of answers n) given))

-- what it gives to forget the answer of the unit of a number
abbrev pub forget_result : List UnitRecord → ℕ → Result (Unit {0}) Error
forget_result us n = fault_of (unit_of_token us n)

-- the first answers without that of the unit of a number, if there is one
abbrev pub forgotten : FirstAnswers → ℕ → FirstAnswers
forgotten answers n = set answers n None

-- whether there is a unit of a number and it is open
abbrev pub is_open_at : Sections → List UnitRecord → FirstAnswers → ℕ → Bool
is_open_at d us answers n = elim (slice_get us n)
    [ None ↦ false | Some u ↦ is_open d u (answer_of answers n) ]

-- none of the units that ranges lead to is open
abbrev pub NoneOpen : Sections → List UnitRecord → FirstAnswers → List UnitRange → Type 0
NoneOpen d us answers ranges =
    AllByRecursion (λ r. is_open_at d us answers r.unit ≡ false) ranges

-- the load that the unit of a number waits for, none where it is decided or there is no such unit
abbrev pub load_of_number : Sections → List UnitRecord → FirstAnswers → ℕ → Option SplitLoad
load_of_number d us answers n = elim (slice_get us n)
    [ None ↦ None | Some u ↦ awaited_load d n u (answer_of answers n) ]

-- whether a load is that of another unit
abbrev pub is_of_other : ℕ → SplitLoad → Bool
is_of_other n load = not (load.unit == n)

-- the load of a unit, if it waits for one, before those of other units
abbrev pub before_others : Option SplitLoad → List SplitLoad → List SplitLoad
before_others None loads = loads
before_others (Some load) loads = load ∷ filter (is_of_other load.unit) loads

-- the loads of the units that ranges lead to, each once, by the load of the unit of each number
abbrev pub loads_along : (ℕ → Option SplitLoad) → List UnitRange → List SplitLoad
loads_along load [] = []
loads_along load (r ∷ ranges) = before_others (load r.unit) (loads_along load ranges)
