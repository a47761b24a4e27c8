-- What an answer to the load of a unit makes of the first answers of a context, and what it gives.
-- Own: the first answer to a unit's load counts until the unit is forgotten.
use Rattle.std.specs.Prelude.{ℕ, Option, Result, Ok, Err}
use Rattle.addr2line.specs.Common.{Error, ◌>>=◌, Sections, with_answer, load_result, index_units, unit_records, FirstAnswers}

-- the first answers after one more to the load of the unit of a number, which counts where the unit
-- is open
abbrev pub answered : Sections → FirstAnswers → ℕ → Option Sections → FirstAnswers
answered d answers n given = elim (index_units d)
    [ Err e ↦ answers | Ok m ↦ with_answer d (unit_records m.units) answers n given ]

-- what an answer to the load of the unit of a number gives: UnknownToken where there is none, or
-- the fault of its view then
abbrev pub load_reply : Sections → FirstAnswers → ℕ → Option Sections → Result (Unit {0}) Error
load_reply d answers n given =
    index_units d >>= λ m. load_result d (unit_records m.units) answers n given
