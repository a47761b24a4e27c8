-- Laws of answers to loads, whatever calls come after them (on History and Lookups).
use Rattle.std.specs.Prelude.{◌≡◌, ◌⊎◌, ◌++◌, ℕ, false, length, map, List, [], ◌∷◌, Option, Some, Ok}
use Rattle.std.specs.List.{AllByRecursion}
use Rattle.addr2line.specs.Common.{Sections, OnFault, cover, answer_of, is_waiting, LeadTo, UnitIndex, index_units, FirstAnswers}
use Rattle.addr2line.specs.History.{HistoryCall, AsksLocation, AsksRange, AsksFrames, AsksUnit, AsksLoads, AnswersLoad, Forgets, ParsesLines, ParsesFunctions, answers_after}
use Rattle.addr2line.specs.Lookups.{loads_at, lookup_stop}

-- a call forgets no unit whose number is one of these
abbrev pub ForgetsNone : (ℕ → Type 0) → HistoryCall → Type 0
ForgetsNone These (Forgets n) = These n → ⊥
ForgetsNone These (AsksLocation probe) = Unit {0}
ForgetsNone These (AsksRange low high) = Unit {0}
ForgetsNone These (AsksFrames probe given) = Unit {0}
ForgetsNone These (AsksUnit probe given) = Unit {0}
ForgetsNone These (AsksLoads probe) = Unit {0}
ForgetsNone These (AnswersLoad n x) = Unit {0}
ForgetsNone These ParsesLines = Unit {0}
ForgetsNone These (ParsesFunctions depth) = Unit {0}

-- the first answer to the load of a unit counts, whatever calls come after it, until the unit is
-- forgotten
abbrev pub FirstAnswersStay : Type 0
FirstAnswersStay = (d : Sections) (m : UnitIndex) (answers : FirstAnswers) (n : ℕ)
    (first : Option Sections) (calls : List HistoryCall)
    → index_units d ≡ Ok m → answer_of answers n ≡ Some first
    → AllByRecursion (ForgetsNone (λ k. k ≡ n)) calls
    → answer_of (answers_after d answers calls) n ≡ Some first

-- answers to the loads of units by their numbers, as calls
abbrev pub answering : List (ℕ × Option Sections) → List HistoryCall
answering given = map (λ x. AnswersLoad x.0 x.1) given

-- there is an answer to the load of the unit of a number
abbrev pub IsAnsweredBy : List (ℕ × Option Sections) → ℕ → Type 0
IsAnsweredBy [] n = ⊥
IsAnsweredBy (x ∷ given) n = (x.0 ≡ n) ⊎ IsAnsweredBy given n

-- once each load that an address waits for has an answer no lookup of it waits, whatever calls come
-- after, until a unit that covers it is forgotten
abbrev pub WaitsForNoneAnswered : Type 0
WaitsForNoneAnswered = (faults : OnFault) (d : Sections) (m : UnitIndex) (probe : ℕ)
    (answers : FirstAnswers) (given : List (ℕ × Option Sections)) (calls : List HistoryCall)
    → index_units d ≡ Ok m → length m.units ≡ length answers
    → AllByRecursion (λ load. IsAnsweredBy given load.unit) (loads_at d answers probe)
    → AllByRecursion (ForgetsNone (LeadTo (cover probe m.ranges))) calls
    → is_waiting (lookup_stop faults d
    (answers_after d answers (answering given ++ calls)) probe) ≡ false

-- first answers, and lookups once all have one
pub record AnswerLaws : Type 0 where
  pub first : FirstAnswersStay
  pub none : WaitsForNoneAnswered
