-- Laws of the views of units (on UnitView).
use Rattle.std.specs.Prelude.{◌≡◌, Option, Some, None, Result}
use Rattle.addr2line_units.specs.Common.{Error, Sections, UnitRecord, IsScope, Scope}
use Rattle.addr2line_units.specs.UnitView.{View, answered_view, verdict, view_scope}

-- a unit that is decided without an answer has its verdict with every answer
abbrev pub NeedNoAnswer : Type 0
NeedNoAnswer = (d : Sections) (u : UnitRecord) (view : Result View Error)
    (answer : Option (Option Sections)) → verdict d u None ≡ Some view
    → verdict d u answer ≡ Some view

-- a unit that is open has the verdict that its answer decides for
abbrev pub TakeAnswers : Type 0
TakeAnswers = (d : Sections) (u : UnitRecord) (answer : Option Sections) → verdict d u None ≡ None
    → verdict d u (Some answer) ≡ Some (answered_view d u answer)

-- the units that references lead to from a view stand in order
abbrev pub KeepOrder : Type 0
KeepOrder = (scope : Scope) (view : View) → IsScope scope → IsScope (view_scope scope view)

-- verdicts without an answer, those of an answer, and references from a view
pub record ViewLaws : Type 0 where
  pub alone : NeedNoAnswer
  pub answered : TakeAnswers
  pub in_order : KeepOrder
