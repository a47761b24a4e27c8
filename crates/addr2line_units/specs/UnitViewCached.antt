-- What is cached of a unit's view, as the private functions see it.
-- Own: whether a unit needs an answer is cached once it was looked at. Its first answer is stored,
-- and what it decides is cached, until the unit is forgotten. OutOfMemory is never cached.
use Rattle.std.specs.Prelude.{◌≡◌, Bool, true, false, is_ok, is_some, Option, Some, None, option_map, unwrap_or, IfSome, Result, Ok, Err, Box, box_value}
use Rattle.std.specs.declared.alloc.Global.{Global}
use Rattle.addr2line_units.specs.Common.{Error, ◌>>=◌, result_map, Sections, UnitRecord}
use Rattle.gimli.specs.Split.{relocated}
use Rattle.addr2line_units.specs.declared.unit.AnsweredLoad.{AnsweredLoad}
use Rattle.addr2line_units.specs.declared.unit.UnitView.{UnitView}
use Rattle.addr2line_units.specs.declared.unit.ViewState.{ViewState}
use Rattle.addr2line_units.specs.declared.unit.ViewState.TheVariants as states
use Rattle.addr2line_units.specs.UnitView.{View, first_unit, is_open, main_view, parts_of, split_view, verdict}

-- an answer
abbrev pub as_sections : {R : Type 0} → AnsweredLoad R → Option Sections
as_sections a = option_map (λ d. d.value) a.sections

-- the unit that stands in a box, if there is one, or the fault
abbrev pub unboxed : Result (Option (Box UnitRecord Global)) Error
    → Result (Option UnitRecord) Error
unboxed given = result_map (option_map box_value) given

-- the first answer that a state has
abbrev pub answer_in : {R : Type 0} → ViewState R → Option (Option Sections)
answer_in (states.Answered a) = Some (as_sections a)
answer_in _ = None

-- the first answer of a unit
abbrev pub answer_of_view : {R : Type 0} → UnitView R → Option (Option Sections)
answer_of_view v = answer_in v.state

-- the split unit of an answer: the first unit, with what its main unit relocates
abbrev pub split_unit : UnitRecord → Option Sections → Result (Option UnitRecord) Error
split_unit main None = Ok None
split_unit main (Some d) = first_unit d >>= λ u. Ok (option_map (λ x. relocated x main) u)

-- the view by an answer and its split unit
abbrev pub view_by : Sections → UnitRecord → Option Sections → Option UnitRecord → View
view_by d main (Some split) (Some u) = split_view split u
view_by d main _ _ = main_view d main

-- the view that is cached of an answer, or the fault
abbrev pub view_in : {R : Type 0} → Sections → UnitRecord → AnsweredLoad R → Result View Error
view_in d main a = unboxed a.unit >>= λ x. Ok (view_by d main (as_sections a) x)

-- what is cached of the verdict: whether the unit is open, and else its view or the fault; none
-- before the unit was looked at
abbrev pub verdict_in : {R : Type 0} → Sections → UnitRecord → ViewState R
    → Option (Option (Result View Error))
verdict_in d u states.Undecided = None
verdict_in d u states.Open = Some None
verdict_in d u states.Main = Some (Some (Ok (main_view d u)))
verdict_in d u (states.Unnamed e) = Some (Some (Err e))
verdict_in d u (states.Answered a) = Some (Some (view_in d u a))

-- what is cached of the verdict, or what the bytes say before the unit was looked at
abbrev pub verdict_or : {R : Type 0} → Sections → UnitRecord → ViewState R
    → Option (Result View Error)
verdict_or d u s = unwrap_or (verdict_in d u s) (verdict d u None)

-- whether the unit was looked at
abbrev pub was_checked : {R : Type 0} → ViewState R → Bool
was_checked states.Undecided = false
was_checked _ = true

-- whether it was looked at, and waits for an answer
abbrev pub waits : {R : Type 0} → ViewState R → Bool
waits states.Open = true
waits _ = false

-- whether its view is known, or the fault
abbrev pub is_decided : {R : Type 0} → ViewState R → Bool
is_decided states.Undecided = false
is_decided states.Open = false
is_decided _ = true

-- whether a view is known, and has no fault
abbrev pub has_view : {R : Type 0} → ViewState R → Bool
has_view states.Main = true
has_view (states.Answered a) = is_ok a.unit
has_view _ = false

-- what is cached is what the bytes and the first answer give, and only a unit that waited for it
-- has a first answer
pub record IsViewOf {R : Type 0} (d : Sections) (u : UnitRecord) (v : UnitView R) : Type 0 where
  pub verdict : IfSome (verdict_in d u v.state) (λ cached. cached ≡ verdict d u (answer_of_view v))
  pub waited : is_some (answer_of_view v) ≡ true → is_open d u None ≡ true

-- the sections of the split file that an answer's view is in, if it is in one
abbrev pub split_file_by : Option Sections → Result (Option UnitRecord) Error → Option Sections
split_file_by (Some split) (Ok (Some u)) = Some split
split_file_by _ _ = None

-- the same of what is cached
abbrev pub split_file_in : {R : Type 0} → ViewState R → Option Sections
split_file_in (states.Answered a) = split_file_by (as_sections a) (unboxed a.unit)
split_file_in _ = None

-- the sections and the unit of a view, or the fault
abbrev pub parts_or_fault : Result View Error → Result (Sections × UnitRecord) Error
parts_or_fault view = view >>= λ v. Ok (parts_of v)
