-- The views of units: the sections and the unit whose entries say what stands at an address (DWARF
-- 5, sections 3.1.2 and 7.3.2: a skeleton unit and its split unit).
-- Own: a unit without an identifier of a split unit has the main view; one whose split name can't
-- be read has that fault. Any other waits for an answer to its load: none, or sections without a
-- unit, decide for the main view; else the first unit of the sections counts, its fault too.
-- Own: the identifier of what is answered isn't compared. Lines and language stay those of the main
-- unit. References lead to no other unit of a split file.
use Rattle.std.specs.Prelude.{ℕ, Bool, true, false, List, [], Option, Some, None, is_none, option_map, Result, Ok, Err, if◌then◌else◌}
use Rattle.addr2line_units.specs.Common.{Error, ◌>>=◌, Section, Sections, UnitRecord, unit_record_of, all_headers, Scope}
use Rattle.gimli.specs.declared.unit.DwoId.{DwoId}
use Rattle.gimli.specs.Split.{dwo_name_of, relocated}
use Rattle.addr2line_lines.specs.FileTexts.{optional_string}
use Rattle.addr2line_lines.specs.UnitsOfHeaders.{first_unit_of}

-- of each unit the first answer to its load, none before it has one: the sections of its split
-- file, or none
abbrev pub FirstAnswers : Type 0
FirstAnswers = List (Option (Option Sections))

-- where the entries of a unit are read: its own file, or its split file
pub record View : Type 0 where
  pub sections : Sections
  pub unit : UnitRecord
  pub is_split : Bool

-- what a unit asks for that waits for an answer: its number, the identifier of its split unit, its
-- directory, the name of its split file, and the sections that have the unit
pub record SplitLoad : Type 0 where
  pub unit : ℕ
  pub dwo_id : DwoId
  pub comp_dir : Option Section
  pub path : Option Section
  pub parent : Sections

-- the main view of a unit
abbrev pub main_view : Sections → UnitRecord → View
main_view d u = record { sections = d; unit = u; is_split = false }

-- the view of a unit of a split file
abbrev pub split_view : Sections → UnitRecord → View
split_view d u = record { sections = d; unit = u; is_split = true }

-- the sections and the unit of a view
abbrev pub parts_of : View → Sections × UnitRecord
parts_of v = (v.sections, v.unit)

-- where references lead from a view: in the main view where they lead from the main unit
abbrev pub view_scope : Scope → View → Scope
view_scope scope v =
    if v.is_split
    then record { file = record { sections = v.sections; units = [] }; sup = scope.sup }
    else scope

-- the name of the split file of a unit
unfoldable pub split_name_of : Sections → UnitRecord → Result (Option Section) Error
split_name_of d u = dwo_name_of u >>= optional_string d u

-- the first unit of sections, none where they have no unit
abbrev pub first_unit : Sections → Result (Option UnitRecord) Error
first_unit d = first_unit_of (unit_record_of d) (all_headers d.debug_info)

-- the view of a first unit, if there is one
abbrev pub first_view : Sections → UnitRecord → Sections → Option UnitRecord → View
first_view d main split None = main_view d main
first_view d main split (Some u) = split_view split (relocated u main)

-- the view that an answer decides for, or the fault
abbrev pub answered_view : Sections → UnitRecord → Option Sections → Result View Error
answered_view d main None = Ok (main_view d main)
answered_view d main (Some split) =
    first_unit split >>= λ u. Ok (first_view d main split u)

-- the load of a unit with this name of its split file and this identifier of its split unit
abbrev pub load_by : Sections → ℕ → UnitRecord → Result (Option Section) Error → Option DwoId
    → Result (Option SplitLoad) Error
load_by d n u name None = Ok None
load_by d n u name (Some id) = name >>= λ path. Ok (Some (record {
  unit = n;
  dwo_id = id;
  comp_dir = u.comp_dir;
  path = path;
  parent = d;
}))

-- the load of a unit, none where it needs no answer, or the fault of its split name
unfoldable pub load_of_unit : Sections → ℕ → UnitRecord → Result (Option SplitLoad) Error
load_of_unit d n u = load_by d n u (split_name_of d u) u.dwo_id

-- the view of a unit that has this load and this first answer, or the fault; none where it is open
abbrev pub verdict_by : Sections → UnitRecord → Result (Option SplitLoad) Error
    → Option (Option Sections) → Option (Result View Error)
verdict_by d u (Err e) answer = Some (Err e)
verdict_by d u (Ok None) answer = Some (Ok (main_view d u))
verdict_by d u (Ok (Some load)) answer = option_map (answered_view d u) answer

-- the view of a unit with this first answer, or the fault; none where it is open
abbrev pub verdict : Sections → UnitRecord → Option (Option Sections) → Option (Result View Error)
verdict d u answer = verdict_by d u (load_of_unit d 0 u) answer

-- whether a unit waits for an answer
abbrev pub is_open : Sections → UnitRecord → Option (Option Sections) → Bool
is_open d u answer = is_none (verdict d u answer)

-- the load of a unit that has no first answer, none where it is decided
abbrev pub awaited_by : Result (Option SplitLoad) Error → Option (Option Sections)
    → Option SplitLoad
awaited_by (Ok (Some load)) None = Some load
awaited_by load answer = None

-- the load that a unit waits for, none where it is decided
abbrev pub awaited_load : Sections → ℕ → UnitRecord → Option (Option Sections) → Option SplitLoad
awaited_load d n u answer = awaited_by (load_of_unit d n u) answer

-- the first answer of a unit after one more
abbrev pub decided_answer : Sections → UnitRecord → Option (Option Sections) → Option Sections
    → Option (Option Sections)
decided_answer d u answer given = if is_open d u answer then Some given else answer
