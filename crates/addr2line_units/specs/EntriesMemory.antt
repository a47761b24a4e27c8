-- When memory may be taken to read what a lookup asks a unit for (DWARF 5, sections 3.1.2, 3.3 and
-- 6.2): its lines, and the functions in its view.
-- Own: unless readers share their bytes none is taken for functions where none of a view has a
-- range before the first fault, nor for lines whose header has neither a directory nor a file, and
-- whose program has a fault before its first row and before a file that it defines.
use Rattle.std.specs.Prelude.{ℕ, ◌||◌, not, Bool, true, false, List, [], ◌∷◌, slice_get, Option, Some, None, Result, Ok, Err}
use Rattle.addr2line_units.specs.Common.{Error, Sections, UnitRecord, functions_take_memory, Scope}
use Rattle.gimli_line.specs.declared.row.LineRow.{LineRow}
use Rattle.gimli_line.specs.Header.{File, Program, header_copy_takes_memory}
use Rattle.gimli_line.specs.Lines.{lines_of}
use Rattle.addr2line_units.specs.UnitsRanged.{IndexedUnit}
use Rattle.addr2line_units.specs.UnitView.{View, verdict, view_scope}

-- whether a fault stands before any row, and before any file that a program defines
abbrev pub is_fault_at_once : List File → List (Result LineRow Error) → Bool
is_fault_at_once [] (Err e ∷ []) = true
is_fault_at_once files rows = false

-- whether memory may be taken for the lines of a program, if there is one
abbrev pub any_program_takes_memory : Bool → Option Program → Bool
any_program_takes_memory shares None = false
any_program_takes_memory shares (Some p) = header_copy_takes_memory shares p.header
    || not (is_fault_at_once (lines_of p).ahead (lines_of p).left)

-- whether memory may be taken for the lines of a unit
unfoldable pub lines_take_memory : Bool → UnitRecord → Bool
lines_take_memory shares u = any_program_takes_memory shares u.line_program

-- the same of the unit of a number
abbrev pub lines_of_take_memory : Bool → List IndexedUnit → ℕ → Bool
lines_of_take_memory shares units n = elim (slice_get units n)
    [ None ↦ false | Some u ↦ lines_take_memory shares u.unit ]

-- whether memory may be taken for the functions of a view: none are read where there is no view, or
-- where it has a fault
abbrev pub view_takes_memory : Bool → Scope → Option (Result View Error) → Bool
view_takes_memory shares scope None = false
view_takes_memory shares scope (Some (Err e)) = false
view_takes_memory shares scope (Some (Ok v)) =
    functions_take_memory shares (view_scope scope v).file.sections v.unit

-- the same of the view of a unit with this first answer
unfoldable pub functions_in_take_memory : Bool → Scope → UnitRecord → Option (Option Sections)
    → Bool
functions_in_take_memory shares scope u answer =
    view_takes_memory shares scope (verdict scope.file.sections u answer)
