-- References to entries (DWARF 5, sections 7.3.6 and 7.5.5: in the same unit, in .debug_info, in
-- that of the supplementary file).
-- Own: a section offset leads to the unit among whose entries it lies, and is refused where there
-- is none, so always in a split file; in the supplementary file it leads to units of that file.
-- Without a supplementary file, and in that file itself, a reference to one leads nowhere. Nor does
-- one by the signature of a type (DW_FORM_ref_sig8) lead anywhere, nor a value that is no
-- reference.
use Rattle.std.specs.Prelude.{ℕ, ◌+◌, ◌≤◌, List, [], ◌∷◌, Option, Some, None, Result, Ok, Err}
use Rattle.std.specs.List.{All}
use Rattle.addr2line_lines.specs.Common.{Error, NoEntryAtGivenOffset, AttributeValue, Section, Sections, UnitRecord}
use Rattle.gimli_read.specs.declared.value.AttributeValue.TheVariants as values
use Rattle.gimli.specs.Entries.{unit_length}
use Rattle.gimli.specs.Offsets.{unit_offset_of}

-- the sections of a file, and the units that offsets in its .debug_info lead to
pub record FileRecord : Type 0 where
  pub sections : Sections
  pub units : List UnitRecord

-- the file of an entry, and the supplementary file, if references lead to one
pub record Scope : Type 0 where
  pub file : FileRecord
  pub sup : Option FileRecord

-- a unit, and where references lead from it
pub record UnitInScope : Type 0 where
  pub scope : Scope
  pub unit : UnitRecord

-- a unit whose references lead where a scope says
abbrev pub in_scope : Scope → UnitRecord → UnitInScope
in_scope scope u = record { scope = scope; unit = u }

-- an entry by its place: where its references lead, its unit, and where it begins, in bytes from
-- the start of the unit's length
pub record EntryPlace : Type 0 where
  pub scope : Scope
  pub unit : UnitRecord
  pub offset : ℕ

-- the unit among whose entries an offset in .debug_info lies, and the offset in that unit
abbrev pub unit_at : ℕ → List UnitRecord → Option (UnitRecord × ℕ)
unit_at offset [] = None
unit_at offset (u ∷ units) = elim (unit_offset_of offset u.header)
    [ None ↦ unit_at offset units | Some inside ↦ Some (u, inside) ]

-- the entry at an offset in .debug_info
abbrev pub entry_in : Scope → ℕ → Result (Option EntryPlace) Error
entry_in scope offset = elim (unit_at offset scope.file.units) [
  | None ↦ Err (NoEntryAtGivenOffset offset)
  | Some x ↦ Ok (Some (record { scope = scope; unit = x.0; offset = x.1 }))
]

-- the supplementary file as the file of an entry
abbrev pub sup_scope : FileRecord → Scope
sup_scope file = record { file = file; sup = None }

-- the entry at an offset in the supplementary file's .debug_info
abbrev pub entry_in_sup : Option FileRecord → ℕ → Result (Option EntryPlace) Error
entry_in_sup None offset = Ok None
entry_in_sup (Some file) offset = entry_in (sup_scope file) offset

-- the entry that a value of an attribute refers to by an offset; none of another value
abbrev pub referred : Scope → UnitRecord → AttributeValue Section
    → Result (Option EntryPlace) Error
referred scope u (values.UnitRef offset) =
    Ok (Some (record { scope = scope; unit = u; offset = offset.0 }))
referred scope u (values.DebugInfoRef offset) = entry_in scope offset.0
referred scope u (values.DebugInfoRefSup offset) = entry_in_sup scope.sup offset.0
referred scope u _ = Ok None

-- a unit ends before another begins
abbrev pub IsBefore : UnitRecord → UnitRecord → Type 0
IsBefore u v = u.header.offset.0 + unit_length u.header ≤ v.header.offset.0

-- units stand in .debug_info one after another
abbrev pub AreInOrder : List UnitRecord → Type 0
AreInOrder [] = Unit {0}
AreInOrder (u ∷ units) = All (IsBefore u) units × AreInOrder units

-- so do those of a supplementary file, if there is one
abbrev pub IsFileInOrder : Option FileRecord → Type 0
IsFileInOrder None = Unit {0}
IsFileInOrder (Some file) = AreInOrder file.units

-- the units that references lead to stand in order
pub record IsScope (scope : Scope) : Type 0 where
  pub units : AreInOrder scope.file.units
  pub sup_units : IsFileInOrder scope.sup
