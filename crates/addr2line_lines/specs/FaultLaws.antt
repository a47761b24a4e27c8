-- No reading of the lines of a unit, of its functions or of their details gives OutOfMemory (DWARF
-- 5, sections 3.3 and 6.2): whatever the bytes are, it gives a value or another fault.
-- Own: a refused growth alone answers OutOfMemory, so only where a contract allows it beside what
-- is given.
use Rattle.std.specs.Prelude.{ℕ, List}
use Rattle.addr2line_lines.specs.Common.{AttributeValue, WasNotRefused, NamedValue, Section, File, Header, Program, Sections, UnitRecord}
use Rattle.addr2line_lines.specs.declared.function.RangeAttributes.{RangeAttributes}
use Rattle.addr2line_lines.specs.Details.{detail_at}
use Rattle.addr2line_lines.specs.FileTexts.{file_texts}
use Rattle.addr2line_lines.specs.FunctionDetails.{details_at}
use Rattle.addr2line_lines.specs.Functions.{functions_of}
use Rattle.addr2line_lines.specs.InlinedEntries.{inlined_attributes_of}
use Rattle.addr2line_lines.specs.ItemsAround.{items_inside_at}
use Rattle.addr2line_lines.specs.Names.{name_of, referred_name, visited}
use Rattle.addr2line_lines.specs.RangeAttributes.{attribute_ranges, range_attributes_of}
use Rattle.addr2line_lines.specs.References.{EntryPlace, Scope, referred}
use Rattle.addr2line_lines.specs.UnitLines.{program_lines, unit_lines}

-- no reading of the texts of files does, nor of the lines of a unit
pub record LinesAreNotRefused : Type 0 where
  pub files : (d : Sections) (u : UnitRecord) (h : Header) (files : List File)
      → WasNotRefused (file_texts d u h files)
  pub program : (d : Sections) (u : UnitRecord) (p : Program)
      → WasNotRefused (program_lines d u p)
  pub unit : (d : Sections) (u : UnitRecord) → WasNotRefused (unit_lines d u)

-- no reading of the addresses of an entry does, nor of the functions of a unit
pub record FunctionsAreNotRefused : Type 0 where
  pub attributes : (d : Sections) (u : UnitRecord) (attributes : List NamedValue)
      → WasNotRefused (range_attributes_of d u attributes)
  pub ranges : (d : Sections) (u : UnitRecord) (r : RangeAttributes)
      → WasNotRefused (attribute_ranges d u r)
  pub unit : (d : Sections) (u : UnitRecord) → WasNotRefused (functions_of d u)

-- no reading of a name does, nor of an entry that is referred to
pub record NamesAreNotRefused : Type 0 where
  pub entry : (scope : Scope) (u : UnitRecord) (value : AttributeValue Section)
      → WasNotRefused (referred scope u value)
  pub visit : (place : EntryPlace) → WasNotRefused (visited place)
  pub reference : (scope : Scope) (u : UnitRecord) (value : AttributeValue Section)
      → WasNotRefused (referred_name scope u value)
  pub name : (scope : Scope) (u : UnitRecord) (attributes : List NamedValue)
      → WasNotRefused (name_of scope u attributes)

-- no reading of an inlined entry does, nor of the details of a function, or of several
pub record DetailsAreNotRefused : Type 0 where
  pub inlined : (scope : Scope) (u : UnitRecord) (attributes : List NamedValue)
      → WasNotRefused (inlined_attributes_of scope u attributes)
  pub items : (u : UnitRecord) (offset : ℕ) → WasNotRefused (items_inside_at u offset)
  pub one : (scope : Scope) (u : UnitRecord) (offset : ℕ)
      → WasNotRefused (detail_at scope u offset)
  pub all : (scope : Scope) (u : UnitRecord) (offsets : List ℕ)
      → WasNotRefused (details_at scope u offsets)

-- none of these readings does
pub record UnitReadingsAreNotRefused : Type 0 where
  pub lines : LinesAreNotRefused
  pub functions : FunctionsAreNotRefused
  pub names : NamesAreNotRefused
  pub details : DetailsAreNotRefused
