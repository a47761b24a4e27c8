-- Laws of what a context is made of (on UnitsIndex; DWARF 5, section 7.5: units stand in a section
-- one after another).
use Rattle.std.specs.Prelude.{◌≡◌, Ok}
use Rattle.addr2line_units.specs.Common.{Sections, AreInOrder}
use Rattle.addr2line_units.specs.UnitsIndex.{UnitIndex, index_units}
use Rattle.addr2line_units.specs.UnitsRanged.{unit_records}

-- each unit of a context ends before a later one begins
abbrev pub UnitsInOrder : Type 0
UnitsInOrder = (d : Sections) (m : UnitIndex) → index_units d ≡ Ok m
    → AreInOrder (unit_records m.units)

-- so does each of the supplementary file
abbrev pub SupUnitsInOrder : Type 0
SupUnitsInOrder = (d : Sections) (m : UnitIndex) → index_units d ≡ Ok m → AreInOrder m.sup_units

-- the units of a context, and those of the supplementary file
pub record UnitOrderLaws : Type 0 where
  pub units : UnitsInOrder
  pub sup_units : SupUnitsInOrder
