-- What references lead to, as contracts see it.
use Rattle.std.specs.Prelude.{[], Some, None, option_map}
use Rattle.addr2line_lines.specs.declared.references.FileUnits.{FileUnits}
use Rattle.addr2line_lines.specs.declared.references.Scope.{Scope as ScopeOf}
use Rattle.addr2line_lines.specs.declared.references.FileSnapshot.{FileSnapshot}
use Rattle.addr2line_lines.specs.declared.references.UnitSnapshot.{UnitSnapshot}
use Rattle.addr2line_lines.specs.References.{FileRecord, Scope, UnitInScope}

-- a file, by its sections and its units, none of a split file
abbrev pub as_file_record : {R : Type 0} → FileUnits R → FileRecord
as_file_record f = record {
  sections = f.dwarf.now;
  units = elim f.units [ None ↦ [] | Some units ↦ units.now.items ];
}

-- the file of an entry, and the supplementary file
abbrev pub as_scope : {R : Type 0} → ScopeOf R → Scope
as_scope s = record { file = as_file_record s.file; sup = option_map as_file_record s.sup }

-- a file as it was
abbrev pub snapshot_file : {R : Type 0} → FileSnapshot R → FileRecord
snapshot_file f = record {
  sections = f.dwarf.value;
  units = elim f.units [ None ↦ [] | Some units ↦ units.value.items ];
}

-- a unit and where references led from it, as they were
abbrev pub snapshot_unit : {R : Type 0} → UnitSnapshot R → UnitInScope
snapshot_unit u = record {
  scope = record { file = snapshot_file u.file; sup = option_map snapshot_file u.sup };
  unit = u.unit.value;
}
