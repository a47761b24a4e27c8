-- An inlined function as contracts see it: its name as a section.
use Rattle.std.specs.Prelude.{option_map}
use Rattle.addr2line_lines.specs.Common.{Section}
use Rattle.addr2line_lines.specs.declared.inlined_functions.InlinedFunction.{InlinedFunction}
use Rattle.addr2line_lines.specs.InlinedEntries.{InlinedEntry}

-- where the entry begins, its name and the call
abbrev pub as_inlined : {R : Type 0} → (R → Section) → InlinedFunction R → InlinedEntry
as_inlined see f = record {
  offset = f.dw_die_offset.0;
  name = option_map (λ name. see name.now) f.name;
  call = record { file = f.call_file; line = f.call_line; column = f.call_column };
}
