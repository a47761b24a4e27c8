use Rattle.std.proofs.Common.{[]}
use Rattle.addr2line_lines.specs.CachedNames.{AreNamesIn}
use Rattle.addr2line_lines.specs.References.{sup_scope}
use Rattle.addr2line_lines_tests.proofs.tests.details.answers_by.Given as goal

abbrev pub invariant-loop-i : goal.invariant-loop-i
invariant-loop-i g l = record { unit : AreNamesIn (sup_scope (record { sections = l.dwarf; units = [] })) l.unit l.functions.names }
