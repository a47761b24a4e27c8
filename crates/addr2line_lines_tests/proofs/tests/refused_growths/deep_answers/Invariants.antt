use Rattle.std.proofs.Common.{[]}
use Rattle.addr2line_lines.specs.CachedNames.{AreNamesIn}
use Rattle.addr2line_lines.specs.References.{sup_scope}
use Rattle.addr2line_lines_tests.proofs.tests.refused_growths.deep_answers.Given as goal

abbrev pub invariant-loop-call : goal.invariant-loop-call
invariant-loop-call l = record { unit : AreNamesIn (sup_scope (record { sections = l.dwarf; units = [] })) l.unit l.functions.names }
