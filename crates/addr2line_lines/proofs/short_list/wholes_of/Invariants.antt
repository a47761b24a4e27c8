use Rattle.addr2line_lines.proofs.Common.{◌≡◌, ◌++◌, drop, map}
use Rattle.addr2line_lines.proofs.short_list.wholes_of.Given as goal

abbrev pub invariant-loop-element : goal.invariant-loop-element
invariant-loop-element g l = l.whole.items ++ map (g.S.Stored.whole l.base) (drop l.element-index l.list) ≡ map (g.S.Stored.whole l.base) l.list
