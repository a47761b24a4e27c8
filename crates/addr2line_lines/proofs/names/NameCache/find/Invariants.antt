use Rattle.addr2line_lines.proofs.names.NameCache.find.Given as goal

abbrev pub invariant-loop-step : goal.invariant-loop-step
invariant-loop-step g l = Unit {0}
