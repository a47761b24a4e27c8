use Rattle.addr2line.proofs.Common.{◌≡◌, as_read_if_known, count_loads}
use Rattle.addr2line.proofs.ByFilesLemmas.{WaitsByFiles}
use Rattle.addr2line.proofs.by_files.answer_loads.Given as goal

-- the lookup that waits has answered the loads so far
abbrev pub invariant-loop-sections : goal.invariant-loop-sections
invariant-loop-sections g l = record {
  name : l.next.ctx.ghost_name ≡ l.initial.next.ctx.ghost_name;
  probe : l.next.probe ≡ l.fn.probe;
  so : WaitsByFiles l.fn.compressed (as_read_if_known l.fn.compressed (g.F.FileSource.files l.fn.files)) l.fn.probe l.fn.ctx l.next.number l.next.load l.next.ctx.now;
}

abbrev pub decreases-loop-sections : goal.decreases-loop-sections
decreases-loop-sections g l = count_loads l.next.ctx.now l.next.probe
