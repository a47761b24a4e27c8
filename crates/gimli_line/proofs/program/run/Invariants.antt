use Rattle.gimli_line.proofs.Common.{length, IsRunning, Passes}
use Rattle.gimli_line.proofs.program.run.Given as goal

abbrev pub invariant-loop-header : goal.invariant-loop-header
invariant-loop-header g l =
    let s = g.R.Reader.section in
    record {
      running : IsRunning l.header.line_encoding l.registers;
      passes : Passes g.S.RowSink.taken l.fn.header l.fn.registers (s l.fn.program) l.fn.sink l.header l.registers (s l.program) l.sink;
    }

abbrev pub decreases-loop-header : goal.decreases-loop-header
decreases-loop-header g l = length (g.R.Reader.section l.program).bytes
