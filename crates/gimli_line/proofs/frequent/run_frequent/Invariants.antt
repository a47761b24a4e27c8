use Rattle.gimli_line.proofs.Common.{◌-◌, ◌≤◌, length, drop, IsRunning, Passes}
use Rattle.gimli_read.specs.declared.endian.RunTimeEndian.{RunTimeEndian}
use Rattle.gimli_line.proofs.FirstOpcode.{at}
use Rattle.gimli_line.proofs.frequent.run_frequent.Given as goal

abbrev pub invariant-loop-at : goal.invariant-loop-at
invariant-loop-at g l =
    record {
      running : IsRunning l.header.line_encoding l.now;
      passes : (endian : RunTimeEndian) → Passes g.S.RowSink.taken l.header l.fn.registers (at endian l.bytes) l.fn.sink l.header l.now (at endian (drop l.at l.bytes)) l.sink;
      within : l.at ≤ length l.bytes;
    }

abbrev pub decreases-loop-at : goal.decreases-loop-at
decreases-loop-at g l = length l.bytes - l.at
