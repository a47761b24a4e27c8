use Rattle.gimli_line.proofs.Common.{◌≡◌, length, HasDefined, IsRunning, rows_left, ahead_left, DefinesOn}
use Rattle.gimli_line.proofs.program.find_row.Given as goal

abbrev pub invariant-loop-program : goal.invariant-loop-program
invariant-loop-program g l =
    let s = g.R.Reader.section in
    record {
      running : IsRunning l.header.line_encoding l.registers;
      left : rows_left l.header l.registers (s l.program) ≡ rows_left l.fn.header l.fn.registers (s l.fn.program);
      ahead : HasDefined l.fn.header (ahead_left l.fn.header l.fn.registers (s l.fn.program)) l.header (ahead_left l.header l.registers (s l.program));
      files : DefinesOn l.fn.header (s l.fn.program) l.header (s l.program);
    }

abbrev pub decreases-loop-program : goal.decreases-loop-program
decreases-loop-program g l = length (g.R.Reader.section l.program).bytes
