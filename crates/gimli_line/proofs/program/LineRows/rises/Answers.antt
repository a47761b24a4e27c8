use Rattle.gimli_line.proofs.Common.{subst, Lines, opcodes_in, instructions_of}
use Rattle.gimli_line.specs.Rises.{rows_before, NeverFalls}
use Rattle.gimli_line.proofs.Rising.{never_falls}
use Rattle.gimli_line.proofs.program.LineRows.rises.Goals as goal

pub returns : goal.returns
returns g c =
    let a = c.self.inside in
    let h = a.header in
    let run = instructions_of h (g.R.Reader.section a.program) in
    let P : Lines → Type 0 = λ v. NeverFalls (rows_before v.left) in
    record { law = subst P c.self.view_is (never_falls h.line_encoding (opcodes_in run.items) run.end a.registers) }
