use Rattle.gimli_line.proofs.Common.{err_from_is_err_and}
use Rattle.gimli_line.proofs.ProgramLemmas.{fields_refused}
use Rattle.gimli_line.proofs.read.read_line_program.Goals as goal

pub returns-in_err-check_header_fields : goal.returns-in_err-check_header_fields
returns-in_err-check_header_fields g c =
    let p = err_from_is_err_and c.from_residual.result c.from_residual.ensures.1 in
    rw (p.1, p.2) (record {
      gives = λ _. fields_refused c.args.address_size (g.R.Reader.section c.args.input) _ (rw (c.to_slice.ensures.gives, c.endian.ensures.gives) at c.in_err-check_header_fields.ensures.gives);
    })
