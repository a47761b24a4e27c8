use Rattle.gimli_line.proofs.Common.{◌<◌, Ok, ap, ◌∙◌, sym, subst, Header, lines_of}
use Rattle.gimli_line.proofs.ClosedForm.{lines_begin, ok_is}
use Rattle.gimli_line.proofs.program.IncompleteLineProgram.rows.Goals as goal

pub returns : goal.returns
returns g c =
    let P : Header → Type 0 = λ h. 0 < h.line_encoding.maximum_operations_per_instruction in
    record {
      gives = ap (λ p. Ok (lines_of p)) (sym c.self.view_is)
          ∙ ap Ok (lines_begin _ _ _ c.start.result (subst P (c.drop.view_is ∙ sym (ok_is c.in_ok-duplicate_header.ensures.gives)) c.drop.inside.parameters.operations)
          (ok_is c.in_ok-duplicate_header.ensures.gives) (ok_is c.in_ok-duplicate.ensures.gives) c.start.ensures.gives);
    }
