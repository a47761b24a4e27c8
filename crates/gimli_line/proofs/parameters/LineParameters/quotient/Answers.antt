use Rattle.gimli_line.proofs.Common.{◌*◌, ◌/◌, ◌∙◌, ap, arith}
use Rattle.gimli_line.proofs.Division.{by_reciprocal}
use Rattle.gimli_line.proofs.parameters.LineParameters.quotient.Goals as goal

pub returns : goal.returns
returns c =
    let m = c.args.self.now in
    record { gives = ap (λ k. k * m.reciprocal / 65536) c.from.ensures ∙ ap (λ k. c.args.n * k / 65536) m.reciprocal_is ∙ by_reciprocal c.args.n m.encoding.line_range m.range m.byte (omega arith) }
