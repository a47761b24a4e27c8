use Rattle.addr2line_lines.proofs.Common.{◌-◌, arith, inl, inr, FunctionAddress}
use Rattle.addr2line_lines.proofs.segments.are_disjoint.Goals as goal
use Rattle.addr2line_lines.proofs.segments.are_disjoint.Goals.{then-begin-past-via-then-begin-past, then-begin-past-via-else-begin-past+then-end-begin}

pub returns-then-begin-past : goal.returns-then-begin-past
returns-then-begin-past c =
    let next = c.loop-address.address-index in
    let here = c.loop-address-test.true in
    let d : FunctionAddress = record { range = record { begin = 0; end = 0 }; function = 0 } in
    record {
      gives = (
        (λ e. absurd cc),
        (λ apart.
            let proper = apart.proper next d here in
            elim c.then-begin-past.branch [
              | then-begin-past-via-then-begin-past w ↦ (let test = w.if-begin-past in elim (c.loop-address.invariant.last d) [
                | inl none ↦ absurd (omega arith)
                | inr some ↦ (let begins = apart.apart (next - 1) next d (let s = some.0 in omega arith) here in let is = some.1 in absurd (omega arith))
              ])
              | then-begin-past-via-else-begin-past+then-end-begin w ↦ (let test = w.if-end-begin in absurd (omega arith))
            ]),
      );
    }
