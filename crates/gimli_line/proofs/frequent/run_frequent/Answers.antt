use Rattle.gimli_line.proofs.Common.{[], ap, sym, subst, ◌∙◌, drop, arith, Registers, Passes}
use Rattle.gimli_line.proofs.AheadLemmas.{after_refusal}
use Rattle.gimli_line.proofs.FirstOpcode.{at}
use Rattle.gimli_line.proofs.Passing.{quiet_on, row_on, no_fault_on}
use Rattle.gimli_line.proofs.frequent.run_frequent.Goals as goal

pub loop-at-preserved-in-Quiet : goal.loop-at-preserved-in-Quiet
loop-at-preserved-in-Quiet g c = record {
  running = c.in-Quiet.ensures.registers;
  passes = quiet_on g.S.RowSink.taken c.args.header.now c.args.registers.now c.loop-at.now c.take_first.new.registers c.args.bytes.now c.loop-at.at c.in-Quiet.len c.args.sink.now c.loop-at.sink
      (omega arith) c.loop-at.invariant.passes c.in-Quiet.ensures.gives;
  within = omega (arith, c.in-Quiet.ensures.bound.1);
}

pub returns-in_err-take-in-Shows-clause-refused : goal.returns-in_err-take-in-Shows-clause-refused
returns-in_err-take-in-Shows-clause-refused g c = after_refusal c.from_residual.result
    (no_fault_on g.S.RowSink.taken c.args.header.now c.args.registers.now c.loop-at.now c.take_first.new.registers c.args.bytes.now c.loop-at.at c.in-Shows.len c.args.sink.now c.loop-at.sink
    (omega arith) c.loop-at.invariant.passes _ c.in-Shows.ensures.gives)

pub loop-at-preserved : goal.loop-at-preserved
loop-at-preserved g c = record {
  running = c.in-Shows.ensures.registers;
  passes = row_on g.S.RowSink.taken c.args.header.now c.args.registers.now c.loop-at.now c.take_first.new.registers c.args.bytes.now c.loop-at.at c.in-Shows.len c.args.sink.now c.loop-at.sink
      (omega arith) c.loop-at.invariant.passes _ c.take.new.self c.in-Shows.ensures.gives
      (c.in_ok-take-in-Shows.ensures.gives ∙ ap (g.S.RowSink.taken c.loop-at.sink) c.row.ensures.gives);
  within = omega (arith, c.in-Shows.ensures.bound.1);
}

pub returns-in-Other-clause-gives : goal.returns-in-Other-clause-gives
returns-in-Other-clause-gives g c = λ endian.
    let P : Registers → Type 0 = λ q. Passes g.S.RowSink.taken c.args.header.now c.args.registers.now (at endian c.args.bytes.now) c.args.sink.now c.args.header.now q (at endian (drop c.loop-at.at c.args.bytes.now)) c.loop-at.sink in
    subst P (sym (c.in-Other.ensures.gives [])) (c.loop-at.invariant.passes endian)
