use Rattle.gimli_line.proofs.Common.{sym, arith}
use Rattle.gimli_line.proofs.Division.{div_sum, mod_sum}
use Rattle.gimli_line.proofs.registers.instructions.Goals as goal

pub returns-clause-gives : goal.returns-clause-gives
returns-clause-gives c = rw (c.from-most.ensures, c.from.ensures) (sym (div_sum c.args.op_index c.args.operations c.args.parameters.now.encoding.maximum_operations_per_instruction (omega arith)))

pub returns-clause-left : goal.returns-clause-left
returns-clause-left c = rw (c.from-most.ensures, c.from.ensures) (sym (mod_sum c.args.op_index c.args.operations c.args.parameters.now.encoding.maximum_operations_per_instruction))
