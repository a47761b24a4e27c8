use Rattle.package.proofs.Common.{arith}
use Rattle.package.proofs.NumberLemmas.{product_fits}
use Rattle.package.proofs.unit_index.probe.Goals as goal

pub overflow_mul-passed : goal.overflow_mul-passed
overflow_mul-passed c = omega (arith, product_fits c.from.result c.step_of-step.result (omega arith) c.step_of-step.ensures.bound)

pub overflow_add-result : goal.overflow_add-result
overflow_add-result c = omega (arith, product_fits c.from.result c.step_of-step.result (omega arith) c.step_of-step.ensures.bound)
