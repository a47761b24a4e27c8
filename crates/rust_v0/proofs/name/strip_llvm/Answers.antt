use Rattle.rust_v0.proofs.LlvmLemmas.{whole_name}
use Rattle.rust_v0.proofs.name.strip_llvm.Goals as goal

pub returns : goal.returns
returns c = whole_name c.args.name.now c.loop-at.at c.loop-at-test.false c.loop-at.invariant
