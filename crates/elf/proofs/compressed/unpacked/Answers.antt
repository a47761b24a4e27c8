use Rattle.elf.proofs.Common.{refl, unpacked_section}
use Rattle.inflate.proofs.FaultLemmas.{inflated_by_bytes}
use Rattle.inflate.proofs.OutputLemmas.{byte_takes_memory}
use Rattle.elf.proofs.compressed.unpacked.Goals as goal

pub returns-else-len-size-clause-memory : goal.returns-else-len-size-clause-memory
unfolding unpacked_section
returns-else-len-size-clause-memory c = λ some. byte_takes_memory c.args.size c.args.text.now c.in-Ok.bytes.items c.in-Ok.ensures.gives some

pub returns-in-Err-OutOfMemory-clause-gives : goal.returns-in-Err-OutOfMemory-clause-gives
unfolding unpacked_section
returns-in-Err-OutOfMemory-clause-gives c =
    λ n. absurd ((inflated_by_bytes c.args.size c.args.text.now).by (rw c.in-Err-OutOfMemory.field-0-is at c.in-Err-OutOfMemory.ensures.gives (λ k. absurd (n k refl))))
