use Rattle.gimli.proofs.StringLemmas.{string_refused}
use Rattle.gimli.proofs.unit_record.read_readable_string.Goals as goal

pub returns-in-Err-OutOfMemory : goal.returns-in-Err-OutOfMemory
returns-in-Err-OutOfMemory g c =
    let given = rw c.in-Err-OutOfMemory.field-0-is at c.in-Err-OutOfMemory.ensures.gives in
    rw c.in-Some.is (record { gives = λ m. absurd (string_refused _ _ _ _ _ given m) })
