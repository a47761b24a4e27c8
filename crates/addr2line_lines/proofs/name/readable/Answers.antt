use Rattle.addr2line_lines.proofs.Common.{Ok, ap, as_scope}
use Rattle.gimli.proofs.StringLemmas.{string_refused}
use Rattle.addr2line_lines.proofs.NameLemmas.{unreadable}
use Rattle.addr2line_lines.proofs.name.readable.Goals as goal

pub returns-in-OutOfMemory : goal.returns-in-OutOfMemory
returns-in-OutOfMemory g c =
    let given = rw c.in-OutOfMemory.is at c.in-Err.ensures.gives in
    record { gives = λ m. absurd (string_refused _ _ _ _ _ given (λ s k. m s)) }

pub returns-in_default : goal.returns-in_default
returns-in_default g c =
    let given = rw (c.new.ensures.dwarf, c.new.ensures.unit) at c.in-Err.ensures.gives in
    record { gives = ap Ok (unreadable (as_scope c.args.scope) c.args.unit.now _ _ _ _ c.in_default.not-OutOfMemory given) }
