use Rattle.addr2line_bin.proofs.Common.{inl, inr, refl, rules}
use Rattle.addr2line_bin.proofs.whole_run.run_program.Goals as goal

pub returns : goal.returns
returns g c =
    record { gives = rw c.in-Err.is (inr (search rules, (refl, rw c.program_name-in-Err.ensures.gives at c.answer_misuse.ensures.after), c.answer_misuse.ensures.gives)) }
