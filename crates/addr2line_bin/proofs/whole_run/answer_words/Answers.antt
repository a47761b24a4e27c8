use Rattle.addr2line_bin.proofs.Common.{inl}
use Rattle.addr2line_bin.proofs.whole_run.answer_words.Goals as goal

pub returns-in-Ok : goal.returns-in-Ok
returns-in-Ok g c =
    record { gives = inl (c.in-Ok.request, c.in-Ok.ensures.gives, (c.run_with.result, c.run_with.ensures.gives, c.status_of.ensures.gives)) }
