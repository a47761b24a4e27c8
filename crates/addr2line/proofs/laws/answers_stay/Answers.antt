use Rattle.addr2line.proofs.AnswerLawLemmas.{first_answers_stay, waits_for_none}
use Rattle.addr2line.proofs.laws.answers_stay.Goals as goal

pub returns : goal.returns
returns c = record { law = record { first = first_answers_stay; none = waits_for_none } }
