use Rattle.addr2line_units.proofs.ParsesLemmas.{reads_again}
use Rattle.addr2line_units.proofs.ParsesReachedLemmas.{reached_all}
use Rattle.addr2line_units.proofs.laws.function_parse_laws.Goals as goal

pub returns : goal.returns
returns c = record { law = record { reached = reached_all; again = reads_again } }
