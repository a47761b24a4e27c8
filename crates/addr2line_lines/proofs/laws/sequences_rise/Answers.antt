use Rattle.addr2line_lines.proofs.RiseLemmas.{sequences_rising}
use Rattle.addr2line_lines.proofs.laws.sequences_rise.Goals as goal

pub returns : goal.returns
returns c = record { law = sequences_rising }
