use Rattle.addr2line_lines.proofs.NestedInlined
use Rattle.addr2line_lines.proofs.laws.inlined_chain_is_whole.Goals as goal

pub returns : goal.returns
returns c = record { law = NestedInlined.chain_is_whole }
