use Rattle.addr2line_lines.proofs.NameChains.{chain_gives_name, long_chain_gives_none}
use Rattle.addr2line_lines.proofs.laws.name_chains.Goals as goal

pub returns : goal.returns
returns c = record { law = record { names = chain_gives_name; long = long_chain_gives_none } }
