use Rattle.addr2line.proofs.Common.{is_some, option_map}
use Rattle.addr2line.proofs.LoadedLemmas.{dwarf_made}
use Rattle.addr2line.proofs.loader.read_dwarf.Goals as goal

pub returns-clause-made : goal.returns-clause-made
returns-clause-made g c = dwarf_made (option_map (λ x. x.value)) c.args.compressed (is_some c.args.sup_path) c.args.object.now c.in_ok-main.main c.in_ok-main.ensures.gives c.read_sup.result c.read_sup.ensures.made c.with_sup.result c.with_sup.ensures.gives
