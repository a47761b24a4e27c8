use Rattle.addr2line.proofs.Common.{option_map}
use Rattle.addr2line.proofs.LoadedLemmas.{sup_made}
use Rattle.addr2line.proofs.loader.read_sup.Goals as goal

pub returns-clause-made : goal.returns-clause-made
returns-clause-made g c = rw c.in-Some.is (sup_made (option_map (λ x. x.value)) c.args.compressed c.in_ok-object.object c.in_ok-object.ensures.made c.share_sup.result (c.share_sup.ensures.gives _ c.read_sections.ensures.gives))
