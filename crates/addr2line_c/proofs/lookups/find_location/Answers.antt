use Rattle.addr2line_c.proofs.LeftLemmas.{leaves_location}
use Rattle.addr2line_c.proofs.lookups.find_location.Goals as goal

pub returns-clause-left : goal.returns-clause-left
returns-clause-left g c = leaves_location c.args.probe _ c.put_found.result c.find_location.result c.args.context.now _ c.put_found.ensures.whole c.find_location.follows.holds-at-none.after
