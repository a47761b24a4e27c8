use Rattle.addr2line_c.proofs.LeftLemmas.{leaves_range}
use Rattle.addr2line_c.proofs.spans.find_spans.Goals as goal

pub returns-clause-left : goal.returns-clause-left
returns-clause-left g c = leaves_range c.args.low c.args.high _ c.put_found_spans.result c.find_location_range.result c.args.context.now _ c.put_found_spans.ensures.whole c.find_location_range.follows.holds-at-none
