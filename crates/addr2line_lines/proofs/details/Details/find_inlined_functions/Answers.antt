use Rattle.addr2line_lines.proofs.Common.{as_details}
use Rattle.addr2line_lines.proofs.DetailPlaces.{chain_gives, chain_items, run_ordered}
use Rattle.addr2line_lines.proofs.details.Details.find_inlined_functions.Goals as goal

pub find_chain-requires : goal.find_chain-requires
find_chain-requires g c =
    let place = c.requires.place in
    record { begin = place.ranges_begin; end = place.ranges_end; ordered = run_ordered (as_details g.R.Reader.section c.args.self.now) c.args.detail.now place }

pub returns-clause-gives : goal.returns-clause-gives
returns-clause-gives g c = chain_gives (as_details g.R.Reader.section c.args.self.now) c.args.detail.now c.requires.place c.args.probe (λ x. x.items) _ c.find_chain.ensures.gives

pub returns-clause-within : goal.returns-clause-within
returns-clause-within g c = chain_items (as_details g.R.Reader.section c.args.self.now) c.args.detail.now c.requires.place c.args.probe (λ x. x.items) _ c.find_chain.ensures.gives
