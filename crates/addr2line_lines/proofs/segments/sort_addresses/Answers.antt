use Rattle.addr2line_lines.proofs.Common.{rules, IsNonDecreasingBy-from_sort_by_key, address_begin}
use Rattle.addr2line_lines.proofs.segments.sort_addresses.Goals as goal

pub returns-clause-after : goal.returns-clause-after
returns-clause-after c = IsNonDecreasingBy-from_sort_by_key address_begin _ c.sort_unstable_by_key.ensures.sorted (λ a r q k. search rules)
