use Rattle.addr2line_lines.proofs.Common.{rules, IsPartitionPoint-from_clause, IsPartitionedBy-leb, unit_begins_by}
use Rattle.addr2line_lines.proofs.ReferenceLemmas.{unit_begin, units_rise}
use Rattle.addr2line_lines.proofs.references.count_begun.Goals as goal

pub returns-clause-gives : goal.returns-clause-gives
returns-clause-gives g c = λ h.
    let units = c.args.units.now in
    let offset = c.args.offset.0 in
    IsPartitionPoint-from_clause (unit_begins_by offset) units _ c.partition_point.ensures.partitioned (IsPartitionedBy-leb unit_begin units offset (units_rise units h)) (λ a r q k. search rules)
