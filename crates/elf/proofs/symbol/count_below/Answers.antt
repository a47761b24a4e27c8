use Rattle.elf.proofs.Common.{rules, nat_le, SymbolEntry}
use Rattle.std.proofs.lemmas.List.Sorted.{IsPartitionPoint-from_clause, IsPartitionedBy-leb}
use Rattle.elf.proofs.symbol.count_below.Goals as goal

pub returns-clause-gives : goal.returns-clause-gives
returns-clause-gives c = λ up.
    IsPartitionPoint-from_clause (λ (e : SymbolEntry). nat_le e.address c.args.probe) c.args.table.now _ c.partition_point.ensures.partitioned (IsPartitionedBy-leb (λ (e : SymbolEntry). e.address) c.args.table.now c.args.probe up) (λ a r q k. search rules)
