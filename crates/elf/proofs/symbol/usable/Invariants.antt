use Rattle.elf.proofs.Common.{◌≡◌, ◌≤◌, ◌*◌, ◌-◌, ◌++◌, length, filter, layout_of, is_usable, entries_in, AreStarts}
use Rattle.elf.proofs.symbol.usable.Given as goal

abbrev pub invariant-loop : goal.invariant-loop
invariant-loop l = record {
  size_is : l.size ≡ (layout_of l.ident.class).symbol_size;
  room : (l.count - l.counter) * l.size ≤ length l.rest;
  starts : AreStarts l.names l.starts;
  read : l.all.items ++ filter (is_usable l.names) (entries_in l.ident.endian (layout_of l.ident.class) (l.count - l.counter) l.rest) ≡ filter (is_usable l.names) (entries_in l.ident.endian (layout_of l.ident.class) l.count l.bytes);
}
