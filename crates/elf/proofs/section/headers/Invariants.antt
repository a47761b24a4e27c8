use Rattle.elf.proofs.Common.{◌≡◌, ◌≤◌, ◌+◌, ◌*◌, ◌-◌, ◌++◌, drop, length, image_bytes, layout_of, sections_in}
use Rattle.elf.proofs.section.headers.Given as goal

abbrev pub invariant-loop : goal.invariant-loop
invariant-loop l = record {
  size_is : l.size ≡ (layout_of l.ident.class).section_size;
  room : l.at + (l.count - l.counter) * l.size ≤ length (image_bytes l.file);
  read : l.all.items ++ sections_in l.ident.endian (layout_of l.ident.class) (l.count - l.counter) (drop l.at (image_bytes l.file)) ≡ sections_in l.ident.endian (layout_of l.ident.class) l.count (drop l.start (image_bytes l.file));
}
