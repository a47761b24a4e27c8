use Rattle.elf.proofs.Common.{◌≡◌, drop, length, take, image_bytes}
use Rattle.elf.proofs.image.FileImage.gathered.Given as goal

abbrev pub invariant-loop-i : goal.invariant-loop-i
invariant-loop-i l = record {
  room : length l.bytes ≡ 8;
  gathered : take l.i l.bytes ≡ take l.i (drop l.start (image_bytes l.self));
}
