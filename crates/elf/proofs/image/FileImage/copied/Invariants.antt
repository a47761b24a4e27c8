use Rattle.elf.proofs.Common.{◌≡◌, drop, take, image_bytes}
use Rattle.elf.proofs.image.FileImage.copied.Given as goal

abbrev pub invariant-loop-i : goal.invariant-loop-i
invariant-loop-i l = l.bytes.items ≡ take l.i (drop l.start (image_bytes l.self))
