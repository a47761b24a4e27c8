use Rattle.gimli_line.proofs.Common.{◌≡◌, take}
use Rattle.gimli_line.proofs.copies.duplicate_files.Given as goal

abbrev pub invariant-loop-file : goal.invariant-loop-file
invariant-loop-file g l = l.copies.items ≡ take l.file-index (l.files)
