use Rattle.elf.proofs.Common.{IfSome, pieces_at}
use Rattle.std.specs.Prelude.{◌≡◌, Some, take}
use Rattle.elf.proofs.parts.read_pieces.Given as goal

abbrev pub invariant-loop-range : goal.invariant-loop-range
invariant-loop-range g l = IfSome (g.S.PartSource.bytes l.source) (λ bytes. pieces_at bytes (take l.range-index l.ranges) ≡ Some l.pieces.items)
