use Rattle.elf.proofs.Common.{◌≤◌, drop, ArePiecesInOrder}
use Rattle.elf.proofs.image.are_in_order.Given as goal

abbrev pub invariant-loop-piece : goal.invariant-loop-piece
invariant-loop-piece l = record {
  within : l.end ≤ l.len;
  rest : ArePiecesInOrder l.end l.len (drop l.piece-index l.pieces) → ArePiecesInOrder 0 l.len l.pieces;
  all : ArePiecesInOrder 0 l.len l.pieces → ArePiecesInOrder l.end l.len (drop l.piece-index l.pieces);
}
