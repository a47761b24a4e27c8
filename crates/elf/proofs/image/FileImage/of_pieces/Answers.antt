use Rattle.elf.proofs.Common.{◌≡◌, ◌∙◌, ◌<◌, ◌∷◌, List, ap, arith, length, refl, sym, subst, nat_tests, Piece, ArePiecesInOrder, Image, Shows}
use Rattle.elf.proofs.ImageLemmas.{first_and_rest, pieces_show}
use Rattle.elf.proofs.image.FileImage.of_pieces.Goals as goal

pub returns : goal.returns
returns c =
    let ps = c.args.pieces.items in
    let first = c.remove-first.result in
    let none = c.if-is_empty.false in
    let test = c.is_empty.ensures in
    let some : 0 < length ps = grind (arith, nat_tests) in
    let all : first ∷ c.remove-first.new.self.items ≡ ps = ap (λ (qs : List Piece). first ∷ qs) c.remove-first.ensures.items ∙ first_and_rest ps first c.remove-first.ensures.value some in
    let Ordered : List Piece → Type 0 = λ (qs : List Piece). ArePiecesInOrder 0 c.args.len qs in
    let ordered : Ordered ps = subst Ordered c.deref.ensures.value (c.are_in_order.ensures.gives c.if-not-are_in_order.false) in
    let image : List Piece → Image = λ (qs : List Piece). record { len = c.args.len; pieces = qs } in
    record {
      made = λ bytes size are. subst (λ (qs : List Piece). Shows (image qs) bytes) (sym all) (pieces_show c.args.len ps bytes ordered size are);
      gives = ap image all;
      found = λ any in_order. refl;
    }
