use Rattle.elf.proofs.Common.{◌≡◌, ◌∙◌, ◌∷◌, List, None, Bor, get_or, is_some, option_map, ap, subst, sym, IfSome, find, Piece, Image, HasPart, piece_holds, image_bytes, is_held, piece_end}
use Rattle.elf.proofs.ImageLemmas.{piece_found}
use Rattle.elf.specs.Pieces.{AreInOrder}
use Rattle.elf.proofs.image.FileImage.piece.Goals as goal

pub returns : goal.returns
returns c =
    let f = c.self.inside in
    let i : Image = record { len = f.len; pieces = f.first ∷ f.others.items } in
    let start = c.args.start in
    let len = c.args.len in
    let r = c.find_piece.result in
    let search_is : option_map (λ (p : Bor Piece). p.now) r ≡ find (piece_holds start len) i.pieces =
    c.find_piece.ensures.gives ∙ ap (λ (ps : List Piece). find (piece_holds start len) (f.first ∷ ps)) c.deref.ensures.value in
    let all = piece_found (λ (p : Bor Piece). p.now) i start len r c.self.invariant search_is in
    let P : Image → Type 0 = λ (v : Image). IfSome r (λ p. HasPart start len v p.now) × (is_some r ≡ is_held start len v) × (r ≡ None → len ≡ 1 → get_or (image_bytes v) start 0 ≡ 0) in
    let seen = subst P c.self.view_is all in
    record { gives = seen.0; some = seen.1; none = seen.2 }

pub find_piece-requires : goal.find_piece-requires
find_piece-requires c =
    let f = c.self.inside in
    record { in_order = subst (AreInOrder f.len) (sym c.deref.ensures.value) (piece_end f.first, c.self.invariant.1) }
