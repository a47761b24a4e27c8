use Rattle.elf.proofs.Common.{◌∙◌, ◌∷◌, List, ap, refl, subst, sym, Piece, IsWhole, image_bytes}
use Rattle.elf.proofs.ImageLemmas.{whole_image}
use Rattle.elf.proofs.image.FileImage.whole.Goals as goal

pub returns-clause-gives : goal.returns-clause-gives
returns-clause-gives c =
    let p : Piece = record { start = 0; bytes = c.args.bytes } in
    ap (λ (ps : List Piece). image_bytes (record { len = c.len.result; pieces = p ∷ ps })) c.new.ensures.items ∙ (whole_image p c.len.result refl c.len.ensures.gives).0

pub returns-clause-whole : goal.returns-clause-whole
returns-clause-whole c =
    let p : Piece = record { start = 0; bytes = c.args.bytes } in
    let P : List Piece → Type 0 = λ (ps : List Piece). IsWhole (record { len = c.len.result; pieces = p ∷ ps }) in
    subst P (sym c.new.ensures.items) (whole_image p c.len.result refl c.len.ensures.gives).1
