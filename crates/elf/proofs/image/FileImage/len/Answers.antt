use Rattle.elf.proofs.Common.{◌∙◌, ◌∷◌, length, ap, sym, Image, image_bytes}
use Rattle.elf.proofs.ImageLemmas.{bytes_length}
use Rattle.elf.proofs.image.FileImage.len.Goals as goal

pub returns : goal.returns
returns c =
    let f = c.self.inside in
    let i : Image = record { len = f.len; pieces = f.first ∷ f.others.items } in
    record { gives = sym (bytes_length i c.self.invariant) ∙ ap (λ (v : Image). length (image_bytes v)) c.self.view_is }
