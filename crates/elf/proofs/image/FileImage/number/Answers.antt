use Rattle.elf.proofs.Common.{◌∙◌, take, drop, ap, le_refl, take-take, image_bytes}
use Rattle.elf.proofs.ImageLemmas.{number_shown}
use Rattle.elf.proofs.image.FileImage.number.Goals as goal

pub returns-in-Some : goal.returns-in-Some
returns-in-Some c =
    let n = c.args.size in
    let bytes = image_bytes c.args.self.now in
    let e = ap (take n) c.in-Some.ensures.gives ∙ take-take n n (drop c.place-start.result bytes) (le_refl n) in
    record { gives = c.number.ensures.gives ∙ number_shown c.args.endian c.args.base c.args.at n c.place-start.result c.in-Some.bytes.now bytes c.place-start.ensures.gives e }

pub returns-in-None : goal.returns-in-None
returns-in-None c =
    let n = c.args.size in
    let bytes = image_bytes c.args.self.now in
    let e = ap (take n) c.as_slice.ensures ∙ c.gathered.ensures.gives in
    record { gives = c.number-in-None.ensures.gives ∙ number_shown c.args.endian c.args.base c.args.at n c.place-start.result c.as_slice.result.now bytes c.place-start.ensures.gives e }
