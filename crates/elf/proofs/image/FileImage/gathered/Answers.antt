use Rattle.elf.proofs.Common.{arith, length, ◌<◌, ◌∙◌, length-set, image_bytes}
use Rattle.elf.proofs.ImageLemmas.{one_more}
use Rattle.elf.proofs.image.FileImage.gathered.Goals as goal

pub loop-i-preserved : goal.loop-i-preserved
loop-i-preserved c =
    let size = c.loop-i.invariant.room in
    let within = c.requires.within in
    let small = c.requires.small in
    let more = c.loop-i-test.true in
    let room : c.loop-i.i < length c.loop-i.bytes = omega (arith, size, small, more) in
    record {
      room = length-set c.loop-i.bytes c.loop-i.i c.byte_at.result ∙ size;
      gathered = one_more c.loop-i.bytes (image_bytes c.args.self.now) c.args.start c.loop-i.i c.byte_at.result c.place.result room (omega (arith, within, more)) c.place.ensures.gives c.byte_at.ensures.gives c.loop-i.invariant.gathered;
    }
