use Rattle.elf.proofs.ImageAnswers.{images_load_alike}
use Rattle.elf.proofs.laws.image_laws.Goals as goal

pub returns : goal.returns
returns c = record { law = images_load_alike }
