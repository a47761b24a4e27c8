use Rattle.elf.proofs.Utf8Lemmas.{ascii_by}
use Rattle.elf.proofs.text_starts.is_ascii.Goals as goal

pub returns : goal.returns
returns c = record { gives = ascii_by c.args.bytes.now c.is_ascii.result c.is_ascii.ensures.cases }
