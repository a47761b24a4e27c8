use Rattle.gimli_read.proofs.Common.{sym, ◌∙◌, ◌≡◌}
use Rattle.bstr.proofs.lemmas.EncodeLemmas.{lossy_chars-utf8}
use Rattle.gimli_read.proofs.reader.Reader.to_string_lossy.Goals as goal

pub returns-in-Some-clause-gives : goal.returns-in-Some-clause-gives
returns-in-Some-clause-gives g c =
    c.in-Some.ensures.gives ∙ sym (lossy_chars-utf8 _ c.in-Some.ensures.known)
