use Rattle.addr2line_bin.proofs.Common.{◌≡◌, ◌∙◌, ap, inl, refl, sym}
use Rattle.std.specs.Prelude.{is_some}
use Rattle.addr2line_bin.specs.ResponseFiles.{has_response}
use Rattle.addr2line_bin.proofs.WordLemmas.{known_stay}
use Rattle.addr2line_bin.specs.CommandLine.{texts_in}
use Rattle.addr2line_bin.proofs.whole_run.answer_given.Goals as goal

pub returns-in-Ok-None : goal.returns-in-Ok-None
returns-in-Ok-None g c =
    let some : is_some c.in-Ok-None.field-0 ≡ has_response (texts_in c.args.words.now) = c.in-Ok-None.ensures.some in
    let none = sym some ∙ ap is_some c.in-Ok-None.field-0-is in
    record { gives = inl (c.args.words.now, record { gives = known_stay _ (texts_in c.args.words.now) none; none = λ h. refl }, c.answer_words-in-Ok-None.ensures.gives) }
