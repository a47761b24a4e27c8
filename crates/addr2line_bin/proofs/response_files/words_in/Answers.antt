use Rattle.addr2line_bin.proofs.Common.{◌≡◌, ◌∙◌, ap, sym}
use Rattle.std.specs.Prelude.{fold}
use Rattle.std.specs.Str.{chars}
use Rattle.std.proofs.Common.{map-id}
use Rattle.std.proofs.lemmas.Iterator.{YieldsList-from_chars}
use Rattle.std.proofs.lemmas.Iterator.Consumers.{YieldsList-end}
use Rattle.addr2line_bin.specs.ResponseFiles.{nothing_read, with_end, with_next}
use Rattle.addr2line_bin.proofs.response_files.words_in.Goals as goal

pub returns : goal.returns
returns c =
    let end = YieldsList-end (YieldsList-from_chars c.args.text.now c.utf8.text cc) c.loop-c.yielded _ c.loop-c.yielded_by _ _ c.in-None.is c.next.ensures.steps in
    let all : c.loop-c.read ≡ fold with_next nothing_read (chars c.args.text.now) = c.loop-c.invariant ∙ ap (fold with_next nothing_read) (sym (map-id c.loop-c.yielded) ∙ end.0) in
    record { gives = ap (λ s. s.words) (c.read-2.view_is ∙ c.in_ok-end.ensures.gives ∙ ap with_end all) }
