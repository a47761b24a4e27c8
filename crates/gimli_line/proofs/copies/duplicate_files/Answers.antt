use Rattle.gimli_line.proofs.Common.{◌≡◌, ◌∙◌, arith}
use Rattle.gimli_line.proofs.TableLemmas.{copied_next}
use Rattle.gimli_line.proofs.copies.duplicate_files.Goals as goal

pub loop-file-preserved : goal.loop-file-preserved
loop-file-preserved g c =
    let same : c.file-item.result ≡ c.in_ok-duplicate_file.field-0 = cc (c.in_ok-duplicate_file.ensures.gives) in
    c.in_ok-push.ensures.items ∙ copied_next _ c.args.files.now c.loop-file.file-index c.file-item.result _ (omega arith) c.file-item.is c.loop-file.invariant same
