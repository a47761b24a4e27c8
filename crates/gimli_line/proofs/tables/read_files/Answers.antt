use Rattle.gimli_line.proofs.Common.{Ok, ap, sym, refl, inr, ◌∙◌, append-nil, or_left, or_right, err_from_is_err_and, with_front, shorter_by, file_at}
use Rattle.gimli_read.proofs.RunLemmas.{collected-more, collected-end, collected-fault}
use Rattle.gimli_line.proofs.Shortening.{file-takes}
use Rattle.gimli_line.proofs.TableLemmas.{one_given}
use Rattle.gimli_line.proofs.tables.read_files.Goals as goal

pub returns-in_err-file : goal.returns-in_err-file
returns-in_err-file g c = let p = err_from_is_err_and c.from_residual.result c.from_residual.ensures.1 in rw (p.1, p.2) (record {
  gives = λ n. sym c.loop-files.invariant.gives ∙ ap (with_front c.loop-files.files.items) (collected-fault file_at file-takes _ _ (c.in_err-file.ensures.gives (λ h. n (or_left _ _ h))));
})

pub loop-files-smaller : goal.loop-files-smaller
loop-files-smaller g c = shorter_by file_at file-takes _ c.in-Some.file _ (rw c.in-Some.is at c.in_ok-file.ensures.gives)

pub loop-files-preserved : goal.loop-files-preserved
loop-files-preserved g c =
    let read = rw c.in-Some.is at c.in_ok-file.ensures.gives in
    record {
      gives = rw c.in_ok-push.ensures.items (sym (collected-more file_at file-takes _ c.in-Some.file _ read c.loop-files.files.items) ∙ c.loop-files.invariant.gives);
      begun = inr (one_given file_at _ _ _ c.in-Some.file c.loop-files.invariant.begun read);
    }

pub returns-in_err-push : goal.returns-in_err-push
returns-in_err-push g c =
    let read = rw c.in-Some.is at c.in_ok-file.ensures.gives in
    let begun = one_given file_at _ _ _ c.in-Some.file c.loop-files.invariant.begun read in
    let p = err_from_is_err_and c.from_residual-in_err-push.result c.from_residual-in_err-push.ensures.1 in
    record { gives = rw (p.1, p.2) (λ n. absurd (n (or_right _ _ begun) refl)) }

pub returns : goal.returns
returns g c = record {
  gives = sym c.loop-files.invariant.gives ∙ ap (with_front c.loop-files.files.items) (collected-end file_at file-takes _ _ (rw c.in_default.is at c.in_ok-file.ensures.gives))
      ∙ ap (λ v. Ok (v, g.R.Reader.section c.read_file.new.input)) (append-nil c.loop-files.files.items);
}
