use Rattle.gimli_line.proofs.Common.{◌≡◌, ◌++◌, ◌∷◌, [], Ok, map, ap, sym, refl, inr, ◌∙◌, append-nil, or_left, or_right, err_from_is_err_and, map-append, with_front, shorter_by, as_value, directory_at}
use Rattle.gimli_read.proofs.RunLemmas.{collected-more, collected-end, collected-fault}
use Rattle.gimli_line.proofs.Shortening.{directory-takes}
use Rattle.gimli_line.proofs.TableLemmas.{one_given}
use Rattle.gimli_line.proofs.tables.read_directories.Goals as goal

pub returns-in_err-directory : goal.returns-in_err-directory
returns-in_err-directory g c = let p = err_from_is_err_and c.from_residual.result c.from_residual.ensures.1 in rw (p.1, p.2) (record {
  gives = λ n. sym c.loop-directories.invariant.gives ∙ ap (with_front (map (as_value g.R.Reader.section) c.loop-directories.directories.items)) (collected-fault directory_at directory-takes _ _ (c.in_err-directory.ensures.gives (λ h _. n (or_left _ _ h))));
})

pub loop-directories-smaller : goal.loop-directories-smaller
loop-directories-smaller g c = shorter_by directory_at directory-takes _ (as_value g.R.Reader.section c.in-Some.directory) _ (rw c.in-Some.is at c.in_ok-directory.ensures.gives)

pub loop-directories-preserved : goal.loop-directories-preserved
loop-directories-preserved g c =
    let same : map (as_value g.R.Reader.section) c.push.new.self.items ≡ map (as_value g.R.Reader.section) c.loop-directories.directories.items ++ as_value g.R.Reader.section c.in-Some.directory ∷ [] = ap (map (as_value g.R.Reader.section)) c.in_ok-push.ensures.items ∙ simp map-append in
    let read = rw c.in-Some.is at c.in_ok-directory.ensures.gives in
    record {
      gives = rw same (sym (collected-more directory_at directory-takes _ (as_value g.R.Reader.section c.in-Some.directory) _ read (map (as_value g.R.Reader.section) c.loop-directories.directories.items)) ∙ c.loop-directories.invariant.gives);
      begun = inr (one_given directory_at _ _ _ (as_value g.R.Reader.section c.in-Some.directory) c.loop-directories.invariant.begun read);
    }

pub returns-in_err-push : goal.returns-in_err-push
returns-in_err-push g c =
    let read = rw c.in-Some.is at c.in_ok-directory.ensures.gives in
    let begun = one_given directory_at _ _ _ (as_value g.R.Reader.section c.in-Some.directory) c.loop-directories.invariant.begun read in
    let p = err_from_is_err_and c.from_residual-in_err-push.result c.from_residual-in_err-push.ensures.1 in
    record { gives = rw (p.1, p.2) (λ n. absurd (n (or_right _ _ begun) refl)) }

pub returns : goal.returns
returns g c = record {
  gives = sym c.loop-directories.invariant.gives ∙ ap (with_front (map (as_value g.R.Reader.section) c.loop-directories.directories.items)) (collected-end directory_at directory-takes _ _ (rw c.in_default.is at c.in_ok-directory.ensures.gives))
      ∙ ap (λ v. Ok (v, g.R.Reader.section c.read_directory.new.input)) (append-nil (map (as_value g.R.Reader.section) c.loop-directories.directories.items));
}
