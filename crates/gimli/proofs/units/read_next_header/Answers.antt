use Rattle.gimli.proofs.Common.{◌≡◌, sym, ◌∙◌, refl, eqb-false, err_from_is_err_and}
use Rattle.gimli.proofs.FrontLemmas.{next_refused, next_split, split_fits, gives_some}
use Rattle.gimli.proofs.units.read_next_header.Goals as goal

pub returns-clause-gives : goal.returns-clause-gives
returns-clause-gives g c =
    let seen : c.new-bytes.result ≡ g.R.Reader.section c.args.input.now = c.new-bytes.ensures.gives ∙ rw (c.to_slice.ensures.gives, c.endian.ensures.gives) refl in
    let header = rw (seen, ← c.unit_type.view_is) at c.in_ok-encoding.ensures.gives in
    let split = rw c.len.ensures.gives at c.in_ok-entries.ensures.gives in
    next_split _ _ _ _ _ _ _ _ (eqb-false _ _ (sym c.if-is_empty.ensures.gives)) header split c.in_ok-skip.ensures.gives

pub returns-in_err-entries-clause-gives : goal.returns-in_err-entries-clause-gives
returns-in_err-entries-clause-gives g c =
    let p = err_from_is_err_and c.from_residual-in_err-entries.result c.from_residual-in_err-entries.ensures.1 in
    let seen : c.new-bytes.result ≡ g.R.Reader.section c.args.input.now = c.new-bytes.ensures.gives ∙ rw (c.to_slice.ensures.gives, c.endian.ensures.gives) refl in
    let header = rw (seen, ← c.unit_type.view_is) at c.in_ok-encoding.ensures.gives in
    let split = rw c.len.ensures.gives at c.in_err-entries.ensures.gives in
    rw (p.1, p.2) (λ m. absurd (split_fits _ _ _ _ _ header (split (λ shares _. m shares (gives_some _ _ _ _ (eqb-false _ _ (sym c.if-is_empty.ensures.gives)) header)))))

pub returns-in_err-encoding-clause-gives : goal.returns-in_err-encoding-clause-gives
returns-in_err-encoding-clause-gives g c =
    let p = err_from_is_err_and c.from_residual.result c.from_residual.ensures.1 in
    let seen : c.new-bytes.result ≡ g.R.Reader.section c.args.input.now = c.new-bytes.ensures.gives ∙ rw (c.to_slice.ensures.gives, c.endian.ensures.gives) refl in
    let header = rw seen at c.in_err-encoding.ensures.gives in
    rw (p.1, p.2) (λ m. next_refused _ _ _ (eqb-false _ _ (sym c.if-is_empty.ensures.gives)) (header (λ f. absurd cc)))
