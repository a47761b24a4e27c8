use Rattle.gimli_read.proofs.Common.{◌≡◌, Bool, true, List, is_ok, Ok, Err, refl, sym, ap, ◌∙◌, err_from_is_err_and, Section, Reading, ◌>>=◌, Specification, specification_at, specifications_at, declaration_head_at, head_and_pair_at}
use Rattle.gimli_read.specs.declared.constants.DwTag.{DwTag}
use Rattle.std.specs.Prelude.{Option}
use Rattle.gimli_read.proofs.RunLemmas.{collected-fault}
use Rattle.gimli_read.proofs.AbbrevLemmas.{specification_takes}
use Rattle.gimli_read.proofs.abbrev.read_declaration.Goals as goal

-- where all pairs are read, the first is
head_begun : (s t : Section) (h : DwTag × Bool) (x : List Specification × Section) → declaration_head_at s ≡ Ok (h, t) → specifications_at t ≡ Ok x → is_ok (head_and_pair_at s) ≡ true
head_begun s t h x e k = ap (λ (r : Reading (DwTag × Bool)). is_ok (r >>= λ head. specification_at head.1)) e ∙ at (specification_at t) refl
  where
    at : (r : Reading (Option Specification)) → specification_at t ≡ r → is_ok r ≡ true
    at (Ok y) j = refl
    at (Err d) j = absurd (let q : Err d ≡ Ok x = sym (collected-fault specification_at specification_takes t d j) ∙ k in cc)

pub returns-in_err-runs : goal.returns-in_err-runs
returns-in_err-runs g c =
    let p = err_from_is_err_and c.from_residual-in_err-runs.result c.from_residual-in_err-runs.ensures.1 in
    let begun = head_begun _ _ _ _ c.in_ok-tag.ensures.gives c.in_ok-attributes.ensures.gives in
    record { gives = rw (p.1, p.2) (λ n. absurd (n begun c.in_err-runs.ensures.refused)) }
