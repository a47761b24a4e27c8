use Rattle.package.proofs.Common.{◌∙◌, ◌+◌, ◌-◌, ◌*◌, ◌/◌, ℕ, ap, arith, ltb}
use Rattle.package.proofs.NumberLemmas.{ends_by}
use Rattle.package.proofs.header.IndexHeader.ends_after.Goals as goal

pub returns : goal.returns
returns c =
    let h = c.args.self in
    let front = c.offsets_place-front.result in
    let cells = h.section_count * h.unit_count in
    let is = c.offsets_place-front.ensures.gives in
    record {
      gives = ap (λ (n : ℕ). ltb ((c.args.len - front) / 8) n) c.cells.ensures.gives
          ∙ ends_by front cells c.args.len (omega arith)
          ∙ ap (λ (p : ℕ). ltb c.args.len (p + 4 * cells + 4 * cells)) is;
    }
