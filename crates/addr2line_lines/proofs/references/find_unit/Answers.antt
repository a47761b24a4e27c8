use Rattle.addr2line_lines.proofs.Common.{ap, arith, option_map, sym, ◌∙◌}
use Rattle.gimli.specs.Offsets.{unit_offset_of}
use Rattle.addr2line_lines.proofs.ReferenceLemmas.{before_all, last_begun, placed}
use Rattle.addr2line_lines.proofs.references.find_unit.Goals as goal

pub returns-then-begun-eq0 : goal.returns-then-begun-eq0
returns-then-begun-eq0 g c = record { gives = sym (before_all c.args.offset.0 c.count_begun-begun.result c.args.units.now c.if-begun-eq0.true (c.count_begun-begun.ensures.gives c.requires.in_order)) }

pub returns-in_err-inside : goal.returns-in_err-inside
returns-in_err-inside g c =
    let bound = c.count_begun-begun.ensures.bound in
    let some = c.if-begun-eq0.false in
    let u = c.index-units-begun.result in
    let last = last_begun c.args.offset.0 c.count_begun-begun.result c.args.units.now u c.requires.in_order bound (omega arith) (c.count_begun-begun.ensures.gives c.requires.in_order) (sym c.index-units-begun.is) in
    let inside = ap (λ v. placed u (unit_offset_of c.args.offset.0 v.header)) (sym c.unit.view_is) in
    record { gives = ap (option_map (λ x. (x.0.now, x.1.0))) c.from_residual.ensures ∙ sym (last ∙ inside ∙ ap (placed u) (sym c.in_err-inside.ensures.gives)) }

pub returns : goal.returns
returns g c =
    let bound = c.count_begun-begun.ensures.bound in
    let some = c.if-begun-eq0.false in
    let u = c.index-units-begun.result in
    let last = last_begun c.args.offset.0 c.count_begun-begun.result c.args.units.now u c.requires.in_order bound (omega arith) (c.count_begun-begun.ensures.gives c.requires.in_order) (sym c.index-units-begun.is) in
    let inside = ap (λ v. placed u (unit_offset_of c.args.offset.0 v.header)) (sym c.unit.view_is) in
    record { gives = sym (last ∙ inside ∙ ap (placed u) (sym c.in_ok-inside.ensures.gives)) }
