use Rattle.addr2line_lines.proofs.Common.{Ok, ap, false, true, refl, subst, sym, ◌∙◌, err_from_is_err_and, ExactlyUnlessOomIf, found_name, as_scope}
use Rattle.addr2line_lines.proofs.CachedNameLemmas.{names_same}
use Rattle.addr2line_lines.proofs.NameLemmas.{name_by, name_stays}
use Rattle.addr2line_lines.proofs.name.take_name.Goals as goal

pub returns-in_err-linkage : goal.returns-in_err-linkage
returns-in_err-linkage g c =
    let p = err_from_is_err_and c.from_residual.result c.from_residual.ensures.1 in
    record { gives = rw (p.1, p.2) (λ ne. absurd (let q = c.in_err-linkage.ensures.gives ne in cc)); names = names_same _ }

pub returns-then-is_some : goal.returns-then-is_some
returns-then-is_some g c =
    let other = rw c.name-attribute_name.ensures.gives at c.if-is_linkage_name.ensures.gives in
    record { gives = name_stays (as_scope c.args.scope) c.args.unit.now (found_name g.R.Reader.section c.args.name) c.args.attribute (sym other) c.if-is_some.ensures.gives; names = names_same _ }

pub returns-then-eq : goal.returns-then-eq
returns-then-eq g c =
    let other = rw c.name-attribute_name.ensures.gives at c.if-is_linkage_name.ensures.gives in
    let is = rw c.name-attribute_name.ensures.gives at c.if-eq.ensures in
    let read = rw c.value-value.ensures.gives at c.readable_name.ensures.gives in
    let by = name_by (as_scope c.args.scope) c.args.unit.now (found_name g.R.Reader.section c.args.name) c.args.attribute true _ (sym other) c.if-is_some.ensures.gives (sym is) refl in
    record { gives = subst (λ r. ExactlyUnlessOomIf g.R.Reader.shares (found_name g.R.Reader.section) c.readable_name.result r) (sym by) read; names = names_same _ }

pub returns-then-is_origin : goal.returns-then-is_origin
returns-then-is_origin g c =
    let other = rw c.name-attribute_name.ensures.gives at c.if-is_linkage_name.ensures.gives in
    let no = rw c.name-attribute_name.ensures.gives at c.if-eq.ensures in
    let is = rw c.name-attribute_name.ensures.gives at c.if-is_origin.ensures.gives in
    let read = rw c.value-value.ensures.gives at c.referred_name_once.ensures.gives in
    let by = name_by (as_scope c.args.scope) c.args.unit.now (found_name g.R.Reader.section c.args.name) c.args.attribute false true (sym other) c.if-is_some.ensures.gives (sym no) (sym is) in
    record { gives = subst (λ r. ExactlyUnlessOomIf g.R.Reader.shares (found_name g.R.Reader.section) c.referred_name_once.result r) (sym by) read; names = c.referred_name_once.ensures.names }

pub returns : goal.returns
returns g c =
    let other = rw c.name-attribute_name.ensures.gives at c.if-is_linkage_name.ensures.gives in
    let no = rw c.name-attribute_name.ensures.gives at c.if-eq.ensures in
    let none = rw c.name-attribute_name.ensures.gives at c.if-is_origin.ensures.gives in
    record { gives = name_by (as_scope c.args.scope) c.args.unit.now (found_name g.R.Reader.section c.args.name) c.args.attribute false false (sym other) c.if-is_some.ensures.gives (sym no) (sym none) ∙ ap Ok (sym c.none.ensures.gives); names = names_same _ }
