use Rattle.addr2line_lines.proofs.Common.{ℕ, false, ap, subst, sym, ◌∙◌, err_from_is_err_and, ExactlyUnlessOomIf, Sections, UnitRecord, gives_a_range, as_lists, with_inlined_found, as_scope, or_left, or_right}
use Rattle.addr2line_lines.specs.OpenEntries.{is_listed}
use Rattle.addr2line_lines.specs.FoundAttributes.{as_attributes}
use Rattle.addr2line_lines.proofs.FunctionLemmas.{beside_if}
use Rattle.addr2line_lines.proofs.NestingLemmas.{found_same}
use Rattle.addr2line_lines.proofs.CachedNameLemmas.{names_same}
use Rattle.addr2line_lines.proofs.DetailLemmas.{entry-fault, entry-listed, entry-other}
use Rattle.addr2line_lines.proofs.detail.read_entry.Goals as goal

pub returns-in_err-attributes-clause-gives : goal.returns-in_err-attributes-clause-gives
returns-in_err-attributes-clause-gives g c =
    let p = err_from_is_err_and c.from_residual.result c.from_residual.ensures.1 in
    let scope = as_scope c.args.scope in
    let u = c.args.unit.now in
    let around = c.args.nesting.now in
    let a = c.args.abbreviation.now in
    let left = c.args.entries.now.cursor.left in
    let found = as_lists c.args.found.now in
    let listed = ap (λ k. is_listed k c.args.nesting.now) (sym c.kind_of.ensures.gives) ∙ sym c.if-lists.ensures.gives in
    let fault = rw c.attributes-specifications.ensures.gives at c.in_err-attributes.ensures.gives in
    rw (p.1, p.2) (λ ne. entry-fault scope u around c.args.offset.0 a left found _ listed (fault (λ shares. ne (or_left g.R.Reader.shares _ shares))))

pub returns-in_ok-attributes-clause-gives : goal.returns-in_ok-attributes-clause-gives
returns-in_ok-attributes-clause-gives g c =
    let scope = as_scope c.args.scope in
    let u = c.args.unit.now in
    let around = c.args.nesting.now in
    let a = c.args.abbreviation.now in
    let left = c.args.entries.now.cursor.left in
    let found = as_lists c.args.found.now in
    let listed = ap (λ k. is_listed k c.args.nesting.now) (sym c.kind_of.ensures.gives) ∙ sym c.if-lists.ensures.gives in
    let gives = rw c.attributes-specifications.ensures.gives at c.in_ok-attributes.ensures.gives in
    let rest = rw c.attributes-specifications.ensures.gives at c.in_ok-attributes.ensures.left in
    let x = as_attributes g.R.Reader.section c.in_ok-attributes.attributes in
    let Added : Sections → UnitRecord → ℕ → Type 0 = λ d v n. ExactlyUnlessOomIf (gives_a_range d v x.ranges) (λ _. as_lists c.add.new.self) c.add.result (with_inlined_found d v c.args.offset.0 n found x) in
    let added = subst (λ n. Added scope.file.sections u n) c.depth.ensures.gives
    (subst (λ v. Added scope.file.sections v c.depth.result) c.new-unit.ensures.unit (subst (λ d. Added d c.new-unit.result.unit.now c.depth.result) c.new-unit.ensures.dwarf c.add.ensures.gives)) in
    let is = entry-listed scope u around c.args.offset.0 a left found _ _ listed gives rest in
    beside_if _ _ c.add.result _ _ _ _
    (λ well. or_right g.R.Reader.shares _ (ap (λ x. x.takes_memory false) is ∙ well))
    (ap (λ x. x.given) is) added

pub returns-else-lists-clause-gives : goal.returns-else-lists-clause-gives
returns-else-lists-clause-gives g c =
    let scope = as_scope c.args.scope in
    let u = c.args.unit.now in
    let around = c.args.nesting.now in
    let a = c.args.abbreviation.now in
    let left = c.args.entries.now.cursor.left in
    let found = as_lists c.args.found.now in
    let listed = ap (λ k. is_listed k c.args.nesting.now) (sym c.kind_of.ensures.gives) ∙ sym c.if-lists.ensures.gives in
    let rest = rw c.requires.encoding at c.skip_attributes_of.ensures.gives in
    entry-other scope u around c.args.offset.0 a left found _ _ c.skip_attributes_of.result listed rest

pub returns-in_err-attributes-clause-kept : goal.returns-in_err-attributes-clause-kept
returns-in_err-attributes-clause-kept g c = found_same _

pub returns-in_err-attributes-clause-unit : goal.returns-in_err-attributes-clause-unit
returns-in_err-attributes-clause-unit g c = c.in_err-attributes.ensures.unit

pub returns-in_err-attributes-clause-depth : goal.returns-in_err-attributes-clause-depth
returns-in_err-attributes-clause-depth g c = c.in_err-attributes.ensures.depth

pub returns-in_ok-attributes-clause-kept : goal.returns-in_ok-attributes-clause-kept
returns-in_ok-attributes-clause-kept g c = c.add.ensures.kept

pub returns-in_ok-attributes-clause-unit : goal.returns-in_ok-attributes-clause-unit
returns-in_ok-attributes-clause-unit g c = c.in_ok-attributes.ensures.unit

pub returns-in_ok-attributes-clause-depth : goal.returns-in_ok-attributes-clause-depth
returns-in_ok-attributes-clause-depth g c = c.in_ok-attributes.ensures.depth

pub returns-else-lists-clause-kept : goal.returns-else-lists-clause-kept
returns-else-lists-clause-kept g c = found_same _

pub returns-else-lists-clause-unit : goal.returns-else-lists-clause-unit
returns-else-lists-clause-unit g c = c.skip_attributes_of.ensures.unit

pub returns-else-lists-clause-depth : goal.returns-else-lists-clause-depth
returns-else-lists-clause-depth g c = c.skip_attributes_of.ensures.depth

pub returns-in_err-attributes-clause-names : goal.returns-in_err-attributes-clause-names
returns-in_err-attributes-clause-names g c = c.in_err-attributes.ensures.names

pub returns-in_ok-attributes-clause-names : goal.returns-in_ok-attributes-clause-names
returns-in_ok-attributes-clause-names g c = c.in_ok-attributes.ensures.names

pub returns-else-lists-clause-names : goal.returns-else-lists-clause-names
returns-else-lists-clause-names g c = names_same _
