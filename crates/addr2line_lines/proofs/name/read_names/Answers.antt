use Rattle.addr2line_lines.proofs.Common.{ap, refl, sym, ◌∙◌, err_from_is_err_and, as_name_or_origin, as_scope, named_at}
use Rattle.gimli.proofs.WantedLemmas.{wanted_end, wanted_next, wanted_passed}
use Rattle.addr2line_lines.proofs.NameLemmas.{name_passes, named_linkage, named_other}
use Rattle.addr2line_lines.proofs.name.read_names.Goals as goal

pub returns-in_err-pass_over : goal.returns-in_err-pass_over
returns-in_err-pass_over g c =
    let p = err_from_is_err_and c.from_residual.result c.from_residual.ensures.1 in
    let i = c.loop-next.invariant in
    let s = as_scope c.args.place.scope in
    let u = c.args.place.unit.now in
    let split = c.in-Some.ensures.gives in
    let fault = rw i.encoding at c.in_err-pass_over.ensures.gives in
    record { gives = rw (p.1, p.2) (λ _. sym i.gives ∙ wanted_passed (name_passes s u _) _ _ _ split fault) }

pub returns-in_err-attribute : goal.returns-in_err-attribute
returns-in_err-attribute g c =
    let p = err_from_is_err_and c.from_residual-in_err-attribute.result c.from_residual-in_err-attribute.ensures.1 in
    let i = c.loop-next.invariant in
    let s = as_scope c.args.place.scope in
    let u = c.args.place.unit.now in
    let split = c.in-Some.ensures.gives in
    let skipped = rw i.encoding at c.in_ok-pass_over.ensures.gives in
    let encoding = ap (λ v. v.encoding) c.in_ok-pass_over.ensures.unit ∙ i.encoding in
    let fault = rw encoding at c.in_err-attribute.ensures.gives in
    record { gives = rw (p.1, p.2) (λ ne. sym i.gives ∙ wanted_next (name_passes s u _) _ _ _ split skipped (fault (λ shares _. ne shares))) }

pub returns-in_err-name : goal.returns-in_err-name
returns-in_err-name g c =
    let p = err_from_is_err_and c.from_residual-in_err-name.result c.from_residual-in_err-name.ensures.1 in
    record { gives = rw (p.1, p.2) (λ ne. absurd (let q = c.in_err-name.ensures.gives ne in cc)) }

pub returns-in-Some-2 : goal.returns-in-Some-2
returns-in-Some-2 g c =
    let i = c.loop-next.invariant in
    let s = as_scope c.args.place.scope in
    let u = c.args.place.unit.now in
    let found = as_name_or_origin g.R.Reader.section c.loop-next.found in
    let split = c.in-Some.ensures.gives in
    let skipped = rw i.encoding at c.in_ok-pass_over.ensures.gives in
    let encoding = ap (λ v. v.encoding) c.in_ok-pass_over.ensures.unit ∙ i.encoding in
    let read = rw encoding at c.in_ok-attribute.ensures.gives in
    let linkage = rw c.in-Some-2.is at c.in_ok-name.ensures.gives in
    record { gives = sym i.gives ∙ wanted_next (name_passes s u found) _ _ _ split skipped read ∙ named_linkage s u c.in-Some.next.after.now found (as_name_or_origin g.R.Reader.section c.take.new.self) c.in_ok-attribute.attribute c.read_attribute.new.self.cursor.left _ linkage }

pub loop-next-preserved : goal.loop-next-preserved
loop-next-preserved g c =
    let i = c.loop-next.invariant in
    let s = as_scope c.args.place.scope in
    let u = c.args.place.unit.now in
    let found = as_name_or_origin g.R.Reader.section c.loop-next.found in
    let split = c.in-Some.ensures.gives in
    let skipped = rw i.encoding at c.in_ok-pass_over.ensures.gives in
    let encoding = ap (λ v. v.encoding) c.in_ok-pass_over.ensures.unit ∙ i.encoding in
    let read = rw encoding at c.in_ok-attribute.ensures.gives in
    let other = rw c.in_default-2.is at c.in_ok-name.ensures.gives in
    record {
      gives = sym (sym i.gives ∙ wanted_next (name_passes s u found) _ _ _ split skipped read ∙ named_other s u c.in-Some.next.after.now found (as_name_or_origin g.R.Reader.section c.take.new.self) c.in_ok-attribute.attribute c.read_attribute.new.self.cursor.left other);
      encoding = ap (λ v. v.encoding) c.in_ok-attribute.ensures.unit ∙ encoding;
    }

pub returns-in_err-pass_over-2 : goal.returns-in_err-pass_over-2
returns-in_err-pass_over-2 g c =
    let p = err_from_is_err_and c.from_residual-in_err-pass_over-2.result c.from_residual-in_err-pass_over-2.ensures.1 in
    let i = c.loop-next.invariant in
    let s = as_scope c.args.place.scope in
    let u = c.args.place.unit.now in
    let found = as_name_or_origin g.R.Reader.section c.loop-next.found in
    let none = c.in_default.ensures.none refl in
    let fault = rw i.encoding at c.in_err-pass_over-2.ensures.gives in
    record { gives = rw (p.1, p.2) (λ _. sym i.gives ∙ wanted_end (name_passes s u found) none fault) }

pub returns : goal.returns
returns g c =
    let i = c.loop-next.invariant in
    let s = as_scope c.args.place.scope in
    let u = c.args.place.unit.now in
    let found = as_name_or_origin g.R.Reader.section c.loop-next.found in
    let none = c.in_default.ensures.none refl in
    let skipped = rw i.encoding at c.in_ok-pass_over-2.ensures.gives in
    record { gives = sym i.gives ∙ wanted_end (name_passes s u found) none skipped }

pub loop-next-init : goal.loop-next-init
loop-next-init g c =
    let s = as_scope c.args.place.scope in
    record { gives = ap (named_at s c.args.place.unit.now c.args.specifications.now c.args.entries.now.cursor.left) c.new-found.ensures.gives; encoding = c.requires.encoding }
