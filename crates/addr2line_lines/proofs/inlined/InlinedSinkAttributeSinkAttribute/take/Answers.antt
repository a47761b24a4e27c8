use Rattle.addr2line_lines.proofs.Common.{◌≡◌, ℕ, Ok, ap, sym, ◌∙◌, true, false, Option, Result, UnitRecord, InlinedAttributes, with_call_constant, as_scope, err_from_is_err_and, Error, constant_of, ◌>>=◌, Section, RangeAttributes}
use Rattle.addr2line_lines.specs.declared.inlined.CallSite.{CallSite}
use Rattle.addr2line_lines.specs.FoundAttributes.{is_call, as_attributes}
use Rattle.addr2line_lines.specs.FoundRanges.{is_range_name}
use Rattle.addr2line_lines.proofs.DetailLemmas.{call_taken, ranges_taken, name_taken}
use Rattle.gimli_read.specs.declared.constants.DwAt.{DwAt}
use Rattle.addr2line_lines.proofs.inlined.InlinedSinkAttributeSinkAttribute.take.Goals as goal

-- the ranges of an attribute, beside what else was known
abbrev with_ranges : InlinedAttributes → Result RangeAttributes Error → Result InlinedAttributes Error
with_ranges x r = r >>= λ ranges. Ok (record { ranges = ranges; name = x.name; call = x.call })

-- its name, beside what else was known
abbrev with_name_read : InlinedAttributes → Result (Option Section) Error → Result InlinedAttributes Error
with_name_read x r = r >>= λ name. Ok (record { ranges = x.ranges; name = name; call = x.call })

pub returns-then-is_call : goal.returns-then-is_call
returns-then-is_call g c =
    let u = c.args.self.now.unit.now in
    let x = as_attributes g.R.Reader.section c.args.found.now in
    let made : CallSite → InlinedAttributes = λ call. record { ranges = x.ranges; name = x.name; call = call } in
    let version : c.version.result ≡ u.header.encoding.version = c.version.ensures.gives ∙ ap (λ (v : UnitRecord). v.header.encoding.version) c.unit.view_is in
    let a = c.args.attribute in
    let with : ℕ → DwAt → Option ℕ → Result InlinedAttributes Error = λ v n k. Ok (made (with_call_constant v x.call n k)) in
    record {
      gives = call_taken (as_scope c.args.self.now.scope) u x a (ap is_call (sym c.name-name.ensures.gives) ∙ sym c.if-is_call.ensures.gives)
          ∙ ap (λ v. with v a.name (constant_of a.value)) (sym version) ∙ ap (λ n. with c.version.result n (constant_of a.value)) (sym c.name-name.ensures.gives)
          ∙ ap (with c.version.result c.name-name.result) (sym c.udata_value-constant.ensures.gives) ∙ ap (λ call. Ok (made call)) (sym c.take-found.ensures.gives);
      after = c.requires.cache;
    }

pub returns-in_err-found : goal.returns-in_err-found
returns-in_err-found g c =
    let u = c.args.self.now.unit.now in
    let x = as_attributes g.R.Reader.section c.args.found.now in
    let other : is_call c.args.attribute.name ≡ false = ap is_call (sym c.name-name.ensures.gives) ∙ sym c.if-is_call.ensures.gives in
    let is : is_range_name c.args.attribute.name ≡ true = ap is_range_name (sym c.name-name.ensures.gives) ∙ sym c.if-is_range_name.ensures.gives in
    let taken = ranges_taken (as_scope c.args.self.now.scope) u x c.args.attribute other is in
    let p = err_from_is_err_and c.from_residual.result c.from_residual.ensures.1 in
    let fault = rw (c.new-unit.ensures.dwarf, c.new-unit.ensures.unit) at c.in_err-found.ensures.gives in
    record { gives = rw (p.1, p.2) (λ _. taken ∙ ap (with_ranges x) fault); after = c.requires.cache }

pub returns-in_ok-found : goal.returns-in_ok-found
returns-in_ok-found g c =
    let u = c.args.self.now.unit.now in
    let x = as_attributes g.R.Reader.section c.args.found.now in
    let other : is_call c.args.attribute.name ≡ false = ap is_call (sym c.name-name.ensures.gives) ∙ sym c.if-is_call.ensures.gives in
    let is : is_range_name c.args.attribute.name ≡ true = ap is_range_name (sym c.name-name.ensures.gives) ∙ sym c.if-is_range_name.ensures.gives in
    let taken = ranges_taken (as_scope c.args.self.now.scope) u x c.args.attribute other is in
    let read = rw (c.new-unit.ensures.dwarf, c.new-unit.ensures.unit) at c.in_ok-found.ensures.gives in
    record { gives = taken ∙ ap (with_ranges x) read; after = c.requires.cache }

pub returns-in_err-found-2 : goal.returns-in_err-found-2
returns-in_err-found-2 g c =
    let u = c.args.self.now.unit.now in
    let x = as_attributes g.R.Reader.section c.args.found.now in
    let other : is_call c.args.attribute.name ≡ false = ap is_call (sym c.name-name.ensures.gives) ∙ sym c.if-is_call.ensures.gives in
    let is : is_range_name c.args.attribute.name ≡ false = ap is_range_name (sym c.name-name.ensures.gives) ∙ sym c.if-is_range_name.ensures.gives in
    let taken = name_taken (as_scope c.args.self.now.scope) u x c.args.attribute other is in
    let p = err_from_is_err_and c.from_residual-in_err-found-2.result c.from_residual-in_err-found-2.ensures.1 in
    let fault = rw c.take-before.ensures.gives at c.in_err-found-2.ensures.gives in
    record { gives = rw (p.1, p.2) (λ ne. taken ∙ ap (with_name_read x) (fault ne)); after = record { in_order = c.requires.cache.in_order; unit = c.requires.cache.unit; more = c.in_err-found-2.ensures.names } }

pub returns-in_ok-found-2 : goal.returns-in_ok-found-2
returns-in_ok-found-2 g c =
    let u = c.args.self.now.unit.now in
    let x = as_attributes g.R.Reader.section c.args.found.now in
    let other : is_call c.args.attribute.name ≡ false = ap is_call (sym c.name-name.ensures.gives) ∙ sym c.if-is_call.ensures.gives in
    let is : is_range_name c.args.attribute.name ≡ false = ap is_range_name (sym c.name-name.ensures.gives) ∙ sym c.if-is_range_name.ensures.gives in
    let taken = name_taken (as_scope c.args.self.now.scope) u x c.args.attribute other is in
    let read = rw c.take-before.ensures.gives at c.in_ok-found-2.ensures.gives in
    record { gives = taken ∙ ap (with_name_read x) read; after = record { in_order = c.requires.cache.in_order; unit = c.requires.cache.unit; more = c.in_ok-found-2.ensures.names } }
