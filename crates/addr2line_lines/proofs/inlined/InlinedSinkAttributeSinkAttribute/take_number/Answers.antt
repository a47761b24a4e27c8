use Rattle.addr2line_lines.proofs.Common.{◌≡◌, ℕ, Ok, Option, Result, ap, sym, ◌∙◌, err_from_is_err_and, Error, ◌>>=◌, Section, UnitRecord, InlinedAttributes, with_call_constant, as_scope}
use Rattle.gimli_read.specs.NumberValue.{number_constant}
use Rattle.addr2line_lines.specs.declared.inlined.CallSite.{CallSite}
use Rattle.addr2line_lines.specs.FoundAttributes.{as_attributes}
use Rattle.addr2line_lines.proofs.NumberLemmas.{call_number, name_by_number, no_reference, origin_number, ranges_number}
use Rattle.addr2line_lines.proofs.inlined.InlinedSinkAttributeSinkAttribute.take_number.Goals as goal

-- a name, beside what else was known
abbrev with_name_read : InlinedAttributes → Result (Option Section) Error → Result InlinedAttributes Error
with_name_read x r = r >>= λ name. Ok (record { ranges = x.ranges; name = name; call = x.call })

pub returns-then-is_call-clause-gives : goal.returns-then-is_call-clause-gives
returns-then-is_call-clause-gives g c =
    let u = c.args.self.now.unit.now in
    let x = as_attributes g.R.Reader.section c.args.found.now in
    let version : c.version.result ≡ u.header.encoding.version = c.version.ensures.gives ∙ ap (λ (v : UnitRecord). v.header.encoding.version) c.unit.view_is in
    let made : CallSite → Result InlinedAttributes Error = λ call. Ok (record { ranges = x.ranges; name = x.name; call = call }) in
    let with : ℕ → Option ℕ → Result InlinedAttributes Error = λ v k. made (with_call_constant v x.call c.args.name k) in
    λ named value is. call_number (as_scope c.args.self.now.scope) u x c.args.name value c.args.number is (sym c.if-is_call.ensures.gives)
    ∙ ap (λ v. with v (number_constant c.args.number)) (sym version) ∙ ap (with c.version.result) (sym c.constant-constant.ensures.gives) ∙ ap made (sym c.take-found.ensures.gives)

pub returns-then-is_range_name-clause-gives : goal.returns-then-is_range_name-clause-gives
returns-then-is_range_name-clause-gives g c =
    let x = as_attributes g.R.Reader.section c.args.found.now in
    λ named value is. ranges_number (as_scope c.args.self.now.scope) c.args.self.now.unit.now x c.args.name value c.args.number is (sym c.if-is_call.ensures.gives) (sym c.if-is_range_name.ensures.gives) named
    ∙ ap (λ ranges. Ok (record { ranges = ranges; name = x.name; call = x.call })) (sym c.take_number.ensures.gives)

pub returns-in_err-found-clause-gives : goal.returns-in_err-found-clause-gives
returns-in_err-found-clause-gives g c =
    let scope = as_scope c.args.self.now.scope in
    let u = c.args.self.now.unit.now in
    let x = as_attributes g.R.Reader.section c.args.found.now in
    let p = err_from_is_err_and c.from_residual.result c.from_residual.ensures.1 in
    let fault = rw c.take-before.ensures.gives at c.in_err-found.ensures.gives in
    λ named value is. rw (p.1, p.2) (λ ne. origin_number scope u x c.args.name value c.args.number is (sym c.if-is_call.ensures.gives) (sym c.if-is_range_name.ensures.gives) named ∙ ap (λ n. with_name_read x (name_by_number scope u x.name n)) c.in-UnitRef.is ∙ ap (with_name_read x) (fault ne))

pub returns-in_ok-found-clause-gives : goal.returns-in_ok-found-clause-gives
returns-in_ok-found-clause-gives g c =
    let scope = as_scope c.args.self.now.scope in
    let u = c.args.self.now.unit.now in
    let x = as_attributes g.R.Reader.section c.args.found.now in
    let read = rw c.take-before.ensures.gives at c.in_ok-found.ensures.gives in
    λ named value is. origin_number scope u x c.args.name value c.args.number is (sym c.if-is_call.ensures.gives) (sym c.if-is_range_name.ensures.gives) named ∙ ap (λ n. with_name_read x (name_by_number scope u x.name n)) c.in-UnitRef.is ∙ ap (with_name_read x) read

pub returns-in_default : goal.returns-in_default
returns-in_default g c =
    let scope = as_scope c.args.self.now.scope in
    let u = c.args.self.now.unit.now in
    let x = as_attributes g.R.Reader.section c.args.found.now in
    record {
      gives = λ named value is. origin_number scope u x c.args.name value c.args.number is (sym c.if-is_call.ensures.gives) (sym c.if-is_range_name.ensures.gives) named ∙ ap (with_name_read x) (no_reference scope u x.name c.args.number c.in_default.not-UnitRef);
      after = c.requires.cache;
    }
