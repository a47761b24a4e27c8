use Rattle.addr2line_lines.proofs.Common.{◌≡◌, Option, Some, None, map, option_map, slice_get, subst, ap, sym, ◌∙◌, Section, InlinedEntry}
use Rattle.std.specs.Slice.{IsItemAt}
use Rattle.addr2line_lines.specs.LentInlined.{as_inlined}
use Rattle.addr2line_lines.specs.StoredInlined.{StoredInlined, stored_name}
use Rattle.addr2line_lines.proofs.StoredInlinedLemmas.{entry_at, no_call_at, no_name_at}
use Rattle.addr2line_lines.proofs.inlined_functions.InlinedFunctions.get.Goals as goal
use Rattle.addr2line_lines.proofs.Facts.{lent_copied, lent_is}

pub returns-in_err-name : goal.returns-in_err-name
returns-in_err-name g c =
    let see = stored_name g.R.Reader.section in
    let items = c.self.inside.names.items in
    let lent = lent_is see items c.args.place c.get.result (subst (λ xs. IsItemAt xs c.args.place c.get.result) c.deref.ensures.value c.get.ensures.lookup) in
    let none : slice_get (map see items) c.args.place ≡ None = sym lent ∙ ap (option_map (λ x. see x.now)) (c.in_err-name.was) in
    record {
      gives = ap (option_map (as_inlined g.R.Reader.section)) c.from_residual.ensures
          ∙ sym (no_name_at (map see items) c.self.inside.calls.elements c.args.place none)
          ∙ ap (λ (v : StoredInlined). slice_get v.entries c.args.place) c.self.view_is;
    }

pub returns-in_err-offset : goal.returns-in_err-offset
returns-in_err-offset g c =
    let names = map (stored_name g.R.Reader.section) c.self.inside.names.items in
    record {
      gives = ap (option_map (as_inlined g.R.Reader.section)) c.from_residual-in_err-offset.ensures
          ∙ sym (no_call_at names c.self.inside.calls.elements c.args.place (sym c.get-2.ensures.gives ∙ c.in_err-offset.was))
          ∙ ap (λ (v : StoredInlined). slice_get v.entries c.args.place) c.self.view_is;
    }

pub returns : goal.returns
returns g c =
    let see = stored_name g.R.Reader.section in
    let items = c.self.inside.names.items in
    let name = c.in_ok-name.name.now in
    let call = c.in_ok-offset.field-0 in
    let lent = lent_is see items c.args.place c.get.result (subst (λ xs. IsItemAt xs c.args.place c.get.result) c.deref.ensures.value c.get.ensures.lookup) in
    let named : slice_get (map see items) c.args.place ≡ Some (see name) = sym lent ∙ ap (option_map (λ x. see x.now)) (c.in_ok-name.was) in
    let entry : Option Section → InlinedEntry = λ n. record { offset = call.offset.0; name = n; call = call.call } in
    let seen = lent_copied g.R.Reader.section c.as_ref-2.result ∙ ap (option_map g.R.Reader.section) (c.as_ref-2.ensures.value ∙ c.as_ref.ensures) in
    record {
      gives = ap (λ n. Some (entry n)) seen
          ∙ sym (entry_at (map see items) c.self.inside.calls.elements c.args.place (see name) call named (sym c.get-2.ensures.gives ∙ c.in_ok-offset.was))
          ∙ ap (λ (v : StoredInlined). slice_get v.entries c.args.place) c.self.view_is;
    }
