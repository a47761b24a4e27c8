use Rattle.addr2line_lines.proofs.Common.{rules, ◌≡◌, ◌≤◌, length, Some, None, Ok, Err, slice_get, ap, sym, subst, ◌∙◌, gets, FunctionTable, as_function, as_lazy, detail_of, as_details, as_scope}
use Rattle.addr2line_lines.proofs.ReadLemmas.{read_fault}
use Rattle.addr2line_lines.proofs.ReadPlaces.{fault_again, none_at, read_again, read_past, some_at}
use Rattle.addr2line_lines.proofs.functions.Functions.read.Given.{Over}
use Rattle.addr2line_lines.proofs.functions.Functions.read.Goals as goal

module _ (g : Over) (c : goal.In_default g) where
  past : slice_get c.args.self.now.functions c.args.place ≡ None
  past =
      let d = as_details g.R.Reader.section c.self.inside.details in
      let fs = c.self.inside.functions.items in
      let l : length c.deref.result.now ≤ c.args.place = c.in_default.ensures.lookup.3 in
      ap (λ (t : FunctionTable). slice_get t.functions c.args.place) (sym c.self.view_is) ∙ none_at d fs c.args.place (subst (λ xs. length xs ≤ c.args.place) c.deref.ensures.value l)

pub returns-in_default-clause-after : goal.returns-in_default-clause-after
returns-in_default-clause-after g c = read_past (as_scope c.args.scope) c.args.unit.now c.args.place c.args.self.now (past g c)

pub returns-in_default-clause-gives : goal.returns-in_default-clause-gives
returns-in_default-clause-gives g c = ap (read_fault (as_scope c.args.scope) c.args.unit.now) (past g c)

pub read_unread-requires-clause-unread : goal.read_unread-requires-clause-unread
read_unread-requires-clause-unread g c =
    let d = as_details g.R.Reader.section c.self.inside.details in
    let fs = c.self.inside.functions.items in
    let f = c.in-Some.function.now in
    let e : slice_get c.deref.result.now c.args.place ≡ Some f = search (rules, gets) in
    ap (λ (t : FunctionTable). slice_get t.functions c.args.place) (sym c.self.view_is) ∙ some_at d fs c.args.place f (subst (λ xs. slice_get xs c.args.place ≡ Some f) c.deref.ensures.value e)
    ∙ ap (λ l. Some (record { offset = f.dw_die_offset.0; detail = as_lazy d l })) c.in-Unread.is

pub returns-in-Read-clause-after : goal.returns-in-Read-clause-after
returns-in-Read-clause-after g c =
    let d = as_details g.R.Reader.section c.self.inside.details in
    let fs = c.self.inside.functions.items in
    let f = c.in-Some.function.now in
    let e : slice_get c.deref.result.now c.args.place ≡ Some f = search (rules, gets) in
    let at = ap (λ (t : FunctionTable). slice_get t.functions c.args.place) (sym c.self.view_is) ∙ some_at d fs c.args.place f (subst (λ xs. slice_get xs c.args.place ≡ Some f) c.deref.ensures.value e) in
    read_again (as_scope c.args.scope) c.args.unit.now c.args.place c.args.self.now (as_function d f) (Ok (detail_of d c.in-Read.field-0)) at (ap (as_lazy d) c.in-Read.is)

pub returns-in-Read-clause-gives : goal.returns-in-Read-clause-gives
returns-in-Read-clause-gives g c =
    let d = as_details g.R.Reader.section c.self.inside.details in
    let fs = c.self.inside.functions.items in
    let f = c.in-Some.function.now in
    let e : slice_get c.deref.result.now c.args.place ≡ Some f = search (rules, gets) in
    let at = ap (λ (t : FunctionTable). slice_get t.functions c.args.place) (sym c.self.view_is) ∙ some_at d fs c.args.place f (subst (λ xs. slice_get xs c.args.place ≡ Some f) c.deref.ensures.value e) in
    fault_again (as_scope c.args.scope) c.args.unit.now c.args.place c.args.self.now (as_function d f) (Ok (detail_of d c.in-Read.field-0)) at (ap (as_lazy d) c.in-Read.is)

pub returns-in-Faulty-clause-after : goal.returns-in-Faulty-clause-after
returns-in-Faulty-clause-after g c =
    let d = as_details g.R.Reader.section c.self.inside.details in
    let fs = c.self.inside.functions.items in
    let f = c.in-Some.function.now in
    let e : slice_get c.deref.result.now c.args.place ≡ Some f = search (rules, gets) in
    let at = ap (λ (t : FunctionTable). slice_get t.functions c.args.place) (sym c.self.view_is) ∙ some_at d fs c.args.place f (subst (λ xs. slice_get xs c.args.place ≡ Some f) c.deref.ensures.value e) in
    read_again (as_scope c.args.scope) c.args.unit.now c.args.place c.args.self.now (as_function d f) (Err c.in-Faulty.error) at (ap (as_lazy d) c.in-Faulty.is)

pub returns-in-Faulty-clause-gives : goal.returns-in-Faulty-clause-gives
returns-in-Faulty-clause-gives g c =
    let d = as_details g.R.Reader.section c.self.inside.details in
    let fs = c.self.inside.functions.items in
    let f = c.in-Some.function.now in
    let e : slice_get c.deref.result.now c.args.place ≡ Some f = search (rules, gets) in
    let at = ap (λ (t : FunctionTable). slice_get t.functions c.args.place) (sym c.self.view_is) ∙ some_at d fs c.args.place f (subst (λ xs. slice_get xs c.args.place ≡ Some f) c.deref.ensures.value e) in
    λ h. fault_again (as_scope c.args.scope) c.args.unit.now c.args.place c.args.self.now (as_function d f) (Err c.in-Faulty.error) at (ap (as_lazy d) c.in-Faulty.is)
