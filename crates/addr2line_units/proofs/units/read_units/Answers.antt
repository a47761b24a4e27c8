use Rattle.addr2line_units.proofs.Common.{Ok, Err, OutOfMemory, ◌≢◌, true, ap, rules, subst, sym, ◌∙◌, ◌≡◌, err_from_is_err_and, free, all_headers, stored_units_of, unit_of_header_at_cost, or_left, put_to}
use Rattle.gimli_read.specs.Costed.{◌>>=◌}
use Rattle.gimli_read.specs.Reading as reading
use Rattle.addr2line_units.specs.UnitsIndexed.{IndexState, appended, index_of, indexed_with}
use Rattle.addr2line_units.proofs.UnitsMemoryLemmas.{IsRestOf, fault_of_rest, made_takes, rest_of_rest, shared_take, unit_fault, unit_step, units_given}
use Rattle.addr2line_units.proofs.UnitsIndexLemmas.{appended_more, appended_none, given_fault, given_none, given_some, header_sections, shorter}
use Rattle.addr2line_units.proofs.units.read_units.Goals as goal

pub returns-in_err-headers : goal.returns-in_err-headers
returns-in_err-headers g c =
    let p = err_from_is_err_and c.from_residual.result c.from_residual.ensures.1 in
    let d = c.args.dwarf.now in
    let read = unit_of_header_at_cost d c.args.aranges.now in
    record { gives = rw (p.1, p.2) (λ may. absurd (let no = c.in_err-headers.ensures.gives (λ e _. may (or_left _ _ (shared_take g.R.Reader.shares read (all_headers d.debug_info) e))) in cc)) }

pub loop-index-init : goal.loop-index-init
loop-index-init g c =
    let d = c.args.dwarf.now in
    let aranges = c.args.aranges.now in
    let all : c.in_ok-headers.headers ≡ all_headers d.debug_info = search rules in
    record {
      left = subst (λ (m : IndexState). IsRestOf g.R.Reader.shares (stored_units_of (unit_of_header_at_cost d aranges) c.in_ok-headers.headers >>= λ units. free (Ok (appended m units))) (indexed_with d aranges))
          (sym c.new-index.ensures.gives) (rw all (record {
            gives = ap (λ r. reading.◌>>=◌ r (λ units. Ok (index_of d units))) (units_given (unit_of_header_at_cost d aranges) (all_headers d.debug_info));
            takes = λ t. or_left _ _ (made_takes _ _ t);
          }));
      same = search rules;
      sections = ap (λ (m : IndexState). m.sections) c.new-index.ensures.gives;
    }

pub loop-index-smaller : goal.loop-index-smaller
loop-index-smaller g c =
    let left = given_some _ _ _ (rw c.in-Some.is at c.in_ok-header.ensures.gives) in
    shorter _ _ _ left

pub take-requires : goal.take-requires
take-requires g c = record { same = c.loop-index.invariant.same ∙ sym c.loop-index.invariant.sections }

pub loop-index-preserved : goal.loop-index-preserved
loop-index-preserved g c =
    let i = c.loop-index.invariant in
    let d = c.args.dwarf.now in
    let m = c.loop-index.index in
    let left = given_some _ _ _ (rw c.in-Some.is at c.in_ok-header.ensures.gives) in
    let taken = subst (λ s. (put_to appended m (unit_of_header_at_cost s c.args.aranges.now c.in-Some.header)).given ≡ Ok c.in_ok-index.index) i.sections c.in_ok-index.ensures.gives in
    record {
      left = rest_of_rest (unit_step g.R.Reader.shares (unit_of_header_at_cost d c.args.aranges.now) appended m _ _ _ left _ (appended_more m) taken) i.left;
      same = c.in_ok-index.ensures.dwarf ∙ i.sections;
      sections = header_sections m (unit_of_header_at_cost d c.args.aranges.now c.in-Some.header) _ taken ∙ i.sections;
    }

pub returns-in_err-index : goal.returns-in_err-index
returns-in_err-index g c =
    let p = err_from_is_err_and c.from_residual-in_err-index.result c.from_residual-in_err-index.ensures.1 in
    let i = c.loop-index.invariant in
    let d = c.args.dwarf.now in
    let left = given_some _ _ _ (rw c.in-Some.is at c.in_ok-header.ensures.gives) in
    let e = c.in_err-index.field-0.0 in
    let told = subst (λ s. let one = put_to appended c.loop-index.index (unit_of_header_at_cost s c.args.aranges.now c.in-Some.header) in (one.takes_memory g.R.Reader.shares ≡ true → e ≢ OutOfMemory) → one.given ≡ Err e) i.sections c.in_err-index.ensures.gives in
    record { gives = rw (p.1, p.2) (fault_of_rest g.R.Reader.shares _ _ _ i.left (unit_fault g.R.Reader.shares (unit_of_header_at_cost d c.args.aranges.now) appended c.loop-index.index _ _ _ left _ told)) }

pub returns-in_err-header : goal.returns-in_err-header
returns-in_err-header g c =
    let p = err_from_is_err_and c.from_residual-in_err-header.result c.from_residual-in_err-header.ensures.1 in
    let d = c.args.dwarf.now in
    let read = unit_of_header_at_cost d c.args.aranges.now in
    record {
      gives = rw (p.1, p.2) (λ may.
          let left = given_fault _ _ (c.in_err-header.ensures.gives (λ e _. may (or_left _ _ (shared_take g.R.Reader.shares read (all_headers d.debug_info) e)))) in
          sym c.loop-index.invariant.left.gives ∙ ap (λ headers. (stored_units_of read headers >>= λ units. free (Ok (appended c.loop-index.index units))).given) left);
    }

pub returns : goal.returns
returns g c =
    let d = c.args.dwarf.now in
    let m = c.loop-index.index in
    let left = given_none _ _ (rw c.in_default.is at c.in_ok-header.ensures.gives) in
    record {
      gives = sym c.loop-index.invariant.left.gives
          ∙ ap (λ headers. (stored_units_of (unit_of_header_at_cost d c.args.aranges.now) headers >>= λ units. free (Ok (appended m units))).given) left
          ∙ ap (λ n. Ok n) (appended_none m);
    }
