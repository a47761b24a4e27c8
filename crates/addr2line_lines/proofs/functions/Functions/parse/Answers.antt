use Rattle.addr2line_lines.proofs.Common.{nat_lt, map, Ok, refl, ap, subst, ◌∙◌, length-map, err_from_is_err_and, LazyFunction, entries_of, functions_of, AreFunctions, function_range_of, as_functions, as_function, CachedFunction, CachedDetails, as_details, as_scope}
use Rattle.addr2line_lines.proofs.FunctionCacheLemmas.{runs_unread, functions_unread}
use Rattle.addr2line_lines.proofs.FunctionMemory.{functions_take}
use Rattle.addr2line_lines.proofs.FunctionOrder.{AgreesFound, are_functions, functions_agree}
use Rattle.addr2line_lines.proofs.ListedFunctions.{offsets_seen}
use Rattle.addr2line_lines.proofs.functions.Functions.parse.Goals as goal
use Rattle.addr2line_lines.proofs.Facts.{ok_is}

pub returns-in_err-functions : goal.returns-in_err-functions
returns-in_err-functions g c =
    let p = err_from_is_err_and c.from_residual.result c.from_residual.ensures.1 in
    let d = (as_scope c.args.scope).file.sections in
    let u = c.args.unit.now in
    record {
      gives = rw (p.1, p.2) (λ ne. subst (AgreesFound (functions_of d u)) ((rw (c.new.ensures.dwarf, c.new.ensures.unit) at c.in_err-functions.ensures.gives) ne) (functions_agree d u).given);
      empty = rw p.1 tt;
      functions = rw p.1 tt;
      names = rw p.1 tt;
    }

pub returns-in_err-addresses-clause-gives : goal.returns-in_err-addresses-clause-gives
returns-in_err-addresses-clause-gives g c =
    let p = err_from_is_err_and c.from_residual-in_err-addresses.result c.from_residual-in_err-addresses.ensures.1 in
    let d = (as_scope c.args.scope).file.sections in
    let u = c.args.unit.now in
    let found = as_functions c.in_ok-functions.field-0 in
    let read = rw (c.new.ensures.dwarf, c.new.ensures.unit) at c.in_ok-functions.ensures.gives in
    let a = subst (AgreesFound (functions_of d u)) read (functions_agree d u).given in
    rw (p.1, p.2) (λ ne. (let no = c.in_err-addresses.ensures.gives (λ some. ne (functions_take d u g.R.Reader.shares _ a.0 (ap (nat_lt 0) (length-map found.addresses (function_range_of found.offsets)) ∙ some))) in absurd cc))

pub invariant_of-result : goal.invariant_of-result
invariant_of-result g c =
    let found = as_functions c.in_ok-functions.field-0 in
    let read = rw (c.new.ensures.dwarf, c.new.ensures.unit) at c.in_ok-functions.ensures.gives in
    let listed = ok_is _ _ c.in_ok-addresses.ensures.gives in
    record {
      in_order = subst (AreFunctions found.offsets) listed (are_functions (as_scope c.args.scope).file.sections c.args.unit.now found read);
      runs = runs_unread _ _ _ c.in_ok-functions.ensures.empty c.new-3.ensures.gives;
    }

pub returns : goal.returns
returns g c =
    let d = (as_scope c.args.scope).file.sections in
    let u = c.args.unit.now in
    let found = as_functions c.in_ok-functions.field-0 in
    let read = rw (c.new.ensures.dwarf, c.new.ensures.unit) at c.in_ok-functions.ensures.gives in
    let listed = ok_is _ _ c.in_ok-addresses.ensures.gives in
    let a = subst (AgreesFound (functions_of d u)) read (functions_agree d u).given in
    record {
      gives = a.0 ∙ ap (λ xs. Ok (map (function_range_of found.offsets) xs)) listed;
      empty = functions_unread (as_details g.R.Reader.section c.new-3.result) _ c.in_ok-functions.ensures.empty;
      functions = offsets_seen (λ (f : LazyFunction). f.dw_die_offset) (as_function (as_details g.R.Reader.section c.new-3.result)) (λ (f : CachedFunction). f.offset) (λ x. refl) c.in_ok-functions.field-0.functions.items
          ∙ (are_functions d u found read).listed
          ∙ ap (λ xs. entries_of (map (function_range_of found.offsets) xs)) listed;
      names = ap (λ (d : CachedDetails). d.known) c.new-3.ensures.gives;
    }
