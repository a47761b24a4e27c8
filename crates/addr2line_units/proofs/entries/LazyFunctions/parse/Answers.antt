use Rattle.addr2line_units.proofs.Common.{◌∙◌, Ok, ap, refl, subst, sym, false≢true, err_from_is_err_and, AreUnread, FunctionTable, as_scope, IsTableOf}
use Rattle.addr2line_units.proofs.EntriesFunctionLemmas.{read_table}
use Rattle.addr2line_units.proofs.EntriesFunctionMemoryLemmas.{functions_took, no_ranges}
use Rattle.addr2line_units.proofs.entries.LazyFunctions.parse.Goals as goal

pub returns-in_ok-new-in-Some : goal.returns-in_ok-new-in-Some
returns-in_ok-new-in-Some g c =
    let table = read_table (as_scope c.args.scope) c.args.view.now c.in-Ok.functions c.in-Ok.ensures.gives c.in-Ok.ensures.functions c.in-Ok.ensures.empty c.in-Ok.ensures.names in
    record {
      read = record {
        functions = subst (IsTableOf (as_scope c.args.scope) c.args.view.now) (sym c.in_ok-new-in-Some.ensures.ok) table;
        read = refl;
        empty = subst (λ (t : FunctionTable). AreUnread t) (sym c.in_ok-new-in-Some.ensures.ok) c.in-Ok.ensures.empty;
      };
      refused = tt;
    }

pub returns-in-None : goal.returns-in-None
returns-in-None g c =
    let table = read_table (as_scope c.args.scope) c.args.view.now c.in-Ok.functions c.in-Ok.ensures.gives c.in-Ok.ensures.functions c.in-Ok.ensures.empty c.in-Ok.ensures.names in
    record {
      read = record { functions = table.ranges ∙ ap Ok (no_ranges c.in-Ok.functions c.in-Ok.ensures.functions (sym c.in-None.ensures.gives)); read = refl; empty = tt };
      refused = tt;
    }

pub returns-in_err-new-in-Some-clause-refused : goal.returns-in_err-new-in-Some-clause-refused
returns-in_err-new-in-Some-clause-refused g c =
    let p = err_from_is_err_and c.from_residual.result c.from_residual.ensures.1 in
    let table = read_table (as_scope c.args.scope) c.args.view.now c.in-Ok.functions c.in-Ok.ensures.gives c.in-Ok.ensures.functions c.in-Ok.ensures.empty c.in-Ok.ensures.names in
    rw (p.1, p.2) (refl, λ none. absurd (false≢true (sym none ∙ functions_took g.R.Reader.shares (as_scope c.args.scope) c.args.view.now c.in-Ok.functions table _ c.in-Some.ensures.gives)))

pub returns-in_default : goal.returns-in_default
returns-in_default g c = record {
  read = record {
    functions = c.in-Err.ensures.gives (λ _. c.in_default.not-OutOfMemory);
    read = refl;
    empty = tt;
  };
  refused = tt;
}

pub returns-in-OutOfMemory-clause-refused : goal.returns-in-OutOfMemory-clause-refused
returns-in-OutOfMemory-clause-refused g c = (c.in-OutOfMemory.is, λ none. c.in-Err.ensures.gives (λ takes. absurd (false≢true (sym none ∙ takes))))
