use Rattle.addr2line_lines.proofs.Common.{sym, ap, err_from_is_err_and, or_left, or_right}
use Rattle.addr2line_lines.proofs.RangeLemmas.{on_ok}
use Rattle.addr2line_lines.proofs.FunctionLemmas.{beside_if, closing_found, closing_shorter, code_fault, entry_shorter, function_fault, function_found, function_takes, skipped_shorter}
use Rattle.addr2line_lines.proofs.FoundRanges.{function_subprogram, no_function_found}
use Rattle.addr2line_lines.proofs.functions.read_item.Goals as goal

pub returns-in_err-read_abbreviation-clause-gives : goal.returns-in_err-read_abbreviation-clause-gives
returns-in_err-read_abbreviation-clause-gives g c =
    let p = err_from_is_err_and c.from_residual.result c.from_residual.ensures.1 in
    rw (p.1, p.2) (λ _. code_fault _ _ _ _ _ _ c.requires.some c.in_err-read_abbreviation.ensures.gives)

pub returns-in_err-attributes-in-Some-clause-gives : goal.returns-in_err-attributes-in-Some-clause-gives
returns-in_err-attributes-in-Some-clause-gives g c =
    let p = err_from_is_err_and c.from_residual-in_err-attributes-in-Some.result c.from_residual-in_err-attributes-in-Some.ensures.1 in
    let code = rw c.in-Some.is at c.in_ok-read_abbreviation.ensures.gives in
    let fault = rw c.attributes.ensures.gives at c.in_err-attributes-in-Some.ensures.gives in
    rw (p.1, p.2) (λ ne. function_fault _ _ _ _ _ _ _ _ _ c.requires.some code (sym c.requires.encoding) (function_subprogram c.in-Some.abbreviation.now (sym c.if-is_function.ensures.gives)) (fault (λ shares. ne (or_left _ _ shares))))

pub returns-in-None-clause-gives : goal.returns-in-None-clause-gives
returns-in-None-clause-gives g c = closing_found _ _ _ _ _ _ c.requires.some (rw c.in-None.is at c.in_ok-read_abbreviation.ensures.gives)

pub returns-in-None-clause-shorter : goal.returns-in-None-clause-shorter
returns-in-None-clause-shorter g c = closing_shorter c.args.unit.dwarf.now c.args.unit.unit.now c.args.entries.now.unit _ _ (rw c.in-None.is at c.in_ok-read_abbreviation.ensures.gives)

pub returns-in_ok-attributes-in-Some-clause-gives : goal.returns-in_ok-attributes-in-Some-clause-gives
returns-in_ok-attributes-in-Some-clause-gives g c =
    let code = rw c.in-Some.is at c.in_ok-read_abbreviation.ensures.gives in
    let gives = rw c.attributes.ensures.gives at c.in_ok-attributes-in-Some.ensures.gives in
    let left = rw c.attributes.ensures.gives at c.in_ok-attributes-in-Some.ensures.left in
    beside_if _ _ c.add.result _ _ _ _
    (λ well. or_right g.R.Reader.shares _ (function_takes c.args.unit.dwarf.now c.args.unit.unit.now c.args.entries.now.unit _ _ _ _ _ c.requires.some code (sym c.requires.encoding) (function_subprogram c.in-Some.abbreviation.now (sym c.if-is_function.ensures.gives)) gives well))
    (function_found _ _ _ _ _ _ _ _ _ _ _ c.requires.some code (sym c.requires.encoding) (function_subprogram c.in-Some.abbreviation.now (sym c.if-is_function.ensures.gives)) gives left c.in_ok-attributes-in-Some.ensures.depth c.next_offset-offset.ensures.gives)
    c.add.ensures.gives

pub returns-in_ok-attributes-in-Some-clause-shorter : goal.returns-in_ok-attributes-in-Some-clause-shorter
returns-in_ok-attributes-in-Some-clause-shorter g c =
    let code = rw c.in-Some.is at c.in_ok-read_abbreviation.ensures.gives in
    let left = rw c.attributes.ensures.gives at c.in_ok-attributes-in-Some.ensures.left in
    on_ok _ c.add.result (entry_shorter c.args.unit.dwarf.now c.args.unit.unit.now c.args.entries.now.unit _ _ _ _ _ code left)

pub returns-else-is_function-clause-gives : goal.returns-else-is_function-clause-gives
returns-else-is_function-clause-gives g c =
    let code = rw c.in-Some.is at c.in_ok-read_abbreviation.ensures.gives in
    no_function_found _ _ _ _ _ _ _ _ _ _ c.skip_attributes_of.result c.requires.some code (ap (λ v. v.encoding) c.read_abbreviation.ensures.unit) (sym c.if-is_function.ensures.gives) c.skip_attributes_of.ensures.depth c.skip_attributes_of.ensures.gives

pub returns-else-is_function-clause-shorter : goal.returns-else-is_function-clause-shorter
returns-else-is_function-clause-shorter g c =
    let code = rw c.in-Some.is at c.in_ok-read_abbreviation.ensures.gives in
    skipped_shorter c.args.unit.dwarf.now c.args.unit.unit.now c.args.entries.now.unit _ _ c.skip_attributes_of.new.self.cursor _ _ c.skip_attributes_of.result code c.skip_attributes_of.ensures.gives
