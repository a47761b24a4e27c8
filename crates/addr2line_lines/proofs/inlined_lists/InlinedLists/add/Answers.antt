use Rattle.addr2line_lines.proofs.Common.{arith, ◌≤◌, ◌++◌, ◌∷◌, length, refl, ◌≡◌, ◌<◌, List, [], Ok, Option, option_map, ap, sym, append-nil, ◌∙◌, nat_tests, err_from_is_err_and, Section, as_lists, FoundInlined, InlinedFunctionAddress, InlinedEntry}
use Rattle.addr2line_lines.specs.FoundAttributes.{as_attributes}
use Rattle.addr2line_lines.proofs.DetailMemory.{pushed_well}
use Rattle.addr2line_lines.proofs.NestingLemmas.{none_added, grown_by, grown_not, ranges_refused, some_added}
use Rattle.addr2line_lines.proofs.inlined_lists.InlinedLists.add.Goals as goal

abbrev found_of : List InlinedEntry → List InlinedFunctionAddress → FoundInlined
found_of entries ranges = record { entries = entries; ranges = ranges }

pub returns-in_err-push-clause-gives : goal.returns-in_err-push-clause-gives
returns-in_err-push-clause-gives g c =
    let p = err_from_is_err_and c.from_residual-in_err-push.result c.from_residual-in_err-push.ensures.1 in
    let a = c.len.ensures.gives in
    let b = c.len-before.ensures.gives in
    let l = c.if-len-before.true in
    rw (p.1, p.2) (λ wanted. absurd (wanted (pushed_well c.args.unit.dwarf.now c.args.unit.unit.now c.args.attributes.ranges c.args.depth c.len-function.result c.args.self.now.ranges.elements c.push_ranges.new.ranges.elements c.in_ok-push_ranges.ensures.gives (omega arith)) refl))

pub returns-in_err-name-clause-gives : goal.returns-in_err-name-clause-gives
returns-in_err-name-clause-gives g c =
    let p = err_from_is_err_and c.from_residual-in_err-name.result c.from_residual-in_err-name.ensures.1 in
    let a = c.len.ensures.gives in
    let b = c.len-before.ensures.gives in
    let l = c.if-len-before.true in
    rw (p.1, p.2) (λ wanted. absurd (let no = c.in_err-name.ensures.gives (wanted (pushed_well c.args.unit.dwarf.now c.args.unit.unit.now c.args.attributes.ranges c.args.depth c.len-function.result c.args.self.now.ranges.elements c.push_ranges.new.ranges.elements c.in_ok-push_ranges.ensures.gives (omega arith))) in cc))

pub returns-in_err-name-clause-kept : goal.returns-in_err-name-clause-kept
returns-in_err-name-clause-kept g c = record { entries = grown_not _; ranges = c.in_ok-push_ranges.ensures.kept }

pub returns-else-len-before-clause-gives : goal.returns-else-len-before-clause-gives
returns-else-len-before-clause-gives g c =
    let found = as_lists c.args.self.now in
    let fewer : length c.push_ranges.new.ranges.elements ≤ length c.args.self.now.ranges.elements = (let a = c.len.ensures.gives in let b = c.len-before.ensures.gives in let f = c.if-len-before.false in grind (arith, nat_tests)) in
    none_added c.args.unit.dwarf.now c.args.unit.unit.now c.args.offset.0 c.args.depth c.len-function.result found (as_attributes g.R.Reader.section c.args.attributes) _ c.in_ok-push_ranges.ensures.gives fewer

pub returns-in_err-push_ranges-clause-gives : goal.returns-in_err-push_ranges-clause-gives
returns-in_err-push_ranges-clause-gives g c =
    let p = err_from_is_err_and c.from_residual.result c.from_residual.ensures.1 in
    rw (p.1, p.2) (λ ne. ranges_refused c.args.unit.dwarf.now c.args.unit.unit.now c.args.offset.0 c.args.depth c.len-function.result (as_lists c.args.self.now) (as_attributes g.R.Reader.section c.args.attributes) _ (c.in_err-push_ranges.ensures.gives ne))

pub returns-in_err-push_ranges-clause-kept : goal.returns-in_err-push_ranges-clause-kept
returns-in_err-push_ranges-clause-kept g c = record { entries = grown_not _; ranges = c.in_err-push_ranges.ensures.kept }

pub returns-in_err-push-clause-kept : goal.returns-in_err-push-clause-kept
returns-in_err-push-clause-kept g c = record { entries = grown_by _ _ [] (c.in_err-push.ensures.refused.0 ∙ sym (append-nil _)); ranges = c.in_ok-push_ranges.ensures.kept }

pub returns-in_ok-push-clause-gives : goal.returns-in_ok-push-clause-gives
returns-in_ok-push-clause-gives g c =
    let functions = c.args.self.now.functions in
    let ranges = c.push_ranges.new.ranges.elements in
    let place : c.len-function.result ≡ length functions.entries = c.len-function.ensures.gives in
    let longer : length c.args.self.now.ranges.elements < length ranges = (let a = c.len.ensures.gives in let b = c.len-before.ensures.gives in let l = c.if-len-before.true in omega arith) in
    let x = as_attributes g.R.Reader.section c.args.attributes in
    let named : x.name ≡ option_map g.R.Reader.section c.in_ok-name.name.value = (let e = c.in_ok-name.ensures.gives in cc) in
    let entry : Option Section → InlinedEntry = λ name. record { offset = c.args.offset.0; name = name; call = x.call } in
    some_added c.args.unit.dwarf.now c.args.unit.unit.now c.args.offset.0 c.args.depth c.len-function.result (as_lists c.args.self.now) x ranges c.in_ok-push_ranges.ensures.gives longer place
    ∙ ap (λ name. Ok (found_of (functions.entries ++ entry name ∷ []) ranges)) named
    ∙ ap (λ entries. Ok (found_of entries ranges)) (sym c.in_ok-push.ensures.gives)

pub returns-in_ok-push-clause-kept : goal.returns-in_ok-push-clause-kept
returns-in_ok-push-clause-kept g c = record { entries = grown_by _ _ _ c.in_ok-push.ensures.gives; ranges = c.in_ok-push_ranges.ensures.kept }

pub returns-else-len-before-clause-kept : goal.returns-else-len-before-clause-kept
returns-else-len-before-clause-kept g c = record { entries = grown_not _; ranges = c.in_ok-push_ranges.ensures.kept }
