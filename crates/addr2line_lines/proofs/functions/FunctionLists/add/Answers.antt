use Rattle.addr2line_lines.proofs.Common.{arith, refl, ◌≡◌, ◌<◌, ◌≤◌, List, Ok, ap, length, map, subst, sym, ◌∙◌, err_from_is_err_and, length-map, map-append, AllByRecursion, UnitOffset, LazyFunction, FunctionAddress, FoundFunctions, IsUnread, as_functions}
use Rattle.addr2line_lines.proofs.FunctionMemory.{pushed_well}
use Rattle.addr2line_lines.proofs.FunctionLemmas.{none_added, ranges_refused, some_added}
use Rattle.addr2line_lines.proofs.functions.FunctionLists.add.Goals as goal

abbrev found_of : List UnitOffset → List FunctionAddress → FoundFunctions
found_of offsets addresses = record { offsets = offsets; addresses = addresses }

pub returns-in_err-push-clause-gives : goal.returns-in_err-push-clause-gives
returns-in_err-push-clause-gives g c =
    let p = err_from_is_err_and c.from_residual-in_err-push.result c.from_residual-in_err-push.ensures.1 in
    let a = c.len.ensures in
    let b = c.len-before.ensures in
    let l = c.if-len-before.true in
    let m = c.args.self.now.addresses.ok.0 in
    let n = c.push_ranges.new.addresses.ok.0 in
    rw (p.1, p.2) (λ wanted. absurd (wanted (pushed_well c.args.unit.dwarf.now c.args.unit.unit.now c.args.attributes.now c.len-function.result c.args.self.now.addresses.items c.push_ranges.new.addresses.items c.in_ok-push_ranges.ensures.gives (omega arith)) refl))

pub returns-in_err-push_ranges-clause-gives : goal.returns-in_err-push_ranges-clause-gives
returns-in_err-push_ranges-clause-gives g c =
    let p = err_from_is_err_and c.from_residual.result c.from_residual.ensures.1 in
    rw (p.1, p.2) (λ ne. ranges_refused c.args.unit.dwarf.now c.args.unit.unit.now c.args.attributes.now c.args.offset.0 c.len-function.result (as_functions c.args.self.now) _ (c.in_err-push_ranges.ensures.gives ne))

pub returns-in_err-push_ranges-clause-empty : goal.returns-in_err-push_ranges-clause-empty
returns-in_err-push_ranges-clause-empty g c = λ unread. unread

pub returns-in_err-push-clause-empty : goal.returns-in_err-push-clause-empty
returns-in_err-push-clause-empty g c = λ unread. subst (AllByRecursion IsUnread) (sym c.in_err-push.ensures.items) unread

pub returns-in_ok-push-clause-gives : goal.returns-in_ok-push-clause-gives
returns-in_ok-push-clause-gives g c =
    let offset_of = λ (f : LazyFunction). f.dw_die_offset in
    let functions = c.args.self.now.functions in
    let addresses = c.push_ranges.new.addresses.items in
    let place : c.len-function.result ≡ length (map offset_of functions.items) = c.len-function.ensures ∙ functions.ok.0 ∙ sym (length-map functions.items offset_of) in
    let longer : length c.args.self.now.addresses.items < length addresses = (let a = c.len.ensures in let b = c.len-before.ensures in let l = c.if-len-before.true in let m = c.args.self.now.addresses.ok.0 in let n = c.push_ranges.new.addresses.ok.0 in omega arith) in
    some_added c.args.unit.dwarf.now c.args.unit.unit.now c.args.attributes.now c.args.offset.0 c.len-function.result (as_functions c.args.self.now) addresses c.in_ok-push_ranges.ensures.gives longer place
    ∙ ap (λ offsets. Ok (found_of offsets addresses)) (sym (ap (map offset_of) c.in_ok-push.ensures.items ∙ map-append offset_of functions.items _))

pub returns-else-len-before-clause-gives : goal.returns-else-len-before-clause-gives
returns-else-len-before-clause-gives g c =
    let fewer : length c.push_ranges.new.addresses.items ≤ length c.args.self.now.addresses.items = (let a = c.len.ensures in let b = c.len-before.ensures in let f = c.if-len-before.false in let m = c.args.self.now.addresses.ok.0 in let n = c.push_ranges.new.addresses.ok.0 in omega arith) in
    none_added c.args.unit.dwarf.now c.args.unit.unit.now c.args.attributes.now c.args.offset.0 c.len-function.result (as_functions c.args.self.now) c.push_ranges.new.addresses.items c.in_ok-push_ranges.ensures.gives fewer

pub returns-else-len-before-clause-empty : goal.returns-else-len-before-clause-empty
returns-else-len-before-clause-empty g c = λ unread. unread
