use Rattle.addr2line_lines.proofs.Common.{◌&&◌, ℤ, List, Ok, Result, false, is_ok, subst, sym, ap, ◌∙◌, err_from_is_err_and, ◌>>=◌, Section, EntryCursor, Kind, as_scope, FoundInlined, as_lists, or_right, offset_of}
use Rattle.gimli_read.specs.declared.error.Error.{Error as Fault}
use Rattle.addr2line_lines.specs.CostedSteps.{then_room_if}
use Rattle.addr2line_lines.specs.FoundItems.{FoundAround, entry_found_at, item_found_at, as_around}
use Rattle.addr2line_lines.specs.OpenEntries.{kind_of, opened}
use Rattle.addr2line_lines.proofs.CachedNameLemmas.{names_same}
use Rattle.addr2line_lines.proofs.CostLemmas.{IsPartOf, map_part, part_on, refused_part, rest_part, room_part}
use Rattle.addr2line_lines.proofs.NestingLemmas.{after_entry, code-fault, entered, entry-shorter, found_same, item-closing, item-entry}
use Rattle.addr2line_lines.proofs.RangeLemmas.{on_ok}
use Rattle.addr2line_lines.proofs.detail.read_item.Goals as goal
use Rattle.addr2line_lines.proofs.FunctionLemmas.{closing_shorter}

pub returns-in_err-read_abbreviation-clause-gives : goal.returns-in_err-read_abbreviation-clause-gives
returns-in_err-read_abbreviation-clause-gives g c =
    let p = err_from_is_err_and c.from_residual.result c.from_residual.ensures.1 in
    let scope = as_scope c.args.scope in
    let state = as_around c.args.found.now c.args.nesting.now in
    rw (p.1, p.2) (λ _. code-fault scope c.args.unit.now c.args.entries.now.unit c.args.entries.now.cursor state _ c.in_err-read_abbreviation.ensures.gives)

pub returns-in_err-read_entry-in-Some-clause-gives : goal.returns-in_err-read_entry-in-Some-clause-gives
returns-in_err-read_entry-in-Some-clause-gives g c =
    let p = err_from_is_err_and c.from_residual-in_err-read_entry-in-Some.result c.from_residual-in_err-read_entry-in-Some.ensures.1 in
    let scope = as_scope c.args.scope in
    let u = c.args.unit.now in
    let unit = c.args.entries.now.unit in
    let start = c.args.entries.now.cursor in
    let lists = as_lists c.args.found.now in
    let around = c.args.nesting.now in
    let state = as_around c.args.found.now around in
    let a = c.in-Some.abbreviation.now in
    let t = c.read_abbreviation.new.self.cursor in
    let code = rw c.in-Some.is at c.in_ok-read_abbreviation.ensures.gives in
    let rest = item-entry scope u unit start t state a (sym c.requires.encoding) code in
    let entry = entry_found_at scope u around (offset_of unit start.left) a t.left lists in
    let part = part_on (room_part a.has_children entry) (part_on (map_part (after_entry scope u unit state a t) (then_room_if a.has_children entry)) (rest_part rest)) in
    rw (p.1, p.2) (refused_part g.R.Reader.shares _ (subst (λ o. IsPartOf (entry_found_at scope u around o a t.left lists) (item_found_at scope u unit start state)) (sym c.next_offset-offset.ensures.gives) part) c.in_err-read_entry-in-Some.ensures.gives)

pub returns-in-None-clause-gives : goal.returns-in-None-clause-gives
returns-in-None-clause-gives g c =
    let scope = as_scope c.args.scope in
    let u = c.args.unit.now in
    let unit = c.args.entries.now.unit in
    let start = c.args.entries.now.cursor in
    let lists = as_lists c.args.found.now in
    let around = c.args.nesting.now in
    let state = as_around c.args.found.now around in
    let t = c.read_abbreviation.new.self.cursor in
    let made : List Kind → FoundAround × EntryCursor = λ k. (record { found = lists; around = k }, t) in
    item-closing scope u unit start t state (rw c.in-None.is at c.in_ok-read_abbreviation.ensures.gives) ∙ ap (λ k. Ok (made k)) (sym c.close.ensures.gives)

pub returns-in-None-clause-shorter : goal.returns-in-None-clause-shorter
returns-in-None-clause-shorter g c = closing_shorter (as_scope c.args.scope).file.sections c.args.unit.now c.args.entries.now.unit _ _ (rw c.in-None.is at c.in_ok-read_abbreviation.ensures.gives)

pub returns-in_ok-read_entry-in-Some-clause-gives : goal.returns-in_ok-read_entry-in-Some-clause-gives
returns-in_ok-read_entry-in-Some-clause-gives g c =
    let scope = as_scope c.args.scope in
    let u = c.args.unit.now in
    let unit = c.args.entries.now.unit in
    let start = c.args.entries.now.cursor in
    let lists = as_lists c.args.found.now in
    let around = c.args.nesting.now in
    let state = as_around c.args.found.now around in
    let a = c.in-Some.abbreviation.now in
    let t = c.read_abbreviation.new.self.cursor in
    let code = rw c.in-Some.is at c.in_ok-read_abbreviation.ensures.gives in
    let rest = item-entry scope u unit start t state a (sym c.requires.encoding) code in
    let more = as_lists c.read_entry.new.found in
    let end = c.read_entry.new.entries.cursor in
    let at : List Kind → ℤ → FoundAround × EntryCursor = λ k z. (record { found = more; around = k }, record { left = end.left; depth = z }) in
    let made : List Kind → FoundAround × EntryCursor = λ k. (record { found = more; around = k }, end) in
    let entry = entry_found_at scope u around (offset_of unit start.left) a t.left lists in
    let found = ap (λ o. (entry_found_at scope u around o a t.left lists).given) (sym c.next_offset-offset.ensures.gives) ∙ c.in_ok-read_entry-in-Some.ensures.gives in
    entered _ c.has_children.result c.enter.result made c.enter.new.self (opened c.kind_of.result c.has_children.result around) _
    (λ opens. or_right g.R.Reader.shares _ (rest.takes false (or_right (entry.takes_memory false) _ (ap (λ r. is_ok r && a.has_children) found ∙ sym c.has_children.ensures.gives ∙ opens))))
    (rest.given ∙ ap (λ (r : Result (FoundInlined × Section) Fault). r >>= λ m. Ok (after_entry scope u unit state a t m)) found
    ∙ ap (λ z. Ok (at (opened (kind_of a) a.has_children around) z)) (sym c.in_ok-read_entry-in-Some.ensures.depth)
    ∙ ap (λ k. Ok (made (opened k a.has_children around))) (sym c.kind_of.ensures.gives)
    ∙ ap (λ b. Ok (made (opened c.kind_of.result b around))) (sym c.has_children.ensures.gives))
    c.enter.ensures.gives c.enter.ensures.memory

pub returns-in_ok-read_entry-in-Some-clause-shorter : goal.returns-in_ok-read_entry-in-Some-clause-shorter
returns-in_ok-read_entry-in-Some-clause-shorter g c =
    let scope = as_scope c.args.scope in
    let u = c.args.unit.now in
    let unit = c.args.entries.now.unit in
    let start = c.args.entries.now.cursor in
    let lists = as_lists c.args.found.now in
    let around = c.args.nesting.now in
    let state = as_around c.args.found.now around in
    let a = c.in-Some.abbreviation.now in
    let t = c.read_abbreviation.new.self.cursor in
    let code = rw c.in-Some.is at c.in_ok-read_abbreviation.ensures.gives in
    on_ok _ c.enter.result (entry-shorter scope u unit start t a _ around c.next_offset-offset.result.0 lists _ code c.in_ok-read_entry-in-Some.ensures.gives)

pub returns-in_err-read_abbreviation-clause-kept : goal.returns-in_err-read_abbreviation-clause-kept
returns-in_err-read_abbreviation-clause-kept g c = found_same _

pub returns-in_err-read_abbreviation-clause-unit : goal.returns-in_err-read_abbreviation-clause-unit
returns-in_err-read_abbreviation-clause-unit g c = c.in_err-read_abbreviation.ensures.unit

pub returns-in_err-read_abbreviation-clause-shorter : goal.returns-in_err-read_abbreviation-clause-shorter
returns-in_err-read_abbreviation-clause-shorter g c = let p = err_from_is_err_and c.from_residual.result c.from_residual.ensures.1 in rw p.1 tt

pub returns-in_err-read_entry-in-Some-clause-kept : goal.returns-in_err-read_entry-in-Some-clause-kept
returns-in_err-read_entry-in-Some-clause-kept g c = c.in_err-read_entry-in-Some.ensures.kept

pub returns-in_err-read_entry-in-Some-clause-unit : goal.returns-in_err-read_entry-in-Some-clause-unit
returns-in_err-read_entry-in-Some-clause-unit g c = c.in_err-read_entry-in-Some.ensures.unit ∙ c.in_ok-read_abbreviation.ensures.unit

pub returns-in_err-read_entry-in-Some-clause-shorter : goal.returns-in_err-read_entry-in-Some-clause-shorter
returns-in_err-read_entry-in-Some-clause-shorter g c = let p = err_from_is_err_and c.from_residual-in_err-read_entry-in-Some.result c.from_residual-in_err-read_entry-in-Some.ensures.1 in rw p.1 tt

pub returns-in-None-clause-kept : goal.returns-in-None-clause-kept
returns-in-None-clause-kept g c = found_same _

pub returns-in-None-clause-unit : goal.returns-in-None-clause-unit
returns-in-None-clause-unit g c = c.in_ok-read_abbreviation.ensures.unit

pub returns-in_ok-read_entry-in-Some-clause-kept : goal.returns-in_ok-read_entry-in-Some-clause-kept
returns-in_ok-read_entry-in-Some-clause-kept g c = c.in_ok-read_entry-in-Some.ensures.kept

pub returns-in_ok-read_entry-in-Some-clause-unit : goal.returns-in_ok-read_entry-in-Some-clause-unit
returns-in_ok-read_entry-in-Some-clause-unit g c = c.in_ok-read_entry-in-Some.ensures.unit ∙ c.in_ok-read_abbreviation.ensures.unit

pub returns-in_err-read_abbreviation-clause-names : goal.returns-in_err-read_abbreviation-clause-names
returns-in_err-read_abbreviation-clause-names g c = names_same _

pub returns-in_err-read_entry-in-Some-clause-names : goal.returns-in_err-read_entry-in-Some-clause-names
returns-in_err-read_entry-in-Some-clause-names g c = c.in_err-read_entry-in-Some.ensures.names

pub returns-in-None-clause-names : goal.returns-in-None-clause-names
returns-in-None-clause-names g c = names_same _

pub returns-in_ok-read_entry-in-Some-clause-names : goal.returns-in_ok-read_entry-in-Some-clause-names
returns-in_ok-read_entry-in-Some-clause-names g c = c.in_ok-read_entry-in-Some.ensures.names
