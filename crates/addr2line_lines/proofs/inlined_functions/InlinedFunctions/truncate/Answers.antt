use Rattle.addr2line_lines.proofs.Common.{map, take, ap, sym, ◌∙◌, take-map}
use Rattle.addr2line_lines.specs.StoredInlined.{StoredInlined, entries_of_calls, stored_name}
use Rattle.addr2line_lines.proofs.StoredInlinedLemmas.{first_entries}
use Rattle.addr2line_lines.proofs.inlined_functions.InlinedFunctions.truncate.Goals as goal

pub returns-clause-gives : goal.returns-clause-gives
returns-clause-gives g c =
    let see = stored_name g.R.Reader.section in
    let names = c.self.inside.names.items in
    let calls = c.truncate-2.new.self.elements in
    ap (λ xs. entries_of_calls xs calls) (ap (map see) c.truncate.ensures.items ∙ sym (take-map see c.args.len names))
    ∙ ap (entries_of_calls (take c.args.len (map see names))) c.truncate-2.ensures.gives
    ∙ first_entries c.args.len (map see names) c.self.inside.calls.elements
    ∙ ap (λ (v : StoredInlined). take c.args.len v.entries) c.self.view_is
