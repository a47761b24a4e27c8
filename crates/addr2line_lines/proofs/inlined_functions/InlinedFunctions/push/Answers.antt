use Rattle.addr2line_lines.proofs.Common.{[], ◌∷◌, ◌++◌, map, ap, ◌∙◌, length-map, map-append}
use Rattle.addr2line_lines.specs.StoredInlined.{StoredInlined, entries_of_calls, entry_of_call, stored_name}
use Rattle.addr2line_lines.proofs.StoredInlinedLemmas.{one_entry_more}
use Rattle.addr2line_lines.proofs.inlined_functions.InlinedFunctions.push.Goals as goal

pub returns-in-Ok-clause-gives : goal.returns-in-Ok-clause-gives
returns-in-Ok-clause-gives g c =
    let see = stored_name g.R.Reader.section in
    let names = c.self.inside.names.items in
    let calls = c.self.inside.calls.elements in
    let more = c.push-2.new.self.elements in
    ap (λ xs. entries_of_calls xs more) (ap (map see) c.in_ok-push.ensures.items ∙ map-append see names (c.args.name ∷ []))
    ∙ ap (entries_of_calls (map see names ++ see c.args.name ∷ [])) c.in-Ok.ensures.gives
    ∙ one_entry_more (map see names) calls (see c.args.name) c.args.call (length-map names see ∙ c.self.invariant)
    ∙ ap (λ (v : StoredInlined). v.entries ++ entry_of_call (see c.args.name) c.args.call ∷ []) c.self.view_is
