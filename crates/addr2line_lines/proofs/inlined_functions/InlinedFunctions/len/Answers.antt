use Rattle.addr2line_lines.proofs.Common.{length, map, ap, sym, ◌∙◌, length-map}
use Rattle.addr2line_lines.specs.StoredInlined.{StoredInlined, stored_name}
use Rattle.addr2line_lines.proofs.StoredInlinedLemmas.{entries_count}
use Rattle.addr2line_lines.proofs.inlined_functions.InlinedFunctions.len.Goals as goal

pub returns : goal.returns
returns g c =
    let names = c.self.inside.names in
    let long = length-map names.items (stored_name g.R.Reader.section) in
    let count = entries_count (map (stored_name g.R.Reader.section) names.items) c.self.inside.calls.elements (long ∙ c.self.invariant) in
    record { gives = c.len.ensures ∙ names.ok.0 ∙ sym (count ∙ long) ∙ ap (λ (v : StoredInlined). length v.entries) c.self.view_is }
