use Rattle.addr2line_lines.proofs.Common.{List, take, ap, ◌∙◌, InlinedFunctionAddress, InlinedEntry, FoundInlined}
use Rattle.addr2line_lines.proofs.inlined_lists.InlinedLists.truncate.Goals as goal

pub returns : goal.returns
returns g c =
    let made : List InlinedEntry → List InlinedFunctionAddress → FoundInlined = λ xs ys. record { entries = xs; ranges = ys } in
    record { gives = ap (λ xs. made xs c.truncate-2.new.self.elements) c.truncate.ensures.gives ∙ ap (λ ys. made (take c.args.functions c.args.self.now.functions.entries) ys) c.truncate-2.ensures.gives }
