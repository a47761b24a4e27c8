use Rattle.addr2line_lines.proofs.Common.{◌≡◌, ◌<◌, List, [], Ok, IfOk, length, map, ap, sym, subst, ◌∙◌, AllByRecursion, ExactlyUnlessOomIf, InlinedRange, entry_among, read_at, FunctionTable, cached_inlined, as_details}
use Rattle.addr2line_lines.specs.InlinedChain.{inlined_chain}
use Rattle.addr2line_lines.specs.InlineRoom.{exceeds_inline_room}
use Rattle.addr2line_lines.proofs.CachedPlaces.{inlined_cached, none_read, place_cached, read_is}
use Rattle.addr2line_lines.proofs.functions.Functions.find_inlined_functions.Goals as goal

pub find_inlined_functions-requires : goal.find_inlined_functions-requires
find_inlined_functions-requires g c =
    let fs = c.self.inside.functions.items in
    let d = as_details g.R.Reader.section c.self.inside.details in
    let at = ap (λ fs. read_at fs c.args.place) (sym c.deref.ensures.value) ∙ sym (rw c.in-Some.is at c.read_detail_of.ensures.gives) in
    record { place = place_cached d fs c.args.place c.in-Some.detail.now c.self.invariant.runs.places at }

pub returns-in-Some-clause-gives : goal.returns-in-Some-clause-gives
returns-in-Some-clause-gives g c =
    let fs = c.self.inside.functions.items in
    let d = as_details g.R.Reader.section c.self.inside.details in
    let at = ap (λ fs. read_at fs c.args.place) (sym c.deref.ensures.value) ∙ sym (rw c.in-Some.is at c.read_detail_of.ensures.gives) in
    let probe = c.args.probe in
    let result = c.find_inlined_functions.result in
    subst (λ (t : FunctionTable). ExactlyUnlessOomIf (exceeds_inline_room (inlined_chain probe (cached_inlined t c.args.place))) (λ chain. map (entry_among t.inlined) chain.items) result (Ok (inlined_chain probe (cached_inlined t c.args.place)))) c.self.view_is
    (subst (λ (xs : List InlinedRange). ExactlyUnlessOomIf (exceeds_inline_room (inlined_chain probe xs)) (λ chain. map (entry_among d.found.entries) chain.items) result (Ok (inlined_chain probe xs)))
    (sym (ap inlined_cached (read_is d fs c.args.place c.in-Some.detail.now at))) c.find_inlined_functions.ensures.gives)

pub returns-in-Some-clause-within : goal.returns-in-Some-clause-within
returns-in-Some-clause-within g c =
    subst (λ (t : FunctionTable). IfOk c.find_inlined_functions.result (λ chain. AllByRecursion (λ n. n < length t.inlined) chain.items)) c.self.view_is c.find_inlined_functions.ensures.within

pub returns-in-None-clause-gives : goal.returns-in-None-clause-gives
returns-in-None-clause-gives g c =
    let fs = c.self.inside.functions.items in
    let d = as_details g.R.Reader.section c.self.inside.details in
    let at = ap (λ fs. read_at fs c.args.place) (sym c.deref.ensures.value) ∙ sym (rw c.in-None.is at c.read_detail_of.ensures.gives) in
    let none : cached_inlined c.args.self.now c.args.place ≡ [] = sym (ap (λ t. cached_inlined t c.args.place) c.self.view_is) ∙ (none_read d fs c.args.place at).1 in
    ap (λ xs. Ok (inlined_chain c.args.probe xs)) none ∙ ap (λ xs. Ok (map (entry_among c.args.self.now.inlined) xs)) (sym c.new.ensures.items)
