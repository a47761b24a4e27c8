use Rattle.addr2line_lines.proofs.Common.{◌≡◌, ◌<◌, ℕ, List, Option, Some, None, IfSome, length, option_and_then, ap, sym, subst, ◌∙◌, LazyFunction, FunctionAddress, function_offset_at, AreFunctions, function_offsets, FunctionTable, function_place_at, cached_offset_at, CachedDetails, as_details, shortest_function_at}
use Rattle.addr2line_lines.proofs.CachedPlaces.{entry_found, place_is, place_seen}
use Rattle.addr2line_lines.proofs.FunctionCacheLemmas.{table_of}
use Rattle.addr2line_lines.proofs.functions.Functions.find.Goals as goal

there : (d : CachedDetails) (fs : List LazyFunction) (addresses : List FunctionAddress) (probe : ℕ) (found : Option ℕ) → AreFunctions (function_offsets fs) addresses → found ≡ shortest_function_at probe addresses → IfSome found (λ n. n < length (table_of fs addresses d).functions)
there d fs addresses probe None h e = tt
there d fs addresses probe (Some n) h e = place_seen d fs addresses probe n h (sym e)

pub returns-clause-found : goal.returns-clause-found
returns-clause-found g c =
    let probe = c.args.probe in
    let fs = c.self.inside.functions.items in
    let addresses = c.self.inside.addresses in
    let d = as_details g.R.Reader.section c.self.inside.details in
    subst (λ (t : FunctionTable). option_and_then (cached_offset_at t) c.find.result ≡ function_offset_at probe t.ranges) c.self.view_is
    (ap (option_and_then (cached_offset_at (table_of fs addresses d))) c.find.ensures.found ∙ entry_found d fs addresses probe c.self.invariant.in_order)

pub returns-clause-gives : goal.returns-clause-gives
returns-clause-gives g c =
    let probe = c.args.probe in
    let fs = c.self.inside.functions.items in
    let addresses = c.self.inside.addresses in
    let d = as_details g.R.Reader.section c.self.inside.details in
    subst (λ (t : FunctionTable). c.find.result ≡ function_place_at probe t) c.self.view_is
    (c.find.ensures.found ∙ place_is d fs addresses probe c.self.invariant.in_order)

pub returns-clause-within : goal.returns-clause-within
returns-clause-within g c =
    let fs = c.self.inside.functions.items in
    let addresses = c.self.inside.addresses in
    let d = as_details g.R.Reader.section c.self.inside.details in
    subst (λ (t : FunctionTable). IfSome c.find.result (λ n. n < length t.functions)) c.self.view_is (there d fs addresses c.args.probe c.find.result c.self.invariant.in_order c.find.ensures.found)
