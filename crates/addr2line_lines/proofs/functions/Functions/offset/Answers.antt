use Rattle.addr2line_lines.proofs.Common.{Some, ap, option_map, subst, ◌∙◌, as_details, as_function, CachedFunction, cached_offset_at}
use Rattle.std.specs.Slice.{IsItemAt}
use Rattle.addr2line_lines.proofs.functions.Functions.offset.Goals as goal
use Rattle.addr2line_lines.proofs.Facts.{lent_is}

pub returns : goal.returns
returns g c =
    let functions = c.self.inside.functions.items in
    let n = c.args.place in
    let lent = Some c.in_ok-function.function in
    let seen = lent_is (as_function (as_details g.R.Reader.section c.self.inside.details)) functions n lent (subst (λ xs. IsItemAt xs n lent) c.deref.ensures.value c.in_ok-function.ensures.lookup) in
    record { gives = ap (option_map (λ (f : CachedFunction). f.offset)) seen ∙ ap (λ t. cached_offset_at t n) c.self.view_is }
