use Rattle.addr2line_lines.proofs.Common.{option_map, option_and_then, ap, sym, ◌∙◌, cached_name, name_of_detail, read_at, as_details}
use Rattle.addr2line_lines.proofs.CachedPlaces.{none_read, place_cached, read_is}
use Rattle.addr2line_lines.proofs.functions.Functions.name.Goals as goal

pub returns-in_err-read_detail_of : goal.returns-in_err-read_detail_of
returns-in_err-read_detail_of g c =
    let fs = c.self.inside.functions.items in
    let d = as_details g.R.Reader.section c.self.inside.details in
    let at = ap (λ fs. read_at fs c.args.place) (sym c.deref.ensures.value) ∙ sym c.in_err-read_detail_of.ensures.gives in
    let none = ap (λ t. cached_name t c.args.place) (sym c.self.view_is) ∙ (none_read d fs c.args.place at).0 in
    record { gives = ap (option_map (λ r. g.R.Reader.section r.now)) c.from_residual.ensures ∙ sym none }

pub name-requires : goal.name-requires
name-requires g c =
    let fs = c.self.inside.functions.items in
    let d = as_details g.R.Reader.section c.self.inside.details in
    let at = ap (λ fs. read_at fs c.args.place) (sym c.deref.ensures.value) ∙ sym c.in_ok-read_detail_of.ensures.gives in
    record { place = place_cached d fs c.args.place c.in_ok-read_detail_of.field-0.now c.self.invariant.runs.places at }

pub returns : goal.returns
returns g c =
    let fs = c.self.inside.functions.items in
    let d = as_details g.R.Reader.section c.self.inside.details in
    let at = ap (λ fs. read_at fs c.args.place) (sym c.deref.ensures.value) ∙ sym c.in_ok-read_detail_of.ensures.gives in
    record { gives = c.name.ensures.gives ∙ sym (ap (option_and_then name_of_detail) (read_is d fs c.args.place c.in_ok-read_detail_of.field-0.now at)) ∙ ap (λ t. cached_name t c.args.place) c.self.view_is }
