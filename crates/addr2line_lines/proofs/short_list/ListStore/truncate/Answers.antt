use Rattle.addr2line_lines.proofs.Common.{map, take, ap, sym, ◌∙◌, take-map}
use Rattle.addr2line_lines.specs.ShortLists.{whole_elements}
use Rattle.addr2line_lines.proofs.short_list.ListStore.truncate.Goals as goal

pub returns-in-Short-clause-gives : goal.returns-in-Short-clause-gives
returns-in-Short-clause-gives g c =
    let whole = g.S.Stored.whole c.in-Short.field-0 in
    ap (map whole) c.truncate.ensures.items
    ∙ sym (take-map whole c.args.len c.in-Short.list.items)
    ∙ ap (take c.args.len) (ap (whole_elements g.S.Stored.whole) (sym c.in-Short.is))
