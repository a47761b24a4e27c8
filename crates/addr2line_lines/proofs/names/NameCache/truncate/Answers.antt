use Rattle.addr2line_lines.proofs.Common.{map, sym, ap, ◌∙◌, take-map, as_cached_name}
use Rattle.addr2line_lines.proofs.names.NameCache.truncate.Goals as goal

pub returns : goal.returns
returns g c =
    let see = as_cached_name g.R.Reader.section in
    record { gives = ap (map see) c.truncate.ensures.items ∙ sym (take-map see c.args.names c.args.self.now.names.items) }
