use Rattle.addr2line_lines.proofs.Common.{sym, err_from_is_err_and, as_name_or_origin, as_scope}
use Rattle.addr2line_lines.proofs.NameLemmas.{linkage_taken}
use Rattle.addr2line_lines.proofs.name.NameOrOrigin.take.Goals as goal

pub returns-then-is_linkage_name : goal.returns-then-is_linkage_name
returns-then-is_linkage_name g c =
    let read = rw c.value-value.ensures.gives at c.readable.ensures.gives in
    let is = rw c.name-name.ensures.gives at c.if-is_linkage_name.ensures.gives in
    record { gives = linkage_taken _ _ (as_scope c.args.scope) c.args.unit.now (as_name_or_origin g.R.Reader.section c.args.self.now) c.args.attribute c.readable.result (sym is) read }

pub returns-in_err-string : goal.returns-in_err-string
returns-in_err-string g c =
    let p = err_from_is_err_and c.from_residual.result c.from_residual.ensures.1 in
    record { gives = rw (p.1, p.2) (λ ne. absurd (let q = c.in_err-string.ensures.gives ne in cc)) }
