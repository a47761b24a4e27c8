use Rattle.addr2line_lines.proofs.Common.{◌==◌, ap, sym, ◌∙◌, count_by, Kind}
use Rattle.addr2line_lines.specs.OpenEntries.{is_listed, is_subprogram_kind}
use Rattle.addr2line_lines.proofs.nesting.Nesting.lists.Goals as goal
use Rattle.addr2line_lines.proofs.Facts.{count_reverse}

pub returns-in-Inlined : goal.returns-in-Inlined
returns-in-Inlined c =
    let count = c.self.invariant.subprograms_is ∙ sym (count_reverse is_subprogram_kind c.self.inside.kinds.items) ∙ ap (count_by is_subprogram_kind) c.self.view_is in
    record { gives = ap (λ n. n == 0) count ∙ sym (ap (λ (k : Kind). is_listed k c.args.self.now) c.in-Inlined.is) }
