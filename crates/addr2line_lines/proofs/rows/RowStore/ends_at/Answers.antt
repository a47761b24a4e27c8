use Rattle.addr2line_lines.proofs.Common.{◌≡◌, ◌-◌, ◌<◌, List, length, true, drop, ap, sym, ◌∙◌, arith, get_or_read, last, Row}
use Rattle.addr2line_lines.specs.Building.{has_address}
use Rattle.addr2line_lines.specs.StoredRows.{fits, stores, whole_rows, width_of}
use Rattle.addr2line_lines.proofs.BuildLemmas.{ends_at_short, ends_at_is}
use Rattle.addr2line_lines.proofs.rows.RowStore.ends_at.Goals as goal

pub returns-then-len-first : goal.returns-then-len-first
returns-then-len-first c =
    let upper = c.in-Short.field-0 in
    let r : Row = c.args.row in
    let ok = c.in-Short.rows.ok.0 in let is = c.len-len.ensures in
    let len : c.len-len.result ≡ length c.in-Short.rows.items = omega arith in
    let there : fits upper r ≡ true = ap (λ s. stores (width_of s) r) (sym c.in-Short.is) ∙ c.requires.stores in
    record {
      gives = ends_at_short upper c.in-Short.rows.items c.args.first c.len-len.result c.index.result.now c.shortened.result r there c.shortened.ensures.gives len c.if-len-first.true c.index.ensures
          ∙ ap (λ s. has_address r.address (last (drop c.args.first (whole_rows s)))) (sym c.in-Short.is);
    }

pub returns-then-len-first-2 : goal.returns-then-len-first-2
returns-then-len-first-2 c =
    let rows : List Row = c.in-Whole.rows.items in
    let n = c.len-len-in-Whole.result in
    let none : Row = record { address = 0; file_index = 0; line = 0; column = 0 } in
    let ok = c.in-Whole.rows.ok.0 in let is = c.len-len-in-Whole.ensures in
    let len : n ≡ length rows = omega arith in
    let l : c.args.first < n = c.if-len-first-2.true in
    let last_row = get_or_read rows (n - 1) c.index-then-len-first-2.result.now (omega arith) c.index-then-len-first-2.ensures none in
    record {
      gives = ends_at_is rows c.args.first n c.index-then-len-first-2.result.now.address c.args.row.address len c.if-len-first-2.true (ap (λ (r : Row). r.address) last_row)
          ∙ ap (λ s. has_address c.args.row.address (last (drop c.args.first (whole_rows s)))) (sym c.in-Whole.is);
    }
