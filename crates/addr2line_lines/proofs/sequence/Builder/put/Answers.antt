use Rattle.addr2line_lines.proofs.Common.{◌≡◌, true, List, [], ◌∷◌, ◌++◌, drop, ap, sym, ◌∙◌, on_err_weaker, on_ok_weaker, last, Row}
use Rattle.addr2line_lines.specs.Building.{Built, StoredBuilt, has_address, stored_rows, without_last}
use Rattle.addr2line_lines.specs.StoredRows.{stores, width_after}
use Rattle.addr2line_lines.proofs.BuildLemmas.{built_put, stored_rows_are}
use Rattle.addr2line_lines.proofs.sequence.Builder.put.Goals as goal

pub returns : goal.returns
returns c =
    let rows : List Row = c.self.inside.rows.rows in
    let first = c.self.inside.first in
    let a = c.args.row.address in
    let r : Row = c.args.row in
    record {
      gives = on_ok_weaker c.put.result (λ e.
          built_put rows _ first c.self.invariant _ r e
          ∙ ap (λ (b : Built). record { sequences = b.sequences; pending = without_last a b.pending ++ r ∷ [] }) (ap (λ (v : StoredBuilt). v.built) c.self.view_is)) c.put.ensures.gives;
      width = on_ok_weaker c.put.result (λ e. e ∙ (let w = c.self.inside.rows.width in ap (λ n. width_after n w r) (sym (stored_rows_are rows c.self.inside.sequences.items first c.self.invariant)) ∙ ap (λ (v : StoredBuilt). width_after (stored_rows v.built) v.width r) c.self.view_is)) c.put.ensures.width;
      memory = on_err_weaker c.put.result (λ m h.
          let ends : has_address a (last (drop first rows)) ≡ true = ap (λ (v : StoredBuilt). has_address a (last v.built.pending)) c.self.view_is ∙ h in
          sym (ap (λ (v : StoredBuilt). stores v.width r) c.self.view_is) ∙ (m ends).0) c.put.ensures.memory;
    }
