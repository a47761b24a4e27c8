use Rattle.addr2line_units.proofs.UnitViewLemmas.{decided_alone, verdict_of_open, view_scope_in_order}
use Rattle.addr2line_units.proofs.laws.view_laws.Goals as goal

pub returns : goal.returns
returns c = record {
  law = record {
    alone = decided_alone;
    answered = verdict_of_open;
    in_order = view_scope_in_order;
  };
}
