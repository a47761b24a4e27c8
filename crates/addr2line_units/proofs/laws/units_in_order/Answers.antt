use Rattle.addr2line_units.proofs.SupScopeLemmas.{sup_units_in_order, units_in_order}
use Rattle.addr2line_units.proofs.laws.units_in_order.Goals as goal

pub returns : goal.returns
returns c = record { law = record { units = units_in_order; sup_units = sup_units_in_order } }
