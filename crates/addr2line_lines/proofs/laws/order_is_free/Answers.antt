use Rattle.addr2line_lines.proofs.Common.{start_of, end_of}
use Rattle.addr2line_lines.proofs.OrderPick.{pick_in_order}
use Rattle.addr2line_lines.proofs.laws.order_is_free.Goals as goal

pub returns : goal.returns
returns c = record { law = pick_in_order start_of end_of }
