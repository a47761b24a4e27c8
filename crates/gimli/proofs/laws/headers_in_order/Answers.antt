use Rattle.gimli.proofs.HeaderOrder.{headers_in_order}
use Rattle.gimli.proofs.laws.headers_in_order.Goals as goal

pub returns : goal.returns
returns c = record { law = headers_in_order }
