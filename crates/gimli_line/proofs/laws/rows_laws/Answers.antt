use Rattle.gimli_line.proofs.Rising.{rows_rise}
use Rattle.gimli_line.proofs.laws.rows_laws.Goals as goal

pub returns : goal.returns
returns c = record { law = rows_rise }
