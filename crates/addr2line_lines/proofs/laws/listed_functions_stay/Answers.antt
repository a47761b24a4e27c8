use Rattle.addr2line_lines.proofs.ListedFunctions.{more_listed, read_listed}
use Rattle.addr2line_lines.proofs.laws.listed_functions_stay.Goals as goal

pub returns : goal.returns
returns c = record { law = record { read = read_listed; more = more_listed } }
