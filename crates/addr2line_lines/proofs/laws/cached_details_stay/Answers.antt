use Rattle.addr2line_lines.proofs.ReadLemmas.{read_right, unread_right}
use Rattle.addr2line_lines.proofs.laws.cached_details_stay.Goals as goal

pub returns : goal.returns
returns c = record { law = record { unread = unread_right; read = read_right } }
