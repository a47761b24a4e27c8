use Rattle.addr2line_lines.proofs.ItemsAround
use Rattle.addr2line_lines.proofs.laws.open_entries_are_around.Goals as goal

pub returns : goal.returns
returns c = record { law = record { around = ItemsAround.open_are_around; depths = ItemsAround.depths_are_numbers; inside = ItemsAround.inside_is_read } }
