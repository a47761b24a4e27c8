use Rattle.addr2line_units.proofs.LegacyProofs.{finds_names, finds_only_names, has_one_text}
use Rattle.addr2line_units.proofs.laws.legacy_name_laws.Goals as goal

pub returns : goal.returns
returns c = record { law = record { found = finds_names; only = finds_only_names; one = has_one_text } }
