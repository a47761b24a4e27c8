use Rattle.addr2line_lines.proofs.ReferenceLemmas.{no_reference}
use Rattle.addr2line_lines.proofs.references.referred.Goals as goal

pub returns-in_default : goal.returns-in_default
returns-in_default g c = record { gives = no_reference _ _ _ _ c.in_default.not-UnitRef c.in_default.not-DebugInfoRef c.in_default.not-DebugInfoRefSup }
