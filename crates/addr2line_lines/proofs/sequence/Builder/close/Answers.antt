use Rattle.addr2line_lines.proofs.Common.{ap, ◌∙◌}
use Rattle.addr2line_lines.specs.Building.{Built, StoredBuilt, built, built_ended}
use Rattle.addr2line_lines.proofs.BuildLemmas.{built_dropped, closes_is, ended_none}
use Rattle.addr2line_lines.proofs.sequence.Builder.close.Goals as goal

pub returns-in-None : goal.returns-in-None
returns-in-None c =
    let b : Built = built c.self.inside.rows.rows c.self.inside.sequences.items c.self.inside.first in
    record { gives = built_dropped _ _ _ c.self.invariant _ c.truncate.ensures.gives ∙ ended_none b c.args.end c.in-None.ensures.gives ∙ ap (λ (x : Built). built_ended x c.args.end) (ap (λ (v : StoredBuilt). v.built) c.self.view_is); width = c.truncate.ensures.width ∙ ap (λ (v : StoredBuilt). v.width) c.self.view_is }

pub invariant_of-self-in-Some : goal.invariant_of-self-in-Some
invariant_of-self-in-Some c =
    closes_is _ _ _ c.self.invariant c.in-Some.sequence c.in-Some.ensures.found c.in-Some.ensures.whole _ c.in_ok-push-in-Some.ensures.items _ c.len-self-inside.ensures.gives
