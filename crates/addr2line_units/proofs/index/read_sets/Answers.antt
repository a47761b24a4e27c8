use Rattle.addr2line_units.proofs.Common.{arange_sets_of, err_from_is_err_and}
use Rattle.addr2line_units.proofs.IndexArangeLemmas.{aranges_given, set_step, set_takes}
use Rattle.addr2line_units.proofs.UnitsMemoryLemmas.{put_to_nothing, rest_of_plain, rest_of_rest}
use Rattle.addr2line_units.proofs.UnitsIndexLemmas.{given_some}
use Rattle.addr2line_units.proofs.index.read_sets.Goals as goal

pub loop-aranges-init : goal.loop-aranges-init
loop-aranges-init g c =
    record { left = rw (c.headers-sets.ensures.gives, c.new-aranges.ensures.items) (rest_of_rest (put_to_nothing g.R.Reader.shares _) (rest_of_plain g.R.Reader.shares _ _ (aranges_given (arange_sets_of (g.R.Reader.section c.args.section.now.section))))) }

pub loop-aranges-preserved : goal.loop-aranges-preserved
loop-aranges-preserved g c =
    let left = given_some _ _ _ (rw c.in-Some.is at c.in_ok-set.ensures.gives) in
    record { left = rw c.in_ok-push_set.ensures.gives (rest_of_rest (set_step g.R.Reader.shares c.loop-aranges.aranges.items _ _ _ left) c.loop-aranges.invariant.left) }

pub returns-in_err-push_set : goal.returns-in_err-push_set
returns-in_err-push_set g c =
    let p = err_from_is_err_and c.from_residual-in_err-push_set.result c.from_residual-in_err-push_set.ensures.1 in
    let left = given_some _ _ _ (rw c.in-Some.is at c.in_ok-set.ensures.gives) in
    record { gives = rw (p.1, p.2) (λ may. absurd (may (c.loop-aranges.invariant.left.takes (set_takes g.R.Reader.shares c.loop-aranges.aranges.items _ _ _ left c.in_err-push_set.ensures.refused.1)) c.in_err-push_set.ensures.refused.0)) }
