use Rattle.addr2line.proofs.Common.{sym, ◌∙◌}
use Rattle.addr2line.proofs.KeptFileLemmas.{found_with, same_stamp}
use Rattle.addr2line.proofs.kept_files.KeptFiles.find.Goals as goal

pub returns-then-eq : goal.returns-then-eq
returns-then-eq c =
    let same = same_stamp c.in_ok-kept.kept.now.stamp c.args.stamp (sym c.eq.ensures ∙ c.if-eq.true) in
    record { gives = found_with _ c.in_ok-kept.kept.now c.args.stamp c.in_ok-kept.ensures.value same }
