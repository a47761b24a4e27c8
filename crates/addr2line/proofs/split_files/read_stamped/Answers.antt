use Rattle.addr2line.proofs.Common.{Ok, sym, subst, option_map, is_ok, Sections, Option}
use Rattle.addr2line.specs.KeptFiles.{HasAnswered}
use Rattle.addr2line.specs.SplitFiles.{found_as}
use Rattle.addr2line.proofs.KeptFileLemmas.{keeps_found, kept_answer, made_of_kept}
use Rattle.addr2line.proofs.split_files.read_stamped.Goals as goal

pub returns-clause-made : goal.returns-clause-made
returns-clause-made g c =
    made_of_kept (λ d. d.value) c.args.compressed c.args.load.now c.in-Some.found c.as_kept-found.result.1 c.as_kept-found.ensures.sections (rw c.in-Some.is at c.in_ok-found.ensures.made)

pub returns-clause-after : goal.returns-clause-after
returns-clause-after g c =
    let found = c.in-Some.found in
    let so = subst (λ f. HasAnswered c.args.compressed c.args.load.now (Ok (option_map (λ d. d.value) c.as_kept-found.result.1)) f) (sym c.as_kept-found.ensures.gives)
    (subst (λ (o : Option Sections). HasAnswered c.args.compressed c.args.load.now (Ok o) (found_as (λ f. f.object) found)) (sym c.as_kept-found.ensures.sections)
    (kept_answer c.args.compressed c.args.load.now found (rw c.in-Some.is at c.in_ok-found.ensures.made) (rw c.in-Some.is at c.in_ok-found.ensures.other))) in
    keeps_found c.args.compressed c.args.load.now c.args.path.now c.args.stamp _ c.args.kept.now c.remove.new.self c.remove.ensures.after c.as_kept-found.result.0 so c.put.new.self (is_ok c.put.result) c.put.ensures.after
