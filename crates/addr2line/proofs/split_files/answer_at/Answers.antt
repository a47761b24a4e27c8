use Rattle.addr2line.proofs.Common.{Ok, Some, option_map, LoadsUnlessOom, as_read, split_at_path}
use Rattle.addr2line.proofs.Facts.{if_seen}
use Rattle.addr2line.proofs.split_files.answer_at.Goals as goal

pub returns-in-Some-Wanted-clause-gives : goal.returns-in-Some-Wanted-clause-gives
returns-in-Some-Wanted-clause-gives g c =
    let file = c.in-Some-Wanted.file in
    record {
      gives = if_seen (as_read c.args.compressed) (λ held. LoadsUnlessOom (option_map (λ d. d.value)) (Ok (Some file.sections)) (Ok (split_at_path held c.args.load.now c.args.path.now))) (g.F.FileSource.files c.args.files.now)
          (rw (c.in-Some-Wanted.is, c.in-Some-Wanted.field-0-is) at c.in_ok-file.ensures.gives);
      made = (file.object, rw (c.in-Some-Wanted.is, c.in-Some-Wanted.field-0-is) at c.in_ok-file.ensures.made);
      refused = tt;
    }
