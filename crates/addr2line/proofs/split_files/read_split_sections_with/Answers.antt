use Rattle.addr2line.proofs.Common.{◌∙◌, ap, subst, sym, option_map, LoadsUnlessOom, ◌>>=◌, split_by, split_of}
use Rattle.addr2line.specs.FileSections.{split_section}
use Rattle.addr2line.proofs.SplitFileLemmas.{split_of_parsed}
use Rattle.addr2line.proofs.split_files.read_split_sections_with.Goals as goal

pub returns : goal.returns
returns c =
    record {
      gives = subst (λ given. LoadsUnlessOom (option_map (λ d. d.value)) c.wanted.result given)
          (sym (split_of_parsed c.args.compressed c.args.load.now c.args.bytes _ c.in_ok-object.ensures.gives))
          (c.wanted.ensures.gives (λ d. d.value) _ c.read_split_object.ensures.gives);
    }
